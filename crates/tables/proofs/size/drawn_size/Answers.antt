use Rattle.tables.specs.Sketch.{blank}
use Rattle.tables.proofs.Drawing.{size_more}
use Rattle.tables.proofs.size.drawn_size.Goals as goal

pub loop-one-preserved : goal.loop-one-preserved
loop-one-preserved g c =
    size_more _ blank c.args.made.now c.loop-one.one-index c.one-item.result c.loop-one.size c.size_after-size.result
    c.loop-one-test.true c.one-item.is c.loop-one.invariant c.size_after-size.ensures
