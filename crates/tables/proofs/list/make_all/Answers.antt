use Rattle.std.proofs.Common.{◌<◌, length, Some, refl, ap, ◌∙◌, arith}
use Rattle.tables.specs.Held.{written}
use Rattle.tables.proofs.Lists.{made_more}
use Rattle.tables.proofs.list.make_all.Goals as goal

pub loop-one-preserved : goal.loop-one-preserved
loop-one-preserved g c =
    let made = c.make.ensures in
    let lent = c.loop-one.invariant.1 in
    let inside : c.loop-one.one-index < length c.loop-one.made = omega arith in (
      made_more (written c.args.book.now) c.args.made.now c.loop-one.one-index (written c.loop-one.book) c.loop-one.made c.one-item.result _
          (written c.make.new.book) c.loop-one.invariant.0 inside refl
          (ap Some made.answer) made.after,
      record {
        targets = made.lent.targets ∙ lent.targets;
        weights = made.lent.weights ∙ lent.weights;
        marks = made.lent.marks ∙ lent.marks;
      },
    )
