use Rattle.std.proofs.Common.{arith}
use Rattle.minimize.specs.Rows.{rows_table}
use Rattle.minimize.specs.Slices.{laid_rows}
use Rattle.minimize.proofs.Pushing.{begun_more}
use Rattle.minimize.proofs.push.begin.Goals as goal

pub loop-state-preserved : goal.loop-state-preserved
loop-state-preserved g c =
    let K = g.W.Weight.kind in
    begun_more K (rows_table K (laid_rows c.args.rows)) c.loop-state.state c.from.result c.from-in-loop-state.result
    c.loop-state.distances c.loop-state.pushes c.first_distance.result c.one.result (omega arith) (omega arith) c.loop-state.invariant
    c.from.ensures c.from-in-loop-state.ensures c.first_distance.ensures c.one.ensures
