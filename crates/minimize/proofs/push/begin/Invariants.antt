use Rattle.std.proofs.Common.{ℕ, ◌<◌, slice_index}
use Rattle.tables.specs.Sheet.{mean_at}
use Rattle.minimize.specs.Rows.{rows_table}
use Rattle.minimize.specs.Slices.{laid_rows}
use Rattle.minimize.specs.Pushing.{Known}
use Rattle.minimize.proofs.push.begin.Given as goal

abbrev pub invariant-loop-state : goal.invariant-loop-state
invariant-loop-state g l =
    let K = g.W.Weight.kind in
    (q : ℕ) →
    q < l.state → Known K.group (rows_table K (laid_rows l.rows)) 1 q (slice_index l.distances q) (mean_at K l.pushes q)
