use Rattle.std.proofs.Common.{slice_index}
use Rattle.tables.specs.Sheet.{mean_at}
use Rattle.minimize.specs.Rows.{rows_table}
use Rattle.minimize.specs.Slices.{laid_rows}
use Rattle.minimize.specs.Pushing.{Rounding, Fresh}
use Rattle.minimize.proofs.push.round.Given as goal

abbrev pub invariant-loop-state : goal.invariant-loop-state
invariant-loop-state g l =
    let K = g.W.Weight.kind in
    Rounding K.group (rows_table K (laid_rows l.rows)) l.distance l.state (slice_index l.distances) (mean_at K l.pushes)
    × Fresh l.met l.distance l.rows.count (slice_index l.distances)
