use Rattle.std.proofs.Common.{slice_index}
use Rattle.tables.specs.Sheet.{mean_at}
use Rattle.minimize.specs.Rows.{rows_table}
use Rattle.minimize.specs.Slices.{laid_rows}
use Rattle.minimize.specs.Pushing.{Rounded}
use Rattle.minimize.proofs.push.find_pushes.Given as goal

abbrev pub invariant-loop-distance : goal.invariant-loop-distance
invariant-loop-distance g l =
    let K = g.W.Weight.kind in
    Rounded K.group (rows_table K (laid_rows l.rows)) l.distance (slice_index l.distances) (mean_at K l.pushes)
