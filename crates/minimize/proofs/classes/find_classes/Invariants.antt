use Rattle.std.proofs.Common.{◌-◌, slice_index}
use Rattle.minimize.specs.Rows.{rows_table}
use Rattle.minimize.specs.Slices.{laid_rows}
use Rattle.minimize.proofs.Classing.{Labelled}
use Rattle.minimize.proofs.classes.find_classes.Given as goal

abbrev pub invariant-loop-known : goal.invariant-loop-known
invariant-loop-known g l =
    let K = g.W.Weight.kind in
    Labelled K.group (rows_table K (laid_rows l.rows)) (slice_index l.distances) (slice_index l.labels) l.known

abbrev pub decreases-loop-known : goal.decreases-loop-known
decreases-loop-known g l = l.rows.count - l.known
