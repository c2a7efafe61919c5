use Rattle.minimize.specs.Rows.{rows_table}
use Rattle.minimize.specs.Slices.{laid_rows}
use Rattle.minimize.specs.Steps.{has_mark}
use Rattle.minimize.specs.Peeling.{Arc, Holding}
use Rattle.minimize.proofs.kernel.hold_targets.Given as goal

abbrev pub invariant-loop-state : goal.invariant-loop-state
invariant-loop-state g l = Holding l.state l.rows.count (Arc (rows_table g.W.Weight.kind (laid_rows l.rows))) (has_mark l.marks) (has_mark l.held)
