use Rattle.minimize.specs.Rows.{rows_table}
use Rattle.minimize.specs.Slices.{laid_rows}
use Rattle.minimize.specs.Steps.{has_mark}
use Rattle.minimize.specs.Peeling.{Back, Holding}
use Rattle.minimize.proofs.kernel.hold_sources.Given as goal

abbrev pub invariant-loop-state : goal.invariant-loop-state
invariant-loop-state g l = Holding l.rows.count l.state (Back (rows_table g.W.Weight.kind (laid_rows l.rows))) (has_mark l.marks) (has_mark l.held)
