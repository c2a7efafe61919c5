use Rattle.minimize.specs.Rows.{rows_table}
use Rattle.minimize.specs.Slices.{laid_rows}
use Rattle.minimize.specs.Steps.{has_mark}
use Rattle.minimize.specs.Peeling.{ArcBelow, Added}
use Rattle.minimize.proofs.kernel.hold_row.Given as goal

abbrev pub invariant-loop-letter : goal.invariant-loop-letter
invariant-loop-letter g l =
    Added (ArcBelow (rows_table g.W.Weight.kind (laid_rows l.rows)) l.letter l.state) (has_mark l.initial.held) (has_mark l.held)
