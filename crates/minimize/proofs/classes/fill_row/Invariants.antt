use Rattle.minimize.specs.Rows.{rows_table}
use Rattle.minimize.specs.Slices.{laid_rows}
use Rattle.minimize.specs.Classing.{target_label}
use Rattle.minimize.specs.Filling.{FilledRow}
use Rattle.minimize.proofs.classes.fill_row.Given as goal

abbrev pub invariant-loop-letter : goal.invariant-loop-letter
invariant-loop-letter g l =
    let K = g.W.Weight.kind in
    let t = rows_table K (laid_rows l.rows) in
    FilledRow K l.rows.letters (target_label t l.labels) t.weight l.state l.letter l.initial.row_labels l.initial.row_elements l.row_labels l.row_elements
