use Rattle.minimize.specs.Almost.{read_label, read_element}
use Rattle.minimize.specs.Filling.{FilledRow}
use Rattle.minimize.proofs.almost.Reading.fill_row.Given as goal

abbrev pub invariant-loop-letter : goal.invariant-loop-letter
invariant-loop-letter g l =
    let K = g.W.Weight.kind in
    FilledRow K l.self.rows.letters (read_label K l.self) (read_element K l.self) l.state l.letter l.initial.row_labels
    l.initial.row_elements l.row_labels l.row_elements
