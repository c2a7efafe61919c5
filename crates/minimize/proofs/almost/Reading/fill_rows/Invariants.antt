use Rattle.std.proofs.Common.{◌≡◌, ℕ, ◌<◌}
use Rattle.tables.specs.Sheet.{mean_at}
use Rattle.minimize.specs.Almost.{read_label, read_element, read_base}
use Rattle.minimize.specs.Filling.{Filled}
use Rattle.minimize.proofs.almost.Reading.fill_rows.Given as goal

abbrev pub invariant-loop-state : goal.invariant-loop-state
invariant-loop-state g l =
    let K = g.W.Weight.kind in
    record {
      rows : Filled K l.self.rows.letters (read_label K l.self) (read_element K l.self) l.state l.row_labels l.row_elements;
      bases : (q : ℕ) → q < l.state → mean_at K l.bases q ≡ read_base K l.self q l.self.rows.letters;
    }
