use Rattle.minimize.specs.Rows.{rows_table}
use Rattle.minimize.specs.Slices.{laid_rows}
use Rattle.minimize.specs.Classing.{target_label}
use Rattle.minimize.specs.Filling.{Filled}
use Rattle.minimize.proofs.classes.fill_rows.Given as goal

abbrev pub invariant-loop-state : goal.invariant-loop-state
invariant-loop-state g l =
    let K = g.W.Weight.kind in
    let t = rows_table K (laid_rows l.rows) in
    Filled K l.rows.letters (target_label t l.labels) t.weight l.state l.row_labels l.row_elements
