use Rattle.minimize.specs.Rows.{rows_table}
use Rattle.minimize.specs.Slices.{laid_rows}
use Rattle.minimize.specs.Classing.{target_label}
use Rattle.minimize.proofs.Filling.{filled_row_more}
use Rattle.minimize.proofs.classes.fill_rows.Goals as goal

pub loop-state-preserved : goal.loop-state-preserved
loop-state-preserved g c =
    let K = g.W.Weight.kind in
    let rows = c.args.rows.now in
    let t = rows_table K (laid_rows rows) in
    filled_row_more K rows.letters (target_label t c.args.labels.now) t.weight c.loop-state.state c.loop-state.row_labels
    c.fill_row.new.row_labels c.loop-state.row_elements c.fill_row.new.row_elements c.loop-state.invariant c.fill_row.ensures
