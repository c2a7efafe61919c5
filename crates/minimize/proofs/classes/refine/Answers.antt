use Rattle.std.proofs.Common.{◌++◌, drop, slice_index, arith}
use Rattle.minimize.specs.Rows.{rows_table}
use Rattle.minimize.specs.Slices.{laid_rows}
use Rattle.minimize.proofs.Classing.{copied_below, grouped_refined}
use Rattle.minimize.proofs.classes.refine.Goals as goal

pub returns : goal.returns
returns g c =
    let K = g.W.Weight.kind in
    let n = c.from-count.result in
    let labels = c.args.labels.now in
    grouped_refined K (rows_table K (laid_rows c.args.rows.now)) (slice_index labels)
    (c.copy_from_slice.new.self ++ drop n c.args.keys.now) c.fill_rows.new.row_labels c.group.new.firsts
    c.fill_rows.new.row_elements c.group.result c.requires.laid.closed
    (λ q l. copied_below c.copy_from_slice.new.self labels c.args.keys.now n q c.copy_from_slice.ensures.after (omega arith) (omega arith))
    c.fill_rows.ensures c.group.ensures.grouped
