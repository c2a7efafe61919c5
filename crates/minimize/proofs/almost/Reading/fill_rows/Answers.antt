use Rattle.std.proofs.Common.{arith}
use Rattle.minimize.specs.Almost.{read_label, read_element, read_base}
use Rattle.minimize.proofs.Filling.{filled_row_more}
use Rattle.minimize.proofs.Choosing.{means_more}
use Rattle.minimize.proofs.almost.Reading.fill_rows.Goals as goal

pub loop-state-preserved : goal.loop-state-preserved
loop-state-preserved g c =
    let K = g.W.Weight.kind in
    let r = c.args.self.now in
    let s = r.rows.letters in
    let q = c.loop-state.state in
    record {
      rows =
          filled_row_more K s (read_label K r) (read_element K r) q c.loop-state.row_labels c.fill_row.new.row_labels
          c.loop-state.row_elements c.fill_row.new.row_elements c.loop-state.invariant.rows c.fill_row.ensures;
      bases =
          means_more K (λ p. read_base K r p s) c.loop-state.bases q c.from.result c.base-base.result c.from.ensures c.base-base.ensures
          (omega arith) c.loop-state.invariant.bases;
    }
