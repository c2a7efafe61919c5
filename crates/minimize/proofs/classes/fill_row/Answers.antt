use Rattle.std.proofs.Common.{◌≡◌, ◌+◌, ◌*◌, ◌<◌, length, slice_index, ap, arith, rules}
use borrow.Author.Rules.{scaled_Fits}
use Rattle.std.proofs.lemmas.Nat.{row_fits}
use Rattle.minimize.specs.Rows.{rows_table}
use Rattle.minimize.specs.Slices.{laid_rows}
use Rattle.minimize.specs.Classing.{target_label}
use Rattle.minimize.proofs.Filling.{filled_more}
use Rattle.minimize.proofs.classes.fill_row.Goals as goal

pub offset_bounds-row_elements-at : goal.offset_bounds-row_elements-at
offset_bounds-row_elements-at g c =
    let s = c.args.rows.now.letters in
    let at : c.from.result * c.from-2.result + c.from-in-loop-letter.result ≡ c.args.state * s + c.loop-letter.letter = cc in
    let inside : c.from.result * c.from-2.result + c.from-in-loop-letter.result < length c.loop-letter.row_elements =
    omega (arith, row_fits c.args.state s c.args.rows.now.count s c.requires.inside (omega arith)) in
    scaled_Fits _ (length c.loop-letter.row_elements) _ inside (search rules)

pub loop-letter-preserved : goal.loop-letter-preserved
loop-letter-preserved g c =
    let K = g.W.Weight.kind in
    let rows = c.args.rows.now in
    let s = rows.letters in
    let i = c.from.result * c.from-2.result + c.from-in-loop-letter.result in
    let at : c.from.result * c.from-2.result + c.from-in-loop-letter.result ≡ c.args.state * s + c.loop-letter.letter = cc in
    let t = rows_table K (laid_rows rows) in
    let target : c.from-in-loop-letter-2.result ≡ t.target c.args.state c.loop-letter.letter =
    rw c.from-in-loop-letter-2.ensures c.target.ensures.value in
    let fits = row_fits c.args.state s rows.count s c.requires.inside (omega arith) in
    filled_more K s (target_label t c.args.labels.now) t.weight c.args.state c.loop-letter.letter i
    (slice_index c.args.labels.now c.from-in-loop-letter-2.result) c.weight.result c.args.row_labels.now c.loop-letter.row_labels
    c.args.row_elements.now c.loop-letter.row_elements at (omega arith) (omega arith)
    (ap (slice_index c.args.labels.now) target) c.weight.ensures c.loop-letter.invariant
