use Rattle.std.proofs.Common.{◌≡◌, ◌+◌, ◌*◌, ◌<◌, length, arith, rules}
use borrow.Author.Rules.{scaled_Fits}
use Rattle.std.proofs.lemmas.Nat.{row_fits}
use Rattle.minimize.specs.Almost.{read_label, read_element}
use Rattle.minimize.proofs.Filling.{filled_more}
use Rattle.minimize.proofs.almost.Reading.fill_row.Goals as goal

pub offset_bounds-row_elements-at : goal.offset_bounds-row_elements-at
offset_bounds-row_elements-at g c =
    let rows = c.args.self.now.rows in
    let s = rows.letters in
    let at : c.from.result * c.from-2.result + c.from-in-loop-letter.result ≡ c.args.state * s + c.loop-letter.letter = cc in
    let inside : c.from.result * c.from-2.result + c.from-in-loop-letter.result < length c.loop-letter.row_elements =
    omega (arith, row_fits c.args.state s rows.count s c.requires.inside (omega arith)) in
    scaled_Fits _ (length c.loop-letter.row_elements) _ inside (search rules)

pub bounds-row_elements-at : goal.bounds-row_elements-at
bounds-row_elements-at g c =
    let rows = c.args.self.now.rows in
    let s = rows.letters in
    let at : c.from.result * c.from-2.result + c.from-in-loop-letter.result ≡ c.args.state * s + c.loop-letter.letter = cc in
    omega (arith, row_fits c.args.state s rows.count s c.requires.inside (omega arith))

pub loop-letter-preserved : goal.loop-letter-preserved
loop-letter-preserved g c =
    let K = g.W.Weight.kind in
    let r = c.args.self.now in
    let s = r.rows.letters in
    let i = c.from.result * c.from-2.result + c.from-in-loop-letter.result in
    let at : c.from.result * c.from-2.result + c.from-in-loop-letter.result ≡ c.args.state * s + c.loop-letter.letter = cc in
    let fits = row_fits c.args.state s r.rows.count s c.requires.inside (omega arith) in
    filled_more K s (read_label K r) (read_element K r) c.args.state c.loop-letter.letter i c.row_label.result c.row_element.result
    c.args.row_labels.now c.loop-letter.row_labels c.args.row_elements.now c.loop-letter.row_elements at (omega arith) (omega arith)
    c.row_label.ensures c.row_element.ensures c.loop-letter.invariant
