use Rattle.std.proofs.Common.{◌≡◌, ap, ◌∙◌, subst, []}
use Rattle.tables.specs.Book.{laid, left_by}
use Rattle.tables.specs.declared.call.Call.TheVariants.{Rule}
use Rattle.tables.specs.Held.{held}
use Rattle.tables.specs.Sheet.{sheet_table}
use Rattle.minimize.specs.Memories.{memories}
use Rattle.minimize.specs.Compile.{Outcome}
use Rattle.minimize.proofs.DrawnBook.{shut, ruled, same_off}
use Rattle.minimize.proofs.whole.compile_drawn.Goals as goal

pub returns-in-Err : goal.returns-in-Err
returns-in-Err g c =
    let K = g.W.Weight.kind in
    let a = c.args in
    let size = a.size in
    let drawn = laid a.book_targets.now a.book_weights.now a.book_marks.now size.letters size.states in
    let none : size.states ≡ 0 =
    shut drawn c.new.result _ c.new.ensures c.in-Err.is c.requires.letters c.requires.states c.requires.places in
    let blank = c.close.ensures ∙ c.rule.ensures.after ∙ ap (λ b. left_by b (Rule size.letters)) c.open-book.ensures.holds ∙ ruled [] [] [] size.letters c.requires.letters in
    let table : sheet_table K (held c.close.result) ≡ sheet_table K drawn =
    same_off K (held c.close.result) drawn (ap (λ b. b.count) blank) none (ap (λ b. b.letters) blank) in
    let n = c.compile_slices-in-Err.new in
    subst (λ t.
    Outcome K t
    (memories a.targets.now a.weights.now a.marks.now a.hyper_targets.now a.hyper_weights.now a.hyper_marks.now a.representatives.now a.factors.now a.numbers.now a.elements.now)
    (memories n.targets n.weights n.marks n.hyper_targets n.hyper_weights n.hyper_marks n.representatives n.factors n.numbers n.elements)
    c.compile_slices-in-Err.result)
    table c.compile_slices-in-Err.ensures.outcome
