use Rattle.std.proofs.Common.{ap, ◌∙◌, rules}
use Rattle.tables.specs.Book.{answers_by, left_by_all}
use Rattle.tables.specs.Made.{calls_of, all_there}
use Rattle.tables.specs.Held.{written}
use Rattle.minimize.proofs.DrawnBook.{drawn_as}
use Rattle.minimize.proofs.whole.draw_in.Goals as goal

pub returns : goal.returns
returns g c =
    let ts = c.args.targets.now in
    let ws = c.args.weights.now in
    let ms = c.args.marks.now in
    let before = c.args.made.now in
    let made = c.make_all in
    let drawn =
    drawn_as ts ws ms before g.W.Weight.kind made.new.made (written made.new.book) made.ensures.calls
    (made.ensures.answers ∙ ap (λ b. all_there (answers_by b (calls_of before))) c.open-book.ensures.holds)
    (made.ensures.contents ∙ ap (λ b. left_by_all b (calls_of before)) c.open-book.ensures.holds)
    in search (rules, drawn)
