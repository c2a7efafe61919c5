use Rattle.std.proofs.Common.{ap, ◌∙◌}
use Rattle.tables.specs.Book.{answers_by, left_by_all}
use Rattle.tables.specs.Made.{calls_of, all_there}
use Rattle.tables.specs.Sheet.{sheet_table}
use Rattle.tables.proofs.Drawing.{drawn_answers, drawn_table}
use Rattle.tables.proofs.list.draw.Goals as goal

pub returns : goal.returns
returns g c =
    let ts = c.args.targets.now in
    let ws = c.args.weights.now in
    let ms = c.args.marks.now in
    let ks = calls_of c.args.made.now in
    let contents = c.close.ensures ∙ c.make_all.ensures.contents ∙ ap (λ b. left_by_all b ks) c.open-book.ensures.holds in
    record {
      calls = c.make_all.ensures.calls;
      answers =
          c.make_all.ensures.answers
          ∙ ap (λ b. all_there (answers_by b ks)) c.open-book.ensures.holds
          ∙ ap all_there (drawn_answers ts ws ms ks);
      contents = contents;
      table = ap (sheet_table g.W.Weight.kind) contents ∙ drawn_table ts ws ms ks g.W.Weight.kind;
    }
