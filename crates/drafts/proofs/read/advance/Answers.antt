use Rattle.std.proofs.Common.{◌≡◌, ◌≤◌, eqb, length, ◌+◌, Ok, Some, sym, ap, ◌∙◌, rules}
use Rattle.std.proofs.lemmas.Result.{err_from_is_err_and}
use Rattle.weights.specs.Refusal.{judged, told}
use Rattle.tables.specs.Book.{taken, refusal_in}
use Rattle.tables.specs.Call.{if_taken}
use Rattle.tables.specs.Held.{written}
use Rattle.drafts.specs.Advancing.{reading_from}
use Rattle.drafts.specs.Fault.{unmade}
use Rattle.drafts.specs.declared.fault.Layer.TheVariants.{Book}
use Rattle.drafts.proofs.Faults.{faulted-map_err, made_call, unmade_call}
use Rattle.drafts.proofs.Listing.{field_read, within_file, read_on, read_refused}
use Rattle.drafts.proofs.read.advance.Goals as goal

pub returns-in_err-map_err-clause-read : goal.returns-in_err-map_err-clause-read
returns-in_err-map_err-clause-read g c =
    let k = g.W.Coded.codes in
    let bs = c.args.bytes.now in
    let o = c.args.offset in
    let book = written c.args.book.now in
    let f = c.in_ok-field.field in
    let v = refusal_in book f.call in
    let e = c.in_err-map_err.field-0.0 in
    let p = err_from_is_err_and c.from_residual-in_err-map_err.result c.from_residual-in_err-map_err.ensures.1 in
    let field = field_read k bs o c.read_field.result (Ok f) c.read_field.ensures c.in_ok-field.was in
    let answer =
    faulted-map_err Book o c.make.result c.map_err.result (judged v tt) _ c.make.ensures.answer c.map_err.ensures.cases (λ e f h. search rules) in
    let met = unmade_call v o c.map_err.result e answer c.in_err-map_err.was in
    let after : written c.make.new.book ≡ book = c.make.ensures.after ∙ ap (λ v. if_taken v (taken book f.call) book) met.0 in
    rw (p.1, p.2)
    (read_refused k bs o c.requires book f (told e.refusal) field met.0
    ∙ ap (λ b. record { after = b; fault = Some (unmade o (told e.refusal)) }) (sym after)
    ∙ ap (λ b. record { after = written c.make.new.book; fault = Some b }) met.1)

pub returns-clause-read : goal.returns-clause-read
returns-clause-read g c =
    let k = g.W.Coded.codes in
    let bs = c.args.bytes.now in
    let o = c.args.offset in
    let book = written c.args.book.now in
    let f = c.in_ok-field.field in
    let v = refusal_in book f.call in
    let field = field_read k bs o c.read_field.result (Ok f) c.read_field.ensures c.in_ok-field.was in
    let answer =
    faulted-map_err Book o c.make.result c.map_err.result (judged v tt) _ c.make.ensures.answer c.map_err.ensures.cases (λ e f h. search rules) in
    let met = made_call v o c.map_err.result tt answer c.in_ok-map_err.was in
    let read = read_on k bs o c.requires book f field met in
    let after : written c.make.new.book ≡ taken book f.call =
    c.make.ensures.after ∙ ap (λ v. if_taken v (taken book f.call) book) met in
    (read.0, read.1, read.2 ∙ ap (reading_from k bs (o + f.length)) (sym after))

pub overflow_add-result : goal.overflow_add-result
overflow_add-result g c =
    let k = g.W.Coded.codes in
    let bs = c.args.bytes.now in
    let o = c.args.offset in
    let f = c.in_ok-field.field in
    let field = field_read k bs o c.read_field.result (Ok f) c.read_field.ensures c.in_ok-field.was in
    let inside : o + f.length ≤ length bs = (within_file k bs o c.requires (eqb o 0) f field).1 in
    search rules
