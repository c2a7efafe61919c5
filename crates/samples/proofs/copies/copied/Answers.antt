use Rattle.std.proofs.Common.{sym, refl, ap, ◌∙◌, subst}
use Rattle.tables.specs.Held.{written}
use Rattle.tables.specs.Sheet.{sheet_table}
use Rattle.tables.specs.Table.{WeighAlike}
use Rattle.drafts.specs.Fault.{faulted}
use Rattle.drafts.specs.Written.{DraftWritten}
use Rattle.samples.proofs.Rereading.{ok_some, reread}
use Rattle.samples.proofs.copies.copied.Goals as goal

pub returns : goal.returns
returns g c =
    let K = g.W.Weight.kind in
    let k = g.W.Coded.codes in
    let t = g.S.Source.table c.args.source.now K in
    let n = c.in_ok-length.length in
    let wrote = ok_some c.write_draft.result n (sym c.ok.ensures.value ∙ c.in_ok-length.was) in
    let read = ok_some c.read_draft.result c.in_ok-ok.field-0 (sym c.ok-2.ensures.value ∙ c.in_ok-ok.was) in
    subst (λ d. WeighAlike K.group (sheet_table K d) t) (sym (c.close.ensures ∙ c.read_draft.ensures.after))
    (reread K k t c.args.bytes.now c.write_draft.new.out n n
    (subst (DraftWritten K k t c.args.bytes.now c.write_draft.new.out) wrote c.write_draft.ensures) refl
    c.args.targets.now c.args.weights.now c.args.marks.now (written c.open-book.result) c.open-book.ensures.holds
    c.in_ok-ok.field-0 (ap faulted (sym read) ∙ c.read_draft.ensures.answer))
