use Rattle.std.proofs.Common.{◌∙◌, subst, sym}
use Rattle.tables.specs.Sheet.{sheet_table}
use Rattle.tables.specs.Held.{held, written}
use Rattle.listings.specs.File.{HyperText, KindText, refused_text}
use Rattle.listings.proofs.FileTexts.{put_lists, lists_as, fault_listed, closed_fits, closed_in_step, closed_text}
use Rattle.listings.proofs.file.list_draft.Goals as goal

pub returns-in-Err : goal.returns-in-Err
returns-in-Err g c =
    let K = g.W.Weight.kind in
    let k = g.W.Coded.codes in
    let a = c.args in
    let bs = a.bytes.now in
    let f = c.in-Err.fault in
    let fact =
    fault_listed K k bs a.targets.now a.weights.now a.marks.now c.requires.book (written c.open-book.result) c.read_draft.result
    c.open-book.ensures.holds c.read_draft.ensures.answer f c.in-Err.is in
    put_lists (KindText K k bs) (refused_text c.number.result f.offset) a.out.now c.put_refused.new.out c.put_refused.result
    (subst (λ n. KindText K k bs (refused_text n f.offset)) (sym c.number.ensures) fact) c.put_refused.ensures

pub list_source-requires-clause-few_states : goal.list_source-requires-clause-few_states
list_source-requires-clause-few_states g c =
    let K = g.W.Weight.kind in
    let k = g.W.Coded.codes in
    let a = c.args in
    let step =
    closed_in_step K k a.bytes.now a.targets.now a.weights.now a.marks.now c.requires.book (written c.open-book.result) c.read_draft.result
    c.open-book.ensures.holds c.read_draft.ensures.answer (held c.close-sheet.result) c.in_default.field-0 c.in_default.is
    (c.close-sheet.ensures ∙ c.read_draft.ensures.after) in
    (closed_fits step.0 (held c.close-sheet.result) step.2).0

pub list_source-requires-clause-few_arcs : goal.list_source-requires-clause-few_arcs
list_source-requires-clause-few_arcs g c =
    let K = g.W.Weight.kind in
    let k = g.W.Coded.codes in
    let a = c.args in
    let step =
    closed_in_step K k a.bytes.now a.targets.now a.weights.now a.marks.now c.requires.book (written c.open-book.result) c.read_draft.result
    c.open-book.ensures.holds c.read_draft.ensures.answer (held c.close-sheet.result) c.in_default.field-0 c.in_default.is
    (c.close-sheet.ensures ∙ c.read_draft.ensures.after) in
    (closed_fits step.0 (held c.close-sheet.result) step.2).1

pub returns : goal.returns
returns g c =
    let K = g.W.Weight.kind in
    let k = g.W.Coded.codes in
    let a = c.args in
    let bs = a.bytes.now in
    let sheet = held c.close-sheet.result in
    lists_as (HyperText K k (sheet_table K sheet)) (KindText K k bs) a.out.now c.list_source.new.out c.list_source.result
    (closed_text K k bs a.targets.now a.weights.now a.marks.now c.requires.book (written c.open-book.result) c.read_draft.result
    c.open-book.ensures.holds c.read_draft.ensures.answer sheet c.in_default.field-0 c.in_default.is
    (c.close-sheet.ensures ∙ c.read_draft.ensures.after))
    c.list_source.ensures
