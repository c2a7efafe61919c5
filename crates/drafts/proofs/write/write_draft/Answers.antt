use Rattle.std.proofs.Common.{◌≡◌, ℕ, ◌*◌, ◌<◌, drop, ltb, leb, List, length, IfOk, None, Ok, Err, sym, ap, ◌∙◌, subst}
use Rattle.std.proofs.lemmas.Result.{err_from_is_err_and}
use Rattle.std.proofs.lemmas.Bool.{ltb-true}
use Rattle.weights.specs.Refusal.{outcome, told, judged, unless}
use Rattle.tables.specs.Call.{if_taken}
use Rattle.weights.proofs.Judging.{taken_none, refused_some, unless_none}
use Rattle.drafts.specs.Written.{over, arc_count, draft_size, draft_bytes, write_verdict, ReadAgain}
use Rattle.drafts.proofs.Again.{named_arcs, read_back}
use Rattle.drafts.proofs.Writing.{length_draft, draft_written}
use Rattle.drafts.proofs.write.write_draft.Goals as goal

pub returns-in_err-length : goal.returns-in_err-length
returns-in_err-length g c =
    let K = g.W.Weight.kind in
    let k = g.W.Coded.codes in
    let t = g.S.Source.table c.args.source.now K in
    let memory = c.args.out.now in
    let verdict = write_verdict t (length memory) in
    let e = c.in_err-length.field-0.0 in
    let p = err_from_is_err_and c.from_residual.result c.from_residual.ensures.1 in
    let answer : judged verdict (draft_size t) ≡ Err (told e) = sym c.draft_length.ensures ∙ ap outcome c.in_err-length.was in
    let refused = refused_some verdict (draft_size t) (told e) answer in
    let was : c.from_residual.result ≡ Err e = p.1 ∙ ap Err p.2 in
    record {
      answer = ap outcome was ∙ sym answer;
      bytes = ap (λ v. if_taken v (over (draft_bytes K k t) memory) memory) (sym refused);
      size = length_draft K k t;
      again = subst (λ r. IfOk r (λ _. (ts : List ℕ) (ws : List g.row.W.Denot) (ms : List ℕ) → ReadAgain K k t ts ws ms)) (sym was) tt;
    }

pub returns : goal.returns
returns g c =
    let K = g.W.Weight.kind in
    let k = g.W.Coded.codes in
    let t = g.S.Source.table c.args.source.now K in
    let memory = c.args.out.now in
    let verdict = write_verdict t (length memory) in
    let n = c.in_ok-length.length in
    let answer : judged verdict (draft_size t) ≡ Ok n = sym c.draft_length.ensures ∙ ap outcome c.in_ok-length.was in
    let none : verdict ≡ None = (taken_none verdict (draft_size t) n answer).0 in
    let first = unless_none (ltb t.states 4096) 8 (unless (leb (draft_size t) (length memory)) 6 None) none in
    let few : t.states < 4096 = ltb-true t.states 4096 first.0 in
    let states : 4 * c.states.result ≡ 4 * t.states = ap (λ n. 4 * n) c.states.ensures in
    let arcs : 10 * c.arc_count.result ≡ 10 * arc_count t = ap (λ n. 10 * n) c.arc_count.ensures in
    let rest :
    c.split_at_mut-arcs.result.1.now
    ≡ drop (10 * c.arc_count.result) (drop (4 * c.states.result) (drop 5 memory)) =
    cc (c.split_at_mut-head.ensures.back, c.split_at_mut-states.ensures.back, c.split_at_mut-arcs.ensures.back) in
    record {
      answer = sym answer;
      bytes =
          draft_written K k t (4 * c.states.result) (10 * c.arc_count.result) memory c.copy_from_slice.new.self
          c.write_states.new.out c.write_arcs.new.out c.copy_from_slice-2.new.self c.split_at_mut-arcs.result.1.now states arcs
          (c.copy_from_slice.ensures.after ∙ c.head_field.ensures) c.write_states.ensures c.write_arcs.ensures.bytes
          (c.copy_from_slice-2.ensures.after ∙ c.start_field.ensures.bytes) rest
          ∙ ap (λ v. if_taken v (over (draft_bytes K k t) memory) memory) (sym none);
      size = length_draft K k t;
      again =
          read_back K k t (g.S.Source.lawful c.args.source.now K) few (named_arcs K k t c.write_arcs.ensures.named) c.start_field.ensures.named;
    }
