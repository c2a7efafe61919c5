-- Lists of calls, made one after another. Assumes nothing.
use Rattle.std.proofs.Common.{◌≡◌, ℕ, suc, ◌+◌, ◌<◌, ◌≤◌, List, [], ◌∷◌, ◌++◌, length, get_or, take, drop, set, append_assoc, drop-cons, Some, add-one, sym, ap, ◌∙◌, arith}
use Rattle.std.proofs.lemmas.List.{take_more_set, length-map, get_or-map, map-set, length-set}
use Rattle.std.proofs.Math.Seq.{map-set_same}
use Rattle.tables.specs.Book.{Contents, answer_to, left_by, left_by_all, answers_by}
use Rattle.tables.specs.Made.{answered, calls_of, answers_in, all_there}
use Rattle.tables.specs.declared.call.Call.{Call}
use Rattle.tables.specs.declared.made.Made.{Made}

-- Where a list of calls stands before call i of it: the calls are those of the list, what is left to be made leaves what the whole
-- list leaves, and its answers end those of the whole list.
pub record MadeBefore {W : Type 0} (old : Contents W) (before : List (Made W)) (i : ℕ) (c : Contents W) (ms : List (Made W)) : Type 0 where
  pub in_range : i ≤ length ms
  pub calls : calls_of ms ≡ calls_of before
  pub answers :
      take i (answers_in ms) ++ all_there (answers_by c (drop i (calls_of before))) ≡ all_there (answers_by old (calls_of before))
  pub contents : left_by_all c (drop i (calls_of before)) ≡ left_by_all old (calls_of before)

-- one more call is made
pub made_more :
    {W : Type 0} (old : Contents W) (before : List (Made W)) (i : ℕ) (c : Contents W) (ms : List (Made W)) (default new : Made W)
    (d : Contents W) → MadeBefore old before i c ms → i < length ms → new.call ≡ (get_or ms i default).call →
    answered new.answer ≡ Some (answer_to c (get_or ms i default).call) → d ≡ left_by c (get_or ms i default).call →
    MadeBefore old before (i + 1) d (set ms i new)
made_more {W = W} old before i c ms default new d h l same answer leaves =
    let k : Call W = (get_or ms i default).call in
    let ks : List (Call W) = calls_of before in
    let long : length ms ≡ length ks = sym (length-map ms (λ x. x.call)) ∙ ap length h.calls in
    let inside : i < length ks = omega arith in
    let here : get_or ks i k ≡ k = ap (λ xs. get_or xs i k) (sym h.calls) ∙ get_or-map (λ x. x.call) ms i default k l in
    let rest : drop i ks ≡ k ∷ drop (i + 1) ks =
    drop-cons ks i k inside ∙ ap (λ j. j ∷ drop (suc i) ks) here ∙ ap (λ j. k ∷ drop j ks) (sym (add-one i))
    in
    let answers_long : i < length (answers_in ms) = rw (length-map ms (λ x. answered x.answer)) l in
    let told : take (i + 1) (answers_in (set ms i new)) ≡ take i (answers_in ms) ++ (Some (answer_to c k) ∷ []) =
    ap (take (i + 1)) (map-set (λ x. answered x.answer) ms i new)
    ∙ take_more_set (answers_in ms) i (answered new.answer) answers_long
    ∙ ap (λ r. take i (answers_in ms) ++ (r ∷ [])) answer
    in
    record {
      in_range = rw (length-set ms i new) (omega arith);
      calls = map-set_same (λ x. x.call) ms i new default same ∙ h.calls;
      answers =
          ap (λ rs. rs ++ all_there (answers_by d (drop (i + 1) ks))) told
          ∙ append_assoc (take i (answers_in ms)) (Some (answer_to c k) ∷ []) (all_there (answers_by d (drop (i + 1) ks)))
          ∙ ap (λ e. take i (answers_in ms) ++ (Some (answer_to c k) ∷ all_there (answers_by e (drop (i + 1) ks)))) leaves
          ∙ ap (λ js. take i (answers_in ms) ++ all_there (answers_by c js)) (sym rest)
          ∙ h.answers;
      contents = ap (λ e. left_by_all e (drop (i + 1) ks)) leaves ∙ ap (left_by_all c) (sym rest) ∙ h.contents;
    }
