-- Lists of calls on a new book follow the sketch of the list. Assumes nothing.
use Rattle.std.proofs.Common.{◌≡◌, ℕ, ◌+◌, ◌*◌, ◌<◌, ◌≤◌, Bool, true, false, cond, ◌&&◌, leb, ltb, List, [], ◌∷◌, ◌++◌, length, get_or, take, Some, None, Ok, Option, zero-mul, refl, sym, ap, ◌∙◌, inl, inr, arith}
use Rattle.std.proofs.lemmas.Bool.{and_from, cases_lt, cond-true, le-leb, lt-ltb}
use Rattle.std.proofs.lemmas.List.{length_push, take_more}
use Rattle.weights.specs.Group.{Kind}
use Rattle.weights.specs.Refusal.{Told, judged, unless}
use Rattle.tables.specs.Table.{is_letter_count}
use Rattle.tables.specs.Call.{Size, has_places, may_rule, has_room, if_taken}
use Rattle.tables.specs.Book.{Contents, size_of, opened, left_by, left_by_all, answers_by}
use Rattle.tables.specs.Made.{calls_of, HasSize}
use Rattle.tables.specs.Sizes.{size_over, size_left}
use Rattle.tables.specs.Sheet.{sheet_table, sheet_of, sheet_verdict}
use Rattle.tables.specs.Sketch.{Lengths, lengths_of, Sketch, blank, sketch_size, refusal_on, drawn_on, sketched, sketch_answer, sketch_of, answers_of, sketch_table}
use Rattle.tables.specs.declared.call.Call.{Call}
use Rattle.tables.specs.declared.call.Call.TheVariants.{Rule, State, Arc, Start}
use Rattle.tables.specs.declared.made.Made.{Made}
use Rattle.tables.specs.declared.size.DrawnSize.{DrawnSize}
use Rattle.tables.proofs.InStep.{InStep}
use Rattle.tables.proofs.Steps.{opened_in_step, same_refusal, step, all_steps, same_table}

-- a book and its sketch answer a list of calls alike
pub all_answers : {W : Type 0} (n : Lengths) (s : Sketch W) (c : Contents W) (ks : List (Call W)) → InStep n s c →
    answers_by c ks ≡ answers_of n s ks
all_answers n s c [] h = refl
all_answers n s c (k ∷ ks) h =
    ap (λ v. judged v tt ∷ answers_by (left_by c k) ks) (same_refusal n s c k h)
    ∙ ap (λ rs. sketch_answer n s k ∷ rs) (all_answers n (sketched n s k) (left_by c k) ks (step n s c k h))

-- a book in step has the places of all its states, if it has place 0
pub step_has_places : {W : Type 0} (n : Lengths) (s : Sketch W) (c : Contents W) → InStep n s c →
    1 ≤ length c.targets → 1 ≤ length c.weights → has_places (size_of c) ≡ true
step_has_places n s c h some_target some_weight =
    let places : ℕ = 1 + c.count * c.letters in
    let both : (places ≤ length c.targets) × (places ≤ length c.weights) =
    elim (cases_lt 0 c.count) [
      | inl some ↦ (h.target_room some, h.weight_room some)
      | inr none ↦
          (let e : c.count ≡ 0 = omega arith in
          let z : c.count * c.letters ≡ 0 = cc (zero-mul c.letters) in
          (omega arith, omega arith))
    ]
    in
    and_from (leb places (length c.targets)) (leb places (length c.weights) && leb c.count (length c.marks))
    (le-leb places (length c.targets) both.0)
    (and_from (leb places (length c.weights)) (leb c.count (length c.marks)) (le-leb places (length c.weights) both.1)
    (le-leb c.count (length c.marks) h.mark_room))

-- a sheet of sizes that a table may have is made
sheet_made : {W : Type 0} (c : Contents W) → 1 ≤ c.letters → c.letters ≤ 64 → c.count ≤ 4095 → has_places (size_of c) ≡ true →
    sheet_of c ≡ Ok c
sheet_made c some_letter few_letters few_states places =
    let letters : is_letter_count c.letters ≡ true =
    and_from (ltb 0 c.letters) (leb c.letters 64) (lt-ltb 0 c.letters some_letter) (le-leb c.letters 64 few_letters)
    in
    let v : sheet_verdict (size_of c) ≡ None =
    cond-true (is_letter_count c.letters) _ _ letters
    ∙ cond-true (leb c.count 4095) _ _ (le-leb c.count 4095 few_states)
    ∙ cond-true (has_places (size_of c)) _ _ places
    in
    ap (λ o. judged o c) v

module _ {W : Type 0} (ts : List ℕ) (ws : List W) (ms : List ℕ) (ks : List (Call W)) where
  -- what a list of calls leaves on a new book, and its sketch
  abbrev pub contents_drawn : Contents W
  contents_drawn = left_by_all (opened ts ws ms) ks

  abbrev pub sketch_drawn : Sketch W
  sketch_drawn = sketch_of (lengths_of ts ws ms) blank ks

  pub drawn_in_step : InStep (lengths_of ts ws ms) sketch_drawn contents_drawn
  drawn_in_step = all_steps (lengths_of ts ws ms) blank (opened ts ws ms) ks (opened_in_step ts ws ms)

  pub drawn_table : (K : Kind W) → sheet_table K contents_drawn ≡ sketch_table K sketch_drawn
  drawn_table K = same_table K (lengths_of ts ws ms) sketch_drawn contents_drawn drawn_in_step

  pub drawn_answers : answers_by (opened ts ws ms) ks ≡ answers_of (lengths_of ts ws ms) blank ks
  drawn_answers = all_answers (lengths_of ts ws ms) blank (opened ts ws ms) ks (opened_in_step ts ws ms)

  -- a sheet may be made of what is left, if its memories have place 0
  pub drawn_has_places : 1 ≤ length ts → 1 ≤ length ws → has_places (size_of contents_drawn) ≡ true
  drawn_has_places l m =
      let h = drawn_in_step in
      step_has_places (lengths_of ts ws ms) sketch_drawn contents_drawn h (omega (arith, h.targets)) (omega (arith, h.weights))

  -- and where there is a state they have it
  pub drawn_some_places : 0 < length sketch_drawn.finals → (1 ≤ length ts) × (1 ≤ length ws)
  drawn_some_places l =
      let h = drawn_in_step in
      let some : 0 < contents_drawn.count = omega (arith, h.count) in
      (omega (arith, h.target_room some, h.targets), omega (arith, h.weight_room some, h.weights))

  pub drawn_sheet : 1 ≤ length ts → 1 ≤ length ws → sheet_of contents_drawn ≡ Ok contents_drawn
  drawn_sheet l m =
      let h = drawn_in_step in
      sheet_made contents_drawn h.some_letter h.few_letters h.few_states (drawn_has_places l m)

-- a function of what a call leaves whose only check is a test
under_check : {X Y : Type 0} (f : X → Y) (b : Bool) (n : ℕ) (x y : X) → f (if_taken (unless b n None) x y) ≡ cond b (f x) (f y)
under_check f true n x y = refl
under_check f false n x y = refl

-- a function of what a call leaves that changes nothing of it
unchanged : {X Y : Type 0} (f : X → Y) (v : Option Told) (x y : X) → f x ≡ f y → f (if_taken v x y) ≡ f y
unchanged f None x y e = e
unchanged f (Some t) x y e = refl

-- the size of a sketch after a call is told by its size before
size_sketched : {W : Type 0} (n : Lengths) (s : Sketch W) (k : Call W) →
    sketch_size n (sketched n s k) ≡ size_left (sketch_size n s) k
size_sketched n s (Rule m) = under_check (sketch_size n) (may_rule (sketch_size n s) m) 1 (drawn_on s (Rule m)) s
size_sketched n s (State f) =
    let room : Bool = has_room (sketch_size n s) in
    let size : ℕ → Size =
    λ m. record { targets = n.targets; weights = n.weights; marks = n.marks; letters = s.letters; count = m }
    in
    under_check (sketch_size n) room 5 (drawn_on s (State f)) s
    ∙ ap (λ m. cond room (size m) (sketch_size n s)) (length_push s.finals f)
size_sketched n s (Arc q a r w) = unchanged (sketch_size n) (refusal_on n s (Arc q a r w)) (drawn_on s (Arc q a r w)) s refl
size_sketched n s (Start q w) = unchanged (sketch_size n) (refusal_on n s (Start q w)) (drawn_on s (Start q w)) s refl

-- one more call
sketch_more : {W : Type 0} (n : Lengths) (s : Sketch W) (ms : List (Made W)) (m : Made W) →
    sketch_of n s (calls_of (ms ++ (m ∷ []))) ≡ sketched n (sketch_of n s (calls_of ms)) m.call
sketch_more n s [] m = refl
sketch_more n s (x ∷ ms) m = sketch_more n (sketched n s x.call) ms m

-- the size that a list comes to, with call i of it
pub size_more : {W : Type 0} (n : Lengths) (s : Sketch W) (ms : List (Made W)) (i : ℕ) (m : Made W) (d e : DrawnSize) →
    i < length ms → m ≡ get_or ms i m → HasSize (sketch_of n s (calls_of (take i ms))) d →
    size_over n e ≡ size_left (size_over n d) m.call → HasSize (sketch_of n s (calls_of (take (i + 1) ms))) e
size_more {W = W} n s ms i m d e l here h leaves =
    let t : Sketch W = sketch_of n s (calls_of (take i ms)) in
    let before : size_over n d ≡ sketch_size n t =
    λ j. record { targets = n.targets; weights = n.weights; marks = n.marks; letters = h.letters j; count = h.states j }
    in
    let more : sketch_of n s (calls_of (take (i + 1) ms)) ≡ sketched n t m.call =
    ap (λ xs. sketch_of n s (calls_of xs)) (take_more ms i m l ∙ ap (λ x. take i ms ++ (x ∷ [])) (sym here))
    ∙ sketch_more n s (take i ms) m
    in
    let all : size_over n e ≡ sketch_size n (sketch_of n s (calls_of (take (i + 1) ms))) =
    leaves ∙ ap (λ z. size_left z m.call) before ∙ sym (size_sketched n t m.call) ∙ ap (sketch_size n) (sym more)
    in
    record { letters = ap (λ z. z.letters) all; states = ap (λ z. z.count) all }
