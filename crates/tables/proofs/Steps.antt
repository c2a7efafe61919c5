-- A book stays in step with the sketch of the calls made on it, and its sheet means the sketch's table. Assumes nothing.
use Rattle.std.proofs.Common.{◌≡◌, ℕ, ◌+◌, ◌*◌, ◌%◌, ◌<◌, ◌≤◌, Bool, true, false, cond, ◌&&◌, eqb, ltb, leb, ◌≢◌, List, [], ◌∷◌, ◌++◌, length, get_or, set, Some, None, Option, is_none, sym, refl, ap, ◌∙◌, subst, inl, inr, arith}
use mathlib.Core.Path.{fun_ext}
use Rattle.std.proofs.lemmas.List.{length-set, length_push, get_or-set_same, get_or-set_other, get_or_push, get_or_append_left, get_or_past, get_or-map}
use Rattle.std.proofs.lemmas.Bool.{cases_lt, cases_eq, cond_both, cond-true, cond-false, and_parts, and_from, and_cases, and_left, ltb-true, ltb-false, leb-true, eqb-true, lt-ltb, le-ltb, eq-eqb, ne_eqb, both_ways}
use Rattle.weights.specs.Group.{Kind}
use Rattle.weights.specs.Refusal.{Told, unless}
use Rattle.weights.proofs.Judging.{unless_none}
use Rattle.tables.specs.Call.{verdict, if_taken, may_rule, has_room, has_state, has_letter}
use Rattle.tables.specs.Book.{Contents, size_of, place, unset, cleared, mark, opened, is_free, refusal_in, taken, left_by, left_by_all}
use Rattle.tables.specs.Sheet.{drawn, width, entry_at, mean_at, leads, led_to, led_by, is_drawn, sheet_table}
use Rattle.tables.specs.Sketch.{Lengths, lengths_of, Link, Sketch, blank, sketch_size, is_undrawn, refusal_on, drawn_on, sketched, sketch_of, link_to, link_by, sketch_table}
use Rattle.tables.specs.declared.call.Call.{Call}
use Rattle.tables.specs.declared.call.Call.TheVariants.{Rule, State, Arc, Start}
use Rattle.tables.proofs.InStep.{Holds, InStep}
use Rattle.tables.proofs.Places.{place_inside, place_before, same_state, same_letter, get_or_set_default, length_cleared, cleared_before, cleared_inside}

-- a new book is in step with the blank sketch
pub opened_in_step : {W : Type 0} (ts : List ℕ) (ws : List W) (ms : List ℕ)
    → InStep (lengths_of ts ws ms) blank (opened ts ws ms)
opened_in_step ts ws ms =
    record {
      letters = refl;
      count = refl;
      targets = length-set ts 0 unset;
      weights = refl;
      marks = refl;
      some_letter = omega arith;
      few_letters = omega arith;
      few_states = omega arith;
      target_room = omega arith;
      weight_room = omega arith;
      mark_room = omega arith;
      finals = λ q l. omega arith;
      start = get_or_set_default ts 0 unset;
      arcs = λ q a l m. omega arith;
      no_state = λ q a l. refl;
      no_letter = λ q a l. refl;
    }

-- refusals go by the same of a book and of its sketch
pub same_size : {W : Type 0} (n : Lengths) (s : Sketch W) (c : Contents W) → InStep n s c
    → size_of c ≡ sketch_size n s
same_size n s c h =
    λ i.
    record {
      targets = h.targets i;
      weights = h.weights i;
      marks = h.marks i;
      letters = h.letters i;
      count = h.count i;
    }

-- a place that a step leaves alone holds what it held
holds_kept : {W : Type 0} (c d : Contents W) (k : ℕ) (o : Option (Link W)) → c.count ≤ d.count
    → length d.weights ≡ length c.weights → get_or d.targets k unset ≡ get_or c.targets k unset
    → ((x : W) → get_or d.weights k x ≡ get_or c.weights k x) → Holds c k o → Holds d k o
holds_kept c d k None more same target weight h = target ∙ h
holds_kept c d k (Some l) more same target weight h =
    (omega arith, omega arith, target ∙ h.2, λ x. weight x ∙ h.3 x)

-- where no state is, the letters may be set
rule_in_step : {W : Type 0} (n : Lengths) (s : Sketch W) (c : Contents W) (m : ℕ) → InStep n s c
    → may_rule (size_of c) m ≡ true → InStep n (drawn_on s (Rule m)) (taken c (Rule m))
rule_in_step n s c m h t =
    let p = and_parts (eqb c.count 0) (ltb 0 m && leb m 64) t in
    let r = and_parts (ltb 0 m) (leb m 64) p.1 in
    let none : c.count ≡ 0 = eqb-true c.count 0 p.0 in
    let some : 0 < m = ltb-true 0 m r.0 in
    let few : m ≤ 64 = leb-true m 64 r.1 in
    record {
      letters = refl;
      count = h.count;
      targets = h.targets;
      weights = h.weights;
      marks = h.marks;
      some_letter = some;
      few_letters = few;
      few_states = h.few_states;
      target_room = omega arith;
      weight_room = omega arith;
      mark_room = h.mark_room;
      finals = h.finals;
      start = holds_kept c (taken c (Rule m)) 0 s.start (omega arith) refl refl (λ x. refl) h.start;
      arcs = λ q a l k. absurd (omega arith);
      no_state = h.no_state;
      no_letter = λ q a l. h.no_state q a (omega arith);
    }

-- a list of marks in step with a list of flags stays so with one more of each
marks_more : (ms : List ℕ) (fs : List Bool) (f : Bool) (n : ℕ) → n ≡ length fs → n < length ms
    → ((q : ℕ) → q < n → get_or ms q 0 ≡ mark (get_or fs q false)) → (q : ℕ) → q < n + 1
    → get_or (set ms n (mark f)) q 0 ≡ mark (get_or (fs ++ (f ∷ [])) q false)
marks_more ms fs f n e room h q l =
    elim (cases_eq q n) [
      | inl same ↦
          rw same (get_or-set_same ms n (mark f) 0 room ∙ ap mark (sym (get_or_push fs f false n (sym e))))
      | inr other ↦
          (let before : q < n = omega arith in
          let inside : q < length fs = omega arith in
          get_or-set_other ms n q (mark f) 0 other ∙ h q before
          ∙ ap mark (sym (get_or_append_left fs (f ∷ []) false q inside)))
    ]

-- where there is room, a state may be added: its row is cleared
state_in_step : {W : Type 0} (n : Lengths) (s : Sketch W) (c : Contents W) (f : Bool) → InStep n s c
    → has_room (size_of c) ≡ true → InStep n (drawn_on s (State f)) (taken c (State f))
state_in_step {W = W} n s c f h t =
    let end : ℕ = 1 + (c.count + 1) * c.letters in
    let in_targets : Bool = leb end (length c.targets) in
    let in_weights : Bool = leb end (length c.weights) in
    let in_marks : Bool = leb (c.count + 1) (length c.marks) in
    let p = and_parts (ltb c.count 4095) (in_targets && (in_weights && in_marks)) t in
    let r = and_parts in_targets (in_weights && in_marks) p.1 in
    let u = and_parts in_weights in_marks r.1 in
    let few : c.count < 4095 = ltb-true c.count 4095 p.0 in
    let marks_room : c.count + 1 ≤ length c.marks = leb-true (c.count + 1) (length c.marks) u.1 in
    let after : Contents W = taken c (State f) in
    let from : ℕ = place c.letters c.count 0 in
    record {
      letters = h.letters;
      count = ap (λ k. k + 1) h.count ∙ sym (length_push s.finals f);
      targets = length_cleared c.targets from c.letters ∙ h.targets;
      weights = h.weights;
      marks = length-set c.marks c.count (mark f) ∙ h.marks;
      some_letter = h.some_letter;
      few_letters = h.few_letters;
      few_states = omega arith;
      target_room = λ _. rw (length_cleared c.targets from c.letters) (leb-true end (length c.targets) r.0);
      weight_room = λ _. leb-true end (length c.weights) u.0;
      mark_room = rw (length-set c.marks c.count (mark f)) marks_room;
      finals = marks_more c.marks s.finals f c.count h.count (omega arith) h.finals;
      start =
          holds_kept c after 0 s.start (omega arith) refl
          (cleared_before c.targets from c.letters 0 (omega arith)) (λ x. refl) h.start;
      arcs =
          λ q a l m.
          elim (cases_lt q c.count) [
            | inl old ↦
                holds_kept c after (place c.letters q a) (s.arc q a) (omega arith) refl
                (cleared_before c.targets from c.letters (place c.letters q a)
                (place_before c.letters q a c.count 0 old m))
                (λ x. refl) (h.arcs q a old m)
            | inr new ↦
                (let this : q ≡ c.count = omega arith in
                let row : q * c.letters ≡ c.count * c.letters = cc in
                let k : ℕ = place c.letters q a in
                let none : get_or (cleared c.targets from c.letters) k unset ≡ unset =
                cleared_inside c.targets from c.letters k (omega arith) (omega arith)
                in
                subst (Holds after k) (sym (h.no_state q a new)) none)
          ];
      no_state = λ q a l. h.no_state q a (omega arith);
      no_letter = h.no_letter;
    }

-- a book with a target and a weight set at one place
abbrev set_at : {W : Type 0} → Contents W → ℕ → ℕ → W → Contents W
set_at c k r w =
    record {
      targets = set c.targets k r;
      weights = set c.weights k w;
      marks = c.marks;
      letters = c.letters;
      count = c.count;
    }

-- a place that exists holds what is set there
holds_set : {W : Type 0} (c : Contents W) (k r : ℕ) (w : W) → k < length c.targets → k < length c.weights
    → r < c.count → Holds (set_at c k r w) k (Some (record { to = r; weight = w }))
holds_set c k r w l m b = (
  b,
  rw (length-set c.weights k w) m,
  get_or-set_same c.targets k r unset l,
  λ x. get_or-set_same c.weights k w x m,
)

-- any other place holds what it held
holds_other : {W : Type 0} (c : Contents W) (k r : ℕ) (w : W) (j : ℕ) (o : Option (Link W)) → j ≢ k → Holds c j o
    → Holds (set_at c k r w) j o
holds_other c k r w j o other =
    holds_kept c (set_at c k r w) j o (omega arith) (length-set c.weights k w)
    (get_or-set_other c.targets k j r unset other) (λ x. get_or-set_other c.weights k j w x other)

-- a place that is set keeps a book in step with a sketch of the same letters and states, if the links are in step
set_in_step : {W : Type 0} (n : Lengths) (s : Sketch W) (c : Contents W) (k r : ℕ) (w : W)
    (arc : ℕ → ℕ → Option (Link W)) (start : Option (Link W)) → InStep n s c → Holds (set_at c k r w) 0 start
    → ((q a : ℕ) → q < c.count → a < c.letters → Holds (set_at c k r w) (place c.letters q a) (arc q a))
    → ((q a : ℕ) → c.count ≤ q → arc q a ≡ None) → ((q a : ℕ) → c.letters ≤ a → arc q a ≡ None)
    → InStep n (record { letters = s.letters; finals = s.finals; arc = arc; start = start }) (set_at c k r w)
set_in_step n s c k r w arc start h from arcs no_state no_letter =
    record {
      letters = h.letters;
      count = h.count;
      targets = length-set c.targets k r ∙ h.targets;
      weights = length-set c.weights k w ∙ h.weights;
      marks = h.marks;
      some_letter = h.some_letter;
      few_letters = h.few_letters;
      few_states = h.few_states;
      target_room = λ some. rw (length-set c.targets k r) (h.target_room some);
      weight_room = λ some. rw (length-set c.weights k w) (h.weight_room some);
      mark_room = h.mark_room;
      finals = h.finals;
      start = from;
      arcs = arcs;
      no_state = no_state;
      no_letter = no_letter;
    }

-- the links of a sketch with one arc set: where the arc is not at (q, a), they are as before
other_arc : {W : Type 0} (s : Sketch W) (q a r : ℕ) (w : W) (p b : ℕ) → ((p ≡ q) × (b ≡ a) → ⊥)
    → (drawn_on s (Arc q a r w)).arc p b ≡ s.arc p b
other_arc s q a r w p b other =
    cond_both (eqb p q && eqb b a) (Some (record { to = r; weight = w })) (s.arc p b) (λ o. o ≡ s.arc p b)
    (λ t. let e = and_parts (eqb p q) (eqb b a) t in absurd (other (eqb-true p q e.0, eqb-true b a e.1)))
    (λ _. refl)

-- an arc between states of the book may be set
arc_in_step : {W : Type 0} (n : Lengths) (s : Sketch W) (c : Contents W) (q a r : ℕ) (w : W) → InStep n s c
    → q < c.count → a < c.letters → r < c.count → InStep n (drawn_on s (Arc q a r w)) (taken c (Arc q a r w))
arc_in_step n s c q a r w h l m b =
    let k : ℕ = place c.letters q a in
    let inside : k < 1 + c.count * c.letters = place_inside c.letters q a c.count l m in
    let targets : k < length c.targets = omega (arith, h.target_room (omega arith)) in
    let weights : k < length c.weights = omega (arith, h.weight_room (omega arith)) in
    set_in_step n s c k r w (drawn_on s (Arc q a r w)).arc s.start h
    (holds_other c k r w 0 s.start (omega arith) h.start)
    (λ p d l' m'.
    cond_both (eqb p q && eqb d a) (Some (record { to = r; weight = w })) (s.arc p d)
    (Holds (set_at c k r w) (place c.letters p d))
    (λ t.
    let e = and_parts (eqb p q) (eqb d a) t in
    let same : place c.letters q a ≡ place c.letters p d = cc (eqb-true p q e.0, eqb-true d a e.1) in
    subst (λ j. Holds (set_at c k r w) j (Some (record { to = r; weight = w }))) same
    (holds_set c k r w targets weights b))
    (λ t.
    holds_other c k r w (place c.letters p d) (s.arc p d)
    (λ e.
    both_ways (eqb p q && eqb d a) t
    (and_from (eqb p q) (eqb d a) (eq-eqb p q (same_state c.letters p d q a m' m e))
    (eq-eqb d a (same_letter c.letters p d q a m' m e))))
    (h.arcs p d l' m')))
    (λ p d past. other_arc s q a r w p d (λ e. omega arith) ∙ h.no_state p d past)
    (λ p d past. other_arc s q a r w p d (λ e. omega arith) ∙ h.no_letter p d past)

-- a state of the book may be made the start
start_in_step : {W : Type 0} (n : Lengths) (s : Sketch W) (c : Contents W) (q : ℕ) (w : W) → InStep n s c
    → q < c.count → InStep n (drawn_on s (Start q w)) (taken c (Start q w))
start_in_step n s c q w h l =
    let targets : 0 < length c.targets = omega (arith, h.target_room (omega arith)) in
    let weights : 0 < length c.weights = omega (arith, h.weight_room (omega arith)) in
    set_in_step n s c 0 q w s.arc (Some (record { to = q; weight = w })) h (holds_set c 0 q w targets weights l)
    (λ p d l' m'. holds_other c 0 q w (place c.letters p d) (s.arc p d) (omega arith) (h.arcs p d l' m'))
    h.no_state h.no_letter

-- a call that is taken keeps the book in step
pub taken_in_step : {W : Type 0} (n : Lengths) (s : Sketch W) (c : Contents W) (k : Call W) → InStep n s c
    → refusal_in c k ≡ None → InStep n (drawn_on s k) (taken c k)
taken_in_step n s c (Rule m) h e = rule_in_step n s c m h (unless_none (may_rule (size_of c) m) 1 None e).0
taken_in_step n s c (State f) h e = state_in_step n s c f h (unless_none (has_room (size_of c)) 5 None e).0
taken_in_step n s c (Arc q a r w) h e =
    let free : Option Told = unless (is_free c q a) 10 None in
    let target : Option Told = unless (has_state (size_of c) r) 2 free in
    let x = unless_none (has_state (size_of c) q) 2 (unless (has_letter (size_of c) a) 3 target) e in
    let y = unless_none (has_letter (size_of c) a) 3 target x.1 in
    let z = unless_none (has_state (size_of c) r) 2 free y.1 in
    arc_in_step n s c q a r w h (ltb-true q c.count x.0) (ltb-true a c.letters y.0)
    (ltb-true r c.count z.0)
taken_in_step n s c (Start q w) h e =
    start_in_step n s c q w h (ltb-true q c.count (unless_none (has_state (size_of c) q) 2 None e).0)

-- a call that is refused leaves both as they are
either_in_step : {W : Type 0} (n : Lengths) (s t : Sketch W) (c d : Contents W) (v : Option Told) → InStep n s c
    → (v ≡ None → InStep n t d) → InStep n (if_taken v t s) (if_taken v d c)
either_in_step n s t c d None h new = new refl
either_in_step n s t c d (Some x) h new = h

-- a place is unset exactly where it holds no link, since no state has the number of an unset target
unset_same : {W : Type 0} (c : Contents W) (k : ℕ) (o : Option (Link W)) → c.count ≤ 4095 → Holds c k o
    → eqb (get_or c.targets k unset) unset ≡ is_none o
unset_same c k None few h = eq-eqb (get_or c.targets k unset) unset h
unset_same c k (Some l) few h = ne_eqb (get_or c.targets k unset) unset (λ e. omega (arith, h.0, h.2, e))

-- checks come to the same where what follows them does
unless_same : (b : Bool) (n : ℕ) (x y : Option Told) → (b ≡ true → x ≡ y) → unless b n x ≡ unless b n y
unless_same true n x y h = h refl
unless_same false n x y h = refl

-- a book refuses the same calls if it judges by the sketch which states and letters are free
free_same : {W : Type 0} (n : Lengths) (s : Sketch W) (c : Contents W) (k : Call W) → InStep n s c
    → refusal_in c k ≡ verdict (size_of c) (is_undrawn s) k
free_same n s c (Rule m) h = refl
free_same n s c (State f) h = refl
free_same n s c (Arc q a r w) h =
    let before : Option Told = unless (is_free c q a) 10 None in
    let after : Option Told = unless (is_undrawn s q a) 10 None in
    let target : Option Told → Option Told = unless (has_state (size_of c) r) 2 in
    unless_same (has_state (size_of c) q) 2 _ _
    (λ e.
    unless_same (has_letter (size_of c) a) 3 (target before) (target after)
    (λ d.
    ap (λ b. target (unless b 10 None))
    (unset_same c (place c.letters q a) (s.arc q a) h.few_states
    (h.arcs q a (ltb-true q c.count e) (ltb-true a c.letters d)))))
free_same n s c (Start q w) h = refl

-- a book and its sketch refuse the same calls
pub same_refusal : {W : Type 0} (n : Lengths) (s : Sketch W) (c : Contents W) (k : Call W) → InStep n s c
    → refusal_in c k ≡ refusal_on n s k
same_refusal n s c k h =
    free_same n s c k h ∙ ap (λ z. verdict z (is_undrawn s) k) (same_size n s c h)

-- a call, taken or refused, keeps the book in step
pub step : {W : Type 0} (n : Lengths) (s : Sketch W) (c : Contents W) (k : Call W) → InStep n s c
    → InStep n (sketched n s k) (left_by c k)
step n s c k h =
    subst (λ v. InStep n (if_taken v (drawn_on s k) s) (left_by c k)) (same_refusal n s c k h)
    (either_in_step n s (drawn_on s k) c (taken c k) (refusal_in c k) h (taken_in_step n s c k h))

-- a list of calls keeps the book in step
pub all_steps : {W : Type 0} (n : Lengths) (s : Sketch W) (c : Contents W) (ks : List (Call W)) → InStep n s c
    → InStep n (sketch_of n s ks) (left_by_all c ks)
all_steps n s c [] h = h
all_steps n s c (k ∷ ks) h = all_steps n (sketched n s k) (left_by c k) ks (step n s c k h)

-- the states that are drawn are those of the sketch
same_states : {W : Type 0} (n : Lengths) (s : Sketch W) (c : Contents W) → InStep n s c → drawn c ≡ length s.finals
same_states n s c h = omega arith

-- the letters of the sheet are those of the sketch
same_letters : {W : Type 0} (n : Lengths) (s : Sketch W) (c : Contents W) → InStep n s c → width c ≡ s.letters
same_letters n s c h = omega arith

-- where a place leads that holds a link
same_to : {W : Type 0} (c : Contents W) (k : ℕ) (o : Option (Link W)) → c.count ≤ 4095 → Holds c k o
    → led_to c k ≡ link_to (drawn c) o
same_to c k None few h =
    cond-false (leads c k) (entry_at c k) (drawn c) (le-ltb (entry_at c k) (drawn c) (omega arith))
same_to c k (Some l) few h =
    cond-true (leads c k) (entry_at c k) (drawn c) (lt-ltb (entry_at c k) (drawn c) (omega arith)) ∙ h.2

-- the weight of a place that holds a link
same_by : {W : Type 0} (K : Kind W) (c : Contents W) (k : ℕ) (o : Option (Link W)) → c.count ≤ 4095 → Holds c k o
    → led_by K c k ≡ link_by K o
same_by K c k None few h =
    cond-false (leads c k) (mean_at K c.weights k) K.group.one (le-ltb (entry_at c k) (drawn c) (omega arith))
same_by K c k (Some l) few h =
    cond-true (leads c k) (mean_at K c.weights k) K.group.one (lt-ltb (entry_at c k) (drawn c) (omega arith))
    ∙ get_or-map K.mean c.weights k l.weight K.group.one h.1
    ∙ ap K.mean (h.3 l.weight)

-- an arc of the sheet is an arc of the sketch, and past the states or the letters there is none
same_arc : {W : Type 0} {X : Type 0} (n : Lengths) (s : Sketch W) (c : Contents W) (x : ℕ → X)
    (f : Option (Link W) → X) (q a : ℕ) → InStep n s c → ((k : ℕ) (o : Option (Link W)) → Holds c k o → x k ≡ f o)
    → cond (is_drawn c q a) (x (place (width c) q a)) (f None) ≡ f (s.arc q a)
same_arc n s c x f q a h reads =
    let w : width c ≡ c.letters = omega arith in
    cond_both (is_drawn c q a) (x (place (width c) q a)) (f None) (λ y. y ≡ f (s.arc q a))
    (λ t.
    let e = and_parts (ltb q (drawn c)) (ltb a (width c)) t in
    let l : q < drawn c = ltb-true q (drawn c) e.0 in
    let m : a < width c = ltb-true a (width c) e.1 in
    ap (λ v. x (place v q a)) w
    ∙ reads (place c.letters q a) (s.arc q a) (h.arcs q a (omega arith) (omega arith)))
    (λ t.
    elim (and_cases (ltb q (drawn c)) (ltb a (width c)) t) [
      | inl e ↦ (let l : drawn c ≤ q = ltb-false q (drawn c) e in ap f (sym (h.no_state q a (omega arith))))
      | inr e ↦ (let m : width c ≤ a = ltb-false a (width c) e in ap f (sym (h.no_letter q a (omega arith))))
    ])

-- the lowest bit of a mark is the flag
mark_bit : (f : Bool) → eqb (mark f % 2) 1 ≡ f
mark_bit true = refl
mark_bit false = refl

-- a state of the sheet is final where that of the sketch is
same_final : {W : Type 0} (n : Lengths) (s : Sketch W) (c : Contents W) (q : ℕ) → InStep n s c
    → (ltb q (drawn c) && eqb (get_or c.marks q 0 % 2) 1) ≡ get_or s.finals q false
same_final n s c q h =
    elim (cases_lt q c.count) [
      | inl l ↦
          rw (lt-ltb q (drawn c) (omega arith), h.finals q l) (mark_bit (get_or s.finals q false))
      | inr l ↦
          and_left (ltb q (drawn c)) (eqb (get_or c.marks q 0 % 2) 1) (le-ltb q (drawn c) (omega arith))
          ∙ sym (get_or_past s.finals q false (omega arith))
    ]

-- the start is the same
same_start : {W : Type 0} (n : Lengths) (s : Sketch W) (c : Contents W) → InStep n s c
    → led_to c 0 ≡ link_to (length s.finals) s.start
same_start n s c h =
    same_to c 0 s.start h.few_states h.start ∙ ap (λ off. link_to off s.start) (same_states n s c h)

-- each arc leads to the same state
same_target : {W : Type 0} (n : Lengths) (s : Sketch W) (c : Contents W) (q a : ℕ) → InStep n s c
    → cond (is_drawn c q a) (led_to c (place (width c) q a)) (drawn c) ≡ link_to (length s.finals) (s.arc q a)
same_target n s c q a h =
    same_arc n s c (led_to c) (link_to (drawn c)) q a h (λ k o. same_to c k o h.few_states)
    ∙ ap (λ off. link_to off (s.arc q a)) (same_states n s c h)

-- each arc has the same weight
same_weight : {W : Type 0} (K : Kind W) (n : Lengths) (s : Sketch W) (c : Contents W) (q a : ℕ) → InStep n s c
    → cond (is_drawn c q a) (led_by K c (place (width c) q a)) K.group.one ≡ link_by K (s.arc q a)
same_weight K n s c q a h = same_arc n s c (led_by K c) (link_by K) q a h (λ k o. same_by K c k o h.few_states)

-- the sheet of a book means the table of the book's sketch
pub same_table : {W : Type 0} (K : Kind W) (n : Lengths) (s : Sketch W) (c : Contents W) → InStep n s c
    → sheet_table K c ≡ sketch_table K s
same_table K n s c h =
    λ i.
    record {
      states = same_states n s c h i + 1;
      letters = same_letters n s c h i;
      start = same_start n s c h i;
      start_weight = same_by K c 0 s.start h.few_states h.start i;
      final = fun_ext (λ q. same_final n s c q h) i;
      target = fun_ext (λ q. fun_ext (λ a. same_target n s c q a h)) i;
      weight = fun_ext (λ q. fun_ext (λ a. same_weight K n s c q a h)) i;
    }
