-- A draft file that is read again weighs as the table that it was written from. Assumes nothing.
use Rattle.std.proofs.Common.{◌≡◌, ℕ, zero, suc, ◌+◌, ◌*◌, ◌/◌, ◌%◌, ◌<◌, ◌≤◌, false, List, [], ◌∷◌, ◌++◌, map, length, get_or, Some, None, sym, refl, ap, ◌∙◌, subst, not-suc-le-zero, mul-le-mul_right, zero-add, add-one, arith}
use lib.Arith.{digits_lt}
use Rattle.std.specs.Option.{unwrap_or}
use Rattle.std.specs.List.{range_with_len, AllByRecursion as All}
use Rattle.std.proofs.lemmas.Nat.{div-mul-add, mod-mul-add, div_below, mod_below}
use Rattle.std.proofs.lemmas.List.FromFn.{map-range_with_len_more, length-map-range_with_len, get_or-range_with_len, length-range_with_len, get_or-map-range_with_len}
use Rattle.std.proofs.ByRecursion.{All-from_get_or, All-append, All-map}
use Rattle.std.proofs.lemmas.Bool.Decides.{nat_tests}
use Rattle.weights.specs.Codes.{Codes, code_for, within}
use Rattle.weights.specs.Group.{Kind}
use Rattle.tables.specs.Book.{opened}
use Rattle.tables.specs.Sheet.{sheet_table}
use Rattle.tables.specs.Sketch.{Lengths, Link, Sketch, blank, refusal_on, drawn_on, sketch_table, link_to, link_by}
use Rattle.tables.specs.Table.{Table, Lawful, Word, WeighAlike, scaled, weight_from}
use Rattle.tables.specs.declared.call.Call.{Call}
use Rattle.tables.specs.declared.call.Call.TheVariants.{Rule, State}
use Rattle.tables.proofs.Steps.{opened_in_step, same_table}
use Rattle.drafts.specs.Draft.{reading, made_on}
use Rattle.drafts.specs.Parts.{NamedBelow}
use Rattle.drafts.specs.Written.{Named, arc_count, state_call, arc_call, start_call, later_calls, draft_calls, read_again, ReadAgain}
use Rattle.drafts.proofs.Fields.{decoded, Known, placed, calls_listed}
use Rattle.drafts.proofs.Drawing.{drawn_all, Unrefused, drawn_append, unrefused_append, read_in_step, read_unrefused, run, run_more, run_unrefused}

-- what holds of each number below n holds of each that is counted
all_counting : (P : ℕ → Type 0) (n : ℕ) → ((i : ℕ) → i < n → P i) → All P (range_with_len 0 n)
all_counting P n h =
    All-from_get_or P (range_with_len 0 n) 0
    (λ i l.
    let below : i < n = omega (arith, length-range_with_len 0 n) in
    subst P (sym (get_or-range_with_len 0 n i 0 below ∙ zero-add i)) (h i below))

-- the state and the letter of arc p, where s is the number of letters
pub arc_inside :
    {M : Type 0} (t : Table M) → Lawful t → (s p : ℕ) → s ≡ t.letters → p < arc_count t → (p / s < t.states) × (p % s < t.letters)
arc_inside t lawful s p e h = grind (arith, div_below p t.letters t.states lawful.some_letter, mod_below p t.letters lawful.some_letter)

-- what reading the calls of the draft draws; d is any element
module _ {W : Type 0} (K : Kind W) (k : Codes W) (t : Table K.group.Mean) (lawful : Lawful t) (d : W) where
  -- the link that an arc of the table is read as
  abbrev link : ℕ → ℕ → Link W
  link q a = record { to = t.target q a; weight = unwrap_or (k.element (code_for K k (t.weight q a))) d }

  -- the sketch with the letters, and then with the first m states
  abbrev ruled : Sketch W
  ruled = drawn_on blank (Rule t.letters)

  abbrev with_states : ℕ → Sketch W
  with_states m = run k d ruled (state_call K k t) m

  states_drawn :
      (m : ℕ) → with_states m ≡ record { letters = t.letters; finals = map t.final (range_with_len 0 m); arc = λ q a. None; start = None }
  states_drawn zero = refl
  states_drawn (suc m) =
      run_more k d ruled (state_call K k t) m
      ∙ ap (λ s. drawn_on s (State (t.final m))) (states_drawn m)
      ∙ ap (λ fs. record { letters = t.letters; finals = fs; arc = λ q a. None; start = None })
      (sym (map-range_with_len_more t.final 0 m m (zero-add m)) ∙ ap (λ j. map t.final (range_with_len 0 j)) (add-one m))

  -- all the states and the first m arcs are drawn, and no arc from m on
  record Drawn (m : ℕ) (s : Sketch W) : Type 0 where
    pub letters : s.letters ≡ t.letters
    pub finals : s.finals ≡ map t.final (range_with_len 0 t.states)
    pub arcs : (q a : ℕ) → a < t.letters → q * t.letters + a < m → s.arc q a ≡ Some (link q a)
    pub undrawn : (q a : ℕ) → a < t.letters → m ≤ q * t.letters + a → s.arc q a ≡ None

  abbrev with_arcs : ℕ → Sketch W
  with_arcs m = run k d (with_states t.states) (arc_call K k t) m

  arcs_drawn : (m : ℕ) → Drawn m (with_arcs m)
  arcs_drawn zero =
      record {
        letters = ap (λ s. s.letters) (states_drawn t.states);
        finals = ap (λ s. s.finals) (states_drawn t.states);
        arcs = λ q a l h. absurd (not-suc-le-zero h);
        undrawn = λ q a l h. ap (λ s. s.arc q a) (states_drawn t.states);
      }
  arcs_drawn (suc m) =
      let before = arcs_drawn m in
      subst (Drawn (suc m)) (sym (run_more k d (with_states t.states) (arc_call K k t) m))
      (record {
        letters = before.letters;
        finals = before.finals;
        arcs = λ q a l h. grind (arith, nat_tests, before.arcs q a l, div-mul-add q t.letters a l, mod-mul-add q t.letters a l);
        undrawn = λ q a l h. grind (arith, nat_tests, before.undrawn q a l, div-mul-add q t.letters a l, mod-mul-add q t.letters a l);
      })

  states_in : (m : ℕ) (s : Sketch W) → Drawn m s → length s.finals ≡ t.states
  states_in m s h = ap length h.finals ∙ length-map-range_with_len t.final 0 t.states

  module _ (n : Lengths) (targets : 1 + arc_count t ≤ n.targets) (weights : 1 + arc_count t ≤ n.weights)
      (marks : t.states ≤ n.marks) (few : t.states < 4096) where
    states_pass : (i : ℕ) → i < t.states → refusal_on n (with_states i) (decoded k d (state_call K k t i)) ≡ None
    states_pass i l =
        let rows = mul-le-mul_right t.letters l in
        let count = length-map-range_with_len t.final 0 i in
        rw (states_drawn i) (grind (arith, nat_tests, rows, count))

    arcs_pass : (i : ℕ) → i < arc_count t → refusal_on n (with_arcs i) (decoded k d (arc_call K k t i)) ≡ None
    arcs_pass i l =
        let before = arcs_drawn i in
        let inside = arc_inside t lawful t.letters i refl l in
        let count = states_in i (with_arcs i) before in
        let target = lawful.target_inside (i / t.letters) (i % t.letters) inside.0 inside.1 in
        grind (arith, nat_tests, count, before.letters, before.undrawn, inside, target)

    calls_pass : Unrefused k d n blank (draft_calls K k t)
    calls_pass =
        let arcs : ℕ = arc_count t in
        let count = states_in arcs (with_arcs arcs) (arcs_drawn arcs) in (
          grind (arith, nat_tests, lawful.some_letter, lawful.few_letters),
          unrefused_append k d n ruled (map (state_call K k t) (range_with_len 0 t.states))
              (map (arc_call K k t) (range_with_len 0 arcs) ++ (start_call K k t ∷ []))
              (run_unrefused k d n ruled (state_call K k t) t.states states_pass)
              (unrefused_append k d n (with_states t.states) (map (arc_call K k t) (range_with_len 0 arcs)) (start_call K k t ∷ [])
              (run_unrefused k d n (with_states t.states) (arc_call K k t) arcs arcs_pass)
              (grind (arith, nat_tests, count, lawful.start_inside), tt)),
        )

  -- the sketch of the whole draft
  abbrev whole : Sketch W
  whole = drawn_on (with_arcs (arc_count t)) (decoded k d (start_call K k t))

  whole_drawn : drawn_all k d blank (draft_calls K k t) ≡ whole
  whole_drawn =
      let states = map (state_call K k t) (range_with_len 0 t.states) in
      let arcs = map (arc_call K k t) (range_with_len 0 (arc_count t)) in
      drawn_append k d ruled states (arcs ++ (start_call K k t ∷ []))
      ∙ drawn_append k d (drawn_all k d ruled states) arcs (start_call K k t ∷ [])

  module _ (named : (q a : ℕ) → q < t.states → a < t.letters → Named K k (t.weight q a))
      (start_named : Named K k t.start_weight) where
    -- the element of the code of a meaning has it
    named_mean : (m : K.group.Mean) → Named K k m → K.mean (unwrap_or (k.element (code_for K k m)) d) ≡ m
    named_mean m h = ap (λ o. K.mean (unwrap_or o d)) h.1 ∙ h.2

    words_alike :
        (q : ℕ) (w : List ℕ) → q < t.states → Word t.letters w →
        weight_from K.group (sketch_table K whole) q w ≡ weight_from K.group t q w
    words_alike q [] l h =
        let drawn = arcs_drawn (arc_count t) in
        ap (λ fs. within (get_or fs q false) K.group.one) drawn.finals
        ∙ ap (λ b. within b K.group.one) (get_or-map-range_with_len t.final 0 t.states q q false l (zero-add q))
    words_alike q (a ∷ w) l h =
        let G = K.group in
        let drawn = arcs_drawn (arc_count t) in
        let arc : whole.arc q a ≡ Some (link q a) = drawn.arcs q a h.0 (digits_lt l h.0) in
        let off : ℕ = length whole.finals in
        let leads : link_to off (whole.arc q a) ≡ t.target q a = ap (link_to off) arc in
        let weighs : link_by K (whole.arc q a) ≡ t.weight q a = ap (link_by K) arc ∙ named_mean (t.weight q a) (named q a l h.0) in
        ap (λ x. scaled G x (weight_from G (sketch_table K whole) (link_to off (whole.arc q a)) w)) weighs
        ∙ ap (λ r. scaled G (t.weight q a) (weight_from G (sketch_table K whole) r w)) leads
        ∙ ap (scaled G (t.weight q a)) (words_alike (t.target q a) w (lawful.target_inside q a l h.0) h.1)

    drawn_alike : WeighAlike K.group (sketch_table K whole) t
    drawn_alike =
        let G = K.group in
        let letters = (arcs_drawn (arc_count t)).letters in
        record {
          letters = letters;
          words =
              λ w h.
              ap (λ x. scaled G x (weight_from G (sketch_table K whole) t.start w)) (named_mean t.start_weight start_named)
              ∙ ap (scaled G t.start_weight) (words_alike t.start w lawful.start_inside (subst (λ s. Word s w) letters h));
        }

    all_run : (f : ℕ → Call ℕ) (n : ℕ) → ((i : ℕ) → i < n → Known k d (f i)) → All (Known k d) (map f (range_with_len 0 n))
    all_run f n h = All-map (Known k d) f (range_with_len 0 n) (all_counting (λ i. Known k d (f i)) n h)

    -- each call of the draft after the head has the code of an element
    all_known : All (Known k d) (later_calls K k t)
    all_known =
        All-append (Known k d) _ _ (all_run (state_call K k t) t.states (λ q l. tt))
        (All-append (Known k d) _ _
        (all_run (arc_call K k t) (arc_count t)
        (λ p l.
        let inside = arc_inside t lawful t.letters p refl l in
        let name = named (p / t.letters) (p % t.letters) inside.0 inside.1 in
        (name.0, name.1)))
        ((start_named.0, start_named.1), tt))

    -- the reading of the draft makes its calls
    read_as_drawn :
        (ts : List ℕ) (ws : List W) (ms : List ℕ) →
        read_again K k t ts ws ms ≡ made_on (opened ts ws ms) (placed k d 0 (draft_calls K k t)) None
    read_as_drawn ts ws ms = ap (reading (opened ts ws ms)) (calls_listed k d t.letters (later_calls K k t) all_known)

-- each arc has a number below their count
pub named_arcs :
    {W : Type 0} (K : Kind W) (k : Codes W) (t : Table K.group.Mean) → NamedBelow K k t (arc_count t) →
    (q a : ℕ) → q < t.states → a < t.letters → Named K k (t.weight q a)
named_arcs K k t named q a l h =
    let row = div-mul-add q t.letters a h in
    let column = mod-mul-add q t.letters a h in
    subst (λ x. Named K k (t.weight x a)) row
    (subst (λ x. Named K k (t.weight ((q * t.letters + a) / t.letters) x)) column (named (q * t.letters + a) (digits_lt l h)))

-- a draft of named weights is read again
pub read_back :
    {W : Type 0} (K : Kind W) (k : Codes W) (t : Table K.group.Mean) → Lawful t → t.states < 4096 →
    ((q a : ℕ) → q < t.states → a < t.letters → Named K k (t.weight q a)) → Named K k t.start_weight →
    (ts : List ℕ) (ws : List W) (ms : List ℕ) → ReadAgain K k t ts ws ms
read_back K k t lawful few named start_named ts ws ms =
    let d = start_named.0 in
    let n : Lengths = record { targets = length ts; weights = length ws; marks = length ms } in
    let new = opened_in_step ts ws ms in
    let calls = draft_calls K k t in
    let same = read_as_drawn K k t lawful d named start_named ts ws ms in
    record {
      unrefused =
          λ targets weights marks.
          ap (λ r. r.fault) same
          ∙ read_unrefused k d n blank (opened ts ws ms) calls 0 new (calls_pass K k t lawful d n targets weights marks few);
      alike =
          λ e.
          let clear : (made_on (opened ts ws ms) (placed k d 0 calls) None).fault ≡ None = sym (ap (λ r. r.fault) same) ∙ e in
          let after = (made_on (opened ts ws ms) (placed k d 0 calls) None).after in
          let drawn = read_in_step k d n blank (opened ts ws ms) calls 0 new clear in
          subst (λ r. WeighAlike K.group (sheet_table K r.after) t) (sym same)
          (subst (λ u. WeighAlike K.group u t)
          (sym (same_table K n (drawn_all k d blank calls) after drawn ∙ ap (sketch_table K) (whole_drawn K k t lawful d)))
          (drawn_alike K k t lawful d named start_named));
    }
