-- A ring that weighs something on the arcs from its start alone is its own least and hyper table. So the ring of 3, and the rings of 2
-- and 3 side by side, are minimized to such rings. Assumes nothing.
use Rattle.std.proofs.Common.{◌≡◌, ℕ, zero, suc, ◌+◌, ◌-◌, ◌*◌, ◌%◌, ◌<◌, ◌≤◌, true, ◌||◌, eqb, List, [], ◌∷◌, length, get_or, replicate, Some, Option, inl, inr, sym, refl, ap, ◌∙◌, subst, mod-eq_of_lt, lit<, arith, rules}
use Rattle.std.specs.Bool.{beq}
use Rattle.std.specs.Cmp.{booleans_Decides}
use Rattle.std.proofs.Math.Nat.{mul-le-mul_left}
use Rattle.std.proofs.lemmas.Bool.{eqb-true, or_cases, cases_lt}
use Rattle.std.proofs.lemmas.Bool.Decides.{nat_tests}
use Rattle.std.proofs.lemmas.List.{length-replicate}
use Rattle.std.proofs.lemmas.Nat.{mod-mul-add}
use Rattle.weights.specs.Codes.{within}
use Rattle.weights.specs.Group.{Group}
use Rattle.weights.specs.Wheel.{Place, wheel_kind, wheel_place}
use Rattle.tables.specs.Table.{Table, Lawful, Word, scaled, weight_from}
use Rattle.sources.specs.Ring.{next, next_inside, ring_lawful}
use Rattle.sources.specs.Both.{both_lawful}
use Rattle.theory.specs.Runs.{led, accepts, Closed, Dead}
use Rattle.theory.specs.Series.{Equivalent, AlmostEquivalent}
use Rattle.theory.specs.Push.{Earlier, Push}
use Rattle.theory.specs.Least.{MetBefore}
use Rattle.theory.specs.Kernel.{Kernel, CoKernel}
use Rattle.theory.proofs.Lengths.{infinitely_many}
use Rattle.theory.proofs.Basics.{scaled_one, led_inside, multiple_accepts, almost_multiple, multiple_from}
use Rattle.theory.proofs.Determined.Canonical.{Canonical}
use Rattle.theory.proofs.Search.{final_push, push_unique, live_not_dead}
use Rattle.theory.proofs.Tests.{all_below, all_both, at_each, at_both, Coded, same, same_there}
use Rattle.worked.specs.Minimized.{MinimizedTo, unmerged}
use Rattle.worked.specs.Drafts.{wheel, ring_of, ring_minimized, both_rings, both_minimized}
use Rattle.worked.proofs.Answering.{all_kernel, all_co_kernel, minimized}
use Rattle.worked.proofs.Own.{own_least, own_hyper}
use Rattle.sources.proofs.RingWords.{next_round}
use Rattle.worked.proofs.Quotient.{Quotient, QuotientTests, tested_quotient, quotient_least, coded}

-- how many letters lead from state q of n round m times, on to state 0, and on to state p
abbrev far : ℕ → ℕ → ℕ → ℕ → ℕ
far n m q p = m * n + (n - q) + p

far_there : (n m q p : ℕ) → q < n → p < n → (q + far n m q p) % n ≡ p
far_there n m q p l k =
    let round : q + far n m q p ≡ suc m * n + p = omega arith in
    ap (λ d. d % n) round ∙ mod-mul-add (suc m) n p k

-- those that lead from q to state 0 lead from no other state there
far_apart : (n m q p : ℕ) → q < n → p < n → (p + far n m q 0) % n ≡ 0 → q ≡ p
far_apart n m q p l k e =
    elim (cases_lt p q) [
      | inl less ↦
          (let short : p + far n m q 0 ≡ m * n + (n - q + p) = omega arith in
          absurd (omega (arith, sym (ap (λ d. d % n) short) ∙ e, mod-mul-add m n (n - q + p) (omega arith))))
      | inr more ↦
          (let past : p + far n m q 0 ≡ suc m * n + (p - q) = omega arith in
          omega (arith, sym (ap (λ d. d % n) past) ∙ e, mod-mul-add (suc m) n (p - q) (omega arith)))
    ]

-- words of letter 0 alone, which no word comes before
zeros_word : (s n : ℕ) → 0 < s → Word s (replicate n 0)
zeros_word s zero some = tt
zeros_word s (suc n) some = (some, zeros_word s n some)

none_earlier : (n : ℕ) (v : List ℕ) → Earlier v (replicate n 0) → ⊥
none_earlier zero [] e = e
none_earlier zero (b ∷ v) e = e
none_earlier (suc n) [] e = e
none_earlier (suc n) (b ∷ v) (inl less) = omega arith
none_earlier (suc n) (b ∷ v) (inr e) = none_earlier n v e.1

-- Each letter leads from a state to the next, and from the last to state 0, which is the start and alone final. The arcs from the
-- other states weigh one.
record Gathered (G : Group) (t : Table G.Mean) : Type 0 where
  some_state : 0 < t.states
  some_letter : 0 < t.letters
  start : t.start ≡ 0
  final : (q : ℕ) → q < t.states → t.final q ≡ eqb q 0
  target : (q a : ℕ) → q < t.states → a < t.letters → t.target q a ≡ next t.states q
  weight : (q a : ℕ) → 0 < q → q < t.states → a < t.letters → t.weight q a ≡ G.one

module _ (G : Group) (t : Table G.Mean) (x : Gathered G t) where
  abbrev n : ℕ
  n = t.states

  closed : Closed t
  closed =
      record {
        start_inside = subst (λ q. q < n) (sym x.start) x.some_state;
        target_inside = λ q a l k. subst (λ p. p < n) (sym (x.target q a l k)) (next_inside n q x.some_state);
      }

  -- a word leads on by its length, and is accepted where that comes to state 0
  led_on : (q : ℕ) (w : List ℕ) → q < n → Word t.letters w → led t q w ≡ (q + length w) % n
  led_on q [] l h = grind (arith, mod-eq_of_lt l)
  led_on q (a ∷ w) l h =
      ap (λ p. led t p w) (x.target q a l h.0)
      ∙ led_on (next n q) w (next_inside n q x.some_state) h.1
      ∙ next_round n q (length w) l

  accepted_at : (q : ℕ) (w : List ℕ) → q < n → Word t.letters w → accepts t q w ≡ true → (q + length w) % n ≡ 0
  accepted_at q w l h a =
      sym (led_on q w l h) ∙ eqb-true _ _ (sym (x.final (led t q w) (led_inside t closed q w l h)) ∙ a)

  -- the word of letter 0 that leads from state q round m times, on to state 0, and on to state p
  abbrev turns : ℕ → ℕ → ℕ → List ℕ
  turns m q p = replicate (far n m q p) 0

  turns_count : (m q p : ℕ) → length (turns m q p) ≡ far n m q p
  turns_count m q p = length-replicate (far n m q p) 0

  turns_word : (m q p : ℕ) → Word t.letters (turns m q p)
  turns_word m q p = zeros_word t.letters (far n m q p) x.some_letter

  turns_long : (m q p : ℕ) → m ≤ length (turns m q p)
  turns_long m q p = omega (arith, turns_count m q p, mul-le-mul_left m x.some_state)

  turns_there : (m q p : ℕ) → q < n → p < n → led t q (turns m q p) ≡ p
  turns_there m q p l k =
      led_on q (turns m q p) l (turns_word m q p) ∙ ap (λ d. (q + d) % n) (turns_count m q p) ∙ far_there n m q p l k

  accepted : (m q : ℕ) → q < n → accepts t q (turns m q 0) ≡ true
  accepted m q l = ap t.final (turns_there m q 0 l x.some_state) ∙ x.final 0 x.some_state

  -- so all states are kernel and co-kernel, and none is dead
  kernel : (q : ℕ) → q < n → Kernel t q
  kernel q l =
      record {
        words =
            infinitely_many
            (λ m.
            (turns m 0 q, turns_word m 0 q, turns_long m 0 q, ap (λ p. led t p (turns m 0 q)) x.start ∙ turns_there m 0 q x.some_state l));
      }

  co_kernel : (q : ℕ) → q < n → CoKernel t q
  co_kernel q l =
      record { words = infinitely_many (λ m. (turns m q 0, turns_word m q 0, turns_long m q 0, accepted m q l)) }

  not_dead : (q : ℕ) → q < n → Dead t q → ⊥
  not_dead q l d =
      live_not_dead t q (record { by = turns 0 q 0; is_word = turns_word 0 q 0; accepted = accepted 0 q l }) d

  -- and no two are almost-equivalent
  almost_apart : (q p : ℕ) → q < n → p < n → AlmostEquivalent G t q p → q ≡ p
  almost_apart q p l k e =
      let from = multiple_from e.by in
      let m = from.from in
      let w = turns m q 0 in
      let h = turns_word m q 0 in
      let alike = multiple_accepts G t t q p from.multiple w h (turns_long m q 0) in
      far_apart n m q p l k
      (ap (λ d. (p + d) % n) (sym (turns_count m q 0)) ∙ accepted_at p w k h (sym alike ∙ accepted m q l))

  apart : (q p : ℕ) → q < n → p < n → Equivalent G t q p → q ≡ p
  apart q p l k e =
      almost_apart q p l k (record { factor = e.factor; by = almost_multiple e.by })

  -- the way back to state 0 weighs one, and no shorter word is accepted
  light : (q : ℕ) (o : Option G.Mean) → 0 < q → q < n → scaled G (t.weight q 0) o ≡ o
  light q o some l = ap (λ k. scaled G k o) (x.weight q 0 some l x.some_letter) ∙ scaled_one G o

  weighs_back : (q k : ℕ) → 0 < q → q < n → q + k ≡ n → weight_from G t q (replicate k 0) ≡ Some G.one
  weighs_back q zero some l e = absurd (omega arith)
  weighs_back q (suc zero) some l e =
      let back : next n q ≡ 0 = grind (arith, nat_tests) in
      light q (within (t.final (t.target q 0)) G.one) some l
      ∙ ap (λ p. within (t.final p) G.one) (x.target q 0 l x.some_letter ∙ back)
      ∙ ap (λ b. within b G.one) (x.final 0 x.some_state)
  weighs_back q (suc (suc k)) some l e =
      let on : next n q ≡ suc q = grind (arith, nat_tests) in
      light q (weight_from G t (t.target q 0) (replicate (suc k) 0)) some l
      ∙ ap (λ p. weight_from G t p (replicate (suc k) 0)) (x.target q 0 l x.some_letter ∙ on)
      ∙ weighs_back (suc q) (suc k) (omega arith) (omega arith) (omega arith)

  pushes : (q : ℕ) (u : G.Mean) → q < n → Push G t q u → u ≡ G.one
  pushes zero u l p = push_unique G t 0 u G.one p (final_push G t 0 (x.final 0 l))
  pushes (suc q) u l p =
      push_unique G t (suc q) u G.one p
      (record {
        word = turns 0 (suc q) 0;
        smallest =
            record {
              is_word = turns_word 0 (suc q) 0;
              accepted = accepted 0 (suc q) l;
              least =
                  λ v h a smaller.
                  elim smaller [
                    | inl shorter ↦
                        (let short : suc q + length v < n = omega (arith, turns_count 0 (suc q) 0) in
                        omega (arith, mod-eq_of_lt short, accepted_at (suc q) v l h a))
                    | inr earlier ↦ none_earlier (far n 0 (suc q) 0) v earlier.1
                  ];
            };
        weighs = weighs_back (suc q) (far n 0 (suc q) 0) (omega arith) l (omega arith);
      })

  -- states are met in their order
  met : (q a i : ℕ) → q < n → a < t.letters → i < t.target q a → MetBefore t q a i
  met q a zero l k less = inl (sym x.start)
  met q a (suc j) l k less =
      let below : suc j < next n q = subst (λ p. suc j < p) (x.target q a l k) less in
      let before : j < q = grind (arith, nat_tests) in
      let on : next n j ≡ suc j = grind (arith, nat_tests) in
      inr (j, 0, omega arith, x.some_letter, inl before, x.target j 0 (omega arith) x.some_letter ∙ on)

  canonical : Canonical G t
  canonical =
      record {
        closed = closed;
        reached =
            λ q l.
            record {
              by = turns 0 0 q;
              is_word = turns_word 0 0 q;
              leads = ap (λ p. led t p (turns 0 0 q)) x.start ∙ turns_there 0 0 q x.some_state l;
            };
        apart = apart;
        pushes = pushes;
        dead_arcs = λ q a l k d. absurd (not_dead (t.target q a) (closed.target_inside q a l k) d);
        dead_start = λ d. absurd (not_dead t.start closed.start_inside d);
        order = record { start_first = x.start; arcs = met };
      }

  -- a table that is mapped onto such a ring is minimized to it
  gathered :
      (s : Table G.Mean) (k : ℕ) (class : ℕ → ℕ) (factor : ℕ → G.Mean) → Lawful s → Quotient G s t k class factor →
      MinimizedTo G s (unmerged G t (λ q. true))
  gathered s k class factor lawful onto =
      let m = unmerged G t (λ q. true) in
      minimized G m s lawful (quotient_least G s t k class factor onto t (own_least G t canonical))
      (all_kernel G m (λ q. refl) kernel) (all_co_kernel G m (λ q. refl) co_kernel) (own_hyper G t kernel almost_apart)

-- the same, by tests
record RingTests (G : Group) (c : Coded G) (s t : Table G.Mean) (k : ℕ) (class : ℕ → ℕ) (factor : ℕ → G.Mean) : Type 0 where
  onto : QuotientTests G c s t k class factor
  some_state : 0 < t.states
  some_letter : 0 < t.letters
  start : t.start ≡ 0
  final : all_below (λ q. beq (t.final q) (eqb q 0)) t.states ≡ true
  target : all_both (λ q a. eqb (t.target q a) (next t.states q)) t.states t.letters ≡ true
  weight : all_both (λ q a. eqb q 0 || same G c (t.weight q a) G.one) t.states t.letters ≡ true

tested_ring :
    (G : Group) (c : Coded G) (s t : Table G.Mean) (k : ℕ) (class : ℕ → ℕ) (factor : ℕ → G.Mean) → Lawful s →
    RingTests G c s t k class factor → MinimizedTo G s (unmerged G t (λ q. true))
tested_ring G c s t k class factor lawful x =
    gathered G t
    (record {
      some_state = x.some_state;
      some_letter = x.some_letter;
      start = x.start;
      final = λ q l. (booleans_Decides (t.final q) (eqb q 0)).0 (at_each _ _ x.final q l);
      target = λ q a l m. eqb-true _ _ (at_both _ _ _ x.target q a l m);
      weight =
          λ q a some l m.
          elim (or_cases (eqb q 0) (same G c (t.weight q a) G.one) (at_both _ _ _ x.weight q a l m)) [
            | inl first ↦ absurd (omega (arith, eqb-true q 0 first))
            | inr one ↦ same_there G c _ _ one
          ];
    })
    s k class factor lawful (tested_quotient G c s t k class factor x.onto)

ring_of_lawful : (n : ℕ) → Lawful (ring_of n)
ring_of_lawful n = ring_lawful wheel_kind (record { states = n; letters = 1; weight = wheel 1 })

-- the factor of a state is its push
ring_factor : ℕ → Place 720
ring_factor q = wheel_place (get_or (0 ∷ 2 ∷ 1 ∷ []) q 0)

ring_tests :
    RingTests wheel_kind.group (coded 720 (lit< tt)) (ring_of 3) ring_minimized.least 3 (λ q. q) ring_factor
unfolding all_below all_both same ring_factor
ring_tests = search rules

pub ring_correct : MinimizedTo wheel_kind.group (ring_of 3) ring_minimized
ring_correct =
    tested_ring wheel_kind.group (coded 720 (lit< tt)) (ring_of 3) ring_minimized.least 3 (λ q. q) ring_factor (ring_of_lawful 3)
    ring_tests

-- As many letters lead to state 3 q1 + q2 of the rings side by side as are q1 modulo 2 and q2 modulo 3.
both_class : ℕ → ℕ
both_class q = get_or (0 ∷ 4 ∷ 2 ∷ 3 ∷ 1 ∷ 5 ∷ []) q 0

both_factor : ℕ → Place 720
both_factor q = wheel_place (get_or (0 ∷ 4 ∷ 8 ∷ 6 ∷ 10 ∷ 2 ∷ []) q 0)

both_tests :
    RingTests wheel_kind.group (coded 720 (lit< tt)) both_rings both_minimized.least 6 both_class both_factor
unfolding all_below all_both same both_class both_factor
both_tests = search rules

pub both_correct : MinimizedTo wheel_kind.group both_rings both_minimized
both_correct =
    tested_ring wheel_kind.group (coded 720 (lit< tt)) both_rings both_minimized.least 6 both_class both_factor
    (both_lawful wheel_kind.group (ring_of 2) (ring_of 3) (ring_of_lawful 2) (ring_of_lawful 3)) both_tests
