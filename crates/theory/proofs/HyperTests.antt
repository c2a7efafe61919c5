-- Tests by which a table is the hyper table of another. Assumes nothing.
use Rattle.std.proofs.Common.{◌≡◌, ℕ, zero, suc, ◌<◌, ◌≤◌, Bool, true, false, cond, not, ◌&&◌, ◌||◌, ltb, leb, eqb, List, [], ◌∷◌, ◌++◌, length, inl, inr, sym, refl, ap, ◌∙◌, subst, arith}
use Rattle.std.specs.Bool.{beq}
use Rattle.std.proofs.lemmas.Bool.{and_parts, or_cases, or_left, or_right, both_ways, cases_Bool, cases_lt, not-true, ltb-true, leb-true, eqb-true, eq-eqb}
use Rattle.std.proofs.lemmas.List.{length-append}
use Rattle.weights.specs.Group.{Group}
use Rattle.tables.specs.Table.{Table, Word, scaled, weight_from}
use Rattle.tables.proofs.Reading.{scaled_twice}
use Rattle.theory.specs.Runs.{led, Closed}
use Rattle.theory.specs.Series.{AlmostBy, AlmostEquivalent}
use Rattle.theory.specs.Kernel.{Kernel, Preamble, CoKernel}
use Rattle.theory.specs.Hyper.{Hyper, Representative, count_below}
use Rattle.theory.proofs.Lengths.{finitely_many, infinitely_many, some_longer}
use Rattle.theory.proofs.Basics.{scaled_told, word_append, led_inside, walked, accepted_weighs, weight_append, almost_multiple, multiple_from, almost_by_itself}
use Rattle.theory.proofs.Search.{pumped, kernel_not_preamble, co_kernel_not_preamble}
use Rattle.theory.proofs.Tests.{all_below, all_both, at_each, at_both, given, either, is_word, word_there, is_closed, closed_there, Coded, same, same_there, same_true, ratio, ratio_told}

module _ {M : Type 0} (t : Table M) where
  -- whether a word leads from state q to a state that a second word, of a letter or more, leads back to
  unfoldable pub goes_round : ℕ → List ℕ → List ℕ → Bool
  goes_round q v y =
      (is_word t.letters v && is_word t.letters y) && (ltb 0 (length y) && eqb (led t (led t q v) y) (led t q v))

  -- then the second may come any number of times, and a third after it
  round_there :
      (q : ℕ) (v y w : List ℕ) → goes_round q v y ≡ true → Word t.letters w → (n : ℕ) →
      (z : List ℕ) × Word t.letters z × (n ≤ length z) × (led t q z ≡ led t (led t q v) w)
  unfolding goes_round
  round_there q v y w e hw n =
      let h = and_parts _ _ e in
      let words = and_parts _ _ h.0 in
      let back = and_parts _ _ h.1 in
      pumped t q n v y w (word_there _ _ words.0) (word_there _ _ words.1) hw (ltb-true _ _ back.0) (eqb-true _ _ back.1)

  -- whether each word of n letters leads from a state to a marked one
  unfoldable pub settles : (ℕ → Bool) → ℕ → ℕ → Bool
  settles marked zero q = marked q
  settles marked (suc n) q = all_below (λ a. settles marked n (t.target q a)) t.letters

  -- where arcs lead from marked states to marked ones alone
  module _ (marked : ℕ → Bool) (stays : (q a : ℕ) → q < t.states → a < t.letters → marked q ≡ true → marked (t.target q a) ≡ true)
      (closed : Closed t) where
    -- so does each word of n letters or more, if those of n letters do
    settled :
        (n q : ℕ) (w : List ℕ) → q < t.states → settles marked n q ≡ true → Word t.letters w → n ≤ length w →
        marked (led t q w) ≡ true
    unfolding settles
    settled zero q [] l e h long = e
    settled zero q (a ∷ w) l e h long =
        settled zero (t.target q a) w (closed.target_inside q a l h.0) (stays q a l h.0 e) h.1 (omega arith)
    settled (suc n) q [] l e h long = absurd (omega arith)
    settled (suc n) q (a ∷ w) l e h long =
        settled n (t.target q a) w (closed.target_inside q a l h.0) (at_each _ _ e a h.0) h.1 (omega arith)

module _ (G : Group) (t : Table G.Mean) where
  -- states with equal targets, and weights up to a factor, are almost-equivalent
  same_arcs :
      (q p : ℕ) (k : G.Mean) → ((a : ℕ) → a < t.letters → t.target q a ≡ t.target p a) →
      ((a : ℕ) → a < t.letters → t.weight q a ≡ G.mul k (t.weight p a)) → AlmostBy G t k q p
  same_arcs q p k targets weights =
      almost_multiple {n = 1} (record { words = words })
    where
      words : (w : List ℕ) → Word t.letters w → 1 ≤ length w → weight_from G t q w ≡ scaled G k (weight_from G t p w)
      words [] h l = absurd (omega arith)
      words (a ∷ w) h l =
          ap (λ r. scaled G (t.weight q a) (weight_from G t r w)) (targets a h.0)
          ∙ ap (λ x. scaled G x (weight_from G t (t.target p a) w)) (weights a h.0)
          ∙ sym (scaled_twice G k (t.weight p a) (weight_from G t (t.target p a) w))

  -- the factor of two states is that of each word that leads both to one co-kernel state
  word_told :
      (q p : ℕ) (k : G.Mean) (v : List ℕ) → Word t.letters v → led t q v ≡ led t p v → CoKernel t (led t p v) →
      AlmostBy G t k q p → walked G t q v ≡ G.mul k (walked G t p v)
  word_told q p k v h e c m =
      let x = multiple_from m in
      let z = some_longer c.words x.from in
      let r = led t p v in
      let some = accepted_weighs G t r z.0 z.3 in
      let o = weight_from G t r z.0 in
      scaled_told G (walked G t q v) (G.mul k (walked G t p v)) (walked G t r z.0) o o some some
      (ap (λ y. scaled G (walked G t q v) (weight_from G t y z.0)) (sym e)
      ∙ sym (weight_append G t q v z.0)
      ∙ x.multiple.words (v ++ z.0) (word_append t.letters v z.0 h z.1) (omega (arith, length-append v z.0, z.2))
      ∙ ap (scaled G k) (weight_append G t p v z.0)
      ∙ scaled_twice G k (walked G t p v) o)

  -- whether each of two words leads states q and p to one state, in different ratios
  module _ (c : Coded G) (u v : List ℕ) where
    unfoldable pub diverge : ℕ → ℕ → Bool
    diverge q p =
        eqb (led t q u) (led t p u)
        && (eqb (led t q v) (led t p v) && not (same G c (ratio G t q p u) (ratio G t q p v)))

    -- then no factor serves both words, so the states are not almost-equivalent
    almost_not :
        (q p : ℕ) → Word t.letters u → Word t.letters v → CoKernel t (led t p u) → CoKernel t (led t p v) →
        AlmostEquivalent G t q p → diverge q p ≡ false
    unfolding diverge
    almost_not q p hu hv cu cv e =
        elim (cases_Bool (diverge q p)) [
          | inr fails ↦ fails
          | inl holds ↦
              (let h = and_parts _ _ holds in
              let k = and_parts _ _ h.1 in
              let one = ratio_told G t q p e.factor u (word_told q p e.factor u hu (eqb-true _ _ h.0) cu e.by) in
              let two = ratio_told G t q p e.factor v (word_told q p e.factor v hv (eqb-true _ _ k.0) cv e.by) in
              absurd (both_ways (same G c (ratio G t q p u) (ratio G t q p v)) (not-true (same G c (ratio G t q p u) (ratio G t q p v)) k.1)
              (same_true G c _ _ (one ∙ sym two))))
        ]

-- What shows which states are kernel, and that all are co-kernel: the word before leads from the start to a state that the word
-- round leads back to, and after q leads on to each kernel state q; each word of few letters leads to a kernel state; and the word
-- out leads from each state to a final one that the word again leads back to. Words one and two tell almost-equivalence.
pub record Witnesses : Type 0 where
  pub kernel : ℕ → Bool
  pub before : List ℕ
  pub round : List ℕ
  pub after : ℕ → List ℕ
  pub few : ℕ
  pub out : List ℕ
  pub again : List ℕ
  pub one : List ℕ
  pub two : List ℕ

-- a state is kept if it is kernel, or its own representative; an arc to another leads to its representative
abbrev pub is_kept : (ℕ → Bool) → (ℕ → ℕ) → ℕ → Bool
is_kept kernel r q = kernel q || eqb (r q) q

abbrev pub is_number : (ℕ → Bool) → (ℕ → ℕ) → ℕ → ℕ
is_number kept r q = count_below kept (cond (kept q) q (r q))

abbrev pub is_weight : (G : Group) → (ℕ → Bool) → (ℕ → G.Mean) → ℕ → G.Mean → G.Mean
is_weight G kept f q w = cond (kept q) w (G.mul w (f q))

-- the tests
pub record HyperTests (G : Group) (c : Coded G) (t h : Table G.Mean) (r : ℕ → ℕ) (f : ℕ → G.Mean) (w : Witnesses) : Type 0 where
  pub closed : is_closed t ≡ true
  pub round : goes_round t t.start w.before w.round ≡ true
  pub kernel :
      all_below (λ q. not (w.kernel q) || (is_word t.letters (w.after q) && eqb (led t (led t t.start w.before) (w.after q)) q)) t.states
      ≡ true
  pub stays : all_both (λ q a. not (w.kernel q) || w.kernel (t.target q a)) t.states t.letters ≡ true
  pub few : settles t w.kernel w.few t.start ≡ true
  pub out : all_below (λ q. goes_round t q w.out w.again && t.final (led t q w.out)) t.states ≡ true
  pub words : (is_word t.letters w.one && is_word t.letters w.two) ≡ true
  pub apart : all_both (λ q p. eqb (r q) (r p) || diverge G t c w.one w.two q p) t.states t.states ≡ true
  pub first : all_below (λ q. leb (r q) q) t.states ≡ true
  pub class : all_both (λ q p. not (eqb (r q) (r p) && w.kernel p) || w.kernel (r q)) t.states t.states ≡ true
  pub almost :
      all_below
      (λ q.
      (eqb (r q) q && same G c (f q) G.one)
      || all_below (λ a. eqb (t.target q a) (t.target (r q) a) && same G c (t.weight q a) (G.mul (f q) (t.weight (r q) a))) t.letters)
      t.states ≡ true
  pub states : h.states ≡ count_below (is_kept w.kernel r) t.states
  pub letters : h.letters ≡ t.letters
  pub final :
      all_below (λ q. not (is_kept w.kernel r q) || beq (h.final (count_below (is_kept w.kernel r) q)) (t.final q)) t.states ≡ true
  pub target :
      all_both
      (λ q a.
      not (is_kept w.kernel r q)
      || eqb (h.target (count_below (is_kept w.kernel r) q) a) (is_number (is_kept w.kernel r) r (t.target q a)))
      t.states t.letters ≡ true
  pub weight :
      all_both
      (λ q a.
      not (is_kept w.kernel r q)
      || same G c (h.weight (count_below (is_kept w.kernel r) q) a) (is_weight G (is_kept w.kernel r) f (t.target q a) (t.weight q a)))
      t.states t.letters ≡ true
  pub start : h.start ≡ is_number (is_kept w.kernel r) r t.start
  pub start_weight : same G c h.start_weight (is_weight G (is_kept w.kernel r) f t.start t.start_weight) ≡ true

-- tests that are equal
equal : (b c : Bool) → beq b c ≡ true → b ≡ c
equal true true e = refl
equal true false e = absurd (both_ways false refl e)
equal false true e = absurd (both_ways false refl e)
equal false false e = refl

module _ (G : Group) (c : Coded G) (t h : Table G.Mean) (r : ℕ → ℕ) (f : ℕ → G.Mean) (w : Witnesses)
    (x : HyperTests G c t h r f w) where
  closed : Closed t
  closed = closed_there t x.closed

  -- marked states are kernel, the others are preamble, and all are co-kernel
  pub marked_kernel : (q : ℕ) → q < t.states → w.kernel q ≡ true → Kernel t q
  marked_kernel q l k =
      let goes = and_parts _ _ (given _ _ (at_each _ _ x.kernel q l) k) in
      record {
        words =
            infinitely_many
            (λ n.
            let z = round_there t t.start w.before w.round (w.after q) x.round (word_there _ _ goes.0) n in
            (z.0, z.1, z.2, z.3 ∙ eqb-true _ _ goes.1));
      }

  pub other_preamble : (q : ℕ) → w.kernel q ≡ false → Preamble t q
  other_preamble q other =
      record {
        words =
            finitely_many w.few
            (λ v m e.
            elim (cases_lt (length v) w.few) [
              | inl short ↦ short
              | inr long ↦
                  absurd (both_ways (w.kernel q) other
                  (subst (λ p. w.kernel p ≡ true) e
                  (settled t w.kernel (λ q a l n. given _ _ (at_both _ _ _ x.stays q a l n)) closed w.few t.start v
                  closed.start_inside x.few m long)))
            ]);
      }

  pub all_co_kernel : (q : ℕ) → q < t.states → CoKernel t q
  all_co_kernel q l =
      let goes = and_parts _ _ (at_each _ _ x.out q l) in
      record {
        words =
            infinitely_many
            (λ n. let z = round_there t q w.out w.again [] goes.0 tt n in (z.0, z.1, z.2, ap t.final z.3 ∙ goes.1));
      }

  -- almost-equivalent states have one representative
  pub one_class : (q p : ℕ) → q < t.states → p < t.states → AlmostEquivalent G t q p → r q ≡ r p
  one_class q p l m e =
      let h = and_parts _ _ x.words in
      let one : Word t.letters w.one = word_there _ _ h.0 in
      let two : Word t.letters w.two = word_there _ _ h.1 in
      eqb-true _ _
      (either _ _ (at_both _ _ _ x.apart q p l m)
      (almost_not G t c w.one w.two q p one two (all_co_kernel (led t p w.one) (led_inside t closed p w.one m one))
      (all_co_kernel (led t p w.two) (led_inside t closed p w.two m two)) e))

  -- which is almost-equivalent to them
  pub in_class : (q : ℕ) → q < t.states → AlmostBy G t (f q) q (r q)
  in_class q l =
      elim (or_cases _ _ (at_each _ _ x.almost q l)) [
        | inl holds ↦
            (let e = and_parts _ _ holds in
            subst (AlmostBy G t (f q) q) (sym (eqb-true _ _ e.0))
            (subst (λ k. AlmostBy G t k q q) (sym (same_there G c _ _ e.1)) (almost_by_itself G t q)))
        | inr arcs ↦
            same_arcs G t q (r q) (f q) (λ a m. eqb-true _ _ (and_parts _ _ (at_each _ _ arcs a m)).0)
            (λ a m. same_there G c _ _ (and_parts _ _ (at_each _ _ arcs a m)).1)
      ]

  represented : (q : ℕ) → q < t.states → Representative G t q (r q)
  represented q l =
      let before : (p : ℕ) → p < t.states → r p ≤ p = λ p m. leb-true _ _ (at_each _ _ x.first p m) in
      let inside : r q < t.states = omega (arith, before q l) in
      let first : (p : ℕ) → p < r q → AlmostEquivalent G t q p → ⊥ =
      λ p m e. omega (arith, one_class q p l (omega arith) e, before p (omega arith)) in
      record {
        inside = inside;
        almost = record { factor = f q; by = in_class q l };
        smallest =
            elim (cases_Bool (w.kernel (r q))) [
              | inl kernel ↦
                  inl (record { kernel = marked_kernel (r q) inside kernel; smallest = λ p m e. absurd (first p m e) })
              | inr other ↦ inr (record { preamble = preambles other; smallest = first })
            ];
      }
    where
      preambles : w.kernel (r q) ≡ false → (p : ℕ) → p < t.states → AlmostEquivalent G t q p → Preamble t p
      preambles other p m e =
          elim (cases_Bool (w.kernel p)) [
            | inr fails ↦ other_preamble p fails
            | inl holds ↦
                absurd (both_ways (w.kernel (r q)) other
                (given _ _ (at_both _ _ _ x.class q p l m)
                (ap (λ b. b && w.kernel p) (eq-eqb (r q) (r p) (one_class q p l m e)) ∙ holds)))
          ]

  pub tested_hyper : Hyper G t h r f
  tested_hyper =
      let kept : ℕ → Bool = is_kept w.kernel r in
      record {
        representative = represented;
        factor =
            λ q l. record { almost = in_class q l; one = λ p. absurd (co_kernel_not_preamble t q (all_co_kernel q l) p) };
        kept = kept;
        keeps_kernel =
            λ q l k.
            or_left (w.kernel q) (eqb (r q) q)
            (elim (cases_Bool (w.kernel q)) [ inl holds ↦ holds | inr fails ↦ absurd (kernel_not_preamble t q k (other_preamble q fails)) ]);
        keeps_itself = λ q l e. or_right (w.kernel q) (eqb (r q) q) (eq-eqb (r q) q e);
        redirects =
            λ q l p other.
            elim (cases_Bool (kept q)) [
              | inr fails ↦ fails
              | inl holds ↦
                  elim (or_cases _ _ holds) [
                    | inl kernel ↦ absurd (kernel_not_preamble t q (marked_kernel q l kernel) p)
                    | inr own ↦ absurd (other (eqb-true _ _ own))
                  ]
            ];
        states = x.states;
        letters = x.letters;
        final = λ q l k. equal (h.final (count_below kept q)) (t.final q) (given _ _ (at_each _ _ x.final q l) k);
        target = λ q a l m k. eqb-true _ _ (given _ _ (at_both _ _ _ x.target q a l m) k);
        weight = λ q a l m k. same_there G c _ _ (given _ _ (at_both _ _ _ x.weight q a l m) k);
        start = x.start;
        start_weight = same_there G c _ _ x.start_weight;
      }
