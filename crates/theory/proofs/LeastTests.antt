-- Tests by which a table is the least table of another, whose states are all reachable and not equivalent. Assumes nothing.
use Rattle.std.proofs.Common.{◌≡◌, ℕ, ◌<◌, Bool, true, false, not, ◌&&◌, ◌||◌, ltb, eqb, List, [], ◌∷◌, ◌⊎◌, inl, inr, sym, refl, ap, ◌∙◌, subst, arith}
use Rattle.std.specs.Bool.{beq}
use Rattle.std.proofs.lemmas.Bool.{and_parts, and_left, and_right, or_cases, or_from, both_ways, cases_Bool, not-true, not_from_true, ltb-true, eqb-true}
use Rattle.weights.specs.Group.{Group}
use Rattle.tables.specs.Table.{Table, Word, scaled, weight_from}
use Rattle.tables.proofs.Reading.{some_injective}
use Rattle.theory.specs.Runs.{led, accepts, Closed, Reachable, Dead}
use Rattle.theory.specs.Series.{Equivalent}
use Rattle.theory.specs.Push.{Smaller, Push}
use Rattle.theory.specs.Least.{Least, InReadingOrder, MetBefore, ReadBefore}
use Rattle.theory.proofs.Basics.{reachable_inside, walked, accepted_weighs, multiple_accepts, multiple_refl}
use Rattle.theory.proofs.Search.{final_push, push_unique, live_not_dead}
use Rattle.theory.proofs.Tests.{all_below, any_below, all_both, at_each, at_some, at_both, either, is_word, word_there, is_closed, closed_there, Coded, same, same_there, same_true, ratio, ratio_told}

-- words that are smaller than one of one letter
smaller_than_letter : (a : ℕ) (v : List ℕ) → Smaller v (a ∷ []) → (v ≡ []) ⊎ ((b : ℕ) × (b < a) × (v ≡ b ∷ []))
smaller_than_letter a [] s = inl refl
smaller_than_letter a (b ∷ v) (inl l) = absurd (omega arith)
smaller_than_letter a (b ∷ c ∷ v) (inr e) = absurd (omega arith)
smaller_than_letter a (b ∷ []) (inr (l, inl m)) = inr (b, m, refl)
smaller_than_letter a (b ∷ []) (inr (l, inr m)) = absurd m.1

module _ (G : Group) (t : Table G.Mean) where
  -- whether a word, of one letter at most, is the smallest that is accepted from state q
  unfoldable pub is_first : ℕ → List ℕ → Bool
  is_first q [] = t.final q
  is_first q (a ∷ []) =
      not (t.final q) && (ltb a t.letters && (t.final (t.target q a) && all_below (λ b. not (t.final (t.target q b))) a))
  is_first q (a ∷ b ∷ w) = false

  -- then its weight is the push
  first_push : (q : ℕ) (w : List ℕ) → is_first q w ≡ true → Push G t q (walked G t q w)
  unfolding is_first
  first_push q [] e = final_push G t q e
  first_push q (a ∷ []) e =
      let h = and_parts _ _ e in
      let k = and_parts _ _ h.1 in
      let m = and_parts _ _ k.1 in
      record {
        word = a ∷ [];
        smallest =
            record {
              is_word = (ltb-true _ _ k.0, tt);
              accepted = m.0;
              least =
                  λ v i accepted smaller.
                  elim (smaller_than_letter a v smaller) [
                    | inl none ↦
                        both_ways (t.final q) (not-true (t.final q) h.0) (subst (λ x. accepts t q x ≡ true) none accepted)
                    | inr (b, less, one) ↦
                        both_ways (t.final (t.target q b)) (not-true (t.final (t.target q b)) (at_each _ _ m.1 b less))
                        (subst (λ x. accepts t q x ≡ true) one accepted)
                  ];
            };
        weighs = accepted_weighs G t q (a ∷ []) m.0;
      }
  first_push q (a ∷ b ∷ w) e = absurd (both_ways false refl e)

  -- whether state i has been met before arc (q, a)
  unfoldable pub is_met : ℕ → ℕ → ℕ → Bool
  is_met q a i =
      eqb i t.start
      || any_below (λ p. any_below (λ b. (ltb p q || (eqb p q && ltb b a)) && eqb (t.target p b) i) t.letters) t.states

  -- then it has been met
  met_there : (q a i : ℕ) → is_met q a i ≡ true → MetBefore t q a i
  unfolding is_met
  met_there q a i e =
      elim (or_cases _ _ e) [
        | inl first ↦ inl (eqb-true _ _ first)
        | inr later ↦
            (let x = at_some _ _ later in
            let y = at_some _ _ x.2 in
            let h = and_parts _ _ y.2 in
            let before : ReadBefore x.0 y.0 q a = elim (or_cases _ _ h.0) [
              | inl less ↦ inl (ltb-true _ _ less)
              | inr row ↦ (let k = and_parts _ _ row in inr (eqb-true _ _ k.0, ltb-true _ _ k.1))
            ] in
            inr (x.0, y.0, x.1, y.1, before, eqb-true _ _ h.1))
      ]

-- equal answers do not differ
unequal : (b c : Bool) → b ≡ c → not (beq b c) ≡ false
unequal true c e = ap (λ d. not (beq true d)) (sym e)
unequal false c e = ap (λ d. not (beq false d)) (sym e)

module _ (G : Group) (c : Coded G) (t : Table G.Mean) (u v : List ℕ) where
  -- whether states q and p differ on one of two words, or weigh them in different ratios
  unfoldable pub differ : ℕ → ℕ → Bool
  differ q p =
      not (beq (accepts t q u) (accepts t p u))
      || (not (beq (accepts t q v) (accepts t p v))
      || ((accepts t q u && accepts t q v) && not (same G c (ratio G t q p u) (ratio G t q p v))))

  -- equivalent states do not
  equivalent_alike : (q p : ℕ) → Word t.letters u → Word t.letters v → Equivalent G t q p → differ q p ≡ false
  unfolding differ
  equivalent_alike q p hu hv e =
      let alike : (w : List ℕ) → Word t.letters w → accepts t q w ≡ accepts t p w =
      λ w h. multiple_accepts G t t q p e.by w h (omega arith) in
      let told : (w : List ℕ) → Word t.letters w → accepts t q w ≡ true → ratio G t q p w ≡ e.factor =
      λ w h a.
      ratio_told G t q p e.factor w
      (some_injective
      (sym (accepted_weighs G t q w a)
      ∙ e.by.words w h (omega arith)
      ∙ ap (scaled G e.factor) (accepted_weighs G t p w (sym (alike w h) ∙ a)))) in
      let both : Bool = accepts t q u && accepts t q v in
      let apart : Bool = not (same G c (ratio G t q p u) (ratio G t q p v)) in
      let last : (both && apart) ≡ false =
      elim (cases_Bool both) [
        | inr one ↦ and_left both apart one
        | inl two ↦
            (let a = and_parts _ _ two in
            let e' : ratio G t q p u ≡ ratio G t q p v = told u hu a.0 ∙ sym (told v hv a.1) in
            and_right both apart (not_from_true (same G c (ratio G t q p u) (ratio G t q p v)) (same_true G c _ _ e')))
      ] in
      or_from (not (beq (accepts t q u) (accepts t p u))) (not (beq (accepts t q v) (accepts t p v)) || (both && apart))
      (unequal (accepts t q u) (accepts t p u) (alike u hu))
      (or_from (not (beq (accepts t q v) (accepts t p v))) (both && apart) (unequal (accepts t q v) (accepts t p v) (alike v hv)) last)

-- Word by q leads to state q, and first q is the smallest that is accepted from it. Words u and v tell the states apart.
pub record LeastTests (G : Group) (c : Coded G) (t l : Table G.Mean) (by first : ℕ → List ℕ) (u v : List ℕ) : Type 0 where
  pub states : l.states ≡ t.states
  pub letters : l.letters ≡ t.letters
  pub start : l.start ≡ t.start
  pub final : (q : ℕ) → l.final q ≡ t.final q
  pub target : (q a : ℕ) → l.target q a ≡ t.target q a
  pub closed : is_closed t ≡ true
  pub reached : all_below (λ q. is_word t.letters (by q) && eqb (led t t.start (by q)) q) t.states ≡ true
  pub words : (is_word t.letters u && is_word t.letters v) ≡ true
  pub apart : all_both (λ q p. eqb q p || differ G c t u v q p) t.states t.states ≡ true
  pub pushes : all_below (λ q. is_first G t q (first q)) t.states ≡ true
  pub weight :
      all_both
      (λ q a.
      same G c (l.weight q a)
      (G.mul (G.inv (walked G t q (first q))) (G.mul (t.weight q a) (walked G t (t.target q a) (first (t.target q a))))))
      t.states t.letters ≡ true
  pub start_weight : same G c l.start_weight (G.mul t.start_weight (walked G t t.start (first t.start))) ≡ true
  pub start_first : l.start ≡ 0
  pub order : all_both (λ q a. all_below (is_met G l q a) (l.target q a)) l.states l.letters ≡ true

module _ (G : Group) (c : Coded G) (t l : Table G.Mean) (by first : ℕ → List ℕ) (u v : List ℕ)
    (x : LeastTests G c t l by first u v) where
  closed : Closed t
  closed = closed_there t x.closed

  reachable : (q : ℕ) → q < t.states → Reachable t q
  reachable q m =
      let h = and_parts _ _ (at_each _ _ x.reached q m) in
      record { by = by q; is_word = word_there _ _ h.0; leads = eqb-true _ _ h.1 }

  -- the states are pairwise not equivalent
  apart : (q p : ℕ) → q < t.states → p < t.states → Equivalent G t q p → q ≡ p
  apart q p m n e =
      let h = and_parts _ _ x.words in
      eqb-true _ _
      (either _ _ (at_both _ _ _ x.apart q p m n)
      (equivalent_alike G c t u v q p (word_there _ _ h.0) (word_there _ _ h.1) e))

  -- a state's push is the weight of its smallest word, and no state is dead
  push : (q : ℕ) (k : G.Mean) → q < t.states → Push G t q k → walked G t q (first q) ≡ k
  push q k m p =
      push_unique G t q (walked G t q (first q)) k (first_push G t q (first q) (at_each _ _ x.pushes q m)) p

  not_dead : (q : ℕ) → q < t.states → Dead t q → ⊥
  not_dead q m d =
      let p = first_push G t q (first q) (at_each _ _ x.pushes q m) in
      live_not_dead t q (record { by = p.word; is_word = p.smallest.is_word; accepted = p.smallest.accepted }) d

  order : InReadingOrder l
  order =
      record {
        start_first = x.start_first;
        arcs = λ q a i m n less. met_there G l q a i (at_each _ _ (at_both _ _ _ x.order q a m n) i less);
      }

  pub tested_least : Least G t l
  tested_least =
      let g : ℕ → G.Mean = λ q. walked G t q (first q) in
      let inside : (q : ℕ) → Reachable t q → q < t.states = reachable_inside t closed in
      let next : (q a : ℕ) → Reachable t q → a < t.letters → t.target q a < t.states =
      λ q a r m. closed.target_inside q a (inside q r) m in
      record {
        letters = x.letters;
        class = λ q. q;
        class_inside = λ q r. subst (λ n. q < n) (sym x.states) (inside q r);
        class_met = λ i m. (i, reachable i (subst (λ n. i < n) x.states m), refl);
        one_class = λ q p r s e. apart q p (inside q r) (inside p s) e;
        equivalent =
            λ q p r s e.
            subst (Equivalent G t q) e (record { factor = G.one; by = multiple_refl G t.letters 0 (weight_from G t q) });
        start = x.start;
        final = λ q r. x.final q;
        target = λ q a r m. x.target q a;
        weight_live =
            λ q a k m r n pk pm.
            same_there G c _ _ (at_both _ _ _ x.weight q a (inside q r) n)
            ∙ ap (λ y. G.mul (G.inv y) (G.mul (t.weight q a) (g (t.target q a)))) (push q k (inside q r) pk)
            ∙ ap (λ y. G.mul (G.inv k) (G.mul (t.weight q a) y)) (push (t.target q a) m (next q a r n) pm);
        weight_dead = λ q a r m d. absurd (not_dead (t.target q a) (next q a r m) d);
        start_weight =
            record {
              live =
                  λ k p.
                  same_there G c _ _ x.start_weight
                  ∙ ap (G.mul t.start_weight) (push t.start k closed.start_inside p);
              dead = λ d. absurd (not_dead t.start closed.start_inside d);
            };
        order = order;
      }
