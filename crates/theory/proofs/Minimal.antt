-- Each least table is minimal: its states weigh words as those of its source, up to the push. Assumes nothing.
use Rattle.std.proofs.Common.{◌≡◌, ℕ, ◌+◌, ◌-◌, ◌<◌, ◌≤◌, Bool, true, false, List, [], ◌∷◌, length, Some, None, ◌⊎◌, inl, inr, sym, refl, ap, ◌∙◌, subst, arith}
use Rattle.std.proofs.lemmas.Bool.{cases_lt}
use Rattle.weights.specs.Codes.{within}
use Rattle.weights.specs.Group.{Group}
use Rattle.tables.specs.Table.{Table, Lawful, Word, WeighAlike, scaled, weight_from}
use Rattle.tables.proofs.Reading.{scaled_twice, some_injective}
use Rattle.theory.specs.Runs.{led, accepts, Closed, Reachable, Live, Dead}
use Rattle.theory.specs.Series.{Multiple, Equivalent, WeighAlikeFrom}
use Rattle.theory.specs.Push.{Smallest, Push}
use Rattle.theory.specs.Least.{Least}
use Rattle.theory.specs.Theorems.{LeastIsMinimal}
use Rattle.theory.proofs.Basics.{alike_from, lawful_closed, mul_inv_back, led_inside, one_state, reachable_inside, start_reachable, reachable_by, reachable_next, walked, weight_walked, multiple_sym, multiple_trans}
use Rattle.theory.proofs.Pigeonhole.{two_alike}
use Rattle.theory.proofs.Search.{live_or_dead, live_not_dead, push_there, final_push, push_unique, smallest_unique}

-- a dead state gives no word a weight
pub dead_weighs : (G : Group) (t : Table G.Mean) (q : ℕ) (w : List ℕ) → Dead t q → Word t.letters w → weight_from G t q w ≡ None
dead_weighs G t q w d h = weight_walked G t q w ∙ ap (λ b. within b (walked G t q w)) (d.none w h)

module _ (G : Group) where
  -- where a final state's push is one, the empty word weighs one or none after it is taken away
  pub empty_form : (b : Bool) (u : G.Mean) → (b ≡ true → u ≡ G.one) → within b G.one ≡ scaled G (G.inv u) (within b G.one)
  empty_form true u one = ap Some (sym (ap (G.mul (G.inv u)) (sym (one refl)) ∙ G.inv_left u))
  empty_form false u one = refl

module _ (G : Group) (t l : Table G.Mean) (lawful : Lawful t) (least : Least G t l) where
  -- l's state after a word is the class of t's state after it
  pub class_led : (q : ℕ) (w : List ℕ) → Reachable t q → Word t.letters w → led l (least.class q) w ≡ least.class (led t q w)
  class_led q [] r h = refl
  class_led q (a ∷ w) r h =
      ap (λ p. led l p w) (least.target q a r h.0)
      ∙ class_led (t.target q a) w (reachable_next t q a r h.0) h.1

  -- a state and its class accept the same words
  pub class_accepts : (q : ℕ) (w : List ℕ) → Reachable t q → Word t.letters w → accepts l (least.class q) w ≡ accepts t q w
  class_accepts q w r h = ap l.final (class_led q w r h) ∙ least.final (led t q w) (reachable_by t q w r h)

  -- words of the one table are words of the other
  pub word_in_least : (w : List ℕ) → Word t.letters w → Word l.letters w
  word_in_least w h = subst (λ s. Word s w) (sym least.letters) h

  pub word_in_source : (w : List ℕ) → Word l.letters w → Word t.letters w
  word_in_source w h = subst (λ s. Word s w) least.letters h

  -- a dead state has a dead class, and a reachable one a reachable class
  pub class_dead : (q : ℕ) → Reachable t q → Dead t q → Dead l (least.class q)
  class_dead q r d =
      record {
        none = λ w h. let word = word_in_source w h in class_accepts q w r word ∙ d.none w word;
      }

  -- l is in the class of t's state after each word from the start
  pub start_led : (w : List ℕ) → Word t.letters w → led l l.start w ≡ least.class (led t t.start w)
  start_led w h = ap (λ p. led l p w) least.start ∙ class_led t.start w (start_reachable t) h

  pub class_reachable : (q : ℕ) → Reachable t q → Reachable l (least.class q)
  class_reachable q r =
      record {
        by = r.by;
        is_word = word_in_least r.by r.is_word;
        leads = start_led r.by r.is_word ∙ ap least.class r.leads;
      }

  -- a least table is closed
  pub least_closed : Closed l
  least_closed =
      record {
        start_inside = subst (λ p. p < l.states) (sym least.start) (least.class_inside t.start (start_reachable t));
        target_inside =
            λ i a m b.
            let x = least.class_met i m in
            let letter : a < t.letters = subst (λ s. a < s) least.letters b in
            let leads : l.target i a ≡ least.class (t.target x.0 a) =
            ap (λ j. l.target j a) (sym x.2) ∙ least.target x.0 a x.1 letter in
            subst (λ p. p < l.states) (sym leads) (least.class_inside (t.target x.0 a) (reachable_next t x.0 a x.1 letter));
      }

  -- every state of a least table is reachable
  pub least_reachable : (i : ℕ) → i < l.states → Reachable l i
  least_reachable i m = let x = least.class_met i m in subst (Reachable l) x.2 (class_reachable x.0 x.1)

  reachable_decided : (q : ℕ) → Reachable t q → Live t q ⊎ Dead t q
  reachable_decided q r = live_or_dead t (lawful_closed t lawful) q (reachable_inside t (lawful_closed t lawful) q r)

  -- the class of a dead state gives no word a weight
  dead_class_weighs :
      (q : ℕ) (w : List ℕ) → Reachable t q → Dead t q → Word t.letters w → weight_from G l (least.class q) w ≡ None
  dead_class_weighs q w r d h = dead_weighs G l (least.class q) w (class_dead q r d) (word_in_least w h)

  -- the normal form of a state with push u: its class weighs each word as the state does, with the inverse of u on the left
  pub normal_form :
      (q : ℕ) (u : G.Mean) → Reachable t q → Push G t q u → (w : List ℕ) → Word t.letters w →
      weight_from G l (least.class q) w ≡ scaled G (G.inv u) (weight_from G t q w)
  normal_form q u r p [] h =
      ap (λ b. within b G.one) (least.final q r) ∙ empty_form G (t.final q) u (λ e. push_unique G t q u G.one p (final_push G t q e))
  normal_form q u r p (a ∷ w) h =
      let next : ℕ = t.target q a in
      let k : G.Mean = l.weight (least.class q) a in
      let f = weight_from G t next w in
      let reached = reachable_next t q a r h.0 in
      let leads : weight_from G l (l.target (least.class q) a) w ≡ weight_from G l (least.class next) w =
      ap (λ i. weight_from G l i w) (least.target q a r h.0) in
      elim (reachable_decided next reached) [
        | inl live ↦
            (let x = push_there G t (lawful_closed t lawful) next live in
            let v : G.Mean = x.0 in
            let factor : G.mul k (G.inv v) ≡ G.mul (G.inv u) (t.weight q a) =
            ap (λ y. G.mul y (G.inv v)) (least.weight_live q a u v r h.0 p x.1)
            ∙ G.assoc (G.inv u) (G.mul (t.weight q a) v) (G.inv v)
            ∙ ap (G.mul (G.inv u)) (mul_inv_back G (t.weight q a) v) in
            ap (scaled G k) (leads ∙ normal_form next v reached x.1 w h.1)
            ∙ scaled_twice G k (G.inv v) f
            ∙ ap (λ y. scaled G y f) factor
            ∙ sym (scaled_twice G (G.inv u) (t.weight q a) f))
        | inr dead ↦
            ap (scaled G k) (leads ∙ dead_class_weighs next w reached dead h.1)
            ∙ sym (ap (λ o. scaled G (G.inv u) (scaled G (t.weight q a) o)) (dead_weighs G t next w dead h.1))
      ]

  -- the class of each reachable state, live or dead, is a multiple of it
  pub class_multiple :
      (q : ℕ) → Reachable t q →
      (k : G.Mean) × Multiple G t.letters 0 k (weight_from G l (least.class q)) (weight_from G t q)
  class_multiple q r =
      elim (reachable_decided q r) [
        | inl live ↦
            (let x = push_there G t (lawful_closed t lawful) q live in
            (G.inv x.0, record { words = λ w h m. normal_form q x.0 r x.1 w h }))
        | inr dead ↦ (
          G.one,
          record {
            words = λ w h m. dead_class_weighs q w r dead h ∙ sym (ap (scaled G G.one) (dead_weighs G t q w dead h));
          },
        )
      ]

  -- a least table weighs every word as its source
  pub least_alike : WeighAlike G l t
  least_alike =
      record {
        letters = least.letters;
        words =
            λ w h.
            let word = word_in_source w h in
            let f = weight_from G t t.start w in
            let leads : weight_from G l l.start w ≡ weight_from G l (least.class t.start) w =
            ap (λ i. weight_from G l i w) least.start in
            elim (reachable_decided t.start (start_reachable t)) [
              | inl live ↦
                  (let x = push_there G t (lawful_closed t lawful) t.start live in
                  ap (scaled G l.start_weight) (leads ∙ normal_form t.start x.0 (start_reachable t) x.1 w word)
                  ∙ scaled_twice G l.start_weight (G.inv x.0) f
                  ∙ ap (λ k. scaled G k f)
                  (ap (λ k. G.mul k (G.inv x.0)) (least.start_weight.live x.0 x.1)
                  ∙ mul_inv_back G t.start_weight x.0))
              | inr dead ↦
                  ap (scaled G l.start_weight) (leads ∙ dead_class_weighs t.start w (start_reachable t) dead word)
                  ∙ sym (ap (scaled G t.start_weight) (dead_weighs G t t.start w dead word))
            ];
      }

  -- two states with equivalent classes are equivalent
  pub classes_apart :
      (q p : ℕ) → Reachable t q → Reachable t p → Equivalent G l (least.class q) (least.class p) → Equivalent G t q p
  classes_apart q p r s e =
      let x = class_multiple q r in
      let y = class_multiple p s in
      let f = weight_from G l (least.class q) in
      let g = weight_from G l (least.class p) in
      let by : Multiple G t.letters 0 e.factor f g = subst (λ n. Multiple G n 0 e.factor f g) least.letters e.by in
      record {
        factor = G.mul (G.inv x.0) (G.mul e.factor y.0);
        by = multiple_trans (multiple_sym x.1) (multiple_trans by y.1);
      }

  -- its states are pairwise not equivalent
  pub least_apart : (q p : ℕ) → q < l.states → p < l.states → Equivalent G l q p → q ≡ p
  least_apart i j m n e =
      let x = least.class_met i m in
      let y = least.class_met j n in
      let e' : Equivalent G l (least.class x.0) (least.class y.0) =
      subst (λ k. Equivalent G l k (least.class y.0)) (sym x.2) (subst (Equivalent G l i) (sym y.2) e) in
      sym x.2 ∙ least.one_class x.0 y.0 x.1 y.1 (classes_apart x.0 y.0 x.1 y.1 e') ∙ y.2

  -- the smallest word that a class accepts is the smallest that the state does
  pub class_smallest : (q : ℕ) (w : List ℕ) → Reachable t q → Smallest l (least.class q) w → Smallest t q w
  class_smallest q w r s =
      let word = word_in_source w s.is_word in
      record {
        is_word = word;
        accepted = sym (class_accepts q w r word) ∙ s.accepted;
        least = λ v h a less. s.least v (word_in_least v h) (class_accepts q v r h ∙ a) less;
      }

  -- the push of a class is one
  class_push : (q : ℕ) (u : G.Mean) → Reachable t q → Push G l (least.class q) u → u ≡ G.one
  class_push q u r p =
      elim (reachable_decided q r) [
        | inl live ↦
            (let x = push_there G t (lawful_closed t lawful) q live in
            let s = class_smallest q p.word r p.smallest in
            let weighs : weight_from G t q p.word ≡ Some x.0 =
            ap (weight_from G t q) (smallest_unique t q p.word x.1.word s x.1.smallest) ∙ x.1.weighs in
            some_injective (
            sym p.weighs
            ∙ normal_form q x.0 r x.1 p.word s.is_word
            ∙ ap (scaled G (G.inv x.0)) weighs)
            ∙ G.inv_left x.0)
        | inr dead ↦
            absurd (live_not_dead l (least.class q)
            (record { by = p.word; is_word = p.smallest.is_word; accepted = p.smallest.accepted }) (class_dead q r dead))
      ]

  -- each push is one
  pub least_pushes : (q : ℕ) (u : G.Mean) → q < l.states → Push G l q u → u ≡ G.one
  least_pushes i u m p =
      let x = least.class_met i m in class_push x.0 u x.1 (subst (λ k. Push G l k u) (sym x.2) p)

  -- what weighs long words as the source weighs them as the least table does
  pub least_alike_from : (n : ℕ) (b : Table G.Mean) → WeighAlikeFrom G n t b → WeighAlikeFrom G n l b
  least_alike_from n b x =
      record {
        letters = least.letters ∙ x.letters;
        words = λ w h m. least_alike.words w h ∙ x.words w (word_in_source w h) m;
      }

  -- no closed table that weighs every word as its source has fewer states
  least_fewest : (b : Table G.Mean) → Closed b → WeighAlike G t b → l.states ≤ b.states
  least_fewest b closed x =
      let alike : WeighAlikeFrom G 0 l b = least_alike_from 0 b (alike_from G 0 t b x) in
      elim (cases_lt b.states l.states) [
        | inr enough ↦ enough
        | inl fewer ↦
            (let two =
            two_alike l.states b.states (λ i m. led b b.start (least_reachable i m).by) fewer
            (λ i m.
            led_inside b closed b.start (least_reachable i m).by closed.start_inside
            (subst (λ s. Word s (least_reachable i m).by) alike.letters (least_reachable i m).is_word)) in
            let x = least_reachable two.0 two.2 in
            let y = least_reachable two.1 two.3 in
            let same = one_state G l b 0 alike two.0 two.1 x.by y.by x.is_word y.is_word x.leads y.leads two.5 in
            let none : 0 - length x.by + (0 - length y.by) ≡ 0 = omega arith in
            let clash : two.0 ≡ two.1 =
            least_apart two.0 two.1 two.2 two.3
            (record {
              factor = same.0;
              by = subst (λ n. Multiple G l.letters n same.0 (weight_from G l two.0) (weight_from G l two.1)) none same.1;
            }) in
            absurd (omega (arith, two.4)))
      ]

pub least_is_minimal : (G : Group) → LeastIsMinimal G
least_is_minimal G t l lawful least =
    record {
      alike = least_alike G t l lawful least;
      apart = least_apart G t l lawful least;
      pushes = least_pushes G t l lawful least;
      fewest = least_fewest G t l lawful least;
    }
