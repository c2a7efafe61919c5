-- A table that is mapped onto another, with a factor for each state, has its least tables. Assumes nothing.
use Rattle.std.proofs.Common.{◌≡◌, ℕ, ◌<◌, Bool, true, false, not, ◌||◌, ltb, eqb, List, [], ◌∷◌, Some, sym, refl, ap, ◌∙◌, subst, arith}
use Rattle.std.specs.Bool.{beq}
use Rattle.std.specs.Cmp.{booleans_Decides}
use Rattle.std.proofs.lemmas.Bool.{ltb-true, eqb-true}
use Rattle.weights.specs.Codes.{within}
use Rattle.weights.specs.Group.{Group}
use Rattle.weights.specs.Numbers.{chosen_path}
use Rattle.weights.specs.Wheel.{places}
use Rattle.tables.specs.Table.{Table, Word, scaled, weight_from}
use Rattle.tables.proofs.Reading.{scaled_twice}
use Rattle.theory.specs.Runs.{led, accepts, Reachable, Dead}
use Rattle.theory.specs.Series.{Multiple, Equivalent}
use Rattle.theory.specs.Push.{Push}
use Rattle.theory.specs.Least.{Least}
use Rattle.theory.proofs.Basics.{inv_cancels, cancels_inv, multiple_sym, multiple_trans, multiple_accepts}
use Rattle.theory.proofs.Tests.{all_below, all_both, at_each, at_both, given, Coded, same, same_there}

-- The first n states of t hold its start, and no arc leaves them. Each has a class, which is a state of u, and a factor: its words
-- weigh the factor times what they do from its class.
pub record Quotient (G : Group) (t u : Table G.Mean) (n : ℕ) (class : ℕ → ℕ) (factor : ℕ → G.Mean) : Type 0 where
  pub start_inside : t.start < n
  pub target_inside : (q a : ℕ) → q < n → a < t.letters → t.target q a < n
  pub letters : u.letters ≡ t.letters
  pub start : u.start ≡ class t.start
  pub start_weight : u.start_weight ≡ G.mul t.start_weight (factor t.start)
  pub final : (q : ℕ) → q < n → u.final (class q) ≡ t.final q
  pub target : (q a : ℕ) → q < n → a < t.letters → u.target (class q) a ≡ class (t.target q a)
  pub weight :
      (q a : ℕ) → q < n → a < t.letters →
      G.mul (t.weight q a) (factor (t.target q a)) ≡ G.mul (factor q) (u.weight (class q) a)
  -- the empty word weighs one from a state and from its class
  pub one : (q : ℕ) → q < n → t.final q ≡ true → factor q ≡ G.one

module _ (G : Group) where
  -- a factor between two others that is taken back
  taken_back : (x f y : G.Mean) → G.mul (G.mul x f) (G.mul (G.inv f) y) ≡ G.mul x y
  taken_back x f y = G.assoc x f (G.mul (G.inv f) y) ∙ ap (G.mul x) (cancels_inv G f y)

  -- an arc's new weight is the same by either table: x and y are pushes, f and k the factors of its target and its state
  pushed_alike :
      (f k old new x y : G.Mean) → G.mul old f ≡ G.mul k new →
      G.mul (G.inv (G.mul (G.inv k) x)) (G.mul new (G.mul (G.inv f) y)) ≡ G.mul (G.inv x) (G.mul old y)
  pushed_alike f k old new x y e =
      let v = G.mul new (G.mul (G.inv f) y) in
      let z = G.mul (G.inv x) (G.mul old y) in
      let p = G.mul (G.inv k) x in
      let moved : G.mul old y ≡ G.mul k v =
      sym (taken_back old f y) ∙ ap (λ s. G.mul s (G.mul (G.inv f) y)) e ∙ G.assoc k new (G.mul (G.inv f) y) in
      let told : v ≡ G.mul p z =
      sym (taken_back (G.inv k) x (G.mul old y) ∙ ap (G.mul (G.inv k)) moved ∙ inv_cancels G k v) in
      ap (G.mul (G.inv p)) told ∙ inv_cancels G p z

  -- the empty word
  empty_alike : (b : Bool) (k : G.Mean) → (b ≡ true → k ≡ G.one) → within b G.one ≡ scaled G k (within b G.one)
  empty_alike true k one = ap Some (sym (ap (λ x. G.mul x G.one) (one refl) ∙ G.one_left G.one))
  empty_alike false k one = refl

module _ (G : Group) (t u : Table G.Mean) (n : ℕ) (class : ℕ → ℕ) (factor : ℕ → G.Mean) (m : Quotient G t u n class factor) where
  -- words of one are words of the other
  here : (w : List ℕ) → Word t.letters w → Word u.letters w
  here w h = subst (λ s. Word s w) (sym m.letters) h

  there : (w : List ℕ) → Word u.letters w → Word t.letters w
  there w h = subst (λ s. Word s w) m.letters h

  -- and lead to the class of where they lead
  led_inside : (q : ℕ) (w : List ℕ) → q < n → Word t.letters w → led t q w < n
  led_inside q [] l h = l
  led_inside q (a ∷ w) l h = led_inside (t.target q a) w (m.target_inside q a l h.0) h.1

  led_alike : (q : ℕ) (w : List ℕ) → q < n → Word t.letters w → led u (class q) w ≡ class (led t q w)
  led_alike q [] l h = refl
  led_alike q (a ∷ w) l h =
      ap (λ p. led u p w) (m.target q a l h.0) ∙ led_alike (t.target q a) w (m.target_inside q a l h.0) h.1

  start_alike : (w : List ℕ) → Word t.letters w → led u u.start w ≡ class (led t t.start w)
  start_alike w h = ap (λ p. led u p w) m.start ∙ led_alike t.start w m.start_inside h

  inside : (q : ℕ) → Reachable t q → q < n
  inside q r = subst (λ p. p < n) r.leads (led_inside t.start r.by m.start_inside r.is_word)

  reached : (q : ℕ) → Reachable t q → Reachable u (class q)
  reached q r =
      record { by = r.by; is_word = here r.by r.is_word; leads = start_alike r.by r.is_word ∙ ap class r.leads }

  -- a word weighs from a state its factor times what it weighs from the class
  weighs_alike :
      (q : ℕ) (w : List ℕ) → q < n → Word t.letters w → weight_from G t q w ≡ scaled G (factor q) (weight_from G u (class q) w)
  weighs_alike q [] l h =
      empty_alike G (t.final q) (factor q) (m.one q l) ∙ ap (λ b. scaled G (factor q) (within b G.one)) (sym (m.final q l))
  weighs_alike q (a ∷ w) l h =
      let r = t.target q a in
      let o = weight_from G u (class r) w in
      ap (scaled G (t.weight q a)) (weighs_alike r w (m.target_inside q a l h.0) h.1)
      ∙ scaled_twice G (t.weight q a) (factor r) o
      ∙ ap (λ k. scaled G k o) (m.weight q a l h.0)
      ∙ sym (scaled_twice G (factor q) (u.weight (class q) a) o)
      ∙ ap (λ p. scaled G (factor q) (scaled G (u.weight (class q) a) (weight_from G u p w))) (sym (m.target q a l h.0))

  multiple : (q : ℕ) → q < n → Multiple G t.letters 0 (factor q) (weight_from G t q) (weight_from G u (class q))
  multiple q l = record { words = λ w h long. weighs_alike q w l h }

  accepts_alike : (q : ℕ) (w : List ℕ) → q < n → Word t.letters w → accepts t q w ≡ accepts u (class q) w
  accepts_alike q w l h = multiple_accepts G t u q (class q) (multiple q l) w h (omega arith)

  -- states and their classes are dead, have pushes and are equivalent alike
  dead_here : (q : ℕ) → q < n → Dead t q → Dead u (class q)
  dead_here q l d =
      record { none = λ w h. sym (accepts_alike q w l (there w h)) ∙ d.none w (there w h) }

  push_here : (q : ℕ) (x : G.Mean) → q < n → Push G t q x → Push G u (class q) (G.mul (G.inv (factor q)) x)
  push_here q x l p =
      let w = p.smallest.is_word in
      record {
        word = p.word;
        smallest =
            record {
              is_word = here p.word w;
              accepted = sym (accepts_alike q p.word l w) ∙ p.smallest.accepted;
              least = λ v h a. p.smallest.least v (there v h) (accepts_alike q v l (there v h) ∙ a);
            };
        weighs =
            (multiple_sym (multiple q l)).words p.word w (omega arith) ∙ ap (scaled G (G.inv (factor q))) p.weighs;
      }

  equivalent_here : (q p : ℕ) → q < n → p < n → Equivalent G t q p → Equivalent G u (class q) (class p)
  equivalent_here q p l k e =
      let f = G.mul (G.inv (factor q)) (G.mul e.factor (factor p)) in
      record {
        factor = f;
        by =
            subst (λ s. Multiple G s 0 f (weight_from G u (class q)) (weight_from G u (class p))) (sym m.letters)
            (multiple_trans (multiple_sym (multiple q l)) (multiple_trans e.by (multiple p k)));
      }

  equivalent_there : (q p : ℕ) → q < n → p < n → Equivalent G u (class q) (class p) → Equivalent G t q p
  equivalent_there q p l k e =
      record {
        factor = G.mul (factor q) (G.mul e.factor (G.inv (factor p)));
        by =
            multiple_trans (multiple q l)
            (multiple_trans
            (subst (λ s. Multiple G s 0 e.factor (weight_from G u (class q)) (weight_from G u (class p))) m.letters e.by)
            (multiple_sym (multiple p k)));
      }

  pub quotient_least : (l : Table G.Mean) → Least G u l → Least G t l
  quotient_least l h =
      let letter : (a : ℕ) → a < t.letters → a < u.letters = λ a k. subst (λ s. a < s) (sym m.letters) k in
      record {
        letters = h.letters ∙ m.letters;
        class = λ q. h.class (class q);
        class_inside = λ q r. h.class_inside (class q) (reached q r);
        class_met =
            λ i k.
            let z = h.class_met i k in
            let w = there z.1.by z.1.is_word in (
              led t t.start z.1.by,
              record { by = z.1.by; is_word = w; leads = refl },
              ap h.class (sym (start_alike z.1.by w) ∙ z.1.leads) ∙ z.2,
            );
        one_class =
            λ q p r s e.
            h.one_class (class q) (class p) (reached q r) (reached p s) (equivalent_here q p (inside q r) (inside p s) e);
        equivalent =
            λ q p r s e.
            equivalent_there q p (inside q r) (inside p s) (h.equivalent (class q) (class p) (reached q r) (reached p s) e);
        start = h.start ∙ ap h.class m.start;
        final = λ q r. h.final (class q) (reached q r) ∙ m.final q (inside q r);
        target =
            λ q a r k. h.target (class q) a (reached q r) (letter a k) ∙ ap h.class (m.target q a (inside q r) k);
        weight_live =
            λ q a x y r k px py.
            let i = inside q r in
            let p = t.target q a in
            let v = G.mul (G.inv (factor p)) y in
            h.weight_live (class q) a (G.mul (G.inv (factor q)) x) v (reached q r) (letter a k) (push_here q x i px)
            (subst (λ o. Push G u o v) (sym (m.target q a i k)) (push_here p y (m.target_inside q a i k) py))
            ∙ pushed_alike G (factor p) (factor q) (t.weight q a) (u.weight (class q) a) x y (m.weight q a i k);
        weight_dead =
            λ q a r k d.
            let i = inside q r in
            h.weight_dead (class q) a (reached q r) (letter a k)
            (subst (Dead u) (sym (m.target q a i k)) (dead_here (t.target q a) (m.target_inside q a i k) d));
        start_weight =
            record {
              live =
                  λ y p.
                  let f = factor t.start in
                  let v = G.mul (G.inv f) y in
                  h.start_weight.live v (subst (λ o. Push G u o v) (sym m.start) (push_here t.start y m.start_inside p))
                  ∙ ap (λ s. G.mul s v) m.start_weight
                  ∙ taken_back G t.start_weight f y;
              dead = λ d. h.start_weight.dead (subst (Dead u) (sym m.start) (dead_here t.start m.start_inside d));
            };
        order = h.order;
      }

-- the places of a wheel are numbers
abbrev pub coded : (k : ℕ) (pos : 0 < k) → Coded (places k pos)
coded k pos = record { number = λ x. x.at; injective = chosen_path }

-- the same, by tests
pub record QuotientTests (G : Group) (c : Coded G) (t u : Table G.Mean) (n : ℕ) (class : ℕ → ℕ) (factor : ℕ → G.Mean) : Type 0 where
  pub start_inside : ltb t.start n ≡ true
  pub target_inside : all_both (λ q a. ltb (t.target q a) n) n t.letters ≡ true
  pub letters : u.letters ≡ t.letters
  pub start : u.start ≡ class t.start
  pub start_weight : same G c u.start_weight (G.mul t.start_weight (factor t.start)) ≡ true
  pub final : all_below (λ q. beq (u.final (class q)) (t.final q)) n ≡ true
  pub target : all_both (λ q a. eqb (u.target (class q) a) (class (t.target q a))) n t.letters ≡ true
  pub weight :
      all_both
      (λ q a. same G c (G.mul (t.weight q a) (factor (t.target q a))) (G.mul (factor q) (u.weight (class q) a)))
      n t.letters ≡ true
  pub one : all_below (λ q. not (t.final q) || same G c (factor q) G.one) n ≡ true

pub tested_quotient :
    (G : Group) (c : Coded G) (t u : Table G.Mean) (n : ℕ) (class : ℕ → ℕ) (factor : ℕ → G.Mean) →
    QuotientTests G c t u n class factor → Quotient G t u n class factor
tested_quotient G c t u n class factor x =
    record {
      start_inside = ltb-true _ _ x.start_inside;
      target_inside = λ q a l k. ltb-true _ _ (at_both _ _ _ x.target_inside q a l k);
      letters = x.letters;
      start = x.start;
      start_weight = same_there G c _ _ x.start_weight;
      final = λ q l. (booleans_Decides (u.final (class q)) (t.final q)).0 (at_each _ _ x.final q l);
      target = λ q a l k. eqb-true _ _ (at_both _ _ _ x.target q a l k);
      weight = λ q a l k. same_there G c _ _ (at_both _ _ _ x.weight q a l k);
      one = λ q l e. same_there G c _ _ (given _ _ (at_each _ _ x.one q l) e);
    }
