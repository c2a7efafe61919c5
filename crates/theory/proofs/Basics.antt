-- Factors, words one after another, and multiples. Assumes nothing.
use Rattle.std.proofs.Common.{◌≡◌, ℕ, ◌+◌, ◌-◌, ◌<◌, ◌≤◌, Bool, true, false, List, [], ◌∷◌, ◌++◌, length, take, drop, Some, None, Option, sym, refl, ap, ◌∙◌, subst, arith}
use Rattle.std.proofs.lemmas.List.{length-append, take-append-drop}
use Rattle.weights.specs.Codes.{within}
use Rattle.weights.specs.Group.{Group}
use Rattle.weights.proofs.Groups.{one_right, inv_right}
use Rattle.tables.specs.Table.{Table, Lawful, Word, scaled, weight_from, WeighAlike}
use Rattle.tables.proofs.Reading.{scaled_twice, within_true, some_injective}
use Rattle.theory.specs.Runs.{led, accepts, Closed, Reachable}
use Rattle.theory.specs.Series.{Series, Multiple, AlmostMultiple, AlmostBy, AlmostEquivalent, WeighAlikeFrom, AlmostWeighAlike}
use Rattle.theory.proofs.Lengths.{all_longer, all_but_finitely_many}

-- start and arcs of a lawful table stay inside
pub lawful_closed : {M : Type 0} (t : Table M) → Lawful t → Closed t
lawful_closed t l = record { start_inside = l.start_inside; target_inside = l.target_inside }

-- factors
module _ (G : Group) where
  pub inv_cancels : (k x : G.Mean) → G.mul (G.inv k) (G.mul k x) ≡ x
  inv_cancels k x = sym (G.assoc (G.inv k) k x) ∙ ap (λ y. G.mul y x) (G.inv_left k) ∙ G.one_left x

  pub cancels_inv : (k x : G.Mean) → G.mul k (G.mul (G.inv k) x) ≡ x
  cancels_inv k x = sym (G.assoc k (G.inv k) x) ∙ ap (λ y. G.mul y x) (inv_right G k) ∙ G.one_left x

  -- a factor that is taken back
  pub mul_inv_back : (x v : G.Mean) → G.mul (G.mul x v) (G.inv v) ≡ x
  mul_inv_back x v = G.assoc x v (G.inv v) ∙ ap (G.mul x) (inv_right G v) ∙ one_right G x

  -- a factor is told by its product with any weight
  pub factor_told : (k l x : G.Mean) → G.mul k x ≡ G.mul l x → k ≡ l
  factor_told k l x e =
      sym (one_right G k)
      ∙ ap (G.mul k) (sym (inv_right G x))
      ∙ sym (G.assoc k x (G.inv x))
      ∙ ap (λ y. G.mul y (G.inv x)) e
      ∙ G.assoc l x (G.inv x)
      ∙ ap (G.mul l) (inv_right G x)
      ∙ one_right G l

  pub scaled_one : (o : Option G.Mean) → scaled G G.one o ≡ o
  scaled_one (Some x) = ap Some (G.one_left x)
  scaled_one None = refl

  pub scaled_back : (k : G.Mean) (o : Option G.Mean) → scaled G (G.inv k) (scaled G k o) ≡ o
  scaled_back k (Some x) = ap Some (inv_cancels k x)
  scaled_back k None = refl

  -- where two factors give one option, the one factor times the quotient does too
  pub scaled_moved : (k l : G.Mean) (o p : Option G.Mean) → scaled G k o ≡ scaled G l p → o ≡ scaled G (G.mul (G.inv k) l) p
  scaled_moved k l o p e = sym (scaled_back k o) ∙ ap (scaled G (G.inv k)) e ∙ scaled_twice G (G.inv k) l p

  -- a factor is told by what it gives of a weight that is there
  pub scaled_told : (k l x : G.Mean) (o p : Option G.Mean) → o ≡ Some x → p ≡ Some x → scaled G k o ≡ scaled G l p → k ≡ l
  scaled_told k l x o p e f same = factor_told k l x (some_injective (sym (ap (scaled G k) e) ∙ same ∙ ap (scaled G l) f))

-- words one after another
pub word_append : (s : ℕ) (u v : List ℕ) → Word s u → Word s v → Word s (u ++ v)
word_append s [] v h k = k
word_append s (a ∷ u) v h k = (h.0, word_append s u v h.1 k)

pub word_left : (s : ℕ) (u v : List ℕ) → Word s (u ++ v) → Word s u
word_left s [] v h = tt
word_left s (a ∷ u) v h = (h.0, word_left s u v h.1)

pub word_right : (s : ℕ) (u v : List ℕ) → Word s (u ++ v) → Word s v
word_right s [] v h = h
word_right s (a ∷ u) v h = word_right s u v h.1

pub word_take : (s i : ℕ) (w : List ℕ) → Word s w → Word s (take i w)
word_take s i w h = word_left s (take i w) (drop i w) (subst (Word s) (sym (take-append-drop i w)) h)

pub word_drop : (s i : ℕ) (w : List ℕ) → Word s w → Word s (drop i w)
word_drop s i w h = word_right s (take i w) (drop i w) (subst (Word s) (sym (take-append-drop i w)) h)

module _ {M : Type 0} (t : Table M) where
  -- a word that goes on from where another led
  pub led_append : (q : ℕ) (u v : List ℕ) → led t q (u ++ v) ≡ led t (led t q u) v
  led_append q [] v = refl
  led_append q (a ∷ u) v = led_append (t.target q a) u v

  -- a word leads from a state of a closed table to one
  pub led_inside : Closed t → (q : ℕ) (w : List ℕ) → q < t.states → Word t.letters w → led t q w < t.states
  led_inside c q [] l h = l
  led_inside c q (a ∷ w) l h = led_inside c (t.target q a) w (c.target_inside q a l h.0) h.1

  pub reachable_inside : Closed t → (q : ℕ) → Reachable t q → q < t.states
  reachable_inside c q r = subst (λ p. p < t.states) r.leads (led_inside c t.start r.by c.start_inside r.is_word)

  -- the start is reachable, and so is where a word or an arc leads from a reachable state
  pub start_reachable : Reachable t t.start
  start_reachable = record { by = []; is_word = tt; leads = refl }

  pub reachable_by : (q : ℕ) (w : List ℕ) → Reachable t q → Word t.letters w → Reachable t (led t q w)
  reachable_by q w r h =
      record {
        by = r.by ++ w;
        is_word = word_append t.letters r.by w r.is_word h;
        leads = led_append t.start r.by w ∙ ap (λ p. led t p w) r.leads;
      }

  pub reachable_next : (q a : ℕ) → Reachable t q → a < t.letters → Reachable t (t.target q a)
  reachable_next q a r h = reachable_by q (a ∷ []) r (h, tt)

module _ (G : Group) (t : Table G.Mean) where
  -- the product of the weights along a word
  abbrev pub walked : ℕ → List ℕ → G.Mean
  walked q [] = G.one
  walked q (a ∷ w) = G.mul (t.weight q a) (walked (t.target q a) w)

  -- the weight from a state is that along the word, if the word is accepted
  pub weight_walked : (q : ℕ) (w : List ℕ) → weight_from G t q w ≡ within (accepts t q w) (walked q w)
  weight_walked q [] = refl
  weight_walked q (a ∷ w) =
      ap (scaled G (t.weight q a)) (weight_walked (t.target q a) w)
      ∙ scaled_within (t.weight q a) (accepts t (t.target q a) w) (walked (t.target q a) w)
    where
      scaled_within : (k : G.Mean) (b : Bool) (x : G.Mean) → scaled G k (within b x) ≡ within b (G.mul k x)
      scaled_within k true x = refl
      scaled_within k false x = refl

  -- a word that is not accepted has no weight
  pub not_accepted : (q : ℕ) (w : List ℕ) → accepts t q w ≡ false → weight_from G t q w ≡ None
  not_accepted q w e = weight_walked q w ∙ ap (λ b. within b (walked q w)) e

  -- an accepted word has the weight along it
  pub accepted_weighs : (q : ℕ) (w : List ℕ) → accepts t q w ≡ true → weight_from G t q w ≡ Some (walked q w)
  accepted_weighs q w a = weight_walked q w ∙ within_true (accepts t q w) (walked q w) a

  -- the weight of two words is what the first weighs, times the weight of the second from where the first leads
  pub weight_append :
      (q : ℕ) (u v : List ℕ) → weight_from G t q (u ++ v) ≡ scaled G (walked q u) (weight_from G t (led t q u) v)
  weight_append q [] v = sym (scaled_one G (weight_from G t q v))
  weight_append q (a ∷ u) v =
      ap (scaled G (t.weight q a)) (weight_append (t.target q a) u v)
      ∙ scaled_twice G (t.weight q a) (walked (t.target q a) u) (weight_from G t (led t (t.target q a) u) v)

-- multiples of a series: by one, back, in steps, and from a later length on
pub multiple_refl : (G : Group) (s n : ℕ) (f : Series G) → Multiple G s n G.one f f
multiple_refl G s n f = record { words = λ w h l. sym (scaled_one G (f w)) }

module _ {G : Group} {s : ℕ} where
  pub multiple_sym : {n : ℕ} {k : G.Mean} {f g : Series G} → Multiple G s n k f g → Multiple G s n (G.inv k) g f
  multiple_sym {n} {k} {f} {g} m =
      record { words = λ w h l. sym (ap (scaled G (G.inv k)) (m.words w h l) ∙ scaled_back G k (g w)) }

  pub multiple_trans :
      {n : ℕ} {k l : G.Mean} {f g h : Series G} → Multiple G s n k f g → Multiple G s n l g h → Multiple G s n (G.mul k l) f h
  multiple_trans {n} {k} {l} {f} {g} {h} m m' =
      record { words = λ w o r. m.words w o r ∙ ap (scaled G k) (m'.words w o r) ∙ scaled_twice G k l (h w) }

  pub multiple_later : {n m : ℕ} {k : G.Mean} {f g : Series G} → n ≤ m → Multiple G s n k f g → Multiple G s m k f g
  multiple_later {n} {m} {k} {f} {g} e x = record { words = λ w h r. x.words w h (omega arith) }

-- a multiple from some length on
pub record MultipleFrom (G : Group) (s : ℕ) (k : G.Mean) (f g : Series G) : Type 0 where
  pub from : ℕ
  pub multiple : Multiple G s from k f g

-- is one on all words but finitely many, and the other way round
module _ {G : Group} {s : ℕ} where
  pub almost_multiple : {n : ℕ} {k : G.Mean} {f g : Series G} → Multiple G s n k f g → AlmostMultiple G s k f g
  almost_multiple {n} m = record { words = all_but_finitely_many n m.words }

  pub multiple_from : {k : G.Mean} {f g : Series G} → AlmostMultiple G s k f g → MultipleFrom G s k f g
  multiple_from a = let x = all_longer a.words in record { from = x.0; multiple = record { words = x.1 } }

-- multiples of what two tables weigh words as
module _ (G : Group) (t u : Table G.Mean) {s n : ℕ} {k : G.Mean} (q p : ℕ) where
  -- after a word: what it weighs in the one table is taken away, and what it weighs in the other is added
  pub multiple_after :
      (v : List ℕ) → Word s v → Multiple G s n k (weight_from G t q) (weight_from G u p) →
      Multiple G s (n - length v) (G.mul (G.inv (walked G t q v)) (G.mul k (walked G u p v))) (weight_from G t (led t q v)) (weight_from G u (led u p v))
  multiple_after v word m =
      record {
        words =
            λ w h l.
            let y = walked G u p v in
            let g = weight_from G u (led u p v) w in
            scaled_moved G (walked G t q v) (G.mul k y) (weight_from G t (led t q v) w) g
            (sym (weight_append G t q v w)
            ∙ m.words (v ++ w) (word_append s v w word h) (omega (arith, length-append v w))
            ∙ ap (scaled G k) (weight_append G u p v w)
            ∙ scaled_twice G k y g);
      }

  -- a word is accepted from both or from neither
  pub multiple_accepts :
      Multiple G s n k (weight_from G t q) (weight_from G u p) → (w : List ℕ) → Word s w →
      n ≤ length w → accepts t q w ≡ accepts u p w
  multiple_accepts m w h l =
      alike (accepts t q w) (accepts u p w) (walked G t q w) (walked G u p w)
      (sym (weight_walked G t q w) ∙ m.words w h l ∙ ap (scaled G k) (weight_walked G u p w))
    where
      alike : (b c : Bool) (x y : G.Mean) → within b x ≡ scaled G k (within c y) → b ≡ c
      alike true true x y e = refl
      alike true false x y e = absurd cc
      alike false true x y e = absurd cc
      alike false false x y e = refl

-- tables that weigh every word alike weigh long words alike
pub alike_from : (G : Group) (n : ℕ) (t u : Table G.Mean) → WeighAlike G t u → WeighAlikeFrom G n t u
alike_from G n t u x = record { letters = x.letters; words = λ w h l. x.words w h }

-- to weigh all words from some length on alike is to weigh all but finitely many alike, and the other way round
pub almost_alike : (G : Group) (n : ℕ) (t u : Table G.Mean) → WeighAlikeFrom G n t u → AlmostWeighAlike G t u
almost_alike G n t u x = record { letters = x.letters; words = all_but_finitely_many n x.words }

pub alike_from_length : (G : Group) (t u : Table G.Mean) → AlmostWeighAlike G t u → (n : ℕ) × WeighAlikeFrom G n t u
alike_from_length G t u x = let long = all_longer x.words in (long.0, record { letters = x.letters; words = long.1 })

-- two tables that weigh all words of at least n letters alike
module _ (G : Group) (t u : Table G.Mean) (n : ℕ) (alike : WeighAlikeFrom G n t u) where
  -- so do their starts, up to the quotient of the start weights
  pub starts_multiple :
      Multiple G t.letters n (G.mul (G.inv t.start_weight) u.start_weight) (weight_from G t t.start) (weight_from G u u.start)
  starts_multiple =
      record {
        words =
            λ w h l.
            scaled_moved G t.start_weight u.start_weight (weight_from G t t.start w) (weight_from G u u.start w) (alike.words w h l);
      }

  -- from two states of t whose words lead u to one state, words weigh alike up to a factor, from some length on
  pub one_state :
      (q p : ℕ) (v w : List ℕ) → Word t.letters v → Word t.letters w → led t t.start v ≡ q → led t t.start w ≡ p →
      led u u.start v ≡ led u u.start w →
      (k : G.Mean) × Multiple G t.letters (n - length v + (n - length w)) k (weight_from G t q) (weight_from G t p)
  one_state q p v w hv hw ev ew e =
      let s = t.letters in
      let k = G.mul (G.inv t.start_weight) u.start_weight in
      let kv = G.mul (G.inv (walked G t t.start v)) (G.mul k (walked G u u.start v)) in
      let kw = G.mul (G.inv (walked G t t.start w)) (G.mul k (walked G u u.start w)) in
      let g = weight_from G u (led u u.start w) in
      let x : Multiple G s (n - length v) kv (weight_from G t q) g =
      subst (λ y. Multiple G s (n - length v) kv (weight_from G t y) g) ev
      (subst (λ y. Multiple G s (n - length v) kv (weight_from G t (led t t.start v)) (weight_from G u y)) e
      (multiple_after G t u t.start u.start v hv starts_multiple)) in
      let y : Multiple G s (n - length w) kw (weight_from G t p) g =
      subst (λ y. Multiple G s (n - length w) kw (weight_from G t y) g) ew
      (multiple_after G t u t.start u.start w hw starts_multiple) in (
        G.mul kv (G.inv kw),
        multiple_trans (multiple_later (omega arith) x) (multiple_sym (multiple_later (omega arith) y)),
      )

-- almost-equivalence is an equivalence
module _ (G : Group) (t : Table G.Mean) where
  pub almost_by_itself : (q : ℕ) → AlmostBy G t G.one q q
  almost_by_itself q = almost_multiple (multiple_refl G t.letters 0 (weight_from G t q))

  pub almost_by_sym : (k : G.Mean) (q p : ℕ) → AlmostBy G t k q p → AlmostBy G t (G.inv k) p q
  almost_by_sym k q p x = almost_multiple (multiple_sym (multiple_from x).multiple)

  pub almost_by_trans : (k m : G.Mean) (q p o : ℕ) → AlmostBy G t k q p → AlmostBy G t m p o → AlmostBy G t (G.mul k m) q o
  almost_by_trans k m q p o x y =
      let a = multiple_from x in
      let b = multiple_from y in
      almost_multiple {n = a.from + b.from}
      (multiple_trans (multiple_later (omega arith) a.multiple) (multiple_later (omega arith) b.multiple))

  -- a letter leads them to such
  pub almost_by_next :
      (k : G.Mean) (q p a : ℕ) → a < t.letters → AlmostBy G t k q p →
      AlmostBy G t (G.mul (G.inv (walked G t q (a ∷ []))) (G.mul k (walked G t p (a ∷ [])))) (t.target q a) (t.target p a)
  almost_by_next k q p a l x = almost_multiple (multiple_after G t t q p (a ∷ []) (l, tt) (multiple_from x).multiple)

  pub almost_refl : (q : ℕ) → AlmostEquivalent G t q q
  almost_refl q = record { factor = G.one; by = almost_by_itself q }

  pub almost_sym : (q p : ℕ) → AlmostEquivalent G t q p → AlmostEquivalent G t p q
  almost_sym q p e = record { factor = G.inv e.factor; by = almost_by_sym e.factor q p e.by }

  pub almost_trans : (q p o : ℕ) → AlmostEquivalent G t q p → AlmostEquivalent G t p o → AlmostEquivalent G t q o
  almost_trans q p o e d =
      record { factor = G.mul e.factor d.factor; by = almost_by_trans e.factor d.factor q p o e.by d.by }

  pub almost_next : (q p a : ℕ) → a < t.letters → AlmostEquivalent G t q p → AlmostEquivalent G t (t.target q a) (t.target p a)
  almost_next q p a l e =
      record {
        factor = G.mul (G.inv (walked G t q (a ∷ []))) (G.mul e.factor (walked G t p (a ∷ [])));
        by = almost_by_next e.factor q p a l e.by;
      }
