-- Steps through a word. Assumes nothing.
use Rattle.std.proofs.Common.{◌≡◌, ℕ, suc, ◌<◌, ◌≤◌, Bool, true, false, ltb, List, [], ◌∷◌, length, drop, Some, None, Option, sym, refl, ap, ◌∙◌, ⊎_elim, arith}
use Rattle.std.proofs.lemmas.List.{at_drop_all}
use Rattle.std.proofs.lemmas.Bool.{cases_Bool, ltb-true, lt-ltb, and_from, cond-true, cond-false}
use Rattle.std.specs.Bool.{then_some}
use Rattle.weights.specs.Codes.{within}
use Rattle.weights.specs.Group.{Group, Kind}
use Rattle.weights.proofs.Groups.{one_right}
use Rattle.tables.specs.Table.{Table, has_arc, final_at, meant, scaled, weight_from, weight_of, no_letter_from}

-- where a list of bytes is a word, its first byte is a letter and the rest is a word
pub first_letter : (s i a : ℕ) (w : List ℕ) → no_letter_from s i (a ∷ w) ≡ None → (a < s) × (no_letter_from s (suc i) w ≡ None)
first_letter s i a w e =
    ⊎_elim (λ t. (ltb-true a s t, sym (cond-true (ltb a s) (no_letter_from s (suc i) w) (Some i) t) ∙ e))
    (λ f. let clash : Some i ≡ None = sym (cond-false (ltb a s) (no_letter_from s (suc i) w) (Some i) f) ∙ e in
    let z : ◌≡◌ {A = ℕ} 0 1 = cc in
    absurd (omega arith))
    (cases_Bool (ltb a s))

-- two factors on the left are one
pub scaled_twice : (G : Group) (k l : G.Mean) (o : Option G.Mean) → scaled G k (scaled G l o) ≡ scaled G (G.mul k l) o
scaled_twice G k l (Some x) = ap Some (sym (G.assoc k l x))
scaled_twice G k l None = refl

-- a test that holds gives the value
pub within_true : {X : Type 0} (b : Bool) (x : X) → b ≡ true → within b x ≡ Some x
within_true b x e = cond-true b (Some x) None e

pub some_injective : {X : Type 0} {x y : X} → Some x ≡ Some y → x ≡ y
some_injective e = cc

-- a value that a test gives or not means its meaning, given or not
pub meant_then_some : {E : Type 0} (K : Kind E) (b : Bool) (x : E) → meant K (then_some b x) ≡ within b (K.mean x)
meant_then_some K true x = refl
meant_then_some K false x = refl

-- a table has the arc of a state and a letter of its own
pub arc_there : {M : Type 0} (t : Table M) (q a : ℕ) → q < t.states → a < t.letters → has_arc t q a ≡ true
arc_there t q a hq ha = and_from (ltb q t.states) (ltb a t.letters) (lt-ltb q t.states hq) (lt-ltb a t.letters ha)

-- where a run stands before letter i of a word, in state q with product k
pub record Running (G : Group) (t : Table G.Mean) (w : List ℕ) (i q : ℕ) (k : G.Mean) : Type 0 where
  pub in_range : i ≤ length w
  pub inside : q < t.states
  pub rest_is_word : no_letter_from t.letters i (drop i w) ≡ None
  pub so_far : weight_of G t w ≡ scaled G k (weight_from G t q (drop i w))

-- one letter more of a run: what is left weighs, after the product so far, as the whole
pub run_more :
    (G : Group) (t : Table G.Mean) (whole : Option G.Mean) (k x k' : G.Mean) (q r a : ℕ) (w : List ℕ) →
    whole ≡ scaled G k (weight_from G t q (a ∷ w)) → x ≡ t.weight q a → r ≡ t.target q a → k' ≡ G.mul k x →
    whole ≡ scaled G k' (weight_from G t r w)
run_more G t whole k x k' q r a w before weighs leads product =
    before
    ∙ scaled_twice G k (t.weight q a) (weight_from G t (t.target q a) w)
    ∙ ap (λ y. scaled G (G.mul k y) (weight_from G t (t.target q a) w)) (sym weighs)
    ∙ ap (λ y. scaled G y (weight_from G t (t.target q a) w)) (sym product)
    ∙ ap (λ p. scaled G k' (weight_from G t p w)) (sym leads)

-- the product, if the state at the end of the word is final
ended : (G : Group) (t : Table G.Mean) (k : G.Mean) (q : ℕ) (b : Bool) → t.final q ≡ b → within b k ≡ scaled G k (weight_from G t q [])
ended G t k q true e = sym (ap (scaled G k) (within_true (t.final q) G.one e) ∙ ap Some (one_right G k))
ended G t k q false e = sym (ap (scaled G k) (cond-false (t.final q) (Some G.one) None e))

-- the end of a run
pub run_all :
    (G : Group) (t : Table G.Mean) (w : List ℕ) (i : ℕ) (k : G.Mean) (q : ℕ) (b : Bool) →
    length w ≤ i → q < t.states → weight_of G t w ≡ scaled G k (weight_from G t q (drop i w)) → final_at t q ≡ Some b →
    within b k ≡ weight_of G t w
run_all G t w i k q b past inside before tells =
    ended G t k q b (some_injective (sym (within_true (ltb q t.states) (t.final q) (lt-ltb q t.states inside)) ∙ tells))
    ∙ ap (scaled G k) (sym (at_drop_all (weight_from G t q) w i past))
    ∙ sym before
