-- What a ring weighs a word as. Assumes nothing.
use Rattle.std.proofs.Common.{◌≡◌, ℕ, suc, ◌+◌, ◌%◌, ◌<◌, Bool, true, false, eqb, List, [], ◌∷◌, length, Some, None, Option, refl, ap, ◌∙◌, mod-eq_of_lt, zero-add, arith}
use native.Mathlib.Nat.{add-mod_left}
use Rattle.std.proofs.lemmas.Bool.Decides.{nat_tests}
use Rattle.weights.specs.Codes.{within}
use Rattle.weights.specs.Group.{Group, Kind}
use Rattle.tables.specs.Table.{scaled, weight_from, weight_of}
use Rattle.sources.specs.Ring.{ring_verdict, ring_states, next, next_inside, ring_table, power, WeighsAsRing}
use Rattle.sources.specs.declared.ring.Ring.{Ring}

-- the state after q, and then l letters more, is where q and l + 1 letters lead
pub next_round : (n q l : ℕ) → q < n → (next n q + l) % n ≡ (q + suc l) % n
next_round n q l inside = grind (arith, nat_tests, add-mod_left)

scaled_within : (G : Group) (k x : G.Mean) (b : Bool) → scaled G k (within b x) ≡ within b (G.mul k x)
scaled_within G k x true = refl
scaled_within G k x false = refl

scaled_one : (G : Group) (o : Option G.Mean) → scaled G G.one o ≡ o
scaled_one G (Some x) = ap Some (G.one_left x)
scaled_one G None = refl

module _ {W : Type 0} (K : Kind W) (r : Ring W) where
  from_state :
      (q : ℕ) → q < ring_states r → (w : List ℕ) →
      weight_from K.group (ring_table K r) q w
      ≡ within (eqb ((q + length w) % ring_states r) 0) (power K.group (K.mean r.weight) (length w))
  from_state q inside [] = ap (λ j. within (eqb j 0) K.group.one) (grind (arith, mod-eq_of_lt inside))
  from_state q inside (a ∷ w) =
      let x : K.group.Mean = K.mean r.weight in
      let some : 0 < ring_states r = omega arith in
      ap (scaled K.group x) (from_state (next (ring_states r) q) (next_inside (ring_states r) q some) w)
      ∙ scaled_within K.group x (power K.group x (length w)) (eqb ((next (ring_states r) q + length w) % ring_states r) 0)
      ∙ ap (λ j. within (eqb j 0) (power K.group x (suc (length w)))) (next_round (ring_states r) q (length w) inside)

  -- the start weight is one
  pub ring_words :
      (w : List ℕ) →
      weight_of K.group (ring_table K r) w
      ≡ within (eqb (length w % ring_states r) 0) (power K.group (K.mean r.weight) (length w))
  ring_words w =
      let some : 0 < ring_states r = omega arith in
      scaled_one K.group (weight_from K.group (ring_table K r) 0 w)
      ∙ from_state 0 some w
      ∙ ap (λ j. within (eqb (j % ring_states r) 0) (power K.group (K.mean r.weight) (length w))) (zero-add (length w))

-- a ring that is made weighs as told
pub ring_weighs :
    {W : Type 0} (K : Kind W) (r : Ring W) → ring_verdict r.states r.letters ≡ None →
    WeighsAsRing K.group r.states r.letters (K.mean r.weight) (ring_table K r)
ring_weighs K r none =
    let all : ring_states r ≡ r.states = grind (arith, nat_tests) in
    record {
      letters = grind (arith, nat_tests);
      words =
          λ w _.
          ring_words K r w ∙ ap (λ m. within (eqb (length w % m) 0) (power K.group (K.mean r.weight) (length w))) all;
    }
