-- Sums and inverses of places, round a wheel of any number of places. Assumes nothing.
use Rattle.std.proofs.Common.{◌≡◌, ℕ, ◌+◌, ◌-◌, ◌%◌, ◌<◌, ◌≤◌, sym, refl, ap, ◌∙◌, mod-lt, mod-eq_of_lt, arith}
use Rattle.std.proofs.Math.Nat.{mod-add-mod, add-mod-mod, add-mod_right, mod-mod, mod_self}
use Rattle.weights.specs.Numbers.{chosen_path}
use Rattle.weights.specs.Wheel.{place, add, back}

module _ (k : ℕ) (pos : 0 < k) where
  -- a sum of two places, as a number
  places_sum : (a b x y : ℕ) → x ≡ a % k → y ≡ b % k → (x + y) % k ≡ (a + b) % k
  places_sum a b x y left right =
      ap (λ n. (n + y) % k) left ∙ ap (λ n. (a % k + n) % k) right ∙ mod-add-mod a k (b % k) ∙ add-mod-mod a b k

  -- one that stays short of a whole round
  pub sum_short : (a b x y p : ℕ) → x ≡ a % k → y ≡ b % k → p ≡ k → x < p - y → x + y ≡ (a + b) % k
  sum_short a b x y p left right all l =
      let below : x + y < k = omega (arith, all, l) in sym (mod-eq_of_lt below) ∙ places_sum a b x y left right

  -- one that does not: a round is taken away
  pub sum_round : (a b x y p : ℕ) → x ≡ a % k → y ≡ b % k → p ≡ k → p - y ≤ x → x - (p - y) ≡ (a + b) % k
  sum_round a b x y p left right all l =
      let r : ℕ = x - (p - y) in
      let few : x < k = omega (arith, left, mod-lt a pos) in
      let few' : y < k = omega (arith, right, mod-lt b pos) in
      let below : r < k = omega (arith, few, few', all, l) in
      let whole : r + k ≡ x + y = omega (arith, few', all, l) in
      sym (mod-eq_of_lt below) ∙ sym (add-mod_right r k) ∙ ap (λ n. n % k) whole ∙ places_sum a b x y left right

  -- the places of a sum and of an inverse that are told as numbers
  pub place_of_sum : (a b r : ℕ) → r ≡ (a + b) % k → place k pos r ≡ add k pos (place k pos a) (place k pos b)
  place_of_sum a b r e =
      chosen_path _ _ (ap (λ n. n % k) e ∙ mod-mod (a + b) k ∙ sym (places_sum a b (a % k) (b % k) refl refl))

  pub place_of_inverse : (a r : ℕ) → r ≡ (k - a % k) % k → place k pos r ≡ back k pos (place k pos a)
  place_of_inverse a r e = chosen_path _ _ (ap (λ n. n % k) e ∙ mod-mod (k - a % k) k)

  -- the place of a sum that a round is taken away from, and of the inverse of place 0
  pub place_of_round :
      (a b x y p : ℕ) → x ≡ a % k → y ≡ b % k → p ≡ k → p - y ≤ x →
      place k pos (x - (p - y)) ≡ add k pos (place k pos a) (place k pos b)
  place_of_round a b x y p left right all l = place_of_sum a b (x - (p - y)) (sum_round a b x y p left right all l)

  pub place_of_first : (a x : ℕ) → x ≡ a % k → x ≡ 0 → place k pos 0 ≡ back k pos (place k pos a)
  place_of_first a x same none =
      let whole : k - a % k ≡ k = omega (arith, same, none) in
      place_of_inverse a 0 (sym (ap (λ n. n % k) whole ∙ mod_self k))

  -- places are the same where their numbers are
  pub place_alike : (a b : ℕ) → a % k ≡ b % k → place k pos a ≡ place k pos b
  place_alike a b e = chosen_path _ _ e

  pub place_number : (a b : ℕ) → place k pos a ≡ place k pos b → a % k ≡ b % k
  place_number a b e = ap (λ z. z.at) e
