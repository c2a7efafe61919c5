-- The wheels: places below a fixed number, added round. The group is given for every number of places. Assumes nothing.
use Rattle.std.specs.Prelude.{◌≡◌, ℕ, ◌+◌, ◌-◌, ◌%◌, ◌<◌, nat_lt}
use Rattle.std.specs.NonZero.{non_zero_u16_get}
use Rattle.std.specs.declared.num.NonZeroU16.{NonZeroU16}
use Rattle.std.proofs.Common.{sym, ap, ◌∙◌, add_assoc, add_comm, zero-add, mod-lt, mod-eq_of_lt, arith, lit<}
use Rattle.std.proofs.Math.Nat.{mod-add-mod, add-mod-mod, add-mod_right}
use Rattle.std.proofs.lemmas.Bool.{lt-ltb, ltb-true}
use Rattle.weights.specs.Group.{Group, Kind, Commutes}
use Rattle.weights.specs.Numbers.{Chosen, chosen_path, chosen_decide}
use Rattle.weights.specs.declared.wheel.Wheel.{Wheel}
use Rattle.weights.specs.declared.beam_wheel.BeamWheel.{BeamWheel}

-- one of k places
abbrev pub Place : ℕ → Type 0
Place k = Chosen (λ n. nat_lt n k)

module _ (k : ℕ) (pos : 0 < k) where
  -- the place of any number, which is read modulo k
  abbrev pub place : ℕ → Place k
  place n = record { at = n % k; ok = lt-ltb (n % k) k (mod-lt n pos) }

  abbrev pub add : Place k → Place k → Place k
  add x y = place (x.at + y.at)

  abbrev pub back : Place k → Place k
  back x = place (k - x.at)

  pub add_assoc_law : (x y z : Place k) → add (add x y) z ≡ add x (add y z)
  add_assoc_law x y z =
      chosen_path _ _
      (mod-add-mod (x.at + y.at) k z.at
      ∙ ap (λ n. n % k) (add_assoc x.at y.at z.at)
      ∙ sym (add-mod-mod x.at (y.at + z.at) k))

  pub zero_left : (x : Place k) → add (place 0) x ≡ x
  zero_left x =
      chosen_path _ _
      (mod-add-mod 0 k x.at ∙ ap (λ n. n % k) (zero-add x.at) ∙ mod-eq_of_lt (ltb-true x.at k x.ok))

  pub back_left : (x : Place k) → add (back x) x ≡ place 0
  back_left x =
      let below : x.at < k = ltb-true x.at k x.ok in
      let whole : k - x.at + x.at ≡ 0 + k = omega arith in
      chosen_path _ _ (mod-add-mod (k - x.at) k x.at ∙ ap (λ n. n % k) whole ∙ add-mod_right 0 k)

  -- the group of k places
  abbrev pub places : Group
  places = record {
    Mean = Place k;
    one = place 0;
    mul = add;
    inv = back;
    assoc = add_assoc_law;
    one_left = zero_left;
    inv_left = back_left;
    decide = chosen_decide;
  }

  pub places_commute : Commutes places
  places_commute x y = chosen_path _ _ (ap (λ n. n % k) (add_comm x.at y.at))

-- the group of n places, for a number n that is not 0
abbrev pub wheel_of : NonZeroU16 → Group
wheel_of n = places (non_zero_u16_get n) n.ok

-- the place of a number on it
abbrev pub place_on : (n : NonZeroU16) → ℕ → Place (non_zero_u16_get n)
place_on n = place (non_zero_u16_get n) n.ok

-- the place of a number on the wheel of 720 places, which an element means
abbrev pub wheel_place : ℕ → Place 720
wheel_place n = place 720 (lit< tt) n

abbrev pub wheel_kind : Kind Wheel
wheel_kind = record { group = places 720 (lit< tt); mean = λ w. wheel_place w.0 }

-- the place of a number on the beam wheel, which has 1,440 places: two turns of 720
abbrev pub beam_wheel_place : ℕ → Place 1440
beam_wheel_place n = place 1440 (lit< tt) n

abbrev pub beam_wheel_kind : Kind BeamWheel
beam_wheel_kind = record { group = places 1440 (lit< tt); mean = λ w. beam_wheel_place w.0 }
