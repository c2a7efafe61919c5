-- Numbers that pass a test, as a type of their own. Assumes nothing.
use Rattle.std.specs.Prelude.{◌≡◌, ℕ, Bool, true}
use Rattle.std.proofs.Common.{ap}
use mathlib.Core.HLevel.{is_prop→PathP}
use Rattle.std.proofs.Math.Bool.{Bool-set}
use Rattle.std.proofs.Math.Decide.{ℕ_discrete, map_dec}

-- a number that passes the test p
pub record Chosen (p : ℕ → Bool) : Type 0 where
  pub at : ℕ
  pub ok : p at ≡ true

-- equal numbers make equal elements
pub chosen_path : {p : ℕ → Bool} (x y : Chosen p) → x.at ≡ y.at → x ≡ y
chosen_path {p} x y e =
    λ i. record { at = e i; ok = is_prop→PathP (λ j. p (e j) ≡ true) (λ j. Bool-set (p (e j)) true) x.ok y.ok i }

pub chosen_decide : {p : ℕ → Bool} (x y : Chosen p) → Dec (x ≡ y)
chosen_decide x y = map_dec (chosen_path x y) (ap (λ z. z.at)) (ℕ_discrete x.at y.at)
