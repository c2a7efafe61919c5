-- A check number is got back from the byte that it is stored in. Assumes nothing.
use Rattle.std.specs.Prelude.{◌≡◌, ℕ, ◌%◌, ◌<◌, true, refl}
use Rattle.std.proofs.Common.{ap, ◌∙◌, arith}
use Rattle.weights.specs.Check.{is_unit, unit_orders, number_of, Residue, residue_of, check_of}
use Rattle.weights.specs.Numbers.{chosen_path}
use Rattle.weights.specs.declared.check.Check.{Check}

pub number_stored : (b n : ℕ) → b ≡ n % 256 → is_unit n ≡ true → number_of b ≡ n
number_stored b n e t = let h = unit_orders n t in omega arith

-- the element of a residue means it
pub means_it : (c : Check) (x : Residue) → c ≡ check_of x → residue_of c.0 ≡ x
means_it c x e = ap (λ d. residue_of d.0) e ∙ chosen_path _ _ (number_stored (x.at % 256) x.at refl x.ok)

-- and a byte is the element of what it means
pub is_element : (c : Check) → c.0 < 256 → c ≡ check_of (residue_of c.0)
is_element c h = let same : c.0 ≡ number_of c.0 % 256 = omega arith in ap (λ b. record { 0 = b }) same
