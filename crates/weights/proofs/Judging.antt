-- What is known of a call that answers by its verdict. Assumes nothing.
use Rattle.std.proofs.Common.{◌≡◌, ℕ, Bool, true, false, Some, None, Ok, Err, Option, refl, arith}
use Rattle.weights.specs.Refusal.{Told, unless, judged}

-- what an answer tells of the verdict
pub taken_none : {X : Type 0} (v : Option Told) (x y : X) → judged v x ≡ Ok y → (v ≡ None) × (y ≡ x)
taken_none None x y e = (refl, cc)
taken_none (Some t) x y e = absurd (let z : ◌≡◌ {A = ℕ} 0 1 = cc in omega arith)

pub refused_some : {X : Type 0} (v : Option Told) (x : X) (t : Told) → judged v x ≡ Err t → v ≡ Some t
refused_some None x t e = absurd (let z : ◌≡◌ {A = ℕ} 0 1 = cc in omega arith)
refused_some (Some u) x t e = cc

-- a call that meets no refusal passes each check
pub unless_none : (b : Bool) (m : ℕ) (rest : Option Told) → unless b m rest ≡ None → (b ≡ true) × (rest ≡ None)
unless_none true m rest e = (refl, e)
unless_none false m rest e = absurd (let z : ◌≡◌ {A = ℕ} 0 1 = cc in omega arith)
