-- The codes of the kinds: plain has 0, check 1 to 256, wheel 0 to 719, beam wheel 0 to 1439. Assumes nothing.
use Rattle.std.specs.Prelude.{ℕ, zero, suc, ◌%◌, Bool, true, false, cond, Some, None, Option, ◌==◌, nat_lt}
use Rattle.weights.specs.Check.{is_unit, number_of}
use Rattle.weights.specs.Group.{Kind}
use Rattle.weights.specs.declared.plain.Plain.{Plain}
use Rattle.weights.specs.declared.check.Check.{Check}
use Rattle.weights.specs.declared.wheel.Wheel.{Wheel}
use Rattle.weights.specs.declared.beam_wheel.BeamWheel.{BeamWheel}

-- x where the test holds
abbrev pub within : {X : Type 0} → Bool → X → Option X
within b x = cond b (Some x) None

-- the codes of a kind: its number in files, the element that a code makes, if any, and the code of an element
pub record Codes (E : Type 0) : Type 0 where
  pub number : ℕ
  pub element : ℕ → Option E
  pub code_of : E → ℕ

-- a decision as a test
abbrev pub holds : {X : Type 0} → Dec X → Bool
holds (yes p) = true
holds (no n) = false

-- an optional element means m
abbrev pub means : {E : Type 0} (K : Kind E) → K.group.Mean → Option E → Bool
means K m (Some x) = holds (K.group.decide (K.mean x) m)
means K m None = false

-- the first of n numbers from c on that passes a test, and the one after them where none does
abbrev pub first_of : (ℕ → Bool) → ℕ → ℕ → ℕ
first_of p c zero = c
first_of p c (suc n) = cond (p c) c (first_of p (suc c) n)

-- the code of a meaning: the first of two bytes that makes an element with that meaning
unfoldable pub code_for : {E : Type 0} (K : Kind E) → Codes E → K.group.Mean → ℕ
code_for K k m = first_of (λ c. means K m (k.element c)) 0 65536

abbrev pub plain_codes : Codes Plain
plain_codes = record { number = 0; element = λ c. within (c == 0) (record {}); code_of = λ _. 0 }

abbrev pub check_codes : Codes Check
check_codes =
    record { number = 1; element = λ c. within (is_unit c) (record { 0 = c % 256 }); code_of = λ x. number_of x.0 }

-- the codes of a kind of k places, of which each element is stored as one number: a place is its own code
abbrev pub place_codes : {E : Type 0} → ℕ → ℕ → (ℕ → E) → (E → ℕ) → Codes E
place_codes number k stored read =
    record { number = number; element = λ c. within (nat_lt c k) (stored c); code_of = λ x. read x % k }

abbrev pub wheel_codes : Codes Wheel
wheel_codes = place_codes 2 720 (λ c. record { 0 = c }) (λ x. x.0)

abbrev pub beam_wheel_codes : Codes BeamWheel
beam_wheel_codes = place_codes 3 1440 (λ c. record { 0 = c }) (λ x. x.0)
