-- Check numbers: 1 to 256, multiplied modulo 257. Assumes nothing.
use Rattle.std.specs.Prelude.{◌≡◌, ℕ, zero, suc, ◌+◌, ◌-◌, ◌*◌, ◌/◌, ◌%◌, ◌<◌, Bool, true, ◌&&◌, ◌==◌, nat_lt, refl}
use Rattle.std.proofs.Common.{sym, ap, ◌∙◌, ⊎_elim, add-mul, mul_assoc, mul_comm, one-mul, zero-mul, mod-lt, mod-eq_of_lt, arith, lit<}
use Rattle.std.proofs.Math.Nat.{div-add-mod, mul-add-mod_self_left}
use Rattle.std.proofs.lemmas.Bool.{lt-ltb, ltb-true, eqb-true, and_parts, and_from, cases_lt}
use Rattle.std.proofs.lemmas.Bool.Decides.{Decides-below_and}
use Rattle.weights.specs.Group.{Group, Kind, Commutes}
use Rattle.weights.specs.Numbers.{Chosen, chosen_path, chosen_decide}
use Rattle.weights.specs.declared.check.Check.{Check}

-- 1 to 256
abbrev pub is_unit : ℕ → Bool
is_unit n = nat_lt 0 n && nat_lt n 257

abbrev pub Residue : Type 0
Residue = Chosen is_unit

pub unit_orders : (n : ℕ) → is_unit n ≡ true → (0 < n) × (n < 257)
unit_orders n t = let h = and_parts (nat_lt 0 n) (nat_lt n 257) t in (ltb-true 0 n h.0, ltb-true n 257 h.1)

pub unit_from : (n : ℕ) → 0 < n → n < 257 → is_unit n ≡ true
unit_from n l h = and_from (nat_lt 0 n) (nat_lt n 257) (lt-ltb 0 n l) (lt-ltb n 257 h)

-- the product of two numbers modulo 257
unfoldable pub product : ℕ → ℕ → ℕ
product a b = a * b % 257

-- the square of r times x
unfoldable pub square_times : ℕ → ℕ → ℕ
square_times x r = product (product r r) x

-- x to the power 255, by squaring: the inverse of x, since 257 is prime
unfoldable pub power_255 : ℕ → ℕ
power_255 x =
    square_times x
    (square_times x (square_times x (square_times x (square_times x (square_times x (square_times x x))))))

pub product_below : (a b : ℕ) → product a b < 257
unfolding product
product_below a b = mod-lt (a * b) (lit< tt)

reduce_left : (a b m : ℕ) → (a % m) * b % m ≡ a * b % m
reduce_left a b m =
    sym
    (ap (λ n. n * b % m) (sym (div-add-mod a m))
    ∙ ap (λ n. n % m) (add-mul (m * (a / m)) (a % m) b ∙ ap (λ n. n + (a % m) * b) (mul_assoc m (a / m) b))
    ∙ mul-add-mod_self_left m (a / m * b) ((a % m) * b))

product_comm : (a b : ℕ) → product a b ≡ product b a
unfolding product
product_comm a b = ap (λ n. n % 257) (mul_comm a b)

product_assoc : (a b c : ℕ) → product (product a b) c ≡ product a (product b c)
unfolding product
product_assoc a b c =
    reduce_left (a * b) c 257
    ∙ ap (λ n. n % 257) (mul_assoc a b c ∙ mul_comm a (b * c))
    ∙ sym (reduce_left (b * c) a 257)
    ∙ ap (λ n. n % 257) (mul_comm (b * c % 257) a)

product_one : (a : ℕ) → a < 257 → product 1 a ≡ a
unfolding product
product_one a h = ap (λ n. n % 257) (one-mul a) ∙ mod-eq_of_lt h

product_zero : (a : ℕ) → product 0 a ≡ 0
unfolding product
product_zero a = ap (λ n. n % 257) (zero-mul a)

-- whether power_255 inverts n + 1
inverts : ℕ → Bool
inverts n = is_unit (power_255 (n + 1)) && product (power_255 (n + 1)) (n + 1) == 1

all_below : (ℕ → Bool) → ℕ → Bool
all_below p zero = true
all_below p (suc n) = p n && all_below p n

-- the test at all of 1 to 256, computed
all_invert : all_below inverts 256 ≡ true
unfolding all_below inverts power_255 square_times product
all_invert = refl

all_at : (p : ℕ → Bool) (n : ℕ) → all_below p n ≡ true → (k : ℕ) → k < n → p k ≡ true
unfolding all_below
all_at p n = (Decides-below_and p (λ k. p k ≡ true) (all_below p) (λ k. ((λ e. e), (λ e. e))) refl (λ _. refl) n).0

-- the power 255 of each of 1 to 256 is one of them, and its inverse
pub inverse_of : (n : ℕ) → is_unit n ≡ true → (is_unit (power_255 n) ≡ true) × (product (power_255 n) n ≡ 1)
unfolding inverts
inverse_of n t =
    let h = unit_orders n t in
    let less : n - 1 < 256 = omega arith in
    let back : n - 1 + 1 ≡ n = omega arith in
    let both = and_parts _ _ (rw back at (all_at inverts 256 all_invert (n - 1) less)) in
    (both.0, eqb-true (product (power_255 n) n) 1 both.1)

-- no product of two of them is 0, since each has an inverse
pub product_unit : (a b : ℕ) → is_unit a ≡ true → is_unit b ≡ true → is_unit (product a b) ≡ true
product_unit a b ta tb =
    let ha = unit_orders a ta in
    let undone : product a (product b (power_255 b)) ≡ a =
    ap (product a) (product_comm b (power_255 b) ∙ (inverse_of b tb).1) ∙ product_comm a 1 ∙ product_one a ha.1 in
    unit_from (product a b)
    (⊎_elim
    (λ h. h)
    (λ h. let gone : product a b ≡ 0 = omega arith in
    let z : a ≡ 0 =
    sym undone ∙ sym (product_assoc a b (power_255 b)) ∙ ap (λ n. product n (power_255 b)) gone ∙ product_zero (power_255 b) in
    omega arith)
    (cases_lt 0 (product a b)))
    (product_below a b)

-- the number that the byte b stands for: b itself, and 256 for 0
abbrev pub number_of : ℕ → ℕ
number_of b = (b + 255) % 256 + 1

pub number_unit : (b : ℕ) → is_unit (number_of b) ≡ true
number_unit b = unit_from (number_of b) (omega arith) (omega arith)

-- the residue that the byte b stands for
abbrev pub residue_of : ℕ → Residue
residue_of b = record { at = number_of b; ok = number_unit b }

abbrev pub unit : Residue
unit = residue_of 1

abbrev pub times : Residue → Residue → Residue
times x y = record { at = product x.at y.at; ok = product_unit x.at y.at x.ok y.ok }

abbrev pub inverse : Residue → Residue
inverse x = record { at = power_255 x.at; ok = (inverse_of x.at x.ok).0 }

pub times_assoc : (x y z : Residue) → times (times x y) z ≡ times x (times y z)
times_assoc x y z = chosen_path _ _ (product_assoc x.at y.at z.at)

pub unit_left : (x : Residue) → times unit x ≡ x
unit_left x = chosen_path _ _ (product_one x.at (unit_orders x.at x.ok).1)

pub inverse_left : (x : Residue) → times (inverse x) x ≡ unit
inverse_left x = chosen_path _ _ (inverse_of x.at x.ok).1

-- the group of the numbers 1 to 256 modulo 257
abbrev pub units_257 : Group
units_257 = record {
  Mean = Residue;
  one = unit;
  mul = times;
  inv = inverse;
  assoc = times_assoc;
  one_left = unit_left;
  inv_left = inverse_left;
  decide = chosen_decide;
}

pub units_commute : Commutes units_257
units_commute x y = chosen_path _ _ (product_comm x.at y.at)

abbrev pub check_kind : Kind Check
check_kind = record { group = units_257; mean = λ c. residue_of c.0 }

-- the one element that means a residue
abbrev pub check_of : Residue → Check
check_of x = record { 0 = x.at % 256 }
