-- The digits of a number of eight bytes. Assumes nothing.
use Rattle.std.proofs.Common.{◌≡◌, ℕ, ◌+◌, ◌/◌, ◌%◌, ◌^◌, ◌<◌, ◌≤◌, [], ◌∷◌, ◌++◌, length, ap, ◌∙◌, arith, length-append}
use Rattle.std.specs.Fmt.{decimal}
use Rattle.std.proofs.lemmas.Fmt.{decimal_step, length-decimal-le}

module _ (n : ℕ) (small : n < 2 ^ 64) where
  -- a number of more than a digit is written as its front and its last digit
  pub more_digits : 10 ≤ n → decimal n ≡ decimal (n / 10) ++ ((48 + n % 10) ∷ [])
  more_digits many = decimal_step n many small

  pub length_more : 10 ≤ n → length (decimal n) ≡ length (decimal (n / 10)) + 1
  length_more many = ap length (more_digits many) ∙ length-append (decimal (n / 10)) ((48 + n % 10) ∷ [])

  -- there are at most twenty
  pub some_digits : length (decimal n) ≤ 20
  some_digits = length-decimal-le 20 n (omega arith) (omega arith) small

-- a number of two bytes has at most five
pub few_digits : (n : ℕ) → n < 65536 → length (decimal n) ≤ 5
few_digits n small = length-decimal-le 5 n (omega arith) (omega arith) (omega arith)
