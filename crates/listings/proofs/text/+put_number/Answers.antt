use Rattle.std.proofs.Common.{◌≡◌, ℕ, ◌+◌, ◌%◌, ◌<◌, [], ◌∷◌, length, sym, ap, ◌∙◌, subst, arith}
use Rattle.std.specs.Fmt.{decimal}
use Rattle.std.proofs.lemmas.Fmt.{decimal_digit, decimal_nonempty}
use Rattle.listings.specs.Text.{Put}
use Rattle.listings.proofs.Digits.{more_digits, length_more}
use Rattle.listings.proofs.Putting.{length_put, put_more}
use Rattle.listings.proofs.text.+put_number.Goals as goal

pub put-requires : goal.put-requires
put-requires t c =
    let some : 0 < length (decimal c.args.number) = decimal_nonempty c.args.number (omega arith) in
    omega arith

pub put_number-next-requires : goal.put_number-next-requires
put_number-next-requires t c =
    let more = length_more c.args.number (omega arith) (omega arith) in
    (omega arith, omega arith)

pub put-requires-else-number-lt10 : goal.put-requires-else-number-lt10
put-requires-else-number-lt10 t c =
    let more = length_more c.args.number (omega arith) (omega arith) in
    let same = length_put c.put_number-next.ensures in
    omega arith

pub returns-then-number-lt10 : goal.returns-then-number-lt10
returns-then-number-lt10 t c =
    let n : ℕ = c.args.number in
    let digit : n % 10 ≡ n = omega arith in
    subst (λ ds. Put ds c.args.at c.args.out.now c.put.new.out c.put.result)
    (ap (λ j. (48 + j) ∷ []) digit ∙ sym (decimal_digit n (omega arith))) c.put.ensures

pub returns-else-number-lt10 : goal.returns-else-number-lt10
returns-else-number-lt10 t c =
    let n : ℕ = c.args.number in
    subst (λ ds. Put ds c.args.at c.args.out.now c.put-else-number-lt10.new.out c.put-else-number-lt10.result)
    (sym (more_digits n (omega arith) (omega arith))) (put_more c.put_number-next.ensures c.put-else-number-lt10.ensures)
