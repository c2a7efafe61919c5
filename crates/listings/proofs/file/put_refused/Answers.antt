use Rattle.std.proofs.Common.{◌≡◌, subst, arith}
use Rattle.listings.specs.File.{refused_text}
use Rattle.listings.specs.Text.{Put}
use Rattle.listings.proofs.Digits.{some_digits}
use Rattle.listings.proofs.Putting.{length_put, put_more}
use Rattle.listings.proofs.file.put_refused.Goals as goal

pub put_number-next-requires : goal.put_number-next-requires
put_number-next-requires c =
    let field = length_put c.put_field-next.ensures.put in
    let word = length_put c.put-next.ensures in
    let digits = some_digits c.args.offset (omega arith) in
    omega arith

pub put-requires : goal.put-requires
put-requires c =
    let field = length_put c.put_field-next.ensures.put in
    let word = length_put c.put-next.ensures in
    let number = length_put c.put_number-next.ensures in
    let digits = some_digits c.args.offset (omega arith) in
    omega arith

pub returns : goal.returns
returns c =
    let number : c.from.result ≡ c.args.number = c.from.ensures in
    subst (λ n. Put (refused_text n c.args.offset) 0 c.args.out.now c.put.new.out c.put.result) number
    (put_more c.put_field-next.ensures.put (put_more c.put-next.ensures (put_more c.put_number-next.ensures c.put.ensures)))
