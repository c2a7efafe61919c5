use Rattle.std.proofs.Common.{◌≡◌, subst, arith}
use Rattle.listings.specs.Listing.{field}
use Rattle.listings.specs.Text.{Put}
use Rattle.listings.proofs.Digits.{few_digits}
use Rattle.listings.proofs.Putting.{length_put, put_more}
use Rattle.listings.proofs.text.put_field.Goals as goal

pub put_number-requires : goal.put_number-requires
put_number-requires c =
    let same = length_put c.put-next.ensures in
    let number : c.from.result ≡ c.args.number = c.from.ensures in
    let few = few_digits c.from.result (omega arith) in
    omega arith

pub returns-clause-put : goal.returns-clause-put
returns-clause-put c =
    let number : c.from.result ≡ c.args.number = c.from.ensures in
    subst (λ n. Put (field c.args.word.now n) c.args.at c.args.out.now c.put_number.new.out c.put_number.result) number
    (put_more c.put-next.ensures c.put_number.ensures)

pub returns-clause-few : goal.returns-clause-few
returns-clause-few c =
    let number : c.from.result ≡ c.args.number = c.from.ensures in
    let few = few_digits c.from.result (omega arith) in
    omega arith
