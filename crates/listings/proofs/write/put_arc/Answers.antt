use Rattle.std.proofs.Common.{◌≡◌, subst}
use Rattle.listings.specs.Text.{Put}
use Rattle.listings.specs.Listing.{arc_line}
use Rattle.listings.proofs.Putting.{put_more}
use Rattle.listings.proofs.write.put_arc.Goals as goal

pub returns-clause-put : goal.returns-clause-put
returns-clause-put c =
    let letter : c.from.result ≡ c.args.letter = c.from.ensures in
    subst (λ a. Put (arc_line c.args.from a c.args.to c.args.code) c.args.at c.args.out.now c.put_line.new.out c.put_line.result) letter
    (put_more c.put_field-next.ensures.put
    (put_more c.put_field-next-2.ensures.put (put_more c.put_field-next-3.ensures.put c.put_line.ensures.put)))
