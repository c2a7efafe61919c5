use Rattle.std.proofs.Common.{◌∙◌, zero-add}
use Rattle.listings.proofs.Putting.{put_more, put_over}
use Rattle.listings.proofs.write.write_listing.Goals as goal

pub returns-clause-length : goal.returns-clause-length
returns-clause-length g c =
    let p =
    put_more c.put_counts-next.ensures.put
    (put_more c.put_start-next.ensures.put (put_more c.put_states-next.ensures.put c.put_arcs.ensures.put)) in
    p.next_place ∙ zero-add _

pub returns-clause-bytes : goal.returns-clause-bytes
returns-clause-bytes g c =
    put_over
    (put_more c.put_counts-next.ensures.put
    (put_more c.put_start-next.ensures.put (put_more c.put_states-next.ensures.put c.put_arcs.ensures.put)))
