use Rattle.listings.proofs.Putting.{put_more}
use Rattle.listings.proofs.write.put_counts.Goals as goal

pub returns-clause-put : goal.returns-clause-put
returns-clause-put c =
    put_more c.put_line-next.ensures.put
    (put_more c.put_line-next-2.ensures.put (put_more c.put_line-next-3.ensures.put c.put_line.ensures.put))
