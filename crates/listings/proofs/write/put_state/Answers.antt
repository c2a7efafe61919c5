use Rattle.listings.proofs.Putting.{put_more}
use Rattle.listings.proofs.write.put_state.Goals as goal

pub returns-then-accepting-clause-put : goal.returns-then-accepting-clause-put
returns-then-accepting-clause-put c = rw c.if-accepting.true (put_more c.put_field-next.ensures.put c.put.ensures)

pub returns-else-accepting-clause-put : goal.returns-else-accepting-clause-put
returns-else-accepting-clause-put c = rw c.if-accepting.false (put_more c.put_field-next.ensures.put c.put-else-accepting.ensures)
