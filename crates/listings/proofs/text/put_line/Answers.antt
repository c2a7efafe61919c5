use Rattle.listings.proofs.Putting.{put_more}
use Rattle.listings.proofs.text.put_line.Goals as goal

pub returns-clause-put : goal.returns-clause-put
returns-clause-put c = put_more c.put_field-next.ensures.put c.put.ensures
