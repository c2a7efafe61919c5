use Rattle.std.proofs.Common.{arith}
use Rattle.listings.proofs.OneText.{one_text}
use Rattle.listings.proofs.file.hyper_listing.Goals as goal

pub returns : goal.returns
returns c =
    let l = c.list_file.ensures in
    record { room = omega arith; lists = l; only = λ text fact. one_text c.args.bytes.now text l.text fact l.fact }
