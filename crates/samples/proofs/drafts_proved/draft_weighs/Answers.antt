use Rattle.std.proofs.Common.{refl}
use Rattle.weights.specs.Check.{product}
use Rattle.samples.proofs.drafts_proved.draft_weighs.Goals as goal

pub returns : goal.returns
unfolding product
returns c = record { size = refl; whole = refl; word_0_1 = refl; word_1 = refl; word_0 = refl }
