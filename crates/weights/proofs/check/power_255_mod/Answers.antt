use Rattle.weights.specs.Check.{power_255}
use Rattle.weights.proofs.check.power_255_mod.Goals as goal

pub returns : goal.returns
unfolding power_255
returns c = cc
