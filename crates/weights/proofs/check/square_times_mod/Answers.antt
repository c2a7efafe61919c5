use Rattle.weights.specs.Check.{square_times}
use Rattle.weights.proofs.check.square_times_mod.Goals as goal

pub returns : goal.returns
unfolding square_times
returns c = cc
