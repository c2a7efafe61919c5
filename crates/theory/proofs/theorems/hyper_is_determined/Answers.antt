use Rattle.theory.proofs.Single.{hyper_is_determined}
use Rattle.theory.proofs.theorems.hyper_is_determined.Goals as goal

pub returns : goal.returns
returns g c = hyper_is_determined g.W.Weight.kind.group
