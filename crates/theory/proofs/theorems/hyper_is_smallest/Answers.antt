use Rattle.theory.proofs.Fewest.{hyper_is_smallest}
use Rattle.theory.proofs.theorems.hyper_is_smallest.Goals as goal

pub returns : goal.returns
returns g c = hyper_is_smallest g.W.Weight.kind.group
