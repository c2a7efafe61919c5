use Rattle.theory.proofs.Determined.{least_is_determined}
use Rattle.theory.proofs.theorems.least_is_determined.Goals as goal

pub returns : goal.returns
returns g c = least_is_determined g.W.Weight.kind.group
