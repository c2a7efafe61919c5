use Rattle.theory.proofs.Minimal.{least_is_minimal}
use Rattle.theory.proofs.theorems.least_is_minimal.Goals as goal

pub returns : goal.returns
returns g c = least_is_minimal g.W.Weight.kind.group
