use Rattle.theory.proofs.Agreement.{hyper_agrees}
use Rattle.theory.proofs.theorems.hyper_agrees.Goals as goal

pub returns : goal.returns
returns g c = hyper_agrees g.W.Weight.kind.group
