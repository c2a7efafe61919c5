use Rattle.weights.specs.Check.{units_commute}
use Rattle.weights.proofs.check.CheckCommuting.commutes.Goals as goal

pub returns : goal.returns
returns c = units_commute
