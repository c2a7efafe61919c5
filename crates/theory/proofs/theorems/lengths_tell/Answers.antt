use Rattle.theory.proofs.Lengths.{lengths_tell}
use Rattle.theory.proofs.theorems.lengths_tell.Goals as goal

pub returns : goal.returns
returns g c = lengths_tell g.P.Property.holds
