use Rattle.weights.specs.Check.{product}
use Rattle.weights.proofs.check.product_mod.Goals as goal

pub returns : goal.returns
unfolding product
returns c = cc
