use Rattle.theory.proofs.WorkedTables.{spin_keeps}
use Rattle.theory.proofs.examples.spin_keeps.Goals as goal

pub returns : goal.returns
returns c = spin_keeps
