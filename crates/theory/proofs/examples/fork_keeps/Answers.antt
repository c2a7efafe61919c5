use Rattle.theory.proofs.WorkedTables.{fork_keeps}
use Rattle.theory.proofs.examples.fork_keeps.Goals as goal

pub returns : goal.returns
returns c = fork_keeps
