use Rattle.theory.proofs.WorkedTables.{fork_merges}
use Rattle.theory.proofs.examples.fork_merges.Goals as goal

pub returns : goal.returns
returns c = fork_merges
