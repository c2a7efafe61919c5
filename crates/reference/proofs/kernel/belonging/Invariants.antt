use Rattle.std.proofs.Common.{◌≡◌, length}
use Rattle.reference.proofs.kernel.belonging.Given as goal

abbrev pub invariant-loop-state : goal.invariant-loop-state
invariant-loop-state l = length l.belonging.items ≡ l.state-counter
