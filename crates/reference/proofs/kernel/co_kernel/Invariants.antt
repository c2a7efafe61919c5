use Rattle.std.proofs.Common.{◌≡◌, length}
use Rattle.reference.proofs.kernel.co_kernel.Given as goal

abbrev pub invariant-loop-state : goal.invariant-loop-state
invariant-loop-state l = length l.co_kernel.items ≡ l.state
