use Rattle.std.proofs.Common.{cond, slice_index}
use Rattle.minimize.specs.Steps.{has_mark}
use Rattle.minimize.proofs.Peeling.{Done}
use Rattle.minimize.proofs.kernel.unmark.Given as goal

abbrev pub invariant-loop-state : goal.invariant-loop-state
invariant-loop-state l = Done (λ q. cond (has_mark l.held q) (slice_index l.initial.marks q) 0) l.state l.initial.marks l.marks
