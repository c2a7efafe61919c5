use Rattle.std.proofs.Common.{cond, slice_index, ◌==◌}
use Rattle.minimize.specs.Steps.{none}
use Rattle.minimize.proofs.Peeling.{Done}
use Rattle.minimize.proofs.kernel.mark_live.Given as goal

abbrev pub invariant-loop-state : goal.invariant-loop-state
invariant-loop-state l = Done (λ q. cond (slice_index l.distances q == none) 0 1) l.state l.initial.marks l.marks
