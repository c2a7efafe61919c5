use Rattle.std.proofs.Common.{◌≡◌, ◌≤◌}
use Rattle.theory.specs.Hyper.{count_below}
use Rattle.minimize.specs.Steps.{has_mark}
use Rattle.minimize.proofs.kernel.count_marked.Given as goal

abbrev pub invariant-loop-state : goal.invariant-loop-state
invariant-loop-state l = (l.total ≡ count_below (has_mark l.marks) l.state) × (l.total ≤ l.state)
