use Rattle.minimize.specs.Choosing.{Leaders}
use Rattle.minimize.proofs.choose.find_leaders.Given as goal

abbrev pub invariant-loop-state : goal.invariant-loop-state
invariant-loop-state l = Leaders l.count l.labels l.kernel l.state l.leaders
