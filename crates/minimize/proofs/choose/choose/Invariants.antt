use Rattle.minimize.proofs.Choosing.{Looked}
use Rattle.minimize.proofs.choose.choose.Given as goal

abbrev pub invariant-loop-state : goal.invariant-loop-state
invariant-loop-state g l =
    Looked g.W.Weight.kind l.labels l.leaders l.co_kernel l.factors l.state l.representatives l.chosen
