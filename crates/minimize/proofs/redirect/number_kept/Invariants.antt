use Rattle.minimize.specs.Choosing.{is_kept}
use Rattle.minimize.proofs.Redirecting.{Counted}
use Rattle.minimize.proofs.redirect.number_kept.Given as goal

abbrev pub invariant-loop-state : goal.invariant-loop-state
invariant-loop-state l = Counted (is_kept l.kernel l.representatives) l.state l.kept l.numbers
