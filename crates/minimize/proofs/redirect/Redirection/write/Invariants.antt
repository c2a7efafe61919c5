use Rattle.minimize.specs.Redirecting.{RowsTo}
use Rattle.minimize.proofs.redirect.Redirection.write.Given as goal

abbrev pub invariant-loop-state : goal.invariant-loop-state
invariant-loop-state g l = RowsTo g.W.Weight.kind l.self l.state l.targets l.weights l.marks
