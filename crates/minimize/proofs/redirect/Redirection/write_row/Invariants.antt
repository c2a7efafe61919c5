use Rattle.minimize.specs.Redirecting.{RowTo, number_in}
use Rattle.minimize.proofs.redirect.Redirection.write_row.Given as goal

abbrev pub invariant-loop-letter : goal.invariant-loop-letter
invariant-loop-letter g l =
    RowTo g.W.Weight.kind l.self l.state (number_in l.self l.state) l.letter l.fn.targets l.targets l.fn.weights l.weights
