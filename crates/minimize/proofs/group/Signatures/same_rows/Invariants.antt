use Rattle.std.proofs.Common.{ℕ, ◌+◌, ◌<◌}
use Rattle.minimize.specs.Grouping.{SamePlaces}
use Rattle.minimize.proofs.group.Signatures.same_rows.Given as goal

abbrev pub invariant-loop-letter : goal.invariant-loop-letter
invariant-loop-letter g l = (a : ℕ) → a < l.letter → SamePlaces g.W.Weight.kind l.self (l.from + a) (l.other + a)
