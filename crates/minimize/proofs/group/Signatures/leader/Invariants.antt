use Rattle.std.proofs.Common.{length}
use Rattle.minimize.proofs.Grouping.{Walked}
use Rattle.minimize.proofs.group.Signatures.leader.Given as goal

abbrev pub invariant-loop-link : goal.invariant-loop-link
invariant-loop-link g l = Walked g.W.Weight.kind l.self l.row (length l.heads) l.link

abbrev pub decreases-loop-link : goal.decreases-loop-link
decreases-loop-link g l = l.link
