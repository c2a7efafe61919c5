use Rattle.std.proofs.Common.{rules}
use Rattle.sources.proofs.RingWords.{ring_weighs}
use Rattle.sources.proofs.ring.Ring.new.Goals as goal

pub returns-clause-weighs : goal.returns-clause-weighs
returns-clause-weighs g c = ring_weighs g.W.Weight.kind _ (search rules)
