use Rattle.std.proofs.Common.{rules}
use Rattle.sources.proofs.BothWords.{both_weighs}
use Rattle.sources.proofs.both.Both.new.Goals as goal

pub returns-clause-weighs : goal.returns-clause-weighs
returns-clause-weighs g c =
    both_weighs g.W.Weight.kind.group c.commutes.ensures _ _ (g.R.Source.lawful c.args.right g.W.Weight.kind) (search rules)
