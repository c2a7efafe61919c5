use Rattle.std.proofs.Common.{arith}
use Rattle.minimize.proofs.Copying.{start_copied}
use Rattle.minimize.proofs.copy.copy_start.Goals as goal

pub returns-clause-copied : goal.returns-clause-copied
returns-clause-copied g c =
    start_copied g.W.Weight.kind (g.S.Source.table c.args.source.now g.W.Weight.kind) c.args.targets.now c.args.weights.now _
    c.start_weight.result (omega arith) (omega arith) c.start_weight.ensures
