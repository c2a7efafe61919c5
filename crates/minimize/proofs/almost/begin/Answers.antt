use Rattle.std.proofs.Common.{arith}
use Rattle.std.proofs.lemmas.Grind.{common_steps}
use Rattle.minimize.proofs.Choosing.{means_more}
use Rattle.minimize.proofs.almost.begin.Goals as goal

pub loop-state-preserved : goal.loop-state-preserved
loop-state-preserved g c =
    let K = g.W.Weight.kind in
    record {
      labels = grind (arith, common_steps);
      factors =
          means_more K (λ q. K.group.one) c.loop-state.factors c.loop-state.state c.from-in-loop-state.result c.one.result
          c.from-in-loop-state.ensures c.one.ensures (omega arith) c.loop-state.invariant.factors;
    }
