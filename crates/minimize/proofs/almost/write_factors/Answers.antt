use Rattle.std.proofs.Common.{slice_index, arith}
use Rattle.tables.specs.Sheet.{mean_at}
use Rattle.minimize.proofs.Choosing.{means_more}
use Rattle.minimize.proofs.almost.write_factors.Goals as goal

pub loop-state-preserved : goal.loop-state-preserved
loop-state-preserved g c =
    let K = g.W.Weight.kind in
    let bases = c.args.bases.now in
    means_more K (λ q. K.group.mul (mean_at K bases q) (K.group.inv (mean_at K bases (slice_index c.args.labels.now q)))) c.loop-state.factors
    c.loop-state.state c.from.result c.quotient.result c.from.ensures c.quotient.ensures (omega arith) c.loop-state.invariant
