use Rattle.std.proofs.Common.{◌≡◌, ℕ, ◌<◌, slice_index}
use Rattle.tables.specs.Sheet.{mean_at}
use Rattle.minimize.proofs.almost.begin.Given as goal

abbrev pub invariant-loop-state : goal.invariant-loop-state
invariant-loop-state g l =
    let K = g.W.Weight.kind in
    record {
      labels : (q : ℕ) → q < l.state → slice_index l.labels q ≡ q;
      factors : (q : ℕ) → q < l.state → mean_at K l.factors q ≡ K.group.one;
    }
