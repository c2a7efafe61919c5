use Rattle.std.proofs.Common.{◌≡◌, ℕ, ◌<◌, slice_index}
use Rattle.tables.specs.Sheet.{mean_at}
use Rattle.minimize.proofs.almost.write_factors.Given as goal

abbrev pub invariant-loop-state : goal.invariant-loop-state
invariant-loop-state g l =
    let K = g.W.Weight.kind in
    (q : ℕ) → q < l.state →
    mean_at K l.factors q ≡ K.group.mul (mean_at K l.bases q) (K.group.inv (mean_at K l.bases (slice_index l.labels q)))
