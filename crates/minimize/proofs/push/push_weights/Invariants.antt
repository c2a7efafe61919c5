use Rattle.std.proofs.Common.{◌*◌, slice_index}
use Rattle.tables.specs.Sheet.{mean_at}
use Rattle.minimize.specs.Pushing.{PushedBelow}
use Rattle.minimize.proofs.push.push_weights.Given as goal

abbrev pub invariant-loop-state : goal.invariant-loop-state
invariant-loop-state g l =
    let K = g.W.Weight.kind in
    PushedBelow K l.letters (slice_index l.distances) (mean_at K l.pushes) l.targets l.initial.weights l.weights (l.state * l.letters)
