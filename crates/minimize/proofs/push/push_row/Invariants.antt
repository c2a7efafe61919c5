use Rattle.std.proofs.Common.{◌+◌, ◌*◌, List, slice_index}
use Rattle.tables.specs.Sheet.{mean_at}
use Rattle.minimize.specs.Pushing.{PushedBelow}
use Rattle.minimize.proofs.push.push_row.Given as goal

abbrev pub invariant-loop-letter : goal.invariant-loop-letter
invariant-loop-letter g l =
    let K = g.W.Weight.kind in
    let s = l.letters in
    let d = slice_index l.distances in
    let u = mean_at K l.pushes in
    (all : List g.row.W.Denot) →
    PushedBelow K s d u l.targets all l.initial.weights (l.state * s) → PushedBelow K s d u l.targets all l.weights (l.state * s + l.letter)
