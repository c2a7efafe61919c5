use Rattle.std.proofs.Common.{slice_index}
use Rattle.tables.specs.Sheet.{mean_at}
use Rattle.minimize.specs.Gathering.{RowMoved}
use Rattle.minimize.proofs.gather.move_row.Given as goal

abbrev pub invariant-loop-letter : goal.invariant-loop-letter
invariant-loop-letter g l =
    let K = g.W.Weight.kind in
    let s = l.letters in
    let m = l.letter in
    RowMoved s m l.from l.to (slice_index l.numbers) (slice_index l.initial.targets) (slice_index l.targets)
    × RowMoved s m l.from l.to (λ x. x) (mean_at K l.initial.weights) (mean_at K l.weights)
