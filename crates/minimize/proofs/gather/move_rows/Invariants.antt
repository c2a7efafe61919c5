use Rattle.std.proofs.Common.{slice_index}
use Rattle.tables.specs.Book.{laid}
use Rattle.minimize.specs.Gathering.{Moved}
use Rattle.minimize.proofs.gather.move_rows.Given as goal

abbrev pub invariant-loop-state : goal.invariant-loop-state
invariant-loop-state g l =
    let old = laid l.initial.targets l.initial.weights l.initial.marks l.letters l.count in
    let new = laid l.targets l.weights l.marks l.letters l.count in
    Moved g.W.Weight.kind l.letters l.state (slice_index l.labels) (slice_index l.numbers) old new
