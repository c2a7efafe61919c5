use Rattle.std.proofs.Common.{◌≡◌, length}
use Rattle.std.specs.List.{All}
use Rattle.reference.specs.Closed.{ClosedState}
use Rattle.reference.proofs.table.Table.of.Given as goal

abbrev pub invariant-loop-state : goal.invariant-loop-state
invariant-loop-state g l =
    let t = g.S.Source.table l.source g.W.Weight.kind in
    (length l.states.items ≡ l.state) × All (ClosedState t.states t.letters) l.states.items
