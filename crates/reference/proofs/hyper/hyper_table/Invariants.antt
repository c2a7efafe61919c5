use Rattle.std.proofs.Common.{◌≡◌, length}
use Rattle.std.specs.List.{All}
use Rattle.reference.specs.Closed.{ClosedState}
use Rattle.reference.proofs.hyper.hyper_table.Given as goal

abbrev pub invariant-loop-state : goal.invariant-loop-state
invariant-loop-state g l =
    (length l.states.items ≡ l.state-index) × All (ClosedState (length l.redirection.kept.items) l.least.letters) l.states.items
