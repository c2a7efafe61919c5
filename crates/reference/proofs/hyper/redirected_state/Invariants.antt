use Rattle.std.proofs.Common.{◌≡◌, length}
use Rattle.reference.specs.Closed.{LeadInside}
use Rattle.reference.proofs.hyper.redirected_state.Given as goal

abbrev pub invariant-loop-letter : goal.invariant-loop-letter
invariant-loop-letter g l =
    (length l.arcs.items ≡ l.letter) × LeadInside (length l.redirection.kept.items) l.arcs.items
