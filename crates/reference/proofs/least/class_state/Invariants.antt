use Rattle.std.proofs.Common.{◌≡◌, ◌≤◌, length}
use Rattle.reference.specs.Closed.{LeadInside}
use Rattle.reference.specs.Members.{Members}
use Rattle.reference.proofs.least.class_state.Given as goal

abbrev pub invariant-loop-letter : goal.invariant-loop-letter
invariant-loop-letter g l =
    (length l.arcs.items ≡ l.letter) × LeadInside (length l.members.items) l.arcs.items × (length l.initial.members.items ≤ length l.members.items) × Members (length l.table.states.items) l.members.items
