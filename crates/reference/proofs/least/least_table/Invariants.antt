use Rattle.std.proofs.Common.{◌≤◌, ◌<◌, ◌-◌, length}
use Rattle.std.specs.List.{All}
use Rattle.reference.specs.Closed.{ClosedState}
use Rattle.reference.specs.Members.{Members}
use Rattle.reference.proofs.least.least_table.Given as goal

abbrev pub invariant-loop-member : goal.invariant-loop-member
invariant-loop-member g l =
    (length l.states.items ≤ length l.members.items) × (0 < length l.members.items) × Members (length l.table.states.items) l.members.items × All (ClosedState (length l.members.items) l.table.letters) l.states.items

abbrev pub decreases-loop-member : goal.decreases-loop-member
decreases-loop-member g l = length l.table.states.items - length l.states.items
