use Rattle.std.proofs.Common.{◌≡◌, length}
use Rattle.reference.specs.Closed.{LeadInside}
use Rattle.reference.proofs.table.State.of.Given as goal

abbrev pub invariant-loop-letter : goal.invariant-loop-letter
invariant-loop-letter g l =
    (length l.arcs.items ≡ l.letter) × LeadInside (g.S.Source.table l.source g.W.Weight.kind).states l.arcs.items
