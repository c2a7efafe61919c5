use Rattle.std.proofs.Common.{◌≡◌, ◌*◌, take}
use Rattle.drafts.specs.Parts.{states_bytes}
use Rattle.drafts.proofs.write.write_states.Given as goal

abbrev pub invariant-loop-state : goal.invariant-loop-state
invariant-loop-state g l =
    take (4 * l.state) l.out ≡ states_bytes g.W.Weight.kind g.W.Coded.codes (g.S.Source.table l.source g.W.Weight.kind) l.state
