use Rattle.std.proofs.Common.{◌≡◌, ◌*◌, take}
use Rattle.drafts.specs.Parts.{arcs_bytes, NamedBelow}
use Rattle.drafts.proofs.write.write_arcs.Given as goal

abbrev pub invariant-loop-arc : goal.invariant-loop-arc
invariant-loop-arc g l =
    let K = g.W.Weight.kind in
    let k = g.W.Coded.codes in
    let t = g.S.Source.table l.source K in
    NamedBelow K k t l.arc × (take (10 * l.arc) l.out ≡ arcs_bytes K k t l.arc)
