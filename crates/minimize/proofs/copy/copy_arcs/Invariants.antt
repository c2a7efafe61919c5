use Rattle.std.proofs.Common.{◌*◌, ◌-◌}
use Rattle.minimize.specs.Copy.{Numbered, ArcsCopied}
use Rattle.minimize.proofs.copy.copy_arcs.Given as goal

abbrev pub invariant-loop-arc : goal.invariant-loop-arc
invariant-loop-arc g l =
    let K = g.W.Weight.kind in
    let t = g.S.Source.table l.source K in
    Numbered t l.numbers l.order l.count × ArcsCopied K t l.targets l.weights l.order l.count l.arc

abbrev pub decreases-loop-arc : goal.decreases-loop-arc
decreases-loop-arc g l = let t = g.S.Source.table l.source g.W.Weight.kind in t.states * t.letters - l.arc
