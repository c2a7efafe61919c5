use Rattle.std.proofs.Common.{length}
use Rattle.minimize.specs.declared.group.Signatures.{Signatures}
use Rattle.minimize.proofs.Grouping.{nothing_chained, nothing_grouped}
use Rattle.minimize.proofs.group.group.Goals as goal

pub loop-row-init : goal.loop-row-init
loop-row-init g c =
    let K = g.W.Weight.kind in
    let r : Signatures g.row.W.Denot =
    record { keys = c.args.keys; labels = c.args.labels; elements = c.args.elements; letters = c.args.letters } in (
      nothing_chained K r (length c.args.heads.now) c.fill.new.self c.args.links.now (c.fill.ensures.after (λ y e. e)),
      nothing_grouped K r c.args.firsts.now,
    )
