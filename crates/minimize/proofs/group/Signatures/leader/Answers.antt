use Rattle.std.proofs.Common.{◌≡◌, ◌+◌, ◌-◌, length, true, slice_index, sym, subst, arith}
use Rattle.minimize.proofs.Grouping.{row_above, walk_starts, walk_more, walk_falls, Walked}
use Rattle.minimize.proofs.group.Signatures.leader.Goals as goal

pub loop-link-init : goal.loop-link-init
loop-link-init g c =
    let K = g.W.Weight.kind in
    let r = c.args.self.now in
    subst (λ k. Walked K r c.args.row (length c.args.heads.now) (slice_index c.args.heads.now k)) (sym c.requires.slot)
    (walk_starts K r c.args.row c.args.heads.now c.args.links.now c.requires.inside c.requires.chains)

pub same_rows-requires-clause-second : goal.same_rows-requires-clause-second
same_rows-requires-clause-second g c =
    let p = c.loop-link.link - 1 in
    let at : c.loop-link.link ≡ p + 1 = omega arith in
    row_above g.W.Weight.kind c.args.self.now c.args.row p (c.loop-link.invariant.member p at).below c.requires.inside

pub loop-link-smaller : goal.loop-link-smaller
loop-link-smaller g c =
    let p = c.loop-link.link - 1 in
    let at : c.loop-link.link ≡ p + 1 = omega arith in
    let r = c.args.self.now in
    rw c.from.ensures
    (omega (
      arith,
      walk_falls g.W.Weight.kind r c.args.row p c.args.heads.now c.args.links.now c.requires.chains
          (subst (Walked g.W.Weight.kind r c.args.row (length c.args.heads.now)) at c.loop-link.invariant),
    ))

pub loop-link-preserved : goal.loop-link-preserved
loop-link-preserved g c =
    let p = c.loop-link.link - 1 in
    let at : c.loop-link.link ≡ p + 1 = omega arith in
    let r = c.args.self.now in
    rw c.from.ensures
    (walk_more g.W.Weight.kind r c.args.row p c.args.heads.now c.args.links.now c.requires.inside c.requires.chains
    (subst (Walked g.W.Weight.kind r c.args.row (length c.args.heads.now)) at c.loop-link.invariant)
    (λ e. let h : c.same_rows.result ≡ true = c.same_rows.ensures.1 e in cc))
