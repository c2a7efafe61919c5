use Rattle.std.proofs.Common.{◌+◌, ◌-◌, ◌*◌, ◌≤◌, length, refl, ◌∙◌, arith, below_more}
use Rattle.drafts.specs.Written.{arc_call}
use Rattle.drafts.proofs.Writing.{written_more}
use Rattle.drafts.proofs.write.write_arcs.Goals as goal

pub loop-arc-preserved : goal.loop-arc-preserved
loop-arc-preserved g c =
    let K = g.W.Weight.kind in
    let k = g.W.Coded.codes in
    let t = g.S.Source.table c.args.source.now K in
    let call = arc_call K k t in
    let p = c.loop-arc.arc in
    let room : 10 * p ≤ length c.loop-arc.out = omega arith in (
      below_more _ p c.loop-arc.invariant.0 c.arc_field.ensures.named,
      written_more k.number 10 call (λ i. refl) (10 * p + 10 - 10 * p) p c.loop-arc.out c.copy_from_slice.new.self room c.loop-arc.invariant.1
          (c.copy_from_slice.ensures.after ∙ c.arc_field.ensures.bytes),
    )
