use Rattle.std.proofs.Common.{◌+◌, ◌-◌, ◌*◌, ◌≤◌, length, refl, ◌∙◌, arith}
use Rattle.drafts.specs.Written.{state_call}
use Rattle.drafts.proofs.Writing.{written_more}
use Rattle.drafts.proofs.write.write_states.Goals as goal

pub loop-state-preserved : goal.loop-state-preserved
loop-state-preserved g c =
    let K = g.W.Weight.kind in
    let k = g.W.Coded.codes in
    let call = state_call K k (g.S.Source.table c.args.source.now K) in
    let q = c.loop-state.state in
    let room : 4 * q ≤ length c.loop-state.out = omega arith in
    rw c.from-at.ensures
    (written_more k.number 4 call (λ i. refl) (4 * q + 4 - 4 * q) q c.loop-state.out c.copy_from_slice.new.self room c.loop-state.invariant
    (c.copy_from_slice.ensures.after ∙ c.state_field.ensures))
