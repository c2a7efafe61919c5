use Rattle.std.proofs.Common.{◌≡◌, ◌≢◌, ℕ, ◌<◌, true, false, sym, ◌∙◌, subst, arith}
use Rattle.minimize.proofs.push.round.Goals.{then-settle, else-settle}
use Rattle.minimize.proofs.push.round.Goals as goal

pub loop-state-preserved : goal.loop-state-preserved
loop-state-preserved g c = (
  c.settle.ensures.known,
  record {
    stale =
        λ e.
        elim c.if-settle.branch [
          | then-settle w ↦ absurd (let clash : true ≡ false = sym w.met-is ∙ e in let z : ◌≡◌ {A = ℕ} 0 1 = cc in omega arith)
          | else-settle w ↦
              subst (λ d. (q : ℕ) → q < c.args.rows.count → d q ≢ c.args.distance) (sym (c.settle.ensures.stale w.if-settle.false))
              (c.loop-state.invariant.1.stale (sym w.met-is ∙ e))
        ];
  },
)
