use Rattle.std.proofs.Common.{ℕ, ◌≡◌, get_or, sym, ap, ◌∙◌, arith}
use Rattle.minimize.specs.Redirecting.{kept_of, number_in}
use Rattle.minimize.proofs.Keeping.{kept_few}
use Rattle.minimize.proofs.Redirecting.{rows_more, rows_stay}
use Rattle.minimize.proofs.redirect.Redirection.write.Goals as goal
use Rattle.minimize.proofs.redirect.Redirection.write.Goals.{then-is_kept, else-is_kept}

pub loop-state-preserved : goal.loop-state-preserved
loop-state-preserved g c =
    let K = g.W.Weight.kind in
    let d = c.args.self.now in
    let q : ℕ = c.loop-state.state in
    let o = c.loop-state in
    elim c.if-is_kept.branch [
      | then-is_kept w ↦
          (let number : get_or d.numbers.now w.from.result 0 ≡ number_in d q =
          ap (λ j. get_or d.numbers.now j 0) w.from.ensures ∙ c.requires.ready.numbers q c.loop-state-test.true in
          let at : w.from-then-is_kept-2.result ≡ number_in d q = w.from-then-is_kept-2.ensures ∙ number in
          let mark : get_or d.rows.marks.now w.from-then-is_kept.result 0 ≡ get_or d.rows.marks.now q 0 =
          ap (λ j. get_or d.rows.marks.now j 0) w.from-then-is_kept.ensures in
          rw w.targets-is
          (rw w.weights-is
          (rw w.marks-is
          (rows_more K d q o.targets w.write_row.new.targets o.weights w.write_row.new.weights o.marks w.from-then-is_kept-2.result
          (get_or d.rows.marks.now w.from-then-is_kept.result 0) (sym c.is_kept.ensures ∙ w.if-is_kept.true) at
          (omega (arith, kept_few (kept_of d) q)) mark w.write_row.ensures o.invariant))))
      | else-is_kept w ↦
          rw w.targets-is
          (rw w.weights-is
          (rw w.marks-is (rows_stay K d q o.targets o.weights o.marks (sym c.is_kept.ensures ∙ w.if-is_kept.false) o.invariant)))
    ]
