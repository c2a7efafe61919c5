use Rattle.std.proofs.Common.{◌≡◌, ℕ, ◌%◌, ◌<◌, ◌==◌, slice_index}
use Rattle.tables.specs.Book.{laid}
use Rattle.minimize.specs.Rows.{rows_table}
use Rattle.minimize.specs.Steps.{has_mark}
use Rattle.minimize.proofs.Peeling.{final_stays}
use Rattle.minimize.proofs.Remarking.{remarked_told_kernel, remarked_told_co_kernel}
use Rattle.minimize.proofs.hyper.mark_states.Goals as goal

pub returns-clause-marked : goal.returns-clause-marked
returns-clause-marked g c =
    let K = g.W.Weight.kind in
    let a = c.args in
    let t = rows_table K (laid a.targets.now a.weights.now a.marks.now a.letters a.count) in
    let marks = c.write_marks.new.marks in
    let kernel = c.find_kernel.new.kernel in
    let co_kernel = c.find_co_kernel.new.co_kernel in
    let f = λ (q : ℕ). (slice_index marks q % 2 == 1) in
    let same : (q : ℕ) → q < a.count → f q ≡ t.final q =
    λ q l.
    final_stays K a.targets.now a.weights.now a.marks.now marks a.letters a.count (slice_index kernel q) (slice_index co_kernel q) q
    (c.write_marks.ensures.marks q l) in
    record {
      kernel = remarked_told_kernel t f (has_mark kernel) c.find_kernel.ensures.told;
      co_kernel = remarked_told_co_kernel t f c.requires.laid.closed same (has_mark co_kernel) c.find_co_kernel.ensures.told;
    }
