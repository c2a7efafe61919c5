use Rattle.std.proofs.Common.{ℕ, ◌<◌, ◌≤◌, slice_index}
use Rattle.theory.specs.Kernel.{AcceptedFrom}
use Rattle.theory.specs.Hyper.{count_below}
use Rattle.minimize.specs.Rows.{rows_table}
use Rattle.minimize.specs.Slices.{laid_rows}
use Rattle.minimize.specs.Steps.{has_mark}
use Rattle.minimize.proofs.Peeling.{Peeling}
use Rattle.minimize.proofs.kernel.find_co_kernel.Given as goal

abbrev pub invariant-rounds : goal.invariant-rounds
invariant-rounds g l =
    let t = rows_table g.W.Weight.kind (laid_rows l.rows) in
    Peeling t.states t.letters (AcceptedFrom t) (has_mark l.co_kernel) × ((q : ℕ) → q < l.rows.count → slice_index l.co_kernel q ≤ 1)

abbrev pub decreases-rounds : goal.decreases-rounds
decreases-rounds g l = count_below (has_mark l.co_kernel) l.rows.count
