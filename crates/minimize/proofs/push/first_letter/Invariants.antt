use Rattle.std.proofs.Common.{◌≢◌, ℕ, ◌<◌, slice_index}
use Rattle.minimize.specs.Rows.{rows_table}
use Rattle.minimize.specs.Slices.{laid_rows}
use Rattle.minimize.proofs.push.first_letter.Given as goal

abbrev pub invariant-loop-letter : goal.invariant-loop-letter
invariant-loop-letter g l =
    (b : ℕ) →
    b < l.letter →
    slice_index l.distances ((rows_table g.W.Weight.kind (laid_rows l.rows)).target l.state b) ≢ l.distance
