use Rattle.std.proofs.Common.{◌≡◌, slice_index}
use Rattle.tables.specs.Sheet.{mean_at}
use Rattle.theory.specs.Hyper.{count_below}
use Rattle.minimize.specs.Rows.{rows_table}
use Rattle.minimize.specs.Slices.{laid_rows}
use Rattle.minimize.specs.Steps.{leads, has_mark}
use Rattle.minimize.proofs.AlmostClasses.{Settled}
use Rattle.minimize.proofs.almost.find_almost.Given as goal

abbrev pub invariant-loop-known : goal.invariant-loop-known
invariant-loop-known g l =
    let K = g.W.Weight.kind in
    record {
      settled :
          Settled K.group (rows_table K (laid_rows l.rows)) (has_mark l.co_kernel) (slice_index l.labels) (mean_at K l.factors);
      counted : l.known ≡ count_below (leads (slice_index l.labels)) l.rows.count;
    }

abbrev pub decreases-loop-known : goal.decreases-loop-known
decreases-loop-known g l = l.known
