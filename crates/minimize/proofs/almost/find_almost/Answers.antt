use Rattle.std.proofs.Common.{◌≤◌, slice_index, arith}
use Rattle.tables.specs.Sheet.{mean_at}
use Rattle.minimize.specs.Rows.{rows_table}
use Rattle.minimize.specs.Slices.{laid_rows}
use Rattle.minimize.specs.Steps.{has_mark}
use Rattle.minimize.proofs.AlmostClasses.{begun_settled, begun_count, regrouped_settled, regrouped_fewer, almost_classes}
use Rattle.minimize.proofs.almost.find_almost.Goals as goal

pub loop-known-init : goal.loop-known-init
loop-known-init g c =
    let K = g.W.Weight.kind in
    let label = slice_index c.begin.new.labels in
    record {
      settled =
          begun_settled K.group (rows_table K (laid_rows c.args.rows)) (has_mark c.args.co_kernel.now) c.requires.laid.closed
          c.requires.laid.few_states c.requires.co_kernel label (mean_at K c.begin.new.factors) c.begin.ensures.labels
          c.begin.ensures.factors;
      counted = begun_count label c.args.rows.count c.begin.ensures.labels;
    }

pub loop-known-smaller : goal.loop-known-smaller
loop-known-smaller g c =
    let K = g.W.Weight.kind in
    let t = rows_table K (laid_rows c.args.rows) in
    let fewer : c.regroup-found.result ≤ c.loop-known.known =
    regrouped_fewer K.group t (has_mark c.args.co_kernel.now) c.requires.laid.closed c.requires.laid.few_states c.requires.co_kernel
    (slice_index c.loop-known.labels) (slice_index c.regroup-found.new.labels) (mean_at K c.loop-known.factors)
    (mean_at K c.regroup-found.new.factors) c.regroup-found.result c.loop-known.invariant.settled c.regroup-found.ensures
    c.loop-known.known c.loop-known.invariant.counted in
    omega arith

pub loop-known-preserved : goal.loop-known-preserved
loop-known-preserved g c =
    let K = g.W.Weight.kind in
    let t = rows_table K (laid_rows c.args.rows) in
    record {
      settled =
          regrouped_settled K.group t (has_mark c.args.co_kernel.now) c.requires.laid.closed c.requires.laid.few_states
          c.requires.co_kernel (slice_index c.loop-known.labels) (slice_index c.regroup-found.new.labels)
          (mean_at K c.loop-known.factors) (mean_at K c.regroup-found.new.factors) c.regroup-found.result
          c.loop-known.invariant.settled c.regroup-found.ensures;
      counted = c.regroup-found.ensures.count;
    }

pub returns-clause-almost : goal.returns-clause-almost
returns-clause-almost g c =
    let K = g.W.Weight.kind in
    let t = rows_table K (laid_rows c.args.rows) in
    almost_classes K.group t (has_mark c.args.co_kernel.now) c.requires.laid.closed c.requires.laid.few_states c.requires.co_kernel
    (slice_index c.loop-known.labels) (slice_index c.regroup-found.new.labels) (mean_at K c.loop-known.factors)
    (mean_at K c.regroup-found.new.factors) c.regroup-found.result c.loop-known.invariant.settled c.regroup-found.ensures
    c.loop-known.known c.loop-known.invariant.counted (omega arith) c.requires.apart
