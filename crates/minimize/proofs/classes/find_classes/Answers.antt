use Rattle.std.proofs.Common.{◌≤◌, ◌++◌, drop, slice_index, arith}
use Rattle.minimize.specs.Rows.{rows_table}
use Rattle.minimize.specs.Slices.{laid_rows}
use Rattle.minimize.proofs.Classing.{copied_below, distances_labelled, refined_labelled, refined_grows, refined_classes}
use Rattle.minimize.proofs.classes.find_classes.Goals as goal

pub loop-known-init : goal.loop-known-init
loop-known-init g c =
    let K = g.W.Weight.kind in
    let n = c.from-count.result in
    distances_labelled K.group (rows_table K (laid_rows c.args.rows)) (slice_index c.args.distances.now) c.requires.normal
    (slice_index (c.copy_from_slice.new.self ++ drop n c.args.labels.now))
    (λ q l. copied_below c.copy_from_slice.new.self c.args.distances.now c.args.labels.now n q c.copy_from_slice.ensures.after (omega arith) (omega arith))

pub loop-known-smaller : goal.loop-known-smaller
loop-known-smaller g c =
    let K = g.W.Weight.kind in
    let t = rows_table K (laid_rows c.args.rows) in
    let d = slice_index c.args.distances.now in
    let label = slice_index c.loop-known.labels in
    let label' = slice_index c.refine-found.new.labels in
    let grows : c.loop-known.known ≤ c.refine-found.result =
    refined_grows K.group t d c.requires.laid.closed c.requires.normal label label' c.loop-known.known c.refine-found.result c.loop-known.invariant c.refine-found.ensures in
    let next =
    refined_labelled K.group t d c.requires.laid.closed c.requires.normal label label' c.loop-known.known c.refine-found.result c.loop-known.invariant c.refine-found.ensures in
    omega (arith, next.few)

pub loop-known-preserved : goal.loop-known-preserved
loop-known-preserved g c =
    let K = g.W.Weight.kind in
    refined_labelled K.group (rows_table K (laid_rows c.args.rows)) (slice_index c.args.distances.now) c.requires.laid.closed c.requires.normal
    (slice_index c.loop-known.labels) (slice_index c.refine-found.new.labels) c.loop-known.known c.refine-found.result
    c.loop-known.invariant c.refine-found.ensures

pub returns-clause-classes : goal.returns-clause-classes
returns-clause-classes g c =
    let K = g.W.Weight.kind in
    refined_classes K.group (rows_table K (laid_rows c.args.rows)) (slice_index c.args.distances.now) c.requires.laid.closed c.requires.normal
    (slice_index c.loop-known.labels) (slice_index c.refine-found.new.labels) c.loop-known.known c.refine-found.result
    c.requires.laid.some_state c.if-found-known.true c.loop-known.invariant c.refine-found.ensures
