use Rattle.std.proofs.Common.{◌≡◌, slice_index, subst, arith}
use Rattle.tables.specs.Sheet.{mean_at}
use Rattle.minimize.specs.Rows.{rows_table}
use Rattle.minimize.specs.Slices.{laid_rows}
use Rattle.minimize.specs.Pushing.{Rounded}
use Rattle.minimize.proofs.Pushing.{stale_round, all_rounds}
use Rattle.minimize.proofs.push.find_pushes.Goals as goal

pub returns-then-not-round-clause-pushes : goal.returns-then-not-round-clause-pushes
returns-then-not-round-clause-pushes g c =
    let K = g.W.Weight.kind in
    stale_round K.group (rows_table K (laid_rows c.args.rows)) c.loop-distance.distance (slice_index c.round.new.distances)
    (mean_at K c.round.new.pushes) c.requires.laid.closed c.round.ensures.known (c.round.ensures.stale.stale c.if-not-round.true)

pub returns-clause-pushes : goal.returns-clause-pushes
returns-clause-pushes g c =
    let K = g.W.Weight.kind in
    let t = rows_table K (laid_rows c.args.rows) in
    let d = slice_index c.loop-distance.distances in
    let u = mean_at K c.loop-distance.pushes in
    let last : c.loop-distance.distance ≡ c.args.rows.count = omega arith in
    all_rounds K.group t d u c.requires.laid.closed (subst (λ r. Rounded K.group t r d u) last c.loop-distance.invariant)
