use Rattle.std.proofs.Common.{slice_index}
use Rattle.tables.specs.Book.{laid}
use Rattle.tables.specs.Sheet.{mean_at}
use Rattle.minimize.specs.Rows.{rows_table}
use Rattle.minimize.proofs.Pushing.{pushed_normal}
use Rattle.minimize.proofs.least.push_table.Goals as goal

pub returns-clause-pushed : goal.returns-clause-pushed
returns-clause-pushed g c = c.push_weights.ensures.pushed c.args.marks.now

pub returns-clause-normal : goal.returns-clause-normal
returns-clause-normal g c =
    let K = g.W.Weight.kind in
    let a = c.args in
    pushed_normal K.group (rows_table K (laid a.targets.now a.weights.now a.marks.now a.letters a.count))
    (slice_index c.find_pushes.new.distances) (mean_at K c.find_pushes.new.pushes)
    (rows_table K (laid a.targets.now c.push_weights.new.weights a.marks.now a.letters a.count)) c.requires.laid.closed
    c.find_pushes.ensures.pushes (c.push_weights.ensures.pushed a.marks.now)
