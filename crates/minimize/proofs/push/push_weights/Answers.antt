use Rattle.std.proofs.Common.{◌≡◌, ◌+◌, ◌*◌, ◌<◌, ◌≤◌, slice_index, length, subst, arith}
use Rattle.tables.specs.Sheet.{mean_at}
use Rattle.tables.proofs.Places.{row_before}
use Rattle.minimize.specs.Pushing.{PushedBelow}
use Rattle.minimize.proofs.Pushing.{pushed_all}
use Rattle.minimize.proofs.push.push_weights.Goals as goal

pub push_row-requires : goal.push_row-requires
push_row-requires g c =
    let s = c.args.letters in
    let q = c.loop-state.state in
    let row : q * s + s ≤ c.args.count * s = row_before s q c.args.count c.loop-state-test.true in
    let led = c.requires.target_inside q in
    record {
      targets = omega arith;
      weights = omega arith;
      inside = omega arith;
      distances = λ a l. let there = led a c.loop-state-test.true l in omega arith;
      pushes = λ a l. let there = led a c.loop-state-test.true l in omega arith;
    }

pub returns-clause-pushed : goal.returns-clause-pushed
returns-clause-pushed g c =
    let K = g.W.Weight.kind in
    let d = slice_index c.args.distances.now in
    let u = mean_at K c.args.pushes.now in
    let ts = c.args.targets.now in
    let old = c.args.weights.now in
    let ws = c.loop-state.weights in
    let s = c.args.letters in
    let n = c.args.count in
    let last : c.loop-state.state ≡ n = omega arith in
    let room : 0 < length ws = omega arith in
    pushed_all K s n d u ts old ws c.index-weights-0.result c.pushed_start.result room
    (subst (λ q. PushedBelow K s d u ts old ws (q * s)) last c.loop-state.invariant) c.index-weights-0.is c.pushed_start.ensures
