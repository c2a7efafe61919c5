use Rattle.std.proofs.Common.{◌≡◌, ◌+◌, ◌*◌, ◌<◌, slice_index, length, ap, ◌∙◌, subst, arith}
use Rattle.tables.specs.Sheet.{mean_at}
use Rattle.minimize.specs.Pushing.{PushedBelow}
use Rattle.minimize.proofs.Memory.{mean_read}
use Rattle.minimize.proofs.Pushing.{pushed_letter}
use Rattle.minimize.proofs.push.push_row.Goals as goal

pub loop-letter-preserved : goal.loop-letter-preserved
loop-letter-preserved g c =
    λ all before.
    let K = g.W.Weight.kind in
    let s = c.args.letters in
    let q = c.args.state in
    let us = c.args.pushes.now in
    let ws = c.loop-letter.weights in
    let j = 1 + c.from-2.result * c.from-3.result + c.from-in-loop-letter.result in
    let row : c.from-2.result * c.from-3.result ≡ q * s = cc in
    let at : 1 + c.from-2.result * c.from-3.result + c.from-in-loop-letter.result ≡ 1 + (q * s + c.loop-letter.letter) = omega arith in
    let room : 1 + c.from-2.result * c.from-3.result + c.from-in-loop-letter.result < length ws = omega arith in
    let own : K.mean c.inverse-inverse.result ≡ K.group.inv (mean_at K us q) =
    c.inverse-inverse.ensures
    ∙ ap K.group.inv
    (ap K.mean c.index-pushes-from.is
    ∙ mean_read K us c.from.result c.index-pushes-from.result (omega arith)
    ∙ ap (mean_at K us) c.from.ensures) in
    pushed_letter K s (slice_index c.args.distances.now) (mean_at K us) c.args.targets.now all ws q c.loop-letter.letter j
    (K.mean c.inverse-inverse.result) c.index-weights-at.result c.pushed_arc.result c.loop-letter-test.true at room own
    c.index-weights-at.is c.pushed_arc.ensures (c.loop-letter.invariant all before)

pub returns-clause-pushed : goal.returns-clause-pushed
returns-clause-pushed g c =
    λ all before.
    let K = g.W.Weight.kind in
    let q = c.args.state in
    let s = c.args.letters in
    let last : q * s + c.loop-letter.letter ≡ (q + 1) * s = omega arith in
    subst
    (PushedBelow K s (slice_index c.args.distances.now) (mean_at K c.args.pushes.now) c.args.targets.now all c.loop-letter.weights)
    last (c.loop-letter.invariant all before)
