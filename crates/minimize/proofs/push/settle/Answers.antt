use Rattle.std.proofs.Common.{◌≡◌, slice_index, sym, ap, ◌∙◌, arith}
use Rattle.tables.specs.Sheet.{mean_at}
use Rattle.minimize.specs.Rows.{rows_table}
use Rattle.minimize.specs.Slices.{laid_rows}
use Rattle.minimize.specs.Steps.{none}
use Rattle.minimize.proofs.Memory.{mean_read}
use Rattle.minimize.proofs.Pushing.{settled, unsettled}
use Rattle.minimize.proofs.push.settle.Goals as goal

pub returns-in-Some-clause-known : goal.returns-in-Some-clause-known
returns-in-Some-clause-known g c =
    let K = g.W.Weight.kind in
    let t = rows_table K (laid_rows c.args.rows) in
    let q = c.args.state in
    let ds = c.args.distances.now in
    let far : slice_index ds c.from.result ≡ none = omega arith in
    let a = c.in-Some.letter in
    let us = c.args.pushes.now in
    let from : c.from-in-Some.result ≡ t.target q a = c.from-in-Some.ensures ∙ c.target.ensures.value in
    let next : K.mean c.index-pushes-from.result ≡ mean_at K us (t.target q a) =
    ap K.mean c.index-pushes-from.is
    ∙ mean_read K us c.from-in-Some.result c.index-pushes-from.result (omega arith)
    ∙ ap (mean_at K us) from in
    settled K t c.args.distance q a c.from-in-Some-2.result c.from-in-Some-3.result ds us c.times-push.result
    c.requires.laid.closed c.requires.some (omega arith) c.requires.inside (omega arith) (omega arith) c.requires.known (ap (slice_index ds) (sym c.from.ensures) ∙ far)
    c.in-Some.ensures c.from-in-Some-2.ensures c.from-in-Some-3.ensures
    (c.times-push.ensures ∙ ap (λ x. K.group.mul x (K.mean c.index-pushes-from.result)) c.weight.ensures ∙ ap (K.group.mul (t.weight q a)) next)

pub returns-in-None-clause-known : goal.returns-in-None-clause-known
returns-in-None-clause-known g c =
    let K = g.W.Weight.kind in
    let t = rows_table K (laid_rows c.args.rows) in
    let ds = c.args.distances.now in
    let far : slice_index ds c.from.result ≡ none = omega arith in
    unsettled K t c.args.distance c.args.state (slice_index ds) (mean_at K c.args.pushes.now) c.requires.laid.closed
    c.requires.some c.requires.inside c.requires.known (ap (slice_index ds) (sym c.from.ensures) ∙ far) c.in-None.ensures
