use Rattle.std.proofs.Common.{◌≤◌, ◌*◌, slice_index, ap, mul-le-mul_right, arith}
use Rattle.tables.specs.Sheet.{mean_at}
use Rattle.minimize.proofs.Gathering.{row_write, row_write_element}
use Rattle.minimize.proofs.gather.move_row.Goals as goal

pub loop-letter-preserved : goal.loop-letter-preserved
loop-letter-preserved g c =
    let K = g.W.Weight.kind in
    let s = c.args.letters in
    let q = c.args.from in
    let k = c.args.to in
    let m = c.loop-letter.letter in
    let ts = c.loop-letter.targets in
    let ws = c.loop-letter.weights in
    let from = c.place-old.result in
    let to = c.place-new.result in
    let row : k * s ≤ q * s = mul-le-mul_right s c.requires.up in (
      row_write s q k m (slice_index c.args.numbers.now) (slice_index c.args.targets.now) ts from to _ c.place-old.ensures
          c.place-new.ensures (ap (slice_index c.args.numbers.now) c.from.ensures) (omega arith) c.requires.up c.loop-letter.invariant.0,
      row_write_element K s q k m (mean_at K c.args.weights.now) ws from to c.index-weights-old.result c.place-old.ensures
          c.place-new.ensures c.index-weights-old.is (omega arith) (omega arith) c.requires.up c.loop-letter.invariant.1,
    )
