use Rattle.std.proofs.Common.{◌≡◌, ◌≤◌, length, slice_index, ap, arith, rules}
use Rattle.tables.specs.Book.{laid}
use Rattle.minimize.specs.Steps.{leads}
use Rattle.minimize.proofs.Keeping.{kept_few}
use Rattle.minimize.proofs.Gathering.{rows_gathered, rows_laid}
use Rattle.minimize.proofs.gather.gather.Goals as goal

pub returns : goal.returns
returns g c =
    let K = g.W.Weight.kind in
    let n = c.args.count in
    let label = slice_index c.args.labels.now in
    let numbers = slice_index c.number_states.new.numbers in
    let m = c.number_classes-classes.result in
    let v = numbers c.from.result in
    let old = laid c.args.targets.now c.args.weights.now c.args.marks.now c.args.letters n in
    let ts = c.move_rows.new.targets in
    let ws = c.move_rows.new.weights in
    let ms = c.move_rows.new.marks in
    let first = ap numbers c.from.ensures in
    let long : length c.args.targets.now ≡ length ts = omega arith in
    let few : m ≤ n = omega (arith, kept_few (leads label) n) in
    record {
      gathered =
          rows_gathered K old ts ws ms m v label numbers c.requires.laid c.number_states.ensures c.move_rows.ensures
          c.number_classes-classes.ensures.classes first long;
      laid =
          rows_laid K old ts ws ms m v label numbers c.requires.laid c.number_states.ensures c.move_rows.ensures
          c.number_classes-classes.ensures.classes first long c.requires.labelled (search rules) (omega arith);
      few = few;
      numbers = c.number_states.ensures;
    }
