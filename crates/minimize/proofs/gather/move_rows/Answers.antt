use Rattle.std.proofs.Common.{◌+◌, ◌<◌, ◌≢◌, length, slice_index, ap, sym, subst, ◌∙◌, arith}
use Rattle.tables.specs.Sheet.{mean_at}
use Rattle.minimize.specs.Gathering.{MarksMoved, RowsMoved}
use Rattle.minimize.proofs.Gathering.{number_read, rows_more, rows_pass, marks_write, marks_pass}
use Rattle.minimize.proofs.gather.move_rows.Goals as goal
use Rattle.minimize.proofs.gather.move_rows.Goals.{then-labels-at, else-labels-at}

pub move_row-requires-clause-up : goal.move_row-requires-clause-up
move_row-requires-clause-up g c =
    let label = slice_index c.args.labels.now in
    let numbers = slice_index c.args.numbers.now in
    (number_read c.args.count label numbers c.loop-state.state c.from-at.result c.requires.numbers c.loop-state-test.true
    c.from-at.ensures c.if-labels-at.true).small

pub bounds-marks-from : goal.bounds-marks-from
bounds-marks-from g c =
    let label = slice_index c.args.labels.now in
    let numbers = slice_index c.args.numbers.now in
    let small =
    (number_read c.args.count label numbers c.loop-state.state c.from-at.result c.requires.numbers c.loop-state-test.true
    c.from-at.ensures c.if-labels-at.true).small in
    omega arith

pub loop-state-preserved : goal.loop-state-preserved
loop-state-preserved g c =
    let K = g.W.Weight.kind in
    let s = c.args.letters in
    let q = c.loop-state.state in
    let label = slice_index c.args.labels.now in
    let numbers = slice_index c.args.numbers.now in
    let ts = slice_index c.args.targets.now in
    let ws = mean_at K c.args.weights.now in
    let ms = slice_index c.args.marks.now in
    let so_far = c.loop-state.invariant in
    elim c.if-labels-at.branch [
      | then-labels-at w ↦
          (let k = numbers c.from-at.result in
          let read =
          number_read c.args.count label numbers q c.from-at.result c.requires.numbers c.loop-state-test.true c.from-at.ensures
          w.if-labels-at.true in
          let inside : w.from.result < length c.loop-state.marks = omega (arith, read.small, w.from.ensures) in
          record {
            targets =
                subst (λ xs. RowsMoved s (q + 1) label numbers ts (slice_index xs)) (sym w.targets-is)
                (rows_more s label numbers ts q k (slice_index c.loop-state.targets) (slice_index w.move_row.new.targets)
                read.first read.number so_far.targets w.move_row.ensures.targets);
            weights =
                subst (λ xs. RowsMoved s (q + 1) label (λ x. x) ws (mean_at K xs)) (sym w.weights-is)
                (rows_more s label (λ x. x) ws q k (mean_at K c.loop-state.weights) (mean_at K w.move_row.new.weights)
                read.first read.number so_far.weights w.move_row.ensures.weights);
            marks =
                subst (λ xs. MarksMoved (q + 1) label ms (slice_index xs)) (sym w.marks-is)
                (marks_write label ms c.loop-state.marks q k w.from.result (slice_index c.loop-state.marks c.from-at.result)
                read.first read.number w.from.ensures (ap (slice_index c.loop-state.marks) c.from-at.ensures) inside so_far.marks);
          })
      | else-labels-at w ↦
          (let later : label q ≢ q = λ e. w.if-labels-at.false (ap label c.from-at.ensures ∙ e) in
          record {
            targets =
                subst (λ xs. RowsMoved s (q + 1) label numbers ts (slice_index xs)) (sym w.targets-is)
                (rows_pass s label numbers ts q (slice_index c.loop-state.targets) later so_far.targets);
            weights =
                subst (λ xs. RowsMoved s (q + 1) label (λ x. x) ws (mean_at K xs)) (sym w.weights-is)
                (rows_pass s label (λ x. x) ws q (mean_at K c.loop-state.weights) later so_far.weights);
            marks =
                subst (λ xs. MarksMoved (q + 1) label ms (slice_index xs)) (sym w.marks-is)
                (marks_pass label ms q (slice_index c.loop-state.marks) later so_far.marks);
          })
    ]
