use Rattle.std.proofs.Common.{arith}
use Rattle.minimize.proofs.Copying.{taken_inside, marks_taken, marks_small, copy_laid, copy_copied}
use Rattle.minimize.proofs.copy.copy_reachable.Goals as goal

pub copy_marks-requires-clause-inside : goal.copy_marks-requires-clause-inside
copy_marks-requires-clause-inside g c =
    let K = g.W.Weight.kind in
    let source = c.args.source.now in
    let made = c.copy_arcs-count in
    taken_inside (g.S.Source.table source K) made.new.order c.from.result made.result c.from.ensures made.new.numbers
    (g.S.Source.lawful source K) made.ensures.numbered

pub returns-clause-laid : goal.returns-clause-laid
returns-clause-laid g c =
    let K = g.W.Weight.kind in
    let source = c.args.source.now in
    let made = c.copy_arcs-count in
    copy_laid K (g.S.Source.table source K) (g.S.Source.lawful source K) made.new.targets made.new.weights
    c.copy_marks.new.marks made.new.numbers made.new.order made.result
    made.ensures.numbered made.ensures.copied (omega arith) (omega arith) (omega arith)

pub returns-clause-copied : goal.returns-clause-copied
returns-clause-copied g c =
    let K = g.W.Weight.kind in
    let source = c.args.source.now in
    let t = g.S.Source.table source K in
    let made = c.copy_arcs-count in
    copy_copied K t (g.S.Source.lawful source K) made.new.targets made.new.weights
    c.copy_marks.new.marks made.new.numbers made.new.order made.result made.ensures.numbered made.ensures.copied
    (marks_taken t made.new.order c.from.result made.result c.from.ensures c.copy_marks.new.marks (omega arith) c.copy_marks.ensures)

pub returns-clause-marks : goal.returns-clause-marks
returns-clause-marks g c =
    let made = c.copy_arcs-count in
    marks_small (g.S.Source.table c.args.source.now g.W.Weight.kind) made.new.order c.from.result made.result c.from.ensures
    c.copy_marks.new.marks (omega arith) c.copy_marks.ensures
