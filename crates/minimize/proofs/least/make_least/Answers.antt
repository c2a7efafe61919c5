use Rattle.std.proofs.Common.{◌≡◌, slice_index, sym, subst}
use Rattle.tables.specs.Book.{laid}
use Rattle.tables.specs.Sheet.{mean_at}
use Rattle.theory.specs.Least.{Least}
use Rattle.minimize.specs.Rows.{rows_table}
use Rattle.minimize.specs.Steps.{Copied}
use Rattle.minimize.proofs.LeastTable.{least_table}
use Rattle.minimize.proofs.least.make_least.Goals as goal

pub returns-clause-least : goal.returns-clause-least
returns-clause-least g c =
    let K = g.W.Weight.kind in
    let t = g.S.Source.table c.args.source.now K in
    let s = c.letters-letters.result in
    let letters : s ≡ t.letters = c.letters-letters.ensures in
    let n = c.copy_reachable-count.result in
    let copy = c.copy_reachable-count.new in
    let pushed = c.push_table.new in
    let made = c.gather_classes-least.new in
    let m = c.gather_classes-least.result in
    let copied = subst (λ x. Copied K.group t (rows_table K (laid copy.targets copy.weights copy.marks x n))) (sym letters) c.copy_reachable-count.ensures.copied in
    subst (λ x. Least K.group t (rows_table K (laid made.targets made.weights made.marks x m))) letters
    (least_table K.group t (rows_table K (laid copy.targets copy.weights copy.marks s n))
    (rows_table K (laid copy.targets pushed.weights copy.marks s n)) (rows_table K (laid made.targets made.weights made.marks s m))
    (slice_index pushed.distances) (mean_at K pushed.pushes) (slice_index made.labels) (g.S.Source.lawful c.args.source.now K) copied
    c.push_table.ensures.pushes c.push_table.ensures.pushed c.gather_classes-least.ensures.classes c.gather_classes-least.ensures.gathered)
