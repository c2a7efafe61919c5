use Rattle.std.proofs.Common.{ℕ, ◌%◌, ◌==◌, slice_index}
use Rattle.tables.specs.Book.{laid}
use Rattle.minimize.specs.Rows.{rows_table}
use Rattle.minimize.proofs.Remarking.{remarked_equivalent, remarked_least}
use Rattle.minimize.proofs.Compiling.{written}
use Rattle.minimize.proofs.hyper.make_hyper.Goals as goal

pub find_almost-requires-clause-apart : goal.find_almost-requires-clause-apart
find_almost-requires-clause-apart g c =
    let K = g.W.Weight.kind in
    let a = c.args in
    let t = rows_table K (laid a.targets.now a.weights.now a.marks.now a.letters a.count) in
    let f = λ (q : ℕ). (slice_index c.mark_states.new.marks q % 2 == 1) in
    λ q p l m e.
    c.requires.apart q p l m
    (remarked_equivalent K.group t f c.requires.laid.closed c.mark_states.ensures.finality q p l m e)

pub returns-clause-written : goal.returns-clause-written
returns-clause-written g c =
    let K = g.W.Weight.kind in
    let a = c.args in
    let marked = c.mark_states in
    let made = c.redirect-states in
    let old = rows_table K (laid a.targets.now a.weights.now a.marks.now a.letters a.count) in
    let f = λ (q : ℕ). (slice_index marked.new.marks q % 2 == 1) in
    λ t least.
    written K t (laid a.targets.now a.weights.now marked.new.marks a.letters a.count)
    (laid made.new.targets made.new.weights made.new.marks a.letters made.result) a.marks.now marked.new.kernel marked.new.co_kernel
    c.find_almost.new.labels c.choose.new.representatives c.find_almost.new.factors c.choose.new.chosen c.count_marked.result
    (remarked_least K.group t old f marked.ensures.finality least) marked.ensures.marked marked.ensures.marks
    marked.ensures.kernel_small marked.ensures.co_kernel_small c.find_almost.ensures.almost c.choose.ensures.choices
    made.ensures.table made.ensures.marks c.count_marked.ensures
