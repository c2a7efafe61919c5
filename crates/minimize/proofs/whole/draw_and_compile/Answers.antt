use Rattle.minimize.specs.Memories.{memories}
use Rattle.minimize.proofs.DrawnBook.{sized_few, sized_places, whole}
use Rattle.std.proofs.Common.{[], arith}
use Rattle.minimize.proofs.whole.draw_and_compile.Goals as goal

pub overflow_add-size : goal.overflow_add-size
overflow_add-size g c =
    let b = c.args.book in
    let size = c.drawn_size-size in
    omega (
      arith,
      sized_few g.W.Weight.kind b.targets.now b.weights.now b.marks.now c.args.made.now [] [] [] [] size.result.letters size.result.states
          size.ensures.letters size.ensures.states,
    )

pub compile_drawn-requires-clause-places : goal.compile_drawn-requires-clause-places
compile_drawn-requires-clause-places g c =
    let b = c.args.book in
    let size = c.drawn_size-size in
    let n = c.draw_in.new in
    sized_places g.W.Weight.kind b.targets.now b.weights.now b.marks.now c.args.made.now n.made n.targets n.weights n.marks
    size.result.letters size.result.states size.ensures.letters size.ensures.states c.draw_in.ensures

pub returns : goal.returns
returns g c =
    let a = c.args in
    let b = a.book in
    let size = c.drawn_size-size in
    let n = c.draw_in.new in
    let m = c.compile_drawn.new in
    whole g.W.Weight.kind b.targets.now b.weights.now b.marks.now a.made.now n.made n.targets n.weights n.marks
    size.result.letters size.result.states size.ensures.letters size.ensures.states c.draw_in.ensures
    (memories a.least.targets.now a.least.weights.now a.least.marks.now a.hyper.targets.now a.hyper.weights.now a.hyper.marks.now
    a.states.representatives.now a.states.factors.now a.work.numbers.now a.work.elements.now)
    (memories m.targets m.weights m.marks m.hyper_targets m.hyper_weights m.hyper_marks m.representatives m.factors m.numbers m.elements)
    (c.has_room.ensures.0 c.if-not-has_room.false) c.compile_drawn.result c.compile_drawn.ensures
