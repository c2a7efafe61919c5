use Rattle.std.proofs.Common.{rules}
use Rattle.minimize.specs.Memories.{memories}
use Rattle.minimize.proofs.Compiling.{promised, lists_follow}
use Rattle.minimize.proofs.compiler.compile_slices.Goals as goal

pub returns-clause-outcome : goal.returns-clause-outcome
returns-clause-outcome g c =
    let K = g.W.Weight.kind in
    let source = c.args.source.now in
    let made = c.compile_in_room in
    let n = made.new in
    let m =
    memories n.targets n.weights n.marks n.hyper_targets n.hyper_weights n.hyper_marks n.representatives n.factors n.numbers n.elements in
    record {
      room = search rules;
      lengths = made.ensures.lengths;
      compiled = made.ensures.compiled;
      promised = promised K (g.S.Source.table source K) m made.result (g.S.Source.lawful source K) made.ensures.compiled;
      lists = lists_follow K;
    }
