use Rattle.std.proofs.Common.{sym, ◌∙◌, subst}
use Rattle.minimize.specs.Compile.{Outcome}
use Rattle.minimize.specs.Memories.{memories}
use Rattle.minimize.specs.View.{viewed}
use Rattle.samples.proofs.CompiledTables.{least_alike, hyper_agrees}
use Rattle.samples.proofs.Rereading.{ok_some}
use Rattle.samples.proofs.reading.compiled_tables.Goals as goal

pub returns : goal.returns
returns g c =
    let K = g.W.Weight.kind in
    let t = g.S.Source.table c.args.source.now K in
    let a = c.args in
    let n = c.compile.new in
    let r = c.in_ok-report.report in
    let before =
    memories a.targets.now a.weights.now a.marks.now a.hyper_targets.now a.hyper_weights.now a.hyper_marks.now
    a.representatives.now a.factors.now a.numbers.now a.elements.now in
    let after =
    memories n.least.0 n.least.1.0 n.least.1.1.0 n.hyper.0 n.hyper.1.0 n.hyper.1.1.0 n.states.0 n.states.1.0 n.work.0 n.work.1.0 in
    let compiled = ok_some c.compile.result r (sym c.ok.ensures.value ∙ c.in_ok-report.was) in
    let done = subst (Outcome K t before after) compiled c.compile.ensures in
    let letters = c.letters-letters in
    record {
      least = least_alike K t before after r done letters.result (viewed c.new-least.result) letters.ensures c.new-least.ensures;
      hyper = hyper_agrees K t before after r done letters.result (viewed c.new-hyper.result) letters.ensures c.new-hyper.ensures;
    }
