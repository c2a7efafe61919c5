use Rattle.std.proofs.Common.{arith, ◌≡◌, ℕ, sym, subst}
use Rattle.tables.specs.Book.{laid}
use Rattle.theory.specs.Least.{Least}
use Rattle.theory.proofs.Minimal.{least_apart, least_reachable}
use Rattle.minimize.specs.Rows.{Laid, rows_table}
use Rattle.minimize.specs.Marking.{Written}
use Rattle.minimize.proofs.compiler.compile_in_room.Goals as goal

pub make_hyper-counts-requires-clause-reached : goal.make_hyper-counts-requires-clause-reached
make_hyper-counts-requires-clause-reached g c =
    let K = g.W.Weight.kind in
    let source = c.args.source.now in
    let t = g.S.Source.table source K in
    let made = c.make_least-least in
    let l = λ (s : ℕ). rows_table K (laid made.new.targets made.new.weights made.new.marks s made.result) in
    let letters : c.letters.result ≡ t.letters = c.letters.ensures in
    least_reachable K.group t (l c.letters.result) (g.S.Source.lawful source K)
    (subst (λ s. Least K.group t (l s)) (sym letters) made.ensures.least)

pub make_hyper-counts-requires-clause-apart : goal.make_hyper-counts-requires-clause-apart
make_hyper-counts-requires-clause-apart g c =
    let K = g.W.Weight.kind in
    let source = c.args.source.now in
    let t = g.S.Source.table source K in
    let made = c.make_least-least in
    let l = λ (s : ℕ). rows_table K (laid made.new.targets made.new.weights made.new.marks s made.result) in
    let letters : c.letters.result ≡ t.letters = c.letters.ensures in
    least_apart K.group t (l c.letters.result) (g.S.Source.lawful source K)
    (subst (λ s. Least K.group t (l s)) (sym letters) made.ensures.least)

pub returns-clause-compiled : goal.returns-clause-compiled
returns-clause-compiled g c =
    let K = g.W.Weight.kind in
    let source = c.args.source.now in
    let t = g.S.Source.table source K in
    let least = c.make_least-least in
    let n = least.result in
    let hyper = c.make_hyper-counts in
    let n' = hyper.result.states in
    let ts = least.new.targets in
    let ws = least.new.weights in
    let ms = hyper.new.marks in
    let h = λ (s : ℕ). laid hyper.new.hyper_targets hyper.new.hyper_weights hyper.new.hyper_marks s n' in
    let r = hyper.new.representatives in
    let f = hyper.new.factors in
    let k = hyper.result.kernel in
    let letters : c.letters.result ≡ t.letters = c.letters.ensures in
    let written : Written K t (laid ts ws ms t.letters n) (h t.letters) r f k =
    subst (λ s. Least K.group t (rows_table K (laid ts ws least.new.marks s n)) → Written K t (laid ts ws ms s n) (h s) r f k)
    letters (hyper.ensures.written t) least.ensures.least in
    record {
      least_laid = subst (λ s. Laid K (laid ts ws ms s n)) letters hyper.ensures.laid;
      hyper_laid = subst (λ s. Laid K (h s)) letters hyper.ensures.hyper_laid;
      representative_room =
          omega (arith, least.ensures.few, c.requires.states.representative_room, hyper.auto.representatives);
      factor_room = omega (arith, least.ensures.few, c.requires.states.factor_room, hyper.auto.factors);
      least = written.least;
      hyper = written.hyper;
      kernel = written.kernel;
      is_kernel = written.marked.is_kernel;
      co_kernel = written.co_kernel;
      is_co_kernel = written.marked.is_co_kernel;
      marks = written.marked.marks;
      hyper_marks = written.copied;
      kernel_count = written.kernel_count;
      agreement = c.agreement_length.ensures;
    }
