use Rattle.std.proofs.Common.{◌≡◌, ◌+◌, ◌<◌, get_or, drop, Some, sym, ap, ◌∙◌, subst, add-one, arith}
use Rattle.std.proofs.lemmas.List.{at_drop_more}
use Rattle.tables.specs.Table.{meant, no_letter_from, weight_from, weight_of, scaled}
use Rattle.tables.proofs.Reading.{first_letter, within_true, meant_then_some, some_injective, arc_there, run_more, run_all}
use Rattle.tables.proofs.words.run.Goals as goal

pub loop-letter-preserved : goal.loop-letter-preserved
loop-letter-preserved g c =
    let K = g.W.Weight.kind in
    let t = g.S.Source.table c.args.source.now K in
    let i = c.loop-letter.letter-index in
    let q = c.loop-letter.state in
    let w = c.args.word.now in
    let a = get_or w i 0 in
    let inv = c.loop-letter.invariant in
    let here = first_letter t.letters i a (drop (i + 1) w) (sym (at_drop_more (no_letter_from t.letters i) w i 0 c.loop-letter-test.true) ∙ inv.rest_is_word) in
    let there = arc_there t q a inv.inside here.0 in
    let weighs : meant K c.weight.result ≡ Some (t.weight q a) = c.weight.ensures ∙ within_true _ _ there in
    let leads : c.target.result ≡ Some (t.target q a) = c.target.ensures ∙ within_true _ _ there in
    let weight_is : K.mean c.unwrap.result ≡ t.weight q a = some_injective (sym (ap (meant K) c.unwrap.ensures) ∙ weighs) in
    let target_is : c.unwrap-state.result ≡ t.target q a = some_injective (sym c.unwrap-state.ensures ∙ leads) in
    record {
      in_range = omega arith;
      inside = subst (λ r. r < t.states) (sym target_is) ((g.S.Source.lawful c.args.source.now K).target_inside q a inv.inside here.0);
      rest_is_word = ap (λ j. no_letter_from t.letters j (drop (i + 1) w)) (add-one i) ∙ here.1;
      so_far =
          run_more K.group t (weight_of K.group t w) (K.mean c.loop-letter.product) (K.mean c.unwrap.result)
          (K.mean c.times-product.result) q c.unwrap-state.result a (drop (i + 1) w)
          (inv.so_far
          ∙ ap (scaled K.group (K.mean c.loop-letter.product)) (at_drop_more (weight_from K.group t q) w i 0 c.loop-letter-test.true))
          weight_is target_is c.times-product.ensures;
    }

pub returns : goal.returns
returns g c =
    let K = g.W.Weight.kind in
    let t = g.S.Source.table c.args.source.now K in
    let product = c.loop-letter.product in
    let final = c.unwrap-2.result in
    ap (meant K) c.then_some.ensures
    ∙ meant_then_some K final product
    ∙ run_all K.group t c.args.word.now c.loop-letter.letter-index (K.mean product) c.loop-letter.state final
    c.loop-letter-test.false c.loop-letter.invariant.inside c.loop-letter.invariant.so_far (sym c.is_final.ensures ∙ c.unwrap-2.ensures)
