use Rattle.std.proofs.Common.{sym, ap, ◌∙◌, Ok}
use Rattle.tables.specs.Table.{weighing}
use Rattle.samples.proofs.AlikeWeights.{answered, one_weight}
use Rattle.samples.proofs.Rereading.{ok_some}
use Rattle.samples.proofs.alike.weigh_both.Goals as goal

pub returns-clause-left : goal.returns-clause-left
returns-clause-left g c =
    let K = g.W.Weight.kind in
    let is = ok_some c.weigh.result c.in_ok-ok.field-0 (sym c.ok.ensures.value ∙ c.in_ok-ok.was) ∙ ap Ok c.in_ok-of_left.was in
    answered K c.weigh.result c.in_ok-of_left.of_left
    (weighing K.group (g.S.Source.table c.args.left.now K) c.args.word.now) c.weigh.ensures is

pub returns-clause-right : goal.returns-clause-right
returns-clause-right g c =
    let K = g.W.Weight.kind in
    let is =
    ok_some c.weigh-2.result c.in_ok-ok-2.field-0 (sym c.ok-2.ensures.value ∙ c.in_ok-ok-2.was) ∙ ap Ok c.in_ok-of_right.was in
    answered K c.weigh-2.result c.in_ok-of_right.of_right
    (weighing K.group (g.T.Source.table c.args.right.now K) c.args.word.now) c.weigh-2.ensures is

pub returns-clause-equal : goal.returns-clause-equal
returns-clause-equal g c alike =
    let K = g.W.Weight.kind in
    c.injective.ensures
    (one_weight K.group (g.S.Source.table c.args.left.now K) (g.T.Source.table c.args.right.now K) c.args.word.now
    (K.mean c.in_ok-of_left.of_left) (K.mean c.in_ok-of_right.of_right) (returns-clause-left g c) (returns-clause-right g c) alike)
