use Rattle.std.proofs.Common.{◌≡◌, None, rules}
use Rattle.sources.specs.Fold.{fold_verdict}
use Rattle.sources.proofs.FoldWords.{folded, fold_weighs}
use Rattle.sources.proofs.fold.Fold.new.Goals as goal

pub returns : goal.returns
returns g c =
    let K = g.W.Weight.kind in
    let t = g.S.Source.table c.args.source K in
    let xs = c.args.letters.now in
    let none : fold_verdict t.letters xs ≡ None = search rules in
    record {
      answer = folded K.group t c.args.source c.of.result xs c.of.ensures none;
      weighs = fold_weighs K.group t c.args.source c.of.result xs c.of.ensures none;
    }
