use Rattle.std.proofs.Common.{◌≡◌, ◌%◌, ap, ◌∙◌}
use Rattle.weights.specs.Check.{number_of, product, residue_of, times}
use Rattle.weights.specs.Residues.{means_it}
use Rattle.weights.proofs.check.product_byte.Goals as goal

pub returns-clause-element : goal.returns-clause-element
returns-clause-element c =
    let both : c.product_mod.result ≡ product (number_of c.args.a.0) (number_of c.args.b.0) = cc in
    ap (λ b. record { 0 = b }) (c.stored.ensures ∙ ap (λ n. n % 256) both)

pub returns-clause-meaning : goal.returns-clause-meaning
returns-clause-meaning c =
    means_it c.stored.result (times (residue_of c.args.a.0) (residue_of c.args.b.0)) (returns-clause-element c)
