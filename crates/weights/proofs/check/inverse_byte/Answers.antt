use Rattle.std.proofs.Common.{◌%◌, ap, ◌∙◌}
use Rattle.weights.specs.Check.{power_255, residue_of, inverse}
use Rattle.weights.specs.Residues.{means_it}
use Rattle.weights.proofs.check.inverse_byte.Goals as goal

pub returns-clause-element : goal.returns-clause-element
returns-clause-element c =
    ap (λ b. record { 0 = b })
    (c.stored.ensures ∙ ap (λ n. n % 256) (c.power_255_mod.ensures ∙ ap power_255 c.number.ensures))

pub returns-clause-meaning : goal.returns-clause-meaning
returns-clause-meaning c = means_it c.stored.result (inverse (residue_of c.args.a.0)) (returns-clause-element c)
