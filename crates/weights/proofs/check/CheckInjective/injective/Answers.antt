use Rattle.std.proofs.Common.{sym, ap, ◌∙◌, arith}
use Rattle.weights.specs.Check.{check_of}
use Rattle.weights.specs.Residues.{is_element}
use Rattle.weights.proofs.check.CheckInjective.injective.Goals as goal

pub returns : goal.returns
returns c e =
    is_element c.args.self (omega arith) ∙ ap check_of e ∙ sym (is_element c.args._other (omega arith))
