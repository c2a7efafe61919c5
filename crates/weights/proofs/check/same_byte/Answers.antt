use Rattle.std.proofs.Common.{◌≡◌, ap, arith}
use Rattle.std.proofs.lemmas.Bool.Decides.{Decides-like, Decides-eqb}
use Rattle.weights.specs.Check.{number_of}
use Rattle.weights.specs.Numbers.{chosen_path}
use Rattle.weights.proofs.check.same_byte.Goals as goal

pub returns : goal.returns
returns c =
    Decides-like _ (λ e. chosen_path _ _ (ap number_of e))
    (λ e. let same : number_of c.args.a ≡ number_of c.args.b = ap (λ z. z.at) e in omega arith)
    (Decides-eqb c.args.a c.args.b)
