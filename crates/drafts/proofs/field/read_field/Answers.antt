use Rattle.std.proofs.Common.{arith}
use Rattle.std.proofs.lemmas.Bool.Decides.{nat_tests}
use Rattle.drafts.specs.declared.tag.Tag.TheVariants.{Head, State, Arc, Start}
use Rattle.drafts.proofs.field.read_field.Goals as goal

pub returns-in_default-try_from : goal.returns-in_default-try_from
returns-in_default-try_from g c =
    let none = c.in_default-try_from.ensures in
    grind (arith, nat_tests, none Head, none State, none Arc, none Start)
