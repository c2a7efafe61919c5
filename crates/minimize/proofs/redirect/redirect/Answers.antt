use Rattle.std.proofs.Common.{arith}
use Rattle.minimize.proofs.Redirecting.{laid_rows_to}
use Rattle.minimize.proofs.redirect.redirect.Goals as goal

pub returns-clause-laid : goal.returns-clause-laid
returns-clause-laid g c =
    laid_rows_to g.W.Weight.kind c.number_kept-kept.result c.write.new.targets c.write.new.weights c.write.new.marks c.write.ensures
    c.number_kept-kept.ensures.count c.requires.laid c.requires.to_kept (omega (arith, c.requires.target_room, c.write.auto.targets))
    (omega (arith, c.requires.weight_room, c.write.auto.weights)) (omega (arith, c.requires.mark_room, c.write.auto.marks))
