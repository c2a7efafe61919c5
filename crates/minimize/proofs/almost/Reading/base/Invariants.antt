use Rattle.std.proofs.Common.{◌≡◌}
use Rattle.minimize.specs.Almost.{read_base}
use Rattle.minimize.proofs.almost.Reading.base.Given as goal

abbrev pub invariant-loop-letter : goal.invariant-loop-letter
invariant-loop-letter g l =
    let K = g.W.Weight.kind in
    K.mean l.base ≡ read_base K l.self l.state l.letter
