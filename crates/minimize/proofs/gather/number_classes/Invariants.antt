use Rattle.std.proofs.Common.{◌≡◌, slice_index}
use Rattle.theory.specs.Hyper.{count_below}
use Rattle.minimize.specs.Steps.{leads}
use Rattle.minimize.specs.Gathering.{FirstNumbers}
use Rattle.minimize.proofs.gather.number_classes.Given as goal

abbrev pub invariant-loop-state : goal.invariant-loop-state
invariant-loop-state l =
    let label = slice_index l.labels in
    (l.classes ≡ count_below (leads label) l.state) × FirstNumbers l.state label (slice_index l.numbers)
