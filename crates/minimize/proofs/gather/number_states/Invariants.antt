use Rattle.std.proofs.Common.{slice_index}
use Rattle.minimize.specs.Gathering.{FirstNumbers, Numbers}
use Rattle.minimize.proofs.gather.number_states.Given as goal

abbrev pub invariant-loop-state : goal.invariant-loop-state
invariant-loop-state l =
    let label = slice_index l.labels in
    let numbers = slice_index l.numbers in
    Numbers l.state label numbers × FirstNumbers l.count label numbers
