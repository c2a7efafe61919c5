use Rattle.std.proofs.Common.{◌+◌, ◌*◌, ◌%◌, slice_index}
use Rattle.minimize.proofs.Peeling.{Done}
use Rattle.minimize.proofs.kernel.write_marks.Given as goal

abbrev pub invariant-loop-state : goal.invariant-loop-state
invariant-loop-state l =
    Done (λ q. slice_index l.initial.marks q % 2 + 2 * slice_index l.kernel q + 4 * slice_index l.co_kernel q) l.state l.initial.marks l.marks
