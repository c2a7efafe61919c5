use Rattle.std.proofs.Common.{take}
use Rattle.tables.specs.Made.{calls_of, HasSize}
use Rattle.tables.specs.Sketch.{Lengths, blank, sketch_of}
use Rattle.tables.proofs.size.drawn_size.Given as goal

abbrev pub invariant-loop-one : goal.invariant-loop-one
invariant-loop-one g l =
    let n : Lengths = record { targets = l.targets; weights = l.weights; marks = l.marks } in
    HasSize (sketch_of n blank (calls_of (take l.one-index l.made))) l.size
