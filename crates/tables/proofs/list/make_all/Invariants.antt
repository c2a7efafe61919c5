use Rattle.tables.specs.Held.{written, SameMemory}
use Rattle.tables.proofs.Lists.{MadeBefore}
use Rattle.tables.proofs.list.make_all.Given as goal

abbrev pub invariant-loop-one : goal.invariant-loop-one
invariant-loop-one g l =
    MadeBefore (written l.initial.book) l.initial.made l.one-index (written l.book) l.made × SameMemory l.initial.book l.book
