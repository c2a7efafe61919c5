use Rattle.std.proofs.Common.{◌≡◌, ◌-◌, ◌≤◌, length}
use Rattle.tables.specs.Held.{written, SameMemory}
use Rattle.drafts.specs.Advancing.{reading_from}
use Rattle.drafts.proofs.read.read_draft.Given as goal

abbrev pub invariant-loop-offset : goal.invariant-loop-offset
invariant-loop-offset g l =
    let k = g.W.Coded.codes in
    (l.offset ≤ length l.bytes)
    × (reading_from k l.bytes 0 (written l.initial.book) ≡ reading_from k l.bytes l.offset (written l.book))
    × SameMemory l.initial.book l.book

abbrev pub decreases-loop-offset : goal.decreases-loop-offset
decreases-loop-offset g l = length l.bytes - l.offset
