use Rattle.std.proofs.Common.{◌≡◌, drop}
use Rattle.tables.specs.Table.{no_letter_from}
use Rattle.tables.proofs.words.first_no_letter.Given as goal

abbrev pub invariant-loop-i : goal.invariant-loop-i
invariant-loop-i l = no_letter_from l.letters 0 l.word ≡ no_letter_from l.letters l.i (drop l.i l.word)
