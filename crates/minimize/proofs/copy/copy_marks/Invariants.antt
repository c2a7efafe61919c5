use Rattle.minimize.specs.Copy.{MarksCopied}
use Rattle.minimize.proofs.copy.copy_marks.Given as goal

abbrev pub invariant-loop-number : goal.invariant-loop-number
invariant-loop-number g l = MarksCopied (g.S.Source.table l.source g.W.Weight.kind) l.marks l.order l.number
