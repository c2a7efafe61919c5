use Rattle.tables.proofs.Reading.{Running}
use Rattle.tables.proofs.words.run.Given as goal

abbrev pub invariant-loop-letter : goal.invariant-loop-letter
invariant-loop-letter g l =
    let K = g.W.Weight.kind in
    Running K.group (g.S.Source.table l.source K) l.word l.letter-index l.state (K.mean l.product)
