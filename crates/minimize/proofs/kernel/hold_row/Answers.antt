use Rattle.std.proofs.Common.{sym, ◌∙◌, arith}
use Rattle.minimize.specs.Rows.{rows_table}
use Rattle.minimize.specs.Slices.{laid_rows}
use Rattle.minimize.specs.Steps.{has_mark}
use Rattle.minimize.proofs.Peeling.{added_more}
use Rattle.minimize.proofs.kernel.hold_row.Goals as goal

pub loop-letter-preserved : goal.loop-letter-preserved
loop-letter-preserved g c =
    added_more (rows_table g.W.Weight.kind (laid_rows c.args.rows)) c.loop-letter.letter c.args.state c.from.result
    (has_mark c.args.held.now) c.loop-letter.held (sym c.target.ensures.value ∙ sym c.from.ensures) (omega arith)
    c.loop-letter.invariant
