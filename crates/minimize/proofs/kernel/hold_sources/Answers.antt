use Rattle.std.proofs.Common.{rules, arith}
use Rattle.minimize.specs.Rows.{rows_table}
use Rattle.minimize.specs.Slices.{laid_rows}
use Rattle.minimize.specs.Steps.{has_mark}
use Rattle.minimize.specs.Peeling.{Back}
use Rattle.minimize.proofs.Peeling.{holding_more}
use Rattle.minimize.proofs.kernel.hold_sources.Goals as goal

pub loop-state-preserved : goal.loop-state-preserved
loop-state-preserved g c =
    let t = rows_table g.W.Weight.kind (laid_rows c.args.rows) in
    holding_more c.args.rows.count c.loop-state.state c.from-in-loop-state.result c.from.result (Back t)
    (has_mark c.args.marks.now) c.leads_to_marked.result c.loop-state.held c.from-in-loop-state.ensures (omega arith)
    (search rules) c.leads_to_marked.ensures c.loop-state.invariant
