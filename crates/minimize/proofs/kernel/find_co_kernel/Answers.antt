use Rattle.std.proofs.Common.{arith}
use Rattle.minimize.specs.Rows.{rows_table}
use Rattle.minimize.specs.Slices.{laid_rows}
use Rattle.minimize.specs.Steps.{has_mark}
use Rattle.minimize.proofs.Peeling.{peeling_more, co_kernel_told, accepted}
use Rattle.minimize.proofs.kernel.find_co_kernel.Goals as goal

pub rounds-preserved : goal.rounds-preserved
rounds-preserved g c =
    let t = rows_table g.W.Weight.kind (laid_rows c.args.rows) in (
      peeling_more (accepted t c.requires.laid.closed) c.rounds.invariant.0 c.peel_co_kernel.ensures.peeled,
      λ q l. omega (arith, c.rounds.invariant.1 q l, c.peel_co_kernel.ensures.small q l),
    )

pub returns-clause-told : goal.returns-clause-told
returns-clause-told g c =
    let t = rows_table g.W.Weight.kind (laid_rows c.args.rows) in
    co_kernel_told t c.requires.laid.closed (has_mark c.rounds.co_kernel) (has_mark c.peel_co_kernel.new.co_kernel) c.rounds.invariant.0
    c.peel_co_kernel.ensures.peeled (cc)
