use Rattle.std.proofs.Common.{length, arith}
use Rattle.minimize.specs.Rows.{rows_table}
use Rattle.minimize.specs.Slices.{laid_rows}
use Rattle.minimize.specs.Steps.{has_mark}
use Rattle.minimize.proofs.Peeling.{peeling_more, kernel_first, kernel_told, leading}
use Rattle.minimize.proofs.kernel.find_kernel.Goals as goal

pub rounds-init : goal.rounds-init
rounds-init g c =
    let t = rows_table g.W.Weight.kind (laid_rows c.args.rows) in
    kernel_first t c.fill.new.self (length c.args.kernel.now) c.requires.reached c.requires.room (c.fill.ensures.after (λ y e. e))

pub rounds-preserved : goal.rounds-preserved
rounds-preserved g c =
    let t = rows_table g.W.Weight.kind (laid_rows c.args.rows) in (
      peeling_more (leading t c.requires.laid.closed) c.rounds.invariant.0 c.peel_kernel.ensures.peeled,
      λ q l. omega (arith, c.rounds.invariant.1 q l, c.peel_kernel.ensures.small q l),
    )

pub returns-clause-told : goal.returns-clause-told
returns-clause-told g c =
    let t = rows_table g.W.Weight.kind (laid_rows c.args.rows) in
    kernel_told t c.requires.laid.closed (has_mark c.rounds.kernel) (has_mark c.peel_kernel.new.kernel) c.rounds.invariant.0
    c.peel_kernel.ensures.peeled (cc)
