use Rattle.std.proofs.Common.{◌≡◌, ℕ, ◌%◌, ◌==◌, List, slice_index, ap, arith}
use Rattle.minimize.specs.Rows.{rows_table}
use Rattle.listings.specs.Rows.{laid_rows}
use Rattle.listings.specs.Listing.{state_line}
use Rattle.listings.proofs.Lines.{put_line_more}
use Rattle.listings.proofs.write.put_states.Goals as goal

pub loop-state-preserved : goal.loop-state-preserved
loop-state-preserved g c =
    let t = rows_table g.W.Weight.kind (laid_rows c.args.rows.now) in
    let line : ℕ → List ℕ = λ q. state_line q (t.final q) in
    let at : c.from.result ≡ c.loop-state.state = c.from.ensures in
    let mark : ℕ → ℕ = slice_index c.args.rows.now.marks.now in
    let same : state_line c.loop-state.state (mark c.from.result % 2 == 1) ≡ line c.loop-state.state =
    ap (λ i. state_line c.loop-state.state (mark i % 2 == 1)) at in
    (put_line_more line c.loop-state.state c.loop-state.invariant.0 same c.put_state-next.ensures.put, omega arith)
