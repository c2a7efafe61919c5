use Rattle.std.proofs.Common.{◌+◌, ◌*◌, ◌≤◌}
use Rattle.minimize.specs.Rows.{rows_table}
use Rattle.listings.specs.Text.{Put}
use Rattle.listings.specs.Rows.{laid_rows}
use Rattle.listings.specs.Listing.{states_text}
use Rattle.listings.proofs.write.put_states.Given as goal

abbrev pub invariant-loop-state : goal.invariant-loop-state
invariant-loop-state g l =
    let t = rows_table g.W.Weight.kind (laid_rows l.rows) in
    Put (states_text t.final l.state) l.at l.initial.out l.out l.next × (l.next ≤ l.at + 18 * l.state)
