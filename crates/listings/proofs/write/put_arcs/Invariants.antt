use Rattle.std.proofs.Common.{◌+◌, ◌*◌, ◌≤◌}
use Rattle.minimize.specs.Rows.{rows_table}
use Rattle.listings.specs.Text.{Put}
use Rattle.listings.specs.Rows.{laid_rows}
use Rattle.listings.specs.Listing.{arcs_text}
use Rattle.listings.proofs.write.put_arcs.Given as goal

abbrev pub invariant-loop-arc : goal.invariant-loop-arc
invariant-loop-arc g l =
    let t = rows_table g.W.Weight.kind (laid_rows l.rows) in
    Put (arcs_text g.W.Weight.kind g.W.Coded.codes t l.arc) l.at l.initial.out l.out l.next × (l.next ≤ l.at + 28 * l.arc)
