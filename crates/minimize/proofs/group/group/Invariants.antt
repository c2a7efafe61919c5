use Rattle.minimize.specs.Grouping.{chains_of, grouped_rows}
use Rattle.minimize.proofs.group.group.Given as goal

abbrev pub invariant-loop-row : goal.invariant-loop-row
invariant-loop-row g l =
    let K = g.W.Weight.kind in
    chains_of K l.rows l.row l.heads l.links × grouped_rows K l.rows l.row l.firsts l.kinds
