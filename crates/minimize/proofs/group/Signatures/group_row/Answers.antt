use Rattle.std.proofs.Common.{◌+◌, set, slice_index, sym, subst, arith}
use Rattle.minimize.specs.Steps.{leads}
use Rattle.minimize.specs.Grouping.{chains_of, grouped_rows}
use Rattle.minimize.proofs.Keeping.{kept_few}
use Rattle.minimize.proofs.Grouping.{is_first, grouped_found, grouped_first, chains_found, chains_first}
use Rattle.minimize.proofs.group.Signatures.group_row.Goals as goal

pub overflow_add-result : goal.overflow_add-result
overflow_add-result g c =
    omega (arith, c.requires.grouped.count, kept_few (leads (slice_index c.args.firsts.now)) c.args.row)

pub returns-in-Some-clause-chains : goal.returns-in-Some-clause-chains
returns-in-Some-clause-chains g c =
    chains_found g.W.Weight.kind c.args.self.now c.args.row c.in-Some.first c.args.heads.now c.args.links.now c.requires.chains c.in-Some.ensures

pub returns-in-Some-clause-grouped : goal.returns-in-Some-clause-grouped
returns-in-Some-clause-grouped g c =
    let K = g.W.Weight.kind in
    let r = c.args.self.now in
    subst (λ i. grouped_rows K r (c.args.row + 1) (set c.args.firsts.now i c.in-Some.first) c.args.kinds) (sym c.from.ensures)
    (grouped_found K r c.args.row c.args.kinds c.in-Some.first c.args.firsts.now c.requires.told c.requires.grouped c.in-Some.ensures)

pub returns-in-None-clause-chains : goal.returns-in-None-clause-chains
returns-in-None-clause-chains g c =
    let K = g.W.Weight.kind in
    let r = c.args.self.now in
    let k = c.slot-slot.result in
    let first = is_first K r c.args.row c.args.kinds c.args.firsts.now c.requires.grouped c.in-None.ensures in
    subst
    (λ i. chains_of K r (c.args.row + 1) (set c.args.heads.now k (c.args.row + 1)) (set c.args.links.now i (slice_index c.args.heads.now k)))
    (sym c.from-in-None-2.ensures)
    (chains_first K r c.args.row k c.args.heads.now c.args.links.now c.slot-slot.ensures.value c.slot-slot.ensures.inside c.requires.linked c.requires.chains first)

pub returns-in-None-clause-grouped : goal.returns-in-None-clause-grouped
returns-in-None-clause-grouped g c =
    let K = g.W.Weight.kind in
    let r = c.args.self.now in
    let first = is_first K r c.args.row c.args.kinds c.args.firsts.now c.requires.grouped c.in-None.ensures in
    subst (λ i. grouped_rows K r (c.args.row + 1) (set c.args.firsts.now i c.args.row) (c.args.kinds + 1)) (sym c.from-in-None.ensures)
    (grouped_first K r c.args.row c.args.kinds c.args.firsts.now c.requires.told c.requires.grouped first)
