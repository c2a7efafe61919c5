use Rattle.std.proofs.Common.{◌+◌, ◌*◌, ◌<◌, ◌≤◌, length, get_or, ap, rules, arith}
use Rattle.std.proofs.Math.Nat.{mul-le-mul_right}
use Rattle.minimize.proofs.Copying.{from_inside, to_reachable, number_fits, met, copied_more}
use Rattle.minimize.proofs.copy.copy_arc.Goals as goal

pub read_arc-to-requires-clause-inside : goal.read_arc-to-requires-clause-inside
read_arc-to-requires-clause-inside g c =
    let K = g.W.Weight.kind in
    let source = c.args.source.now in
    from_inside (g.S.Source.table source K) (g.S.Source.lawful source K) c.args.numbers.now c.args.order.now c.args.count c.args.arc
    c.requires.numbered c.requires.more

pub meet-met-requires-clause-room : goal.meet-met-requires-clause-room
meet-met-requires-clause-room g c unmet =
    let K = g.W.Weight.kind in
    let source = c.args.source.now in
    let t = g.S.Source.table source K in
    let fits : c.args.count < t.states =
    number_fits t (g.S.Source.lawful source K) c.args.numbers.now c.args.order.now c.args.count c.read_arc-to.result.0
    c.requires.numbered c.read_arc-to.ensures.inside unmet in
    omega arith

pub offset_bounds-weights-arc : goal.offset_bounds-weights-arc
offset_bounds-weights-arc g c =
    let t = g.S.Source.table c.args.source.now g.W.Weight.kind in
    let size : c.args.count * t.letters ≤ t.states * t.letters = mul-le-mul_right t.letters c.requires.numbered.few in
    let inside : 1 + c.args.arc < length c.args.weights.now = omega arith in
    search (rules, inside)

pub returns : goal.returns
returns g c =
    let K = g.W.Weight.kind in
    let source = c.args.source.now in
    let t = g.S.Source.table source K in
    let laws = g.S.Source.lawful source K in
    let ns = c.args.numbers.now in
    let os = c.args.order.now in
    let m = c.args.count in
    let k = c.args.arc in
    let need = c.requires in
    let told = c.read_arc-to.ensures in
    let p = c.read_arc-to.result.0 in
    let after = c.meet-met.new in
    let step =
    met t laws ns os m p need.numbered told.inside after.numbers after.order c.meet-met.result need.room.number_room
    need.room.order_room (to_reachable t laws ns os m k need.numbered need.more p told.target) c.meet-met.ensures in
    record {
      numbered = step.numbered;
      copied =
          copied_more K t laws c.args.targets.now c.args.weights.now ns os m k p need.numbered told.inside need.copied need.more
          after.numbers after.order c.meet-met.result (get_or after.numbers c.from.result 0) c.read_arc-to.result.1 step told.target
          (ap (λ q. get_or after.numbers q 0) c.from.ensures) told.weight need.room.target_room need.room.weight_room;
    }
