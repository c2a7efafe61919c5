use Rattle.std.proofs.Common.{◌≡◌, ◌+◌, ◌∷◌, [], ◌<◌, ◌≤◌, ℕ, length, sym, subst, ap, rules, arith}
use Rattle.std.specs.List.{All}
use Rattle.std.proofs.lemmas.Grind.{common_steps}
use Rattle.reference.specs.Closed.{ClosedState}
use Rattle.reference.specs.Members.{Members}
use Rattle.reference.proofs.Closing.{one_more, fewer_left}
use Rattle.reference.proofs.Members.{first_member, few_members}
use Rattle.reference.proofs.least.least_table.Goals as goal

pub loop-member-init : goal.loop-member-init
loop-member-init g c =
    let n = length c.args.table.now.states.items in
    let start = c.args.table.now.start in
    let e : c.push.new.self.items ≡ start ∷ [] = grind (arith, common_steps, c.in_ok-push.ensures.items, c.new-members.ensures.items) in
    let one : length c.push.new.self.items ≡ 1 = ap length e in
    let none : length c.new-states.result.items ≡ 0 = ap length c.new-states.ensures.items in
    (omega arith, omega arith, subst (Members n) (sym e) (first_member n start c.requires.start), λ k d b. absurd (omega arith))

pub loop-member-smaller : goal.loop-member-smaller
loop-member-smaller g c =
    let n = length c.args.table.now.states.items in
    let ms = c.loop-member.members.items in
    let qs = c.loop-member.states.items in
    let few = few_members n ms c.loop-member.invariant.2 in
    let lt : length qs < length ms = search rules in
    let more : length c.push-in-Some.new.self.items ≡ length qs + 1 = grind (arith, common_steps, c.in_ok-push-2.ensures.items) in
    fewer_left n (length qs) (length c.push-in-Some.new.self.items) (omega arith) more

pub loop-member-preserved : goal.loop-member-preserved
loop-member-preserved g c =
    let m = length c.loop-member.members.items in
    let n = length c.class_state.new.members.items in
    let s = c.args.table.now.letters in
    let qs = c.loop-member.states.items in
    let q = c.in_ok-class_state.field-0 in
    let lt : length qs < m = search rules in
    let p = c.in_ok-push-2.ensures.items in
    let more : length c.push-in-Some.new.self.items ≡ length qs + 1 = grind (arith, common_steps, p) in (
      omega (arith, c.class_state.ensures.more),
      omega (arith, c.class_state.ensures.more),
      c.class_state.ensures.members,
      subst (All (ClosedState n s)) (sym p)
          (one_more m n s qs q c.class_state.ensures.more c.loop-member.invariant.3 c.in_ok-class_state.ensures.state),
    )

pub returns-clause-closed : goal.returns-clause-closed
returns-clause-closed g c =
    let qs = c.loop-member.states.items in
    let i = c.loop-member.invariant in
    let done : length c.loop-member.members.items ≤ length qs = search rules in
    let e : length c.loop-member.members.items ≡ length qs = omega (arith, i.0) in
    record {
      start = omega (arith, i.1);
      states = subst (λ (m : ℕ). All (ClosedState m c.args.table.now.letters) qs) e i.3;
    }

pub returns-clause-states : goal.returns-clause-states
returns-clause-states g c =
    let n = length c.args.table.now.states.items in
    let few = few_members n c.loop-member.members.items c.loop-member.invariant.2 in
    omega (arith, c.loop-member.invariant.0)
