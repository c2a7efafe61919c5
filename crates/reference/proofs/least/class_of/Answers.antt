use Rattle.std.proofs.Common.{◌≡◌, ◌<◌, ◌≤◌, ℕ, List, length, get_or, sym, subst, arith}
use Rattle.reference.specs.Members.{Members}
use Rattle.reference.proofs.Members.{new_member}
use Rattle.reference.proofs.least.class_of.Goals as goal

pub returns-clause-members : goal.returns-clause-members
returns-clause-members g c =
    let n = length c.args.table.now.states.items in
    let ms = c.args.members.now.items in
    let q = c.args.state in
    let e : c.deref-member-items.result.now ≡ ms = cc in
    let end : length c.deref-member-items.result.now ≤ c.loop-number.number = omega arith in
    let new : (k : ℕ) → k < length ms → get_or ms k 0 ≡ q → ⊥ =
    subst (λ (xs : List ℕ). (k : ℕ) → k < length xs → get_or xs k 0 ≡ q → ⊥) e
    (λ k lt is. c.loop-number.invariant k (omega arith) is) in
    subst (Members n) (sym c.in_ok-push.ensures.items) (new_member n ms q c.requires.members c.requires.state new)
