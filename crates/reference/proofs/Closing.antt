-- Closed states and tables, with more states. Assumes nothing.
use Rattle.std.proofs.Common.{◌≡◌, ℕ, ◌+◌, ◌-◌, ◌<◌, ◌≤◌, ◌++◌, ◌∷◌, [], List, arith}
use Rattle.std.specs.List.{All}
use Rattle.std.proofs.lemmas.List.Elements.{All-push, All-weaker}
use Rattle.reference.specs.declared.table.Arc.{Arc}
use Rattle.reference.specs.declared.table.State.{State}
use Rattle.reference.specs.Closed.{ClosedState}

-- what leads to one of m states leads to one of n, where m is at most n
closed_among_more : {W : Type 0} (m n s : ℕ) → m ≤ n → (q : State W) → ClosedState m s q → ClosedState n s q
closed_among_more {W} m n s le q h = record {
  complete = h.complete;
  inside =
      All-weaker (λ (a : Arc W). a.target < m) (λ (a : Arc W). a.target < n) (λ a lt. omega arith) q.arcs.items h.inside;
}

-- closed states, with one more among more states
pub one_more :
    {W : Type 0} (m n s : ℕ) (qs : List (State W)) (q : State W) → m ≤ n → All (ClosedState m s) qs → ClosedState n s q → All (ClosedState n s) (qs ++ q ∷ [])
one_more {W} m n s qs q le all h =
    All-push (ClosedState n s) qs q
    (All-weaker (ClosedState m s) (ClosedState n s) (closed_among_more m n s le) qs all) h

-- with one more below n, fewer are left
pub fewer_left : (n a b : ℕ) → a < n → b ≡ a + 1 → n - b < n - a
fewer_left n a b lt e = omega arith
