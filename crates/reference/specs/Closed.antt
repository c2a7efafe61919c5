-- Tables whose start and arcs lead to their states. Assumes nothing.
use Rattle.std.specs.Prelude.{◌≡◌, ℕ, ◌<◌, List, length}
use Rattle.std.specs.List.{All}
use Rattle.reference.specs.declared.table.Arc.{Arc}
use Rattle.reference.specs.declared.table.State.{State}
use Rattle.reference.specs.declared.table.Table.{Table}

-- each arc leads to one of n states
abbrev pub LeadInside : {W : Type 0} → ℕ → List (Arc W) → Type 0
LeadInside {W} n arcs = All (λ (a : Arc W). a.target < n) arcs

-- a state has an arc for each of s letters, each to one of n states
pub record ClosedState {W : Type 0} (n s : ℕ) (q : State W) : Type 0 where
  pub complete : length q.arcs.items ≡ s
  pub inside : LeadInside n q.arcs.items

-- a table's start and arcs lead to its states
pub record Closed {W : Type 0} (t : Table W) : Type 0 where
  pub start : t.start < length t.states.items
  pub states : All (ClosedState (length t.states.items) t.letters) t.states.items
