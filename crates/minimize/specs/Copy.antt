-- How far a copy of the reachable states of a table into memory has come. Assumes nothing.
use Rattle.std.specs.Prelude.{◌≡◌, ◌≢◌, ℕ, ◌+◌, ◌*◌, ◌/◌, ◌%◌, ◌<◌, ◌≤◌, cond, List, ◌⊎◌, ◌==◌, slice_index, slice_set}
use Rattle.weights.specs.Group.{Kind}
use Rattle.tables.specs.Table.{Table}
use Rattle.tables.specs.Book.{mark}
use Rattle.tables.specs.Sheet.{mean_at}
use Rattle.theory.specs.Runs.{Reachable}
use Rattle.minimize.specs.Steps.{none}

-- memories of those lengths have a place for each state and each arc of the table
pub record CopyRoom {M : Type 0} (t : Table M) (targets weights numbers order : ℕ) : Type 0 where
  pub target_room : 1 + t.states * t.letters ≤ targets
  pub weight_room : 1 + t.states * t.letters ≤ weights
  pub number_room : t.states ≤ numbers
  pub order_room : t.states ≤ order

-- state p is met: where it has no number it gets the next one, m, and comes last in the order
pub record Meets (p m : ℕ) (ns os ns' os' : List ℕ) (m' : ℕ) : Type 0 where
  pub numbers : ns' ≡ cond (slice_index ns p == none) (slice_set ns p m) ns
  pub order : os' ≡ cond (slice_index ns p == none) (slice_set os m p) os
  pub count : m' ≡ cond (slice_index ns p == none) (m + 1) m

-- m states have a number, and the order has them by it, the start first
pub record Numbered {M : Type 0} (t : Table M) (numbers order : List ℕ) (m : ℕ) : Type 0 where
  pub some : 1 ≤ m
  pub few : m ≤ t.states
  pub start : slice_index order 0 ≡ t.start
  pub reachable : (i : ℕ) → i < m → Reachable t (slice_index order i)
  pub number : (i : ℕ) → i < m → slice_index numbers (slice_index order i) ≡ i
  pub inside : (p : ℕ) → p < t.states → slice_index numbers p ≢ none → slice_index numbers p < m
  pub state : (p : ℕ) → p < t.states → slice_index numbers p ≢ none → slice_index order (slice_index numbers p) ≡ p

-- number i is the start's, or an arc before arc k leads to it
abbrev pub LedToBefore : List ℕ → ℕ → ℕ → Type 0
LedToBefore targets k i = (i ≡ 0) ⊎ ((j : ℕ) × (j < k) × (slice_index targets (1 + j) ≡ i))

-- the start and the arcs before arc k are copied: arc j is that of the state with number j / letters on letter j % letters
pub record ArcsCopied {W : Type 0} (K : Kind W) (t : Table K.group.Mean) (targets : List ℕ) (weights : List W) (order : List ℕ) (m k : ℕ) : Type 0 where
  pub numbered : k ≤ m * t.letters
  pub start : slice_index targets 0 ≡ 0
  pub start_weight : mean_at K weights 0 ≡ t.start_weight
  pub inside : (j : ℕ) → j < k → slice_index targets (1 + j) < m
  pub target :
      (j : ℕ) → j < k →
      slice_index order (slice_index targets (1 + j)) ≡ t.target (slice_index order (j / t.letters)) (j % t.letters)
  pub weight :
      (j : ℕ) → j < k → mean_at K weights (1 + j) ≡ t.weight (slice_index order (j / t.letters)) (j % t.letters)
  -- numbers are given as states are met
  pub before : (j i : ℕ) → j < k → i < slice_index targets (1 + j) → LedToBefore targets j i
  pub met : (i : ℕ) → i < m → LedToBefore targets k i

-- the first k marks are those of the first k states in the order
abbrev pub MarksCopied : {M : Type 0} → Table M → List ℕ → List ℕ → ℕ → Type 0
MarksCopied t marks order k = (i : ℕ) → i < k → slice_index marks i ≡ mark (t.final (slice_index order i))
