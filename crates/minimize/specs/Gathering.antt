-- What gathering the classes of a table does to its rows. Assumes nothing.
use Rattle.std.specs.Prelude.{◌≡◌, ℕ, ◌<◌, ◌≤◌, ◌⊎◌, slice_index}
use Rattle.weights.specs.Group.{Kind}
use Rattle.tables.specs.Book.{Contents, place}
use Rattle.tables.specs.Sheet.{mean_at}
use Rattle.minimize.specs.Steps.{number}

-- each of n states has one of them as its label: the state that stands for its class, which is its own label
pub record Labelled (n : ℕ) (label : ℕ → ℕ) : Type 0 where
  pub inside : (q : ℕ) → q < n → label q < n
  pub leads : (q : ℕ) → q < n → label (label q) ≡ label q

-- the numbers of the classes of n states
abbrev pub Numbers : ℕ → (ℕ → ℕ) → (ℕ → ℕ) → Type 0
Numbers n label numbers = (q : ℕ) → q < n → numbers q ≡ number label q

-- the same, where a state stands for its class
abbrev pub FirstNumbers : ℕ → (ℕ → ℕ) → (ℕ → ℕ) → Type 0
FirstNumbers n label numbers = (q : ℕ) → q < n → label q ≡ q → numbers q ≡ number label q

-- the first m places of row k are what f makes of those of row q, and all other places are as before
pub record RowMoved {X : Type 0} (s m q k : ℕ) (f : X → X) (old new : ℕ → X) : Type 0 where
  pub here : (a : ℕ) → a < m → new (place s k a) ≡ f (old (place s q a))
  pub kept : (i : ℕ) → (i < place s k 0) ⊎ (place s k m ≤ i) → new i ≡ old i

-- of the states below n, the rows of those that stand for a class stand at the numbers of the classes; the rows from n on, and the
-- place before the rows, are as before
pub record RowsMoved {X : Type 0} (s n : ℕ) (label : ℕ → ℕ) (f : X → X) (old new : ℕ → X) : Type 0 where
  pub here : (q a : ℕ) → q < n → a < s → label q ≡ q → new (place s (number label q) a) ≡ f (old (place s q a))
  pub kept : (i : ℕ) → place s n 0 ≤ i → new i ≡ old i
  pub start : new 0 ≡ old 0

-- the same of one place a state
pub record MarksMoved {X : Type 0} (n : ℕ) (label : ℕ → ℕ) (old new : ℕ → X) : Type 0 where
  pub here : (q : ℕ) → q < n → label q ≡ q → new (number label q) ≡ old q
  pub kept : (q : ℕ) → n ≤ q → new q ≡ old q

-- the rows and the marks of n states have moved, and targets are given by number
pub record Moved {W : Type 0} (K : Kind W) (s n : ℕ) (label numbers : ℕ → ℕ) (old new : Contents W) : Type 0 where
  pub targets : RowsMoved s n label numbers (slice_index old.targets) (slice_index new.targets)
  pub weights : RowsMoved s n label (λ x. x) (mean_at K old.weights) (mean_at K new.weights)
  pub marks : MarksMoved n label (slice_index old.marks) (slice_index new.marks)
