-- Equal rows. Assumes nothing.
use Rattle.std.specs.Prelude.{◌≡◌, ℕ, ◌+◌, ◌*◌, ◌<◌, ◌≤◌, List, slice_index}
use Rattle.weights.specs.Group.{Kind}
use Rattle.tables.specs.Sheet.{mean_at}
use Rattle.theory.specs.Hyper.{count_below}
use Rattle.minimize.specs.Steps.{leads}

-- rows q and p are equal: they have one key, and letter by letter one label and elements that mean the same
pub record SameRow {W : Type 0} (K : Kind W) (s : ℕ) (keys labels : List ℕ) (elements : List W) (q p : ℕ) : Type 0 where
  pub key : slice_index keys q ≡ slice_index keys p
  pub label : (a : ℕ) → a < s → slice_index labels (q * s + a) ≡ slice_index labels (p * s + a)
  pub element : (a : ℕ) → a < s → mean_at K elements (q * s + a) ≡ mean_at K elements (p * s + a)

-- each of n rows has the first row that is equal to it, and so many rows are the first of their kind
pub record Grouped {W : Type 0} (K : Kind W) (s n : ℕ) (keys labels : List ℕ) (elements : List W) (first : ℕ → ℕ) (m : ℕ) : Type 0 where
  pub first_inside : (q : ℕ) → q < n → first q ≤ q
  pub same : (q : ℕ) → q < n → SameRow K s keys labels elements q (first q)
  pub one_first : (q p : ℕ) → q < n → p < n → SameRow K s keys labels elements q p → first q ≡ first p
  pub count : m ≡ count_below (leads first) n
