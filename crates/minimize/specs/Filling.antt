-- Rows of labels and elements, filled place by place. Assumes nothing.
use Rattle.std.specs.Prelude.{◌≡◌, ℕ, ◌+◌, ◌*◌, ◌<◌, List, slice_index}
use Rattle.weights.specs.Group.{Kind}
use Rattle.tables.specs.Sheet.{mean_at}

-- rows of s labels and s elements
module _ {W : Type 0} (K : Kind W) (s : ℕ) (label : ℕ → ℕ → ℕ) (element : ℕ → ℕ → K.group.Mean) where
  -- place a of row q is filled
  pub record FilledPlace (q a : ℕ) (row_labels : List ℕ) (row_elements : List W) : Type 0 where
    pub holds_label : slice_index row_labels (q * s + a) ≡ label q a
    pub holds_element : mean_at K row_elements (q * s + a) ≡ element q a

  -- the first m places of row q are filled, and what lies before the row is as it was
  pub record FilledRow (q m : ℕ) (row_labels : List ℕ) (row_elements : List W) (row_labels' : List ℕ) (row_elements' : List W) : Type 0 where
    pub place : (a : ℕ) → a < m → FilledPlace q a row_labels' row_elements'
    pub labels_before : (i : ℕ) → i < q * s → slice_index row_labels' i ≡ slice_index row_labels i
    pub elements_before : (i : ℕ) → i < q * s → mean_at K row_elements' i ≡ mean_at K row_elements i

  -- the first n rows are filled
  pub record Filled (n : ℕ) (row_labels : List ℕ) (row_elements : List W) : Type 0 where
    pub place : (q a : ℕ) → q < n → a < s → FilledPlace q a row_labels row_elements
