-- Rows of states, and rounds that refine labels. Assumes nothing.
use Rattle.std.specs.Prelude.{◌≡◌, ℕ, ◌<◌, ◌≤◌, List, slice_index}
use Rattle.weights.specs.Group.{Group}
use Rattle.tables.specs.Table.{Table}
use Rattle.theory.specs.Hyper.{count_below}
use Rattle.minimize.specs.Steps.{leads}

-- the label of an arc's target
abbrev pub target_label : {M : Type 0} → Table M → List ℕ → ℕ → ℕ → ℕ
target_label t labels q a = slice_index labels (t.target q a)

module _ (G : Group) (t : Table G.Mean) where
  -- states q and p have one label, and so have their targets, letter by letter, with equal weights
  pub record OneRow (label : ℕ → ℕ) (q p : ℕ) : Type 0 where
    pub key : label q ≡ label p
    pub target : (a : ℕ) → a < t.letters → label (t.target q a) ≡ label (t.target p a)
    pub weight : (a : ℕ) → a < t.letters → t.weight q a ≡ t.weight p a

  -- each state has as its new label the first state with its row, and so many states are the first
  pub record Refined (label label' : ℕ → ℕ) (m : ℕ) : Type 0 where
    pub first : (q : ℕ) → q < t.states → label' q ≤ q
    pub same : (q : ℕ) → q < t.states → OneRow label q (label' q)
    pub one_first : (q p : ℕ) → q < t.states → p < t.states → OneRow label q p → label' q ≡ label' p
    pub count : m ≡ count_below (leads label') t.states
