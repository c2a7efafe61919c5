-- Rows of states towards labels and factors, and rounds that gather almost-equivalent states by them. Assumes nothing.
use Rattle.std.specs.Prelude.{◌≡◌, ℕ, zero, suc, ◌<◌, ◌≤◌, Bool, cond, length, slice_index}
use Rattle.weights.specs.Group.{Group, Kind}
use Rattle.tables.specs.Table.{Table}
use Rattle.tables.specs.Sheet.{mean_at}
use Rattle.theory.specs.Hyper.{count_below}
use Rattle.minimize.specs.Rows.{Laid, rows_table}
use Rattle.minimize.specs.Slices.{laid_rows}
use Rattle.minimize.specs.Steps.{none, leads, has_mark}
use Rattle.minimize.specs.declared.almost.Reading.{Reading}

module _ (G : Group) (t : Table G.Mean) where
  -- what an arc weighs towards the state that its target's label names
  abbrev pub weighed : (ℕ → G.Mean) → ℕ → ℕ → G.Mean
  weighed factor q a = G.mul (t.weight q a) (factor (t.target q a))

  -- the base of a row: that weight by the last of the first m letters that leads to a co-kernel state, or one where none does
  abbrev pub base : (ℕ → Bool) → (ℕ → G.Mean) → ℕ → ℕ → G.Mean
  base o factor q zero = G.one
  base o factor q (suc m) = cond (o (t.target q m)) (weighed factor q m) (base o factor q m)

  -- the row of a state: an arc to a co-kernel state has its target's label, and its weight divided by the base
  abbrev pub row_label : (ℕ → Bool) → (ℕ → ℕ) → ℕ → ℕ → ℕ
  row_label o label q a = cond (o (t.target q a)) (label (t.target q a)) none

  abbrev pub row_element : (ℕ → Bool) → (ℕ → G.Mean) → ℕ → ℕ → G.Mean
  row_element o factor q a = cond (o (t.target q a)) (G.mul (G.inv (base o factor q t.letters)) (weighed factor q a)) G.one

module _ (G : Group) (t : Table G.Mean) (o : ℕ → Bool) (label : ℕ → ℕ) (factor : ℕ → G.Mean) where
  -- states q and p have one row
  pub record OneRow (q p : ℕ) : Type 0 where
    pub one_label : (a : ℕ) → a < t.letters → row_label G t o label q a ≡ row_label G t o label p a
    pub one_element : (a : ℕ) → a < t.letters → row_element G t o factor q a ≡ row_element G t o factor p a

  -- each state has as its new label the first state with its row, and its factor towards it, and so many states are the first
  pub record Regrouped (label' : ℕ → ℕ) (factor' : ℕ → G.Mean) (m : ℕ) : Type 0 where
    pub first : (q : ℕ) → q < t.states → label' q ≤ q
    pub same : (q : ℕ) → q < t.states → OneRow q (label' q)
    pub one_first : (q p : ℕ) → q < t.states → p < t.states → OneRow q p → label' q ≡ label' p
    pub towards : (q : ℕ) → q < t.states → factor' q ≡ G.mul (base G t o factor q t.letters) (G.inv (base G t o factor (label' q) t.letters))
    pub count : m ≡ count_below (leads label') t.states

-- what is read
module _ {W : Type 0} (K : Kind W) (r : Reading W) where
  pub record Ready : Type 0 where
    pub laid : Laid K (laid_rows r.rows)
    pub co_kernel_room : r.rows.count ≤ length r.co_kernel.now
    pub labels_room : r.rows.count ≤ length r.labels.now
    pub factors_room : r.rows.count ≤ length r.factors.now

  abbrev pub read_table : Table K.group.Mean
  read_table = rows_table K (laid_rows r.rows)

  abbrev pub read_weight : ℕ → ℕ → K.group.Mean
  read_weight = weighed K.group read_table (mean_at K r.factors.now)

  abbrev pub read_base : ℕ → ℕ → K.group.Mean
  read_base = base K.group read_table (has_mark r.co_kernel.now) (mean_at K r.factors.now)

  abbrev pub read_label : ℕ → ℕ → ℕ
  read_label = row_label K.group read_table (has_mark r.co_kernel.now) (slice_index r.labels.now)

  abbrev pub read_element : ℕ → ℕ → K.group.Mean
  read_element = row_element K.group read_table (has_mark r.co_kernel.now) (mean_at K r.factors.now)
