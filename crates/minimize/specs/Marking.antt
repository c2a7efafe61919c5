-- Marks that tell what is final, kernel and co-kernel, and the tables that come with them. Assumes nothing.
use Rattle.std.specs.Prelude.{◌≡◌, ℕ, ◌<◌, Bool, true, List, slice_index}
use Rattle.weights.specs.Group.{Kind}
use Rattle.tables.specs.Table.{Table}
use Rattle.tables.specs.Book.{Contents}
use Rattle.tables.specs.Sheet.{mean_at}
use Rattle.theory.specs.Least.{Least}
use Rattle.theory.specs.Kernel.{Kernel, Preamble, CoKernel, CoPreamble}
use Rattle.theory.specs.Hyper.{Hyper, count_below}
use Rattle.minimize.specs.Rows.{rows_table}
use Rattle.minimize.specs.Compile.{mark_of, Tells}

module _ {W : Type 0} (K : Kind W) where
  -- the marks of a table are made of its finality, its kernel states and its co-kernel states
  pub record MarkedBy (l : Contents W) (kernel co_kernel : ℕ → Bool) : Type 0 where
    pub is_kernel : (q : ℕ) → q < l.count → Tells (kernel q) (Kernel (rows_table K l) q) (Preamble (rows_table K l) q)
    pub is_co_kernel : (q : ℕ) → q < l.count → Tells (co_kernel q) (CoKernel (rows_table K l) q) (CoPreamble (rows_table K l) q)
    pub marks : (q : ℕ) → q < l.count → slice_index l.marks q ≡ mark_of ((rows_table K l).final q) (kernel q) (co_kernel q)

  -- the slices hold the least table of t, with its marks, its hyper table, the representatives and the factors; k states are kernel
  pub record Written (t : Table K.group.Mean) (l h : Contents W) (r : List ℕ) (f : List W) (k : ℕ) : Type 0 where
    pub least : Least K.group t (rows_table K l)
    pub hyper : Hyper K.group (rows_table K l) (rows_table K h) (slice_index r) (mean_at K f)
    pub kernel : ℕ → Bool
    pub co_kernel : ℕ → Bool
    pub marked : MarkedBy l kernel co_kernel
    pub copied : (q : ℕ) → q < l.count → hyper.kept q ≡ true → slice_index h.marks (count_below hyper.kept q) ≡ slice_index l.marks q
    pub kernel_count : k ≡ count_below kernel l.count
