-- Redirecting arcs in memory. Assumes nothing.
use Rattle.std.specs.Prelude.{◌≡◌, ℕ, ◌<◌, ◌≤◌, Bool, true, cond, List, length, slice_index}
use Rattle.weights.specs.Group.{Kind}
use Rattle.tables.specs.Table.{Table}
use Rattle.tables.specs.Book.{place}
use Rattle.tables.specs.Sheet.{mean_at}
use Rattle.theory.specs.Hyper.{count_below}
use Rattle.minimize.specs.Rows.{Laid, rows_table}
use Rattle.minimize.specs.Slices.{laid_rows}
use Rattle.minimize.specs.Choosing.{is_kept, ToKept}
use Rattle.minimize.specs.declared.redirect.Redirection.{Redirection}

-- which states are kept
abbrev pub kept_of : {W : Type 0} → Redirection W → ℕ → Bool
kept_of d = is_kept d.kernel.now d.representatives.now

-- the number of a state that is kept
abbrev pub number_in : {W : Type 0} → Redirection W → ℕ → ℕ
number_in d = count_below (kept_of d)

-- where what leads to state q leads now
abbrev pub moved_to : {W : Type 0} → Redirection W → ℕ → ℕ
moved_to d q = cond (kept_of d q) q (slice_index d.representatives.now q)

module _ {W : Type 0} (K : Kind W) where
  -- what is led to state q by a weight weighs now
  abbrev pub weighed_to : Redirection W → ℕ → K.group.Mean → K.group.Mean
  weighed_to d q x = cond (kept_of d q) x (K.group.mul x (mean_at K d.factors.now q))

  abbrev pub given : Redirection W → Table K.group.Mean
  given d = rows_table K (laid_rows d.rows)

  -- all is there for redirecting: the rows, a kept representative for each state, and the numbers of the kept states
  pub record Ready (d : Redirection W) : Type 0 where
    pub laid : Laid K (laid_rows d.rows)
    pub kernel_room : d.rows.count ≤ length d.kernel.now
    pub representatives_room : d.rows.count ≤ length d.representatives.now
    pub factors_room : d.rows.count ≤ length d.factors.now
    pub numbers_room : d.rows.count ≤ length d.numbers.now
    pub to_kept : ToKept d.rows.count d.kernel.now d.representatives.now
    pub numbers : (q : ℕ) → q < d.rows.count → slice_index d.numbers.now q ≡ number_in d q

  -- the arc of state q and letter a stands in the row of number i
  pub record Arc (d : Redirection W) (ts : List ℕ) (ws : List W) (i q a : ℕ) : Type 0 where
    pub target : slice_index ts (place d.rows.letters i a) ≡ number_in d (moved_to d ((given d).target q a))
    pub weight : mean_at K ws (place d.rows.letters i a) ≡ weighed_to d ((given d).target q a) ((given d).weight q a)

  -- the row of state q stands in the row of number i, up to letter b, and what stands before is as it was
  pub record RowTo (d : Redirection W) (q i b : ℕ) (old_ts ts : List ℕ) (old_ws ws : List W) : Type 0 where
    pub arcs : (a : ℕ) → a < b → Arc d ts ws i q a
    pub targets_before : (k : ℕ) → k < place d.rows.letters i 0 → slice_index ts k ≡ slice_index old_ts k
    pub weights_before : (k : ℕ) → k < place d.rows.letters i 0 → mean_at K ws k ≡ mean_at K old_ws k

  -- the start stands, and the rows and marks of the kept states below m
  pub record RowsTo (d : Redirection W) (m : ℕ) (ts : List ℕ) (ws : List W) (ms : List ℕ) : Type 0 where
    pub start : slice_index ts 0 ≡ number_in d (moved_to d (given d).start)
    pub start_weight : mean_at K ws 0 ≡ weighed_to d (given d).start (given d).start_weight
    pub arcs : (q a : ℕ) → q < m → a < d.rows.letters → kept_of d q ≡ true → Arc d ts ws (number_in d q) q a
    pub marks : (q : ℕ) → q < m → kept_of d q ≡ true → slice_index ms (number_in d q) ≡ slice_index d.rows.marks.now q
