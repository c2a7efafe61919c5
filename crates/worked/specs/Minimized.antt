-- What a table is minimized to: its least and its hyper table, with their counts and marks. Assumes nothing.
use Rattle.std.specs.Prelude.{◌≡◌, ℕ, ◌<◌, Bool, true, false, List, map}
use Rattle.std.specs.List.{range_with_len}
use Rattle.weights.specs.Group.{Group}
use Rattle.tables.specs.Table.{Table}
use Rattle.theory.specs.Series.{WeighAlikeFrom}
use Rattle.theory.specs.Least.{Least}
use Rattle.theory.specs.Kernel.{Kernel, Preamble, CoKernel, CoPreamble}
use Rattle.theory.specs.Hyper.{Hyper, count_below}
use Rattle.theory.specs.Theorems.{SameTable, SameHyper, agreement_length}
use Rattle.minimize.specs.Compile.{mark_of}

-- what a table is minimized to: its least table, which of the states of that are kernel and which co-kernel, and the hyper table
-- with its representatives and factors
pub record Minimized (G : Group) : Type 0 where
  pub least : Table G.Mean
  pub kernel : ℕ → Bool
  pub co_kernel : ℕ → Bool
  pub hyper : Table G.Mean
  pub representative : ℕ → ℕ
  pub factor : ℕ → G.Mean

-- How many states a table, its least and its hyper table have, and how many of the least table's are kernel. Words of the agreement
-- length or more weigh alike in the table and its hyper table.
pub record Counts : Type 0 where
  pub source : ℕ
  pub least : ℕ
  pub hyper : ℕ
  pub kernel : ℕ
  pub agreement : ℕ

abbrev pub counts : {G : Group} → Table G.Mean → Minimized G → Counts
counts t m =
    record {
      source = t.states;
      least = m.least.states;
      hyper = m.hyper.states;
      kernel = count_below m.kernel m.least.states;
      agreement = agreement_length m.least.states;
    }

-- the marks of the states of the least table, in order
abbrev pub marks : {G : Group} → Minimized G → List ℕ
marks m = map (λ q. mark_of (m.least.final q) (m.kernel q) (m.co_kernel q)) (range_with_len 0 m.least.states)

-- table t is minimized to m, and to no other tables
pub record MinimizedTo (G : Group) (t : Table G.Mean) (m : Minimized G) : Type 0 where
  pub least : Least G t m.least
  pub only_least : (l : Table G.Mean) → Least G t l → SameTable G m.least l
  pub kernel : (q : ℕ) → q < m.least.states → m.kernel q ≡ true → Kernel m.least q
  pub preamble : (q : ℕ) → q < m.least.states → m.kernel q ≡ false → Preamble m.least q
  pub co_kernel : (q : ℕ) → q < m.least.states → m.co_kernel q ≡ true → CoKernel m.least q
  pub co_preamble : (q : ℕ) → q < m.least.states → m.co_kernel q ≡ false → CoPreamble m.least q
  pub hyper : Hyper G m.least m.hyper m.representative m.factor
  pub only_hyper :
      (h : Table G.Mean) (r : ℕ → ℕ) (f : ℕ → G.Mean) → Hyper G m.least h r f →
      SameHyper G m.least m.hyper h m.representative r m.factor f
  pub agree : WeighAlikeFrom G (counts t m).agreement t m.hyper

-- a least table of co-kernel states, no two of them almost-equivalent, which is its own hyper table
abbrev pub unmerged : (G : Group) → Table G.Mean → (ℕ → Bool) → Minimized G
unmerged G least kernel =
    record {
      least = least;
      kernel = kernel;
      co_kernel = λ q. true;
      hyper = least;
      representative = λ q. q;
      factor = λ q. G.one;
    }
