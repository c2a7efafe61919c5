-- What holds of least and hyper tables, over every group, and of finitely many words. Assumes nothing.
use Rattle.std.specs.Prelude.{◌≡◌, ℕ, ◌-◌, ◌*◌, ◌<◌, ◌≤◌, ◌↔◌, List}
use Rattle.weights.specs.Group.{Group}
use Rattle.tables.specs.Table.{Table, Lawful, WeighAlike}
use Rattle.theory.specs.Runs.{Closed}
use Rattle.theory.specs.Finitely.{ByLength}
use Rattle.theory.specs.Series.{Equivalent, WeighAlikeFrom, AlmostWeighAlike}
use Rattle.theory.specs.Push.{Push}
use Rattle.theory.specs.Least.{Least}
use Rattle.theory.specs.Kernel.{Kernel, CoKernel}
use Rattle.theory.specs.Hyper.{Hyper}

-- what a least table keeps, and what makes it least: it weighs every word as its source, its states are pairwise not equivalent,
-- each push is one, and no closed table that weighs every word so, the source among them, has fewer states
pub record Minimal (G : Group) (t l : Table G.Mean) : Type 0 where
  pub alike : WeighAlike G l t
  pub apart : (q p : ℕ) → q < l.states → p < l.states → Equivalent G l q p → q ≡ p
  pub pushes : (q : ℕ) (u : G.Mean) → q < l.states → Push G l q u → u ≡ G.one
  pub fewest : (b : Table G.Mean) → Closed b → WeighAlike G t b → l.states ≤ b.states

-- two tables are equal in count, targets, weights and finality, and so in the states that are kernel and co-kernel. What is said of
-- states and letters that a table lacks has no meaning.
pub record SameTable (G : Group) (t u : Table G.Mean) : Type 0 where
  pub states : t.states ≡ u.states
  pub letters : t.letters ≡ u.letters
  pub start : t.start ≡ u.start
  pub start_weight : t.start_weight ≡ u.start_weight
  pub final : (q : ℕ) → q < t.states → t.final q ≡ u.final q
  pub target : (q a : ℕ) → q < t.states → a < t.letters → t.target q a ≡ u.target q a
  pub weight : (q a : ℕ) → q < t.states → a < t.letters → t.weight q a ≡ u.weight q a
  pub kernel : (q : ℕ) → q < t.states → Kernel t q ↔ Kernel u q
  pub co_kernel : (q : ℕ) → q < t.states → CoKernel t q ↔ CoKernel u q

-- two hyper tables of a table t are the same, and so are the representatives and the factors of the states of t
pub record SameHyper (G : Group) (t h k : Table G.Mean) (r s : ℕ → ℕ) (f g : ℕ → G.Mean) : Type 0 where
  pub table : SameTable G h k
  pub representatives : (q : ℕ) → q < t.states → r q ≡ s q
  pub factors : (q : ℕ) → q < t.states → f q ≡ g q

-- over every alphabet, lengths tell whether a property is that of finitely many words, of infinitely many, or of all but finitely many
abbrev pub LengthsTell : (List ℕ → Type 0) → Type 0
LengthsTell P = (s : ℕ) → ByLength s P

-- the agreement length, where the least table has m states
abbrev pub agreement_length : ℕ → ℕ
agreement_length m = 2 * m - 2

module _ (G : Group) where
  -- each least table is minimal
  abbrev pub LeastIsMinimal : Type 0
  LeastIsMinimal = (t l : Table G.Mean) → Lawful t → Least G t l → Minimal G t l

  -- least tables are the same exactly when their sources weigh every word alike
  abbrev pub LeastIsDetermined : Type 0
  LeastIsDetermined =
      (t u l m : Table G.Mean) → Lawful t → Lawful u → Least G t l → Least G u m → SameTable G l m ↔ WeighAlike G t u

  -- a closed table has at most one hyper table, one choice of representatives and one of factors
  abbrev pub HyperIsDetermined : Type 0
  HyperIsDetermined =
      (t h k : Table G.Mean) (r s : ℕ → ℕ) (f g : ℕ → G.Mean) → Closed t → Hyper G t h r f → Hyper G t k s g →
      SameHyper G t h k r s f g

  -- a source and its hyper table weigh every word alike that has at least as many letters as the agreement length
  abbrev pub HyperAgrees : Type 0
  HyperAgrees =
      (t l h : Table G.Mean) (r : ℕ → ℕ) (f : ℕ → G.Mean) → Lawful t → Least G t l → Hyper G l h r f →
      WeighAlikeFrom G (agreement_length l.states) t h

  -- every table that weighs all but finitely many words as the source does has at least as many states as the hyper table
  abbrev pub HyperIsSmallest : Type 0
  HyperIsSmallest =
      (t l h b : Table G.Mean) (r : ℕ → ℕ) (f : ℕ → G.Mean) → Lawful t → Least G t l → Hyper G l h r f → Closed b →
      AlmostWeighAlike G t b → h.states ≤ b.states
