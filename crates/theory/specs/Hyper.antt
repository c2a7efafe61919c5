-- The hyper table of a least table: preamble states are redirected to their representatives. Assumes nothing.
use Rattle.std.specs.Prelude.{◌≡◌, ◌≢◌, ℕ, zero, suc, ◌+◌, ◌<◌, Bool, true, false, cond, ◌⊎◌}
use Rattle.weights.specs.Group.{Group}
use Rattle.tables.specs.Table.{Table}
use Rattle.theory.specs.Series.{AlmostBy, AlmostEquivalent}
use Rattle.theory.specs.Kernel.{Kernel, Preamble, CoPreamble}

module _ (G : Group) (t : Table G.Mean) (q r : ℕ) where
  -- r is kernel, and no smaller kernel state is almost-equivalent to q
  pub record SmallestKernel : Type 0 where
    pub kernel : Kernel t r
    pub smallest : (p : ℕ) → p < r → AlmostEquivalent G t q p → Preamble t p

  -- no state that is almost-equivalent to q is kernel, and none is smaller than r
  pub record SmallestPreamble : Type 0 where
    pub preamble : (p : ℕ) → p < t.states → AlmostEquivalent G t q p → Preamble t p
    pub smallest : (p : ℕ) → p < r → AlmostEquivalent G t q p → ⊥

  -- r is the representative of q: of the states almost-equivalent to q, the smallest kernel state, or the smallest of all where none
  -- is kernel
  pub record Representative : Type 0 where
    pub inside : r < t.states
    pub almost : AlmostEquivalent G t q r
    pub smallest : SmallestKernel ⊎ SmallestPreamble

-- k is the factor of q towards r; it is one where only finitely many words are accepted from q
pub record Factor (G : Group) (t : Table G.Mean) (q r : ℕ) (k : G.Mean) : Type 0 where
  pub almost : AlmostBy G t k q r
  pub one : CoPreamble t q → k ≡ G.one

-- How many numbers below n have a property. A kept state's number in the hyper table is how many states below it are kept.
abbrev pub count_below : (ℕ → Bool) → ℕ → ℕ
count_below has zero = 0
count_below has (suc n) = count_below has n + cond (has n) 1 0

-- h is the hyper table of t, with representatives r and factors f
pub record Hyper (G : Group) (t h : Table G.Mean) (r : ℕ → ℕ) (f : ℕ → G.Mean) : Type 0 where
  pub representative : (q : ℕ) → q < t.states → Representative G t q (r q)
  pub factor : (q : ℕ) → q < t.states → Factor G t q (r q) (f q)
  -- a state is kept if it is kernel, or its own representative
  pub kept : ℕ → Bool
  pub keeps_kernel : (q : ℕ) → q < t.states → Kernel t q → kept q ≡ true
  pub keeps_itself : (q : ℕ) → q < t.states → r q ≡ q → kept q ≡ true
  pub redirects : (q : ℕ) → q < t.states → Preamble t q → r q ≢ q → kept q ≡ false
  pub states : h.states ≡ count_below kept t.states
  pub letters : h.letters ≡ t.letters
  -- kept states keep their order and their finality
  pub final : (q : ℕ) → q < t.states → kept q ≡ true → h.final (count_below kept q) ≡ t.final q
  -- an arc into a kept state leads there with its weight; one into a redirected state leads to its representative, and its weight
  -- is multiplied by the factor on the right; the start likewise
  pub target :
      (q a : ℕ) → q < t.states → a < t.letters → kept q ≡ true →
      h.target (count_below kept q) a ≡ count_below kept (cond (kept (t.target q a)) (t.target q a) (r (t.target q a)))
  pub weight :
      (q a : ℕ) → q < t.states → a < t.letters → kept q ≡ true →
      h.weight (count_below kept q) a ≡ cond (kept (t.target q a)) (t.weight q a) (G.mul (t.weight q a) (f (t.target q a)))
  pub start : h.start ≡ count_below kept (cond (kept t.start) t.start (r t.start))
  pub start_weight : h.start_weight ≡ cond (kept t.start) t.start_weight (G.mul t.start_weight (f t.start))
