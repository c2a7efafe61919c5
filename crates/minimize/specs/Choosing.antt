-- Representatives and factors, and the table that is redirected to them. Assumes nothing.
use Rattle.std.specs.Prelude.{◌≡◌, ℕ, ◌+◌, ◌<◌, ◌≤◌, Bool, true, cond, ◌||◌, ◌&&◌, not, ◌⊎◌, List, ◌==◌, slice_index}
use Rattle.weights.specs.Group.{Group, Kind}
use Rattle.tables.specs.Table.{Table}
use Rattle.tables.specs.Sheet.{mean_at}
use Rattle.theory.specs.Hyper.{count_below}
use Rattle.minimize.specs.Steps.{none, has_mark}

module _ (n : ℕ) (labels kernel : List ℕ) where
  -- the order in which one of n states is chosen: kernel states come first, then it goes by number
  abbrev pub rank : ℕ → ℕ
  rank q = cond (has_mark kernel q) q (n + q)

  -- r is the first of the states that have q's label
  pub record Chosen (q r : ℕ) : Type 0 where
    pub inside : r < n
    pub same : slice_index labels r ≡ slice_index labels q
    pub first : (p : ℕ) → p < n → slice_index labels p ≡ slice_index labels q → rank r ≤ rank p

  -- of the states below m none has a label
  pub record NoLeader (m label r : ℕ) : Type 0 where
    pub no_leader : r ≡ none
    pub no_state : (p : ℕ) → p < m → slice_index labels p ≡ label → ⊥

  -- of the states below m that have a label r is the first
  pub record OneLeader (m label r : ℕ) : Type 0 where
    pub inside : r < m
    pub same : slice_index labels r ≡ label
    pub first : (p : ℕ) → p < m → slice_index labels p ≡ label → rank r ≤ rank p

  -- each label has its leader among the states below m, or none
  abbrev pub Leaders : ℕ → List ℕ → Type 0
  Leaders m leaders =
      (label : ℕ) → label < n → NoLeader m label (slice_index leaders label) ⊎ OneLeader m label (slice_index leaders label)

-- a later state of its label goes before the leader so far
abbrev pub goes_first : List ℕ → ℕ → ℕ → Bool
goes_first kernel q leader = leader == none || (has_mark kernel q && not (has_mark kernel leader))

module _ {W : Type 0} (K : Kind W) where
  -- the factor of state q towards its representative r, from the factors of both towards one state
  abbrev pub factor_towards : List ℕ → List W → ℕ → ℕ → K.group.Mean
  factor_towards co_kernel factors q r =
      cond (has_mark co_kernel q) (K.group.mul (mean_at K factors q) (K.group.inv (mean_at K factors r))) K.group.one

  -- each of n states has its representative and its factor
  pub record Choices (n : ℕ) (labels : List ℕ) (factors : List W) (kernel co_kernel representatives : List ℕ) (chosen : List W) : Type 0 where
    pub representative : (q : ℕ) → q < n → Chosen n labels kernel q (slice_index representatives q)
    pub factor :
        (q : ℕ) → q < n → mean_at K chosen q ≡ factor_towards co_kernel factors q (slice_index representatives q)

-- a state is kept if it is kernel or its own representative
abbrev pub is_kept : List ℕ → List ℕ → ℕ → Bool
is_kept kernel representatives q = has_mark kernel q || slice_index representatives q == q

-- each of n states has a representative that is kept
pub record ToKept (n : ℕ) (kernel representatives : List ℕ) : Type 0 where
  pub inside : (q : ℕ) → q < n → slice_index representatives q < n
  pub kept : (q : ℕ) → q < n → is_kept kernel representatives (slice_index representatives q) ≡ true

-- h is what is left of t where arcs into states that are not kept are redirected and those states are dropped
pub record Redirected (G : Group) (t h : Table G.Mean) (kept : ℕ → Bool) (r : ℕ → ℕ) (f : ℕ → G.Mean) : Type 0 where
  pub states : h.states ≡ count_below kept t.states
  pub letters : h.letters ≡ t.letters
  pub final : (q : ℕ) → q < t.states → kept q ≡ true → h.final (count_below kept q) ≡ t.final q
  pub target :
      (q a : ℕ) → q < t.states → a < t.letters → kept q ≡ true →
      h.target (count_below kept q) a ≡ count_below kept (cond (kept (t.target q a)) (t.target q a) (r (t.target q a)))
  pub weight :
      (q a : ℕ) → q < t.states → a < t.letters → kept q ≡ true →
      h.weight (count_below kept q) a ≡ cond (kept (t.target q a)) (t.weight q a) (G.mul (t.weight q a) (f (t.target q a)))
  pub start : h.start ≡ count_below kept (cond (kept t.start) t.start (r t.start))
  pub start_weight : h.start_weight ≡ cond (kept t.start) t.start_weight (G.mul t.start_weight (f t.start))
