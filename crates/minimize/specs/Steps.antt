-- What each step of compiling comes to, over tables: from a source to its least table, and from that to its hyper table.
-- Assumes nothing.
use Rattle.std.specs.Prelude.{◌≡◌, ℕ, ◌<◌, ◌≤◌, Bool, cond, List, length, Some, ◌⊎◌, ◌==◌, slice_index}
use Rattle.weights.specs.Group.{Group}
use Rattle.tables.specs.Table.{Table, weight_from}
use Rattle.theory.specs.Runs.{Closed, Reachable, Dead}
use Rattle.theory.specs.Series.{Equivalent, AlmostBy, AlmostEquivalent}
use Rattle.theory.specs.Push.{Smallest}
use Rattle.theory.specs.Least.{InReadingOrder}
use Rattle.theory.specs.Kernel.{Kernel, Preamble, CoKernel, CoPreamble}
use Rattle.theory.specs.Hyper.{count_below}
use Rattle.minimize.specs.Compile.{Tells}

-- in place of a number: the distance of a dead state, the label and the leader where there is none
abbrev pub none : ℕ
none = 65535

-- a state stands for its class
abbrev pub leads : (ℕ → ℕ) → ℕ → Bool
leads label q = label q == q

-- the number of a state's class: how many classes come before it
abbrev pub number : (ℕ → ℕ) → ℕ → ℕ
number label q = count_below (leads label) (label q)

-- a state has a mark, where a list of numbers has 1 for it
abbrev pub has_mark : List ℕ → ℕ → Bool
has_mark marks q = slice_index marks q == 1

module _ (G : Group) where
  -- c is a copy of the reachable states of t, numbered in reading order
  pub record Copied (t c : Table G.Mean) : Type 0 where
    pub letters : c.letters ≡ t.letters
    -- the state of t that each state is a copy of
    pub state : ℕ → ℕ
    pub reachable : (q : ℕ) → q < c.states → Reachable t (state q)
    pub met : (p : ℕ) → Reachable t p → (q : ℕ) × (q < c.states) × (state q ≡ p)
    pub once : (q p : ℕ) → q < c.states → p < c.states → state q ≡ state p → q ≡ p
    pub start : state c.start ≡ t.start
    pub start_weight : c.start_weight ≡ t.start_weight
    pub final : (q : ℕ) → q < c.states → c.final q ≡ t.final (state q)
    pub target : (q a : ℕ) → q < c.states → a < c.letters → state (c.target q a) ≡ t.target (state q) a
    pub weight : (q a : ℕ) → q < c.states → a < c.letters → c.weight q a ≡ t.weight (state q) a
    pub closed : Closed c
    pub order : InReadingOrder c

  -- state q is dead, or u is its push and d the length of its smallest accepted word
  pub record LivePush (t : Table G.Mean) (q d : ℕ) (u : G.Mean) : Type 0 where
    pub word : List ℕ
    pub smallest : Smallest t q word
    pub long : length word ≡ d
    pub short : d < none
    pub weighs : weight_from G t q word ≡ Some u

  pub record DeadPush (t : Table G.Mean) (q d : ℕ) (u : G.Mean) : Type 0 where
    pub dead : Dead t q
    pub far : d ≡ none
    pub one : u ≡ G.one

  -- the distances and the pushes of all states
  abbrev pub Pushes : Table G.Mean → (ℕ → ℕ) → (ℕ → G.Mean) → Type 0
  Pushes t d u = (q : ℕ) → q < t.states → LivePush t q (d q) (u q) ⊎ DeadPush t q (d q) (u q)

  -- p is t with its weights pushed
  pub record PushedWeights (t : Table G.Mean) (d : ℕ → ℕ) (u : ℕ → G.Mean) (p : Table G.Mean) : Type 0 where
    pub states : p.states ≡ t.states
    pub letters : p.letters ≡ t.letters
    pub start : p.start ≡ t.start
    pub start_weight : p.start_weight ≡ cond (d t.start == none) G.one (G.mul t.start_weight (u t.start))
    pub final : (q : ℕ) → q < t.states → p.final q ≡ t.final q
    pub target : (q a : ℕ) → q < t.states → a < t.letters → p.target q a ≡ t.target q a
    pub weight :
        (q a : ℕ) → q < t.states → a < t.letters →
        p.weight q a ≡ cond (d (t.target q a) == none) G.one (G.mul (G.inv (u q)) (G.mul (t.weight q a) (u (t.target q a))))

  -- all pushes are one, and so are the weights of arcs into dead states
  pub record Normal (t : Table G.Mean) (d : ℕ → ℕ) : Type 0 where
    pub pushes : Pushes t d (λ q. G.one)
    pub dead_arcs : (q a : ℕ) → q < t.states → a < t.letters → Dead t (t.target q a) → t.weight q a ≡ G.one

  -- each state has the smallest state that is equivalent to it
  pub record Classes (t : Table G.Mean) (label : ℕ → ℕ) : Type 0 where
    pub first : (q : ℕ) → q < t.states → label q ≤ q
    pub equivalent : (q : ℕ) → q < t.states → Equivalent G t q (label q)
    pub smallest : (q p : ℕ) → q < t.states → p < t.states → Equivalent G t q p → label q ≡ label p

  -- l has the classes of t as its states
  pub record Gathered (t : Table G.Mean) (label : ℕ → ℕ) (l : Table G.Mean) : Type 0 where
    pub states : l.states ≡ count_below (leads label) t.states
    pub letters : l.letters ≡ t.letters
    pub start : l.start ≡ number label t.start
    pub start_weight : l.start_weight ≡ t.start_weight
    pub final : (q : ℕ) → q < t.states → label q ≡ q → l.final (number label q) ≡ t.final q
    pub target :
        (q a : ℕ) → q < t.states → a < t.letters → label q ≡ q → l.target (number label q) a ≡ number label (t.target q a)
    pub weight : (q a : ℕ) → q < t.states → a < t.letters → label q ≡ q → l.weight (number label q) a ≡ t.weight q a

  -- marks that tell kernel from preamble states, and co-kernel from co-preamble states
  pub record Marked (t : Table G.Mean) (k o : ℕ → Bool) : Type 0 where
    pub kernel : (q : ℕ) → q < t.states → Tells (k q) (Kernel t q) (Preamble t q)
    pub co_kernel : (q : ℕ) → q < t.states → Tells (o q) (CoKernel t q) (CoPreamble t q)

  -- each state has a state of its class of almost-equivalent states, the same for all of the class, and is its multiple by a factor
  pub record AlmostClasses (t : Table G.Mean) (label : ℕ → ℕ) (factor : ℕ → G.Mean) : Type 0 where
    pub inside : (q : ℕ) → q < t.states → label q < t.states
    pub almost : (q : ℕ) → q < t.states → AlmostBy G t (factor q) q (label q)
    pub one_class : (q p : ℕ) → q < t.states → p < t.states → AlmostEquivalent G t q p → label q ≡ label p
