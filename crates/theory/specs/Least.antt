-- The least table of a table. Assumes nothing.
use Rattle.std.specs.Prelude.{◌≡◌, ℕ, ◌<◌, ◌⊎◌}
use Rattle.weights.specs.Group.{Group}
use Rattle.tables.specs.Table.{Table}
use Rattle.theory.specs.Runs.{Reachable, Dead}
use Rattle.theory.specs.Series.{Equivalent}
use Rattle.theory.specs.Push.{Push}

-- x is the old weight times the push of state q, or one if q is dead
pub record Pushed (G : Group) (t : Table G.Mean) (q : ℕ) (old x : G.Mean) : Type 0 where
  pub live : (v : G.Mean) → Push G t q v → x ≡ G.mul old v
  pub dead : Dead t q → x ≡ G.one

-- arc (p, b) is read before arc (q, a): states by number, letters rising
abbrev pub ReadBefore : ℕ → ℕ → ℕ → ℕ → Type 0
ReadBefore p b q a = (p < q) ⊎ ((p ≡ q) × (b < a))

-- state i has been met before arc (q, a) is read: it is the start, or an arc that is read earlier leads to it
abbrev pub MetBefore : {M : Type 0} → Table M → ℕ → ℕ → ℕ → Type 0
MetBefore t q a i = (i ≡ t.start) ⊎ ((p b : ℕ) × (p < t.states) × (b < t.letters) × ReadBefore p b q a × (t.target p b ≡ i))

-- The states are numbered as they are met: the start is 0, and then states are read by number, letters rising, and a new state
-- gets the next number. So when an arc that leads to state j is read, all states below j have been met.
pub record InReadingOrder {M : Type 0} (t : Table M) : Type 0 where
  pub start_first : t.start ≡ 0
  pub arcs : (q a i : ℕ) → q < t.states → a < t.letters → i < t.target q a → MetBefore t q a i

-- l is the least table of t. Its states are the classes of equivalent reachable states.
pub record Least (G : Group) (t l : Table G.Mean) : Type 0 where
  pub letters : l.letters ≡ t.letters
  -- the number of the class of each reachable state
  pub class : ℕ → ℕ
  pub class_inside : (q : ℕ) → Reachable t q → class q < l.states
  pub class_met : (i : ℕ) → i < l.states → (q : ℕ) × Reachable t q × (class q ≡ i)
  pub one_class : (q p : ℕ) → Reachable t q → Reachable t p → Equivalent G t q p → class q ≡ class p
  pub equivalent : (q p : ℕ) → Reachable t q → Reachable t p → class q ≡ class p → Equivalent G t q p
  pub start : l.start ≡ class t.start
  pub final : (q : ℕ) → Reachable t q → l.final (class q) ≡ t.final q
  pub target : (q a : ℕ) → Reachable t q → a < t.letters → l.target (class q) a ≡ class (t.target q a)
  -- an arc weighs the inverse of its state's push, times its old weight, times its target's push; an arc into a dead state weighs one
  pub weight_live :
      (q a : ℕ) (u v : G.Mean) → Reachable t q → a < t.letters → Push G t q u → Push G t (t.target q a) v →
      l.weight (class q) a ≡ G.mul (G.inv u) (G.mul (t.weight q a) v)
  pub weight_dead : (q a : ℕ) → Reachable t q → a < t.letters → Dead t (t.target q a) → l.weight (class q) a ≡ G.one
  pub start_weight : Pushed G t t.start t.start_weight l.start_weight
  pub order : InReadingOrder l
