-- What is known of distances and pushes while they are sought by rounds, and of weights while they are pushed. Assumes nothing.
use Rattle.std.specs.Prelude.{◌≡◌, ◌≢◌, ℕ, ◌+◌, ◌/◌, ◌<◌, ◌≤◌, Bool, true, false, cond, List, length, Some, None, Option, ◌⊎◌, ◌==◌, slice_index}
use Rattle.weights.specs.Group.{Group, Kind}
use Rattle.tables.specs.Sheet.{mean_at}
use Rattle.tables.specs.Table.{Table, Word}
use Rattle.theory.specs.Runs.{accepts}
use Rattle.minimize.specs.Steps.{none, LivePush}

-- no word of exactly, or of fewer than, so many letters is accepted from state q
pub record NoneLong {M : Type 0} (t : Table M) (q x : ℕ) : Type 0 where
  pub no_word : (w : List ℕ) → Word t.letters w → length w ≡ x → accepts t q w ≡ true → ⊥

pub record NoneBelow {M : Type 0} (t : Table M) (q r : ℕ) : Type 0 where
  pub no_word : (w : List ℕ) → Word t.letters w → length w < r → accepts t q w ≡ true → ⊥

-- the first letter by which state q leads to a state of distance x
abbrev pub FirstLetter : {M : Type 0} → Table M → (ℕ → ℕ) → ℕ → ℕ → Option ℕ → Type 0
FirstLetter t d q x (Some a) = (a < t.letters) × (d (t.target q a) ≡ x) × ((b : ℕ) → b < a → d (t.target q b) ≢ x)
FirstLetter t d q x None = (b : ℕ) → b < t.letters → d (t.target q b) ≢ x

module _ (G : Group) (t : Table G.Mean) where
  -- state q has its distance d, less than r, and its push u
  pub record Met (r q d : ℕ) (u : G.Mean) : Type 0 where
    pub push : LivePush G t q d u
    pub near : d < r

  -- state q has no distance yet, and accepts no word of fewer than r letters
  pub record Unmet (r q d : ℕ) (u : G.Mean) : Type 0 where
    pub far : d ≡ none
    pub one : u ≡ G.one
    pub words : NoneBelow t q r

  -- what is known of a state before the round of distance r
  abbrev pub Known : ℕ → ℕ → ℕ → G.Mean → Type 0
  Known r q d u = Met r q d u ⊎ Unmet r q d u

  -- in the round of distance r, before state i
  pub record Rounding (r i : ℕ) (d : ℕ → ℕ) (u : ℕ → G.Mean) : Type 0 where
    pub done : (q : ℕ) → q < i → q < t.states → Known (r + 1) q (d q) (u q)
    pub left : (q : ℕ) → i ≤ q → q < t.states → Known r q (d q) (u q)

  -- before the round of distance r
  pub record Rounded (r : ℕ) (d : ℕ → ℕ) (u : ℕ → G.Mean) : Type 0 where
    pub known : (q : ℕ) → q < t.states → Known r q (d q) (u q)

-- where b is false, no state below n has distance r
pub record Fresh (b : Bool) (r n : ℕ) (d : ℕ → ℕ) : Type 0 where
  pub stale : b ≡ false → (q : ℕ) → q < n → d q ≢ r

-- what an arc of weight x to state p weighs once it is pushed, where v is the inverse of its own state's push, and what a start in state
-- p does
abbrev pub pushed_arc : (G : Group) → (ℕ → ℕ) → (ℕ → G.Mean) → G.Mean → G.Mean → ℕ → G.Mean
pushed_arc G d u v x p = cond (d p == none) G.one (G.mul v (G.mul x (u p)))

abbrev pub pushed_start : (G : Group) → (ℕ → ℕ) → (ℕ → G.Mean) → G.Mean → ℕ → G.Mean
pushed_start G d u x p = cond (d p == none) G.one (G.mul x (u p))

-- of the weights old of arcs with s letters, the first i have been pushed
pub record PushedBelow {W : Type 0} (K : Kind W) (s : ℕ) (d : ℕ → ℕ) (u : ℕ → K.group.Mean) (targets : List ℕ) (old new : List W) (i : ℕ) : Type 0 where
  pub done :
      (k : ℕ) → k < i →
      mean_at K new (1 + k) ≡ pushed_arc K.group d u (K.group.inv (u (k / s))) (mean_at K old (1 + k)) (slice_index targets (1 + k))
  pub left : (k : ℕ) → i ≤ k → mean_at K new (1 + k) ≡ mean_at K old (1 + k)
  pub start : mean_at K new 0 ≡ mean_at K old 0
