-- Peeling: of the marked states, those that no marked state holds lose their mark, round by round. Assumes nothing.
use Rattle.std.specs.Prelude.{◌≡◌, ℕ, ◌<◌, ◌⊎◌, Bool, true, ◌==◌}
use Rattle.tables.specs.Table.{Table}
use Rattle.theory.specs.Runs.{Dead, Live}
use Rattle.minimize.specs.Compile.{Tells}
use Rattle.minimize.specs.Steps.{none}

module _ {M : Type 0} (t : Table M) where
  -- an arc by one of the first s letters leads from state p to state q
  pub record ArcBelow (s p q : ℕ) : Type 0 where
    pub letter : ℕ
    pub is_letter : letter < s
    pub leads : t.target p letter ≡ q

  -- an arc leads from state p to state q
  abbrev pub Arc : ℕ → ℕ → Type 0
  Arc = ArcBelow t.letters

  -- the same, from the target's side
  abbrev pub Back : ℕ → ℕ → Type 0
  Back q p = Arc p q

  -- the distances tell the dead states from the live ones
  pub record TellsDead (d : ℕ → ℕ) : Type 0 where
    pub tells : (q : ℕ) → q < t.states → Tells (d q == none) (Dead t q) (Live t q)

-- one of the first k states is marked and holds state q, which is what E says
pub record Held (k : ℕ) (E : ℕ → ℕ → Type 0) (m : ℕ → Bool) (q : ℕ) : Type 0 where
  pub by : ℕ
  pub inside : by < k
  pub is_marked : m by ≡ true
  pub holds : E by q

-- of the first n states, held marks just those that are held by one of the first k
pub record Holding (k n : ℕ) (E : ℕ → ℕ → Type 0) (m held : ℕ → Bool) : Type 0 where
  pub met : (q : ℕ) → q < n → Held k E m q → held q ≡ true
  pub only : (q : ℕ) → q < n → held q ≡ true → Held k E m q

-- of n states, left marks just those that are marked and held
pub record Peeled (n : ℕ) (E : ℕ → ℕ → Type 0) (m left : ℕ → Bool) : Type 0 where
  pub keeps : (q : ℕ) → q < n → m q ≡ true → Held n E m q → left q ≡ true
  pub was : (q : ℕ) → q < n → left q ≡ true → m q ≡ true
  pub held : (q : ℕ) → q < n → left q ≡ true → Held n E m q

-- marks come to just the states that P says
pub record Added (P : ℕ → Type 0) (before after : ℕ → Bool) : Type 0 where
  pub stays : (q : ℕ) → before q ≡ true → after q ≡ true
  pub met : (q : ℕ) → P q → after q ≡ true
  pub only : (q : ℕ) → after q ≡ true → (before q ≡ true) ⊎ P q
