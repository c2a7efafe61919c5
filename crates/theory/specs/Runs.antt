-- Where words lead. Assumes nothing.
use Rattle.std.specs.Prelude.{◌≡◌, ℕ, ◌<◌, Bool, true, false, List, [], ◌∷◌}
use Rattle.tables.specs.Table.{Table, Word}

-- the state that a word leads to from state q
abbrev pub led : {M : Type 0} → Table M → ℕ → List ℕ → ℕ
led t q [] = q
led t q (a ∷ w) = led t (t.target q a) w

-- the start and all arcs of a table lead to states of its own
pub record Closed {M : Type 0} (t : Table M) : Type 0 where
  pub start_inside : t.start < t.states
  pub target_inside : (q a : ℕ) → q < t.states → a < t.letters → t.target q a < t.states

-- a word is accepted from state q: it leads to a final state
abbrev pub accepts : {M : Type 0} → Table M → ℕ → List ℕ → Bool
accepts t q w = t.final (led t q w)

-- some word leads from the start to state q
pub record Reachable {M : Type 0} (t : Table M) (q : ℕ) : Type 0 where
  pub by : List ℕ
  pub is_word : Word t.letters by
  pub leads : led t t.start by ≡ q

-- no word is accepted from state q
pub record Dead {M : Type 0} (t : Table M) (q : ℕ) : Type 0 where
  pub none : (w : List ℕ) → Word t.letters w → accepts t q w ≡ false

-- some word is accepted from state q
pub record Live {M : Type 0} (t : Table M) (q : ℕ) : Type 0 where
  pub by : List ℕ
  pub is_word : Word t.letters by
  pub accepted : accepts t q by ≡ true
