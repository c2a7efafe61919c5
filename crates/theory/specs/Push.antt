-- The push of a state: the weight from it of its smallest accepted word. Assumes nothing.
use Rattle.std.specs.Prelude.{◌≡◌, ℕ, ◌<◌, true, List, [], ◌∷◌, length, Some, ◌⊎◌}
use Rattle.weights.specs.Group.{Group}
use Rattle.tables.specs.Table.{Table, Word, weight_from}
use Rattle.theory.specs.Runs.{accepts}

-- of two words of one length, v comes before w letter by letter
abbrev pub Earlier : List ℕ → List ℕ → Type 0
Earlier [] w = ⊥
Earlier (b ∷ v) [] = ⊥
Earlier (b ∷ v) (a ∷ w) = (b < a) ⊎ ((b ≡ a) × Earlier v w)

-- v is smaller than w: it is shorter, or as long and earlier
abbrev pub Smaller : List ℕ → List ℕ → Type 0
Smaller v w = (length v < length w) ⊎ ((length v ≡ length w) × Earlier v w)

-- w is the smallest word that is accepted from state q
pub record Smallest {M : Type 0} (t : Table M) (q : ℕ) (w : List ℕ) : Type 0 where
  pub is_word : Word t.letters w
  pub accepted : accepts t q w ≡ true
  pub least : (v : List ℕ) → Word t.letters v → accepts t q v ≡ true → Smaller v w → ⊥

-- u is the push of state q. A dead state has none.
pub record Push (G : Group) (t : Table G.Mean) (q : ℕ) (u : G.Mean) : Type 0 where
  pub word : List ℕ
  pub smallest : Smallest t q word
  pub weighs : weight_from G t q word ≡ Some u
