-- Properties of finitely many words, of infinitely many, and of all but finitely many. Assumes nothing.
use Rattle.std.specs.Prelude.{ℕ, ◌<◌, ◌≤◌, ◌↔◌, List, length, Contains}
use Rattle.tables.specs.Table.{Word}

-- finitely many words over s letters have a property: some list has them all
pub record FinitelyMany (s : ℕ) (P : List ℕ → Type 0) : Type 0 where
  pub list : List (List ℕ)
  pub listed : (w : List ℕ) → Word s w → P w → Contains list w

-- infinitely many do: each list lacks one of them
pub record InfinitelyMany (s : ℕ) (P : List ℕ → Type 0) : Type 0 where
  pub beyond : (ws : List (List ℕ)) → (w : List ℕ) × Word s w × (Contains ws w → ⊥) × P w

-- all but finitely many do: all but those of some list
pub record AllButFinitelyMany (s : ℕ) (P : List ℕ → Type 0) : Type 0 where
  pub exceptions : List (List ℕ)
  pub others : (w : List ℕ) → Word s w → (Contains exceptions w → ⊥) → P w

-- An alphabet is finite, so lengths tell the same. A property is one of finitely many words exactly where all of them are shorter than
-- some length, of infinitely many exactly where for each length one of them is at least that long, and of all but finitely many
-- exactly where all words from some length on have it.
pub record ByLength (s : ℕ) (P : List ℕ → Type 0) : Type 0 where
  pub finitely : FinitelyMany s P ↔ ((n : ℕ) × ((w : List ℕ) → Word s w → P w → length w < n))
  pub infinitely : InfinitelyMany s P ↔ ((n : ℕ) → (w : List ℕ) × Word s w × (n ≤ length w) × P w)
  pub all_but : AllButFinitelyMany s P ↔ ((n : ℕ) × ((w : List ℕ) → Word s w → n ≤ length w → P w))
