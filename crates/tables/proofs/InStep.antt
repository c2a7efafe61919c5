-- When a book is in step with a sketch. Assumes nothing.
use Rattle.std.specs.Prelude.{◌≡◌, ℕ, ◌+◌, ◌*◌, ◌<◌, ◌≤◌, false, length, Some, None, Option, slice_index, slice_index_or}
use Rattle.tables.specs.Book.{Contents, place, unset, mark}
use Rattle.tables.specs.Sketch.{Lengths, Link, Sketch}

-- a place holds a link; where none is set, its target is unset or the place does not exist
abbrev pub Holds : {W : Type 0} → Contents W → ℕ → Option (Link W) → Type 0
Holds c k None = slice_index_or c.targets k unset ≡ unset
Holds {W} c k (Some l) =
    (l.to < c.count)
    × (k < length c.weights)
    × (slice_index_or c.targets k unset ≡ l.to)
    × ((d : W) → slice_index_or c.weights k d ≡ l.weight)

pub record InStep {W : Type 0} (n : Lengths) (s : Sketch W) (c : Contents W) : Type 0 where
  pub letters : c.letters ≡ s.letters
  pub count : c.count ≡ length s.finals
  pub targets : length c.targets ≡ n.targets
  pub weights : length c.weights ≡ n.weights
  pub marks : length c.marks ≡ n.marks
  pub some_letter : 1 ≤ c.letters
  pub few_letters : c.letters ≤ 64
  pub few_states : c.count ≤ 4095
  pub target_room : 0 < c.count → 1 + c.count * c.letters ≤ length c.targets
  pub weight_room : 0 < c.count → 1 + c.count * c.letters ≤ length c.weights
  pub mark_room : c.count ≤ length c.marks
  pub finals : (q : ℕ) → q < c.count → slice_index c.marks q ≡ mark (slice_index_or s.finals q false)
  pub start : Holds c 0 s.start
  pub arcs : (q a : ℕ) → q < c.count → a < c.letters → Holds c (place c.letters q a) (s.arc q a)
  pub no_state : (q a : ℕ) → c.count ≤ q → s.arc q a ≡ None
  pub no_letter : (q a : ℕ) → c.letters ≤ a → s.arc q a ≡ None
