-- Complete deterministic tables over a group of weights, and what they weigh a word as. Assumes nothing.
use Rattle.std.specs.Prelude.{◌≡◌, ℕ, suc, ◌<◌, ◌≤◌, min, max, Bool, cond, ◌&&◌, List, [], ◌∷◌, Some, None, Option, Result, nat_le, nat_lt}
use Rattle.weights.specs.Group.{Group, Kind}
use Rattle.weights.specs.Codes.{within}
use Rattle.weights.specs.Refusal.{Told, indexed, judged}

-- States are numbered from 0, and so are letters. What is said of a state or a letter that the table lacks has no meaning.
pub record Table (M : Type 0) : Type 0 where
  pub states : ℕ
  pub letters : ℕ
  pub start : ℕ
  pub start_weight : M
  pub final : ℕ → Bool
  pub target : ℕ → ℕ → ℕ
  pub weight : ℕ → ℕ → M

-- a table may have s letters
abbrev pub is_letter_count : ℕ → Bool
is_letter_count s = nat_lt 0 s && nat_le s 64

-- a count of letters, read as one that a table may have
abbrev pub letters_read : ℕ → ℕ
letters_read s = max 1 (min s 64)

-- the sizes are such as a table may have, and the start and the arcs lead to its states
pub record Lawful {M : Type 0} (t : Table M) : Type 0 where
  pub some_state : 1 ≤ t.states
  pub few_states : t.states ≤ 4096
  pub some_letter : 1 ≤ t.letters
  pub few_letters : t.letters ≤ 64
  pub start_inside : t.start < t.states
  pub target_inside : (q a : ℕ) → q < t.states → a < t.letters → t.target q a < t.states

-- the table has state q and letter a
abbrev pub has_arc : {M : Type 0} → Table M → ℕ → ℕ → Bool
has_arc t q a = nat_lt q t.states && nat_lt a t.letters

-- what a table tells of a state, and of a state and a letter: nothing where it lacks one of them
abbrev pub final_at : {M : Type 0} → Table M → ℕ → Option Bool
final_at t q = within (nat_lt q t.states) (t.final q)

abbrev pub target_at : {M : Type 0} → Table M → ℕ → ℕ → Option ℕ
target_at t q a = within (has_arc t q a) (t.target q a)

abbrev pub weight_at : {M : Type 0} → Table M → ℕ → ℕ → Option M
weight_at t q a = within (has_arc t q a) (t.weight q a)

-- a weight, or none, multiplied from the left
abbrev pub scaled : (G : Group) → G.Mean → Option G.Mean → Option G.Mean
scaled G k (Some x) = Some (G.mul k x)
scaled G k None = None

-- the weight of a word from state q: the product of its arcs' weights, left to right, if it ends in a final state
abbrev pub weight_from : (G : Group) → Table G.Mean → ℕ → List ℕ → Option G.Mean
weight_from G t q [] = within (t.final q) G.one
weight_from G t q (a ∷ w) = scaled G (t.weight q a) (weight_from G t (t.target q a) w)

-- the weight of a word: the start weight times the weight from the start
abbrev pub weight_of : (G : Group) → Table G.Mean → List ℕ → Option G.Mean
weight_of G t w = scaled G t.start_weight (weight_from G t t.start w)

-- a word over s letters: each of its numbers is a letter
abbrev pub Word : ℕ → List ℕ → Type 0
Word s [] = Unit {0}
Word s (a ∷ w) = (a < s) × Word s w

-- two tables have the same letters and weigh every word alike: both give none, or equal weights
pub record WeighAlike (G : Group) (t u : Table G.Mean) : Type 0 where
  pub letters : t.letters ≡ u.letters
  pub words : (w : List ℕ) → Word t.letters w → weight_of G t w ≡ weight_of G u w

-- the index, counted from i, of the first byte of a list that is no letter
abbrev pub no_letter_from : ℕ → ℕ → List ℕ → Option ℕ
no_letter_from s i [] = None
no_letter_from s i (a ∷ w) = cond (nat_lt a s) (no_letter_from s (suc i) w) (Some i)

-- the refusal that weighing a list of bytes meets, if any: 3 with the index of the first byte that is no letter
abbrev pub word_verdict : ℕ → List ℕ → Option Told
word_verdict s w = elim (no_letter_from s 0 w) [ Some i ↦ Some (indexed 3 i) | None ↦ None ]

-- what weighing a list of bytes answers
abbrev pub weighing : (G : Group) → Table G.Mean → List ℕ → Result (Option G.Mean) Told
weighing G t w = judged (word_verdict t.letters w) (weight_of G t w)

-- what an optional element means
abbrev pub meant : {E : Type 0} (K : Kind E) → Option E → Option K.group.Mean
meant K (Some x) = Some (K.mean x)
meant K None = None
