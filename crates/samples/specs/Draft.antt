-- A draft of check numbers over two letters, from its bytes to what it weighs. Assumes nothing.
use Rattle.std.specs.Prelude.{◌≡◌, ℕ, List, [], ◌∷◌, length, replicate, Some, None, Option}
use Rattle.weights.specs.Check.{Residue, units_257, check_kind}
use Rattle.weights.specs.Codes.{check_codes}
use Rattle.weights.specs.declared.check.Check.{Check}
use Rattle.tables.specs.Book.{opened}
use Rattle.tables.specs.Sheet.{sheet_table}
use Rattle.tables.specs.Table.{weight_of}
use Rattle.drafts.specs.Draft.{Reading, listing, reading}

-- a field a line: the head, four states, their arcs, the start
abbrev pub bytes : List ℕ
bytes =
    1 ∷ 0 ∷ 2 ∷ 1 ∷ 2 ∷
    2 ∷ 0 ∷ 1 ∷ 0 ∷
    2 ∷ 0 ∷ 1 ∷ 0 ∷
    2 ∷ 0 ∷ 1 ∷ 1 ∷
    2 ∷ 0 ∷ 1 ∷ 1 ∷
    3 ∷ 0 ∷ 7 ∷ 0 ∷ 0 ∷ 0 ∷ 0 ∷ 1 ∷ 0 ∷ 1 ∷
    3 ∷ 0 ∷ 7 ∷ 0 ∷ 0 ∷ 1 ∷ 0 ∷ 2 ∷ 0 ∷ 1 ∷
    3 ∷ 0 ∷ 7 ∷ 0 ∷ 1 ∷ 0 ∷ 0 ∷ 3 ∷ 0 ∷ 2 ∷
    3 ∷ 0 ∷ 7 ∷ 0 ∷ 1 ∷ 1 ∷ 0 ∷ 3 ∷ 0 ∷ 4 ∷
    3 ∷ 0 ∷ 7 ∷ 0 ∷ 2 ∷ 0 ∷ 0 ∷ 3 ∷ 0 ∷ 5 ∷
    3 ∷ 0 ∷ 7 ∷ 0 ∷ 2 ∷ 1 ∷ 0 ∷ 3 ∷ 0 ∷ 10 ∷
    3 ∷ 0 ∷ 7 ∷ 0 ∷ 3 ∷ 0 ∷ 0 ∷ 3 ∷ 0 ∷ 3 ∷
    3 ∷ 0 ∷ 7 ∷ 0 ∷ 3 ∷ 1 ∷ 0 ∷ 3 ∷ 0 ∷ 1 ∷
    4 ∷ 0 ∷ 4 ∷ 0 ∷ 0 ∷ 0 ∷ 7 ∷ []

-- what reading it into a new book over just enough memory leaves
abbrev pub read : Reading Check
read = reading (opened (replicate 9 0) (replicate 9 (record { 0 = 0 })) (replicate 4 0)) (listing check_codes bytes)

abbrev pub number : Option Residue → Option ℕ
number (Some x) = Some x.at
number None = None

-- the number that its table weighs a word as
abbrev pub weighs : List ℕ → Option ℕ
weighs w = number (weight_of units_257 (sheet_table check_kind read.after) w)

-- the file has 108 bytes and no fault; words 0 1 and 1 weigh 28 and 7, and word 0 weighs nothing
pub record DraftWeighs : Type 0 where
  pub size : length bytes ≡ 108
  pub whole : read.fault ≡ None
  pub word_0_1 : weighs (0 ∷ 1 ∷ []) ≡ Some 28
  pub word_1 : weighs (1 ∷ []) ≡ Some 7
  pub word_0 : weighs (0 ∷ []) ≡ None
