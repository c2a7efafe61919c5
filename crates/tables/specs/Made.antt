-- Lists of calls with the answers that they got. Assumes nothing.
use Rattle.std.specs.Prelude.{◌≡◌, ℕ, List, length, map, Some, None, Option, Result}
use Rattle.weights.specs.Group.{Kind}
use Rattle.weights.specs.Refusal.{Told, outcome}
use Rattle.weights.specs.declared.refusal.Refusal.{Refusal}
use Rattle.tables.specs.Book.{Contents, opened, left_by_all, answers_by}
use Rattle.tables.specs.Held.{written, SameMemory}
use Rattle.tables.specs.Sheet.{sheet_table}
use Rattle.tables.specs.Sketch.{lengths_of, Sketch, blank, sketch_of, answers_of, sketch_table}
use Rattle.tables.specs.declared.book.Book.{Book}
use Rattle.tables.specs.declared.call.Call.{Call}
use Rattle.tables.specs.declared.made.Made.{Made}
use Rattle.tables.specs.declared.size.DrawnSize.{DrawnSize}

-- the answer beside a call, by what its refusal tells; none where the call is not made yet
abbrev pub answered : Option (Result (Unit {0}) Refusal) → Option (Result (Unit {0}) Told)
answered (Some r) = Some (outcome r)
answered None = None

-- the calls of a list, and the answers beside them
abbrev pub calls_of : {W : Type 0} → List (Made W) → List (Call W)
calls_of ms = map (λ m. m.call) ms

abbrev pub answers_in : {W : Type 0} → List (Made W) → List (Option (Result (Unit {0}) Told))
answers_in ms = map (λ m. answered m.answer) ms

-- each of these answers is there
abbrev pub all_there : List (Result (Unit {0}) Told) → List (Option (Result (Unit {0}) Told))
all_there rs = map (λ r. Some r) rs

-- A list of calls is made on a book one after another: the calls stay, each answer stands beside its call, and the book holds what
-- the calls leave, over the same memories.
pub record MakesAll {W : Type 0} (old new : Book W) (before after : List (Made W)) : Type 0 where
  pub calls : calls_of after ≡ calls_of before
  pub answers : answers_in after ≡ all_there (answers_by (written old) (calls_of before))
  pub contents : written new ≡ left_by_all (written old) (calls_of before)
  pub lent : SameMemory old new

-- A list of calls is made on a new book over memories ts, ws and ms, which is then closed: the calls stay, their answers are those
-- of the sketch of the list, what the closed book holds is what the calls leave one after another, and it means the sketch's table.
pub record Drawn {W : Type 0} (K : Kind W) (ts : List ℕ) (ws : List W) (ms : List ℕ)
    (before after : List (Made W)) (c : Contents W) : Type 0 where
  pub calls : calls_of after ≡ calls_of before
  pub answers : answers_in after ≡ all_there (answers_of (lengths_of ts ws ms) blank (calls_of before))
  pub contents : c ≡ left_by_all (opened ts ws ms) (calls_of before)
  pub table : sheet_table K c ≡ sketch_table K (sketch_of (lengths_of ts ws ms) blank (calls_of before))

-- a sketch has these letters and states
pub record HasSize {W : Type 0} (s : Sketch W) (d : DrawnSize) : Type 0 where
  pub letters : d.letters ≡ s.letters
  pub states : d.states ≡ length s.finals
