-- What the memories of a sheet and of a book hold. Assumes nothing.
use Rattle.std.specs.Prelude.{◌≡◌, ℕ, List, Result}
use Rattle.std.specs.Borrow.{MutBor}
use Rattle.weights.specs.Refusal.{outcome}
use Rattle.weights.specs.declared.refusal.Refusal.{Refusal}
use Rattle.tables.specs.Book.{Contents, answer_to, left_by}
use Rattle.tables.specs.declared.call.Call.{Call}
use Rattle.tables.specs.declared.book.Book.{Book}
use Rattle.tables.specs.declared.sheet.Sheet.{Sheet}

-- what a sheet holds
abbrev pub held : {W : Type 0} → Sheet W → Contents W
held s =
    record {
      targets = s.targets.now;
      weights = s.weights.now;
      marks = s.marks.now;
      letters = s.letters;
      count = s.count;
    }

-- what a book holds
abbrev pub written : {W : Type 0} → Book W → Contents W
written b =
    record {
      targets = b.targets.now;
      weights = b.weights.now;
      marks = b.marks.now;
      letters = b.letters;
      count = b.count;
    }

-- a book lies over these memories: its slices are the loans of them, whatever they hold
pub record Lent {W : Type 0} (ts : MutBor (List ℕ)) (ws : MutBor (List W)) (ms : MutBor (List ℕ)) (b : Book W) : Type 0 where
  pub targets : b.targets.ghost_name ≡ ts.ghost_name
  pub weights : b.weights.ghost_name ≡ ws.ghost_name
  pub marks : b.marks.ghost_name ≡ ms.ghost_name

-- a book lies over the memories of another
abbrev pub SameMemory : {W : Type 0} → Book W → Book W → Type 0
SameMemory b c = Lent b.targets b.weights b.marks c

-- what a call on a book comes to: its answer, what the book holds after it, and that it lies over the same memories
pub record Makes {W : Type 0} (old new : Book W) (k : Call W) (r : Result (Unit {0}) Refusal) : Type 0 where
  pub answer : outcome r ≡ answer_to (written old) k
  pub after : written new ≡ left_by (written old) k
  pub lent : SameMemory old new
