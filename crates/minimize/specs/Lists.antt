-- What is promised of lists of calls on a new book. Assumes nothing.
use Rattle.std.specs.Prelude.{◌≡◌, ℕ, List}
use Rattle.weights.specs.Group.{Kind}
use Rattle.tables.specs.Book.{opened, answers_by, left_by_all}
use Rattle.tables.specs.Sheet.{sheet_table}
use Rattle.tables.specs.Sketch.{lengths_of, blank, sketch_of, answers_of, sketch_table}
use Rattle.tables.specs.declared.call.Call.{Call}

module _ {W : Type 0} (K : Kind W) where
  -- a list of calls is made on a new book over these memories, which is then closed: the answers, and the table of the closed book,
  -- are those of the sketch of the list
  pub record FollowsSketch (ts : List ℕ) (ws : List W) (ms : List ℕ) (ks : List (Call W)) : Type 0 where
    pub answers : answers_by (opened ts ws ms) ks ≡ answers_of (lengths_of ts ws ms) blank ks
    pub table : sheet_table K (left_by_all (opened ts ws ms) ks) ≡ sketch_table K (sketch_of (lengths_of ts ws ms) blank ks)

  -- and so does every list, over any memories
  abbrev pub ListsFollow : Type 0
  ListsFollow = (ts : List ℕ) (ws : List W) (ms : List ℕ) (ks : List (Call W)) → FollowsSketch ts ws ms ks
