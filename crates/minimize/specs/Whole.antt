-- A list of calls on a new book, which is then let go, and whose table is compiled: what is promised of all that, in one. Assumes
-- nothing.
use Rattle.std.specs.Prelude.{◌≡◌, ℕ, List, length, Ok, Err, Result}
use Rattle.weights.specs.Group.{Kind}
use Rattle.weights.specs.declared.refusal.Refusal.{Refusal}
use Rattle.tables.specs.Table.{Table, Lawful}
use Rattle.tables.specs.Book.{laid}
use Rattle.tables.specs.Sketch.{Sketch, lengths_of, blank, sketch_of, sketch_table}
use Rattle.tables.specs.Made.{calls_of, Drawn}
use Rattle.tables.specs.declared.made.Made.{Made}
use Rattle.minimize.specs.Memories.{Memories}
use Rattle.minimize.specs.Compile.{Compiled, Promised, Finished, Refused}
use Rattle.minimize.specs.declared.compiler.Report.{Report}

-- the three memories of a book, and a list of calls with the places of their answers
pub record Drawing (W : Type 0) : Type 0 where
  pub targets : List ℕ
  pub weights : List W
  pub marks : List ℕ
  pub made : List (Made W)

abbrev pub drawing : {W : Type 0} → List ℕ → List W → List ℕ → List (Made W) → Drawing W
drawing ts ws ms made = record { targets = ts; weights = ws; marks = ms; made = made }

-- the sketch of the list, for a new book over these memories
abbrev pub sketch_in : {W : Type 0} → Drawing W → Sketch W
sketch_in d = sketch_of (lengths_of d.targets d.weights d.marks) blank (calls_of d.made)

module _ {W : Type 0} (K : Kind W) where
  -- the table that the calls draw
  abbrev pub table_in : Drawing W → Table K.group.Mean
  table_in d = sketch_table K (sketch_in d)

  -- The whole promise, from calls to tables: d and m are what the memories hold before, and d' and m' what they hold after.
  pub record Whole (d d' : Drawing W) (m m' : Memories W) (r : Report) : Type 0 where
    -- each answer, each place of the memories of the book, and the table that they mean are as the list tells
    pub drawn :
        Drawn K d.targets d.weights d.marks d.made d'.made
        (laid d'.targets d'.weights d'.marks (sketch_in d).letters (length (sketch_in d).finals))
    -- the tables, the lists and the report are those that are defined for that table, and are as promised
    pub finished : Finished K (table_in d) m m' r
    -- and the same is promised of what compiling any other source of the kind leaves
    pub every : (t : Table K.group.Mean) (n : Memories W) (p : Report) → Lawful t → Compiled K t n p → Promised K t n p

  -- where the memories to compile in are too short, it is refused before a call is made
  pub record Undrawn (d d' : Drawing W) (m m' : Memories W) (e : Refusal) : Type 0 where
    pub refused : Refused K (table_in d) m m' e
    pub kept : d' ≡ d

  abbrev pub WholeOutcome : Drawing W → Drawing W → Memories W → Memories W → Result Report Refusal → Type 0
  WholeOutcome d d' m m' (Ok r) = Whole d d' m m' r
  WholeOutcome d d' m m' (Err e) = Undrawn d d' m m' e
