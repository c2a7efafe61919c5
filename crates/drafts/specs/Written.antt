-- The draft file of a table: a field for each call that draws it. Assumes nothing.
use Rattle.std.specs.Prelude.{◌≡◌, ℕ, ◌+◌, ◌*◌, ◌/◌, ◌%◌, ◌≤◌, List, [], ◌∷◌, ◌++◌, map, length, drop, IfOk, Some, None, Option, Result, nat_le, nat_lt}
use Rattle.std.specs.List.{range_with_len, flat_map}
use Rattle.weights.specs.Codes.{Codes, code_for}
use Rattle.weights.specs.Group.{Kind}
use Rattle.weights.specs.Refusal.{Told, outcome, unless, judged}
use Rattle.weights.specs.declared.refusal.Refusal.{Refusal}
use Rattle.tables.specs.Book.{mark, opened}
use Rattle.tables.specs.Call.{if_taken}
use Rattle.tables.specs.Sheet.{sheet_table}
use Rattle.tables.specs.Table.{Table, WeighAlike}
use Rattle.tables.specs.declared.call.Call.{Call}
use Rattle.tables.specs.declared.call.Call.TheVariants.{Rule, State, Arc, Start}
use Rattle.drafts.specs.Draft.{Reading, listing, reading}

-- the two bytes of a number
abbrev pub high : ℕ → ℕ
high n = n / 256

abbrev pub low : ℕ → ℕ
low n = n % 256

-- the field that lists a call, in a file of that kind; the call has the code of its weight in place of the weight
abbrev pub field_of : ℕ → Call ℕ → List ℕ
field_of kind (Rule s) = 1 ∷ 0 ∷ 2 ∷ kind ∷ s ∷ []
field_of kind (State f) = 2 ∷ 0 ∷ 1 ∷ mark f ∷ []
field_of kind (Arc q a r c) = 3 ∷ 0 ∷ 7 ∷ high q ∷ low q ∷ a ∷ high r ∷ low r ∷ high c ∷ low c ∷ []
field_of kind (Start q c) = 4 ∷ 0 ∷ 4 ∷ high q ∷ low q ∷ high c ∷ low c ∷ []

-- the code of a meaning makes an element that has it
abbrev pub Named : {W : Type 0} (K : Kind W) → Codes W → K.group.Mean → Type 0
Named {W} K k m = (y : W) × (k.element (code_for K k m) ≡ Some y) × (K.mean y ≡ m)

-- how many arcs a table has, and how many bytes its draft file
abbrev pub arc_count : {M : Type 0} → Table M → ℕ
arc_count t = t.states * t.letters

abbrev pub draft_size : {M : Type 0} → Table M → ℕ
draft_size t = 12 + 4 * t.states + 10 * arc_count t

-- the refusal that writing a table into so many bytes meets, if any: no book has 4096 states
abbrev pub write_verdict : {M : Type 0} → Table M → ℕ → Option Told
write_verdict t room = unless (nat_lt t.states 4096) 8 (unless (nat_le (draft_size t) room) 6 None)

-- bytes written over the front of a memory
abbrev pub over : List ℕ → List ℕ → List ℕ
over xs memory = xs ++ drop (length xs) memory

module _ {W : Type 0} (K : Kind W) (k : Codes W) (t : Table K.group.Mean) where
  -- the call that adds state q
  abbrev pub state_call : ℕ → Call ℕ
  state_call q = State (t.final q)

  -- the call that draws arc p, which is that of state p / letters and letter p % letters
  abbrev pub arc_call : ℕ → Call ℕ
  arc_call p =
      Arc (p / t.letters) (p % t.letters) (t.target (p / t.letters) (p % t.letters))
      (code_for K k (t.weight (p / t.letters) (p % t.letters)))

  abbrev pub start_call : Call ℕ
  start_call = Start t.start (code_for K k t.start_weight)

  -- the letters, and then the states, the arcs by state and letter, and the start
  abbrev pub later_calls : List (Call ℕ)
  later_calls = map state_call (range_with_len 0 t.states) ++ (map arc_call (range_with_len 0 (arc_count t)) ++ (start_call ∷ []))

  abbrev pub draft_calls : List (Call ℕ)
  draft_calls = Rule t.letters ∷ later_calls

  -- the draft file of the table
  abbrev pub draft_bytes : List ℕ
  draft_bytes = flat_map (field_of k.number) draft_calls

  -- what reading the draft file into a new book over three memories leaves
  abbrev pub read_again : List ℕ → List W → List ℕ → Reading W
  read_again ts ws ms = reading (opened ts ws ms) (listing k draft_bytes)

  -- memories with room for the states are enough to read the draft unrefused; and wherever it is read unrefused, the closed
  -- book weighs every word as the table does
  pub record ReadAgain (ts : List ℕ) (ws : List W) (ms : List ℕ) : Type 0 where
    pub unrefused :
        1 + arc_count t ≤ length ts → 1 + arc_count t ≤ length ws → t.states ≤ length ms →
        (read_again ts ws ms).fault ≡ None
    pub alike : (read_again ts ws ms).fault ≡ None → WeighAlike K.group (sheet_table K (read_again ts ws ms).after) t

  -- what writing the table over a memory comes to: the answer, what the memory holds then, how long the file is, and that it
  -- is read again as the table over any memories
  pub record DraftWritten (before after : List ℕ) (r : Result ℕ Refusal) : Type 0 where
    pub answer : outcome r ≡ judged (write_verdict t (length before)) (draft_size t)
    pub bytes : after ≡ if_taken (write_verdict t (length before)) (over draft_bytes before) before
    pub size : length draft_bytes ≡ draft_size t
    pub again : IfOk r (λ _. (ts : List ℕ) (ws : List W) (ms : List ℕ) → ReadAgain ts ws ms)
