-- The table that a sheet means: what its three memories hold, and one state more. Assumes nothing.
use Rattle.std.specs.Prelude.{◌≡◌, ℕ, ◌+◌, ◌%◌, ◌<◌, min, Bool, true, cond, ◌&&◌, List, map, Some, None, Option, Result, ◌==◌, nat_le, nat_lt, slice_get, slice_index, slice_index_or}
use Rattle.std.proofs.Common.{arith}
use Rattle.std.proofs.lemmas.Bool.{cond_both, ltb-true}
use Rattle.weights.specs.Group.{Kind}
use Rattle.weights.specs.Refusal.{Told, unless, judged}
use Rattle.tables.specs.Table.{Table, Lawful, is_letter_count, letters_read}
use Rattle.tables.specs.Call.{Size, has_places}
use Rattle.tables.specs.Book.{Contents, size_of, place, unset}

-- the refusal that a sheet of those letters and states over memories of those lengths meets, if any
abbrev pub sheet_verdict : Size → Option Told
sheet_verdict z =
    unless (is_letter_count z.letters) 1
    (unless (nat_le z.count 4095) 8
    (unless (has_places z) 6 None))

-- what making a sheet of those contents answers
abbrev pub sheet_of : {W : Type 0} → Contents W → Result (Contents W) Told
sheet_of c = judged (sheet_verdict (size_of c)) c

-- The states that are drawn, at most 4095; the number is also that of the off state, which comes after them. No sheet has another
-- count of states or of letters: its making refuses such, and no book comes to one. Read so, any contents mean a lawful table.
abbrev pub drawn : {W : Type 0} → Contents W → ℕ
drawn c = min c.count 4095

-- the letters, 1 to 64, read so for the same reason
abbrev pub width : {W : Type 0} → Contents W → ℕ
width c = letters_read c.letters

-- the target at a place: unset where the place does not exist
abbrev pub entry_at : {W : Type 0} → Contents W → ℕ → ℕ
entry_at c k = slice_index_or c.targets k unset

-- the meaning of the element at a place: one where the place does not exist
abbrev pub mean_at : {W : Type 0} (K : Kind W) → List W → ℕ → K.group.Mean
mean_at K ws k = slice_index_or (map K.mean ws) k K.group.one

-- a place leads to a state that is drawn
abbrev pub leads : {W : Type 0} → Contents W → ℕ → Bool
leads c k = nat_lt (entry_at c k) (drawn c)

-- where a place leads, and with which weight: to the off state with weight one if to no state that is drawn
abbrev pub led_to : {W : Type 0} → Contents W → ℕ → ℕ
led_to c k = cond (leads c k) (entry_at c k) (drawn c)

abbrev pub led_by : {W : Type 0} (K : Kind W) → Contents W → ℕ → K.group.Mean
led_by K c k = cond (leads c k) (mean_at K c.weights k) K.group.one

-- The element x is the one at a place, which leads to a state that is drawn. A place that leads to the off state, or does not exist,
-- has no element of its own, and any that means one will do.
abbrev pub HasElement : {W : Type 0} → Contents W → ℕ → W → Type 0
HasElement c k x = (leads c k ≡ true) × (slice_get c.weights k ≡ Some x)

-- an arc of the sheet, and not of its off state
abbrev pub is_drawn : {W : Type 0} → Contents W → ℕ → ℕ → Bool
is_drawn c q a = nat_lt q (drawn c) && nat_lt a (width c)

-- the sheet's table: only the lowest bit of a mark counts, and the last state is the off state, which is not final and
-- which each of its arcs leads to with weight one
abbrev pub sheet_table : {W : Type 0} (K : Kind W) → Contents W → Table K.group.Mean
sheet_table K c =
    record {
      states = drawn c + 1;
      letters = width c;
      start = led_to c 0;
      start_weight = led_by K c 0;
      final = λ q. nat_lt q (drawn c) && (slice_index c.marks q % 2 == 1);
      target = λ q a. cond (is_drawn c q a) (led_to c (place (width c) q a)) (drawn c);
      weight = λ q a. cond (is_drawn c q a) (led_by K c (place (width c) q a)) K.group.one;
    }

-- a place leads to a state of the table
led_inside : {W : Type 0} (c : Contents W) (k : ℕ) → led_to c k < drawn c + 1
led_inside c k =
    cond_both (leads c k) (entry_at c k) (drawn c) (λ t. t < drawn c + 1)
    (λ e. let h : entry_at c k < drawn c = ltb-true (entry_at c k) (drawn c) e in omega arith)
    (λ _. omega arith)

-- the table is lawful, whatever the contents are
pub sheet_lawful : {W : Type 0} (K : Kind W) (c : Contents W) → Lawful (sheet_table K c)
sheet_lawful K c =
    record {
      some_state = omega arith;
      few_states = omega arith;
      some_letter = omega arith;
      few_letters = omega arith;
      start_inside = led_inside c 0;
      target_inside =
          λ q a _ _.
          cond_both (is_drawn c q a) (led_to c (place (width c) q a)) (drawn c) (λ t. t < drawn c + 1)
          (λ _. led_inside c (place (width c) q a)) (λ _. omega arith);
    }
