-- The calls on an open book, and which of them are refused. Assumes nothing.
use Rattle.std.specs.Prelude.{ℕ, ◌+◌, ◌*◌, Bool, ◌&&◌, Some, None, Option, ◌==◌, nat_le, nat_lt}
use Rattle.weights.specs.Refusal.{Told, unless}
use Rattle.tables.specs.Table.{is_letter_count}
use Rattle.tables.specs.declared.call.Call.{Call}
use Rattle.tables.specs.declared.call.Call.TheVariants.{Rule, State, Arc, Start}

-- all that refusals go by, but that of a second arc: the lengths of the memories, the letters, and how many states there are
pub record Size : Type 0 where
  pub targets : ℕ
  pub weights : ℕ
  pub marks : ℕ
  pub letters : ℕ
  pub count : ℕ

-- the memories have the places of all states
abbrev pub has_places : Size → Bool
has_places z =
    nat_le (1 + z.count * z.letters) z.targets && (nat_le (1 + z.count * z.letters) z.weights && nat_le z.count z.marks)

-- a state q of the book, and a letter a
abbrev pub has_state : Size → ℕ → Bool
has_state z q = nat_lt q z.count

abbrev pub has_letter : Size → ℕ → Bool
has_letter z a = nat_lt a z.letters

-- the letters may be set to s
abbrev pub may_rule : Size → ℕ → Bool
may_rule z s = z.count == 0 && is_letter_count s

-- there is room for one more state
abbrev pub has_room : Size → Bool
has_room z =
    nat_lt z.count 4095 && has_places (record { targets = z.targets; weights = z.weights; marks = z.marks; letters = z.letters; count = z.count + 1 })

-- the refusal that a call meets, if any: the first in order. A state and a letter are free that have no arc yet.
abbrev pub verdict : {W : Type 0} → Size → (ℕ → ℕ → Bool) → Call W → Option Told
verdict z free (Rule s) = unless (may_rule z s) 1 None
verdict z free (State f) = unless (has_room z) 5 None
verdict z free (Arc q a r w) =
    unless (has_state z q) 2
    (unless (has_letter z a) 3
    (unless (has_state z r) 2
    (unless (free q a) 10 None)))
verdict z free (Start q w) = unless (has_state z q) 2 None

-- one of two: the first where a call is taken, the second where it is refused
abbrev pub if_taken : {X : Type 0} → Option Told → X → X → X
if_taken None new old = new
if_taken (Some t) new old = old
