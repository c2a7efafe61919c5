-- The fields of a draft file. A field is a tag, a length of two bytes with the high byte first, and that many bytes of
-- content. Assumes nothing.
use Rattle.std.specs.Prelude.{ℕ, ◌+◌, ◌*◌, Bool, cond, ◌&&◌, List, length, drop, Some, None, Ok, Err, Option, Result, ◌==◌, nat_le, slice_index}
use Rattle.weights.specs.Codes.{Codes}
use Rattle.tables.specs.declared.call.Call.{Call}
use Rattle.tables.specs.declared.call.Call.TheVariants.{Rule, State, Arc, Start}
use Rattle.drafts.specs.Fault.{Blame, malformed, uncoded}
use Rattle.drafts.specs.declared.field.Field.{Field}

-- the number of two bytes, the high one first
abbrev pub two : ℕ → ℕ → ℕ
two high low = high * 256 + low

-- a field of that call and of that many bytes in all where the test holds, and else one that is malformed at offset o
abbrev pub good : {W : Type 0} → ℕ → Bool → Call W → ℕ → Result (Field W) Blame
good o b k n = cond b (Ok (record { call = k; length = n })) (Err (malformed o))

-- the element that a code makes, if any, for a field at offset o
abbrev pub coded : {W : Type 0} → ℕ → Option W → Result W Blame
coded o (Some w) = Ok w
coded o None = Err (uncoded o)

-- a field whose call has a weight, given by a code
abbrev pub weighted : {W : Type 0} → Result W Blame → (W → Call W) → ℕ → Result (Field W) Blame
weighted (Ok w) f n = Ok (record { call = f w; length = n })
weighted (Err b) f n = Err b

-- the content of a field whose length says n, at offset o: a head is the kind and the letters
abbrev pub head_field : {W : Type 0} → Codes W → ℕ → ℕ → List ℕ → Result (Field W) Blame
head_field k o n xs =
    good o (n == 2 && (nat_le 2 (length xs) && slice_index xs 0 == k.number)) (Rule (slice_index xs 1)) 5

-- a state is 1 for final, or 0
abbrev pub state_field : {W : Type 0} → ℕ → ℕ → List ℕ → Result (Field W) Blame
state_field o n xs = good o (n == 1 && (nat_le 1 (length xs) && nat_le (slice_index xs 0) 1)) (State (slice_index xs 0 == 1)) 4

-- an arc is a state, a letter, a target and a code
abbrev pub arc_field : {W : Type 0} → Codes W → ℕ → ℕ → List ℕ → Result (Field W) Blame
arc_field k o n xs =
    cond (n == 7 && nat_le 7 (length xs))
    (weighted (coded o (k.element (two (slice_index xs 5) (slice_index xs 6))))
    (λ w. Arc (two (slice_index xs 0) (slice_index xs 1)) (slice_index xs 2) (two (slice_index xs 3) (slice_index xs 4)) w) 10)
    (Err (malformed o))

-- a start is a state and a code
abbrev pub start_field : {W : Type 0} → Codes W → ℕ → ℕ → List ℕ → Result (Field W) Blame
start_field k o n xs =
    cond (n == 4 && nat_le 4 (length xs))
    (weighted (coded o (k.element (two (slice_index xs 2) (slice_index xs 3)))) (λ w. Start (two (slice_index xs 0) (slice_index xs 1)) w) 7)
    (Err (malformed o))

-- a field after the head, by its tag
abbrev pub later_field : {W : Type 0} → Codes W → ℕ → ℕ → ℕ → List ℕ → Result (Field W) Blame
later_field k o t n xs =
    cond (t == 2) (state_field o n xs) (cond (t == 3) (arc_field k o n xs) (cond (t == 4) (start_field k o n xs) (Err (malformed o))))

-- the first field is a head, and no other is
abbrev pub tagged_field : {W : Type 0} → Codes W → Bool → ℕ → ℕ → ℕ → List ℕ → Result (Field W) Blame
tagged_field k first o t n xs = cond first (cond (t == 1) (head_field k o n xs) (Err (malformed o))) (later_field k o t n xs)

-- the field that the bytes from offset o on begin with
abbrev pub field_at : {W : Type 0} → Codes W → Bool → ℕ → List ℕ → Result (Field W) Blame
field_at k first o bs =
    cond (nat_le 3 (length bs)) (tagged_field k first o (slice_index bs 0) (two (slice_index bs 1) (slice_index bs 2)) (drop 3 bs)) (Err (malformed o))
