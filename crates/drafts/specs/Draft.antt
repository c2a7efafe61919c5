-- A draft file is the calls that it lists, up to a fault if it has one. Assumes nothing.
use Rattle.std.specs.Prelude.{ℕ, zero, suc, ◌-◌, Bool, true, false, cond, List, [], ◌∷◌, Some, None, Ok, Err, Option, Result}
use Rattle.weights.specs.Codes.{Codes}
use Rattle.weights.specs.Refusal.{Told}
use Rattle.tables.specs.Book.{Contents, refusal_in, taken}
use Rattle.tables.specs.declared.call.Call.{Call}
use Rattle.drafts.specs.Fault.{Blame, malformed, unmade}
use Rattle.drafts.specs.Field.{field_at}
use Rattle.drafts.specs.declared.field.Field.{Field}

-- a call, with the offset of the field that lists it
pub record Placed (W : Type 0) : Type 0 where
  pub offset : ℕ
  pub call : Call W

-- the calls that a file lists, and the fault of the field after them, if any
pub record Listing (W : Type 0) : Type 0 where
  pub calls : List (Placed W)
  pub fault : Option Blame

-- a listing with one call more before it
abbrev pub one_more : {W : Type 0} → Placed W → Listing W → Listing W
one_more p l = record { calls = p ∷ l.calls; fault = l.fault }

-- a listing that begins with a field: its call comes before what is listed after the rest of its bytes, or its fault ends it
abbrev pub begun : {W : Type 0} → ℕ → Result (Field W) Blame → (ℕ → Listing W) → Listing W
begun o (Ok f) rest = one_more (record { offset = o; call = f.call }) (rest (f.length - 1))
begun o (Err e) rest = record { calls = []; fault = Some e }

-- the listing of the bytes from offset o on, of which the first so many belong to the field before; a file must have a head
abbrev pub listed : {W : Type 0} → Codes W → Bool → ℕ → ℕ → List ℕ → Listing W
listed k first skip o [] = record { calls = []; fault = cond first (Some (malformed o)) None }
listed k first zero o (b ∷ bs) = begun o (field_at k first o (b ∷ bs)) (λ n. listed k false n (suc o) bs)
listed k first (suc skip) o (b ∷ bs) = listed k first skip (suc o) bs

-- the listing of a whole file
abbrev pub listing : {W : Type 0} → Codes W → List ℕ → Listing W
listing k bs = listed k true 0 0 bs

-- what a reading leaves in the book, and the fault that it ends with, if any
pub record Reading (W : Type 0) : Type 0 where
  pub after : Contents W
  pub fault : Option Blame

-- a reading goes on after a call that is taken, and a refusal ends it
abbrev pub carried : {W : Type 0} → Option Told → ℕ → Contents W → Reading W → Reading W
carried None o c rest = rest
carried (Some t) o c rest = record { after = c; fault = Some (unmade o t) }

-- the calls are made one after another
abbrev pub made_on : {W : Type 0} → Contents W → List (Placed W) → Option Blame → Reading W
made_on c [] f = record { after = c; fault = f }
made_on c (p ∷ ps) f = carried (refusal_in c p.call) p.offset c (made_on (taken c p.call) ps f)

-- the reading of a listing on a book
abbrev pub reading : {W : Type 0} → Contents W → Listing W → Reading W
reading c l = made_on c l.calls l.fault
