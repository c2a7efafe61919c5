-- The fields that a list of calls is written as list those calls, if each code is that of an element. Assumes nothing.
use Rattle.std.proofs.Common.{◌≡◌, ℕ, ◌+◌, Bool, true, false, List, [], ◌∷◌, ◌++◌, length, Some, None, Ok, refl, ap, ◌∙◌, arith}
use Rattle.std.specs.Option.{unwrap_or}
use Rattle.std.specs.List.{flat_map, AllByRecursion as All}
use Rattle.std.proofs.lemmas.List.{drop_at}
use Rattle.std.proofs.lemmas.Bool.Decides.{nat_tests}
use Rattle.weights.specs.Codes.{Codes}
use Rattle.tables.specs.declared.call.Call.{Call}
use Rattle.tables.specs.declared.call.Call.TheVariants.{Rule, State, Arc, Start}
use Rattle.drafts.specs.Draft.{Placed, one_more, listed, listing}
use Rattle.drafts.specs.Field.{field_at}
use Rattle.drafts.specs.Written.{field_of}
use Rattle.drafts.specs.declared.field.Field.{Field}
use Rattle.drafts.proofs.Listing.{next_listed}

module _ {W : Type 0} (k : Codes W) (d : W) where
  -- the call with the element of its code, and with d where the code makes none
  abbrev pub decoded : Call ℕ → Call W
  decoded (Rule s) = Rule s
  decoded (State f) = State f
  decoded (Arc q a r c) = Arc q a r (unwrap_or (k.element c) d)
  decoded (Start q c) = Start q (unwrap_or (k.element c) d)

  -- a call that a field after the head can list: its code makes an element
  abbrev pub Known : Call ℕ → Type 0
  Known (Rule s) = ⊥
  Known (State f) = Unit {0}
  Known (Arc q a r c) = (w : W) × (k.element c ≡ Some w)
  Known (Start q c) = (w : W) × (k.element c ≡ Some w)

  -- the field of a call
  abbrev field : Call ℕ → List ℕ
  field c = field_of k.number c

  -- the field of a call, read
  abbrev read : Call ℕ → Field W
  read c = record { call = decoded c; length = length (field c) }

  head_read : (s o : ℕ) (rest : List ℕ) → field_at k true o (field (Rule s) ++ rest) ≡ Ok (read (Rule s))
  head_read s o rest = grind (arith, nat_tests)

  later_read : (c : Call ℕ) (o : ℕ) (rest : List ℕ) → Known c → field_at k false o (field c ++ rest) ≡ Ok (read c)
  later_read (Rule s) o rest h = absurd h
  later_read (State f) o rest h = grind (arith, nat_tests)
  later_read (Arc q a r c) o rest h = grind (arith, nat_tests, h.1)
  later_read (Start q c) o rest h = grind (arith, nat_tests, h.1)

  -- the calls with the offsets of their fields
  abbrev pub placed : ℕ → List (Call ℕ) → List (Placed W)
  placed o [] = []
  placed o (c ∷ cs) = record { offset = o; call = decoded c } ∷ placed (o + length (field c)) cs

  -- the listing that begins with the field of a call
  begins_with :
      (first : Bool) (c : Call ℕ) (o : ℕ) (rest : List ℕ) → field_at k first o (field c ++ rest) ≡ Ok (read c) →
      listed k first 0 o (field c ++ rest) ≡ one_more (record { offset = o; call = decoded c }) (listed k false 0 (o + length (field c)) rest)
  begins_with first c o rest e =
      next_listed k first o (field c ++ rest) (read c) e
      ∙ ap (λ xs. one_more (record { offset = o; call = decoded c }) (listed k false 0 (o + length (field c)) xs))
      (drop_at (field c) rest (length (field c)) refl)

  later_listed :
      (cs : List (Call ℕ)) (o : ℕ) → All Known cs → listed k false 0 o (flat_map field cs) ≡ record { calls = placed o cs; fault = None }
  later_listed [] o h = refl
  later_listed (c ∷ cs) o h =
      begins_with false c o (flat_map field cs) (later_read c o (flat_map field cs) h.0)
      ∙ ap (one_more (record { offset = o; call = decoded c })) (later_listed cs (o + length (field c)) h.1)

  -- a file of a head and known calls lists them
  pub calls_listed :
      (s : ℕ) (cs : List (Call ℕ)) → All Known cs →
      listing k (flat_map field (Rule s ∷ cs)) ≡ record { calls = placed 0 (Rule s ∷ cs); fault = None }
  calls_listed s cs h =
      begins_with true (Rule s) 0 (flat_map field cs) (head_read s 0 (flat_map field cs))
      ∙ ap (one_more (record { offset = 0; call = Rule s })) (later_listed cs 5 h)
