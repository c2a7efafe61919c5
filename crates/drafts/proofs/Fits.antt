-- A field that is read is not empty, and lies within the bytes that it is read from. Assumes nothing.
use Rattle.std.proofs.Common.{◌≡◌, ℕ, ◌+◌, ◌<◌, ◌≤◌, Bool, leb, List, length, get_or, drop, Ok, Err, Result, arith, subst}
use Rattle.std.proofs.lemmas.List.{length-drop}
use Rattle.std.proofs.lemmas.Bool.{cond_both, leb-true}
use Rattle.std.proofs.lemmas.Bool.Decides.{nat_tests}
use Rattle.weights.specs.Codes.{Codes}
use Rattle.tables.specs.declared.call.Call.{Call}
use Rattle.drafts.specs.Fault.{Blame}
use Rattle.drafts.specs.Field.{two, weighted, head_field, state_field, arc_field, start_field, later_field, tagged_field, field_at}
use Rattle.drafts.specs.declared.field.Field.{Field}

-- the field, if there is one, has at least one byte and at most n
abbrev pub Fits : {W : Type 0} → ℕ → Result (Field W) Blame → Type 0
Fits n (Ok f) = (0 < f.length) × (f.length ≤ n)
Fits n (Err e) = Unit {0}

weighted_fits : {W : Type 0} (m n : ℕ) (r : Result W Blame) (f : W → Call W) → 0 < n → n ≤ m → Fits m (weighted r f n)
weighted_fits m n (Ok w) f l h = (l, h)
weighted_fits m n (Err b) f l h = tt

module _ {W : Type 0} (k : Codes W) (o n : ℕ) (xs : List ℕ) where
  head_fits : Fits (3 + length xs) (head_field k o n xs)
  head_fits = grind (arith, nat_tests)

  state_fits : Fits {W = W} (3 + length xs) (state_field o n xs)
  state_fits = grind (arith, nat_tests)

  arc_fits : Fits (3 + length xs) (arc_field k o n xs)
  arc_fits = grind (arith, nat_tests, weighted_fits)

  start_fits : Fits (3 + length xs) (start_field k o n xs)
  start_fits = grind (arith, nat_tests, weighted_fits)

  later_fits : (t : ℕ) → Fits (3 + length xs) (later_field k o t n xs)
  later_fits t = grind (arith, state_fits, arc_fits, start_fits)

  tagged_fits : (first : Bool) (t : ℕ) → Fits (3 + length xs) (tagged_field k first o t n xs)
  tagged_fits first t = grind (arith, head_fits, later_fits)

pub field_fits : {W : Type 0} (k : Codes W) (first : Bool) (o : ℕ) (bs : List ℕ) → Fits (length bs) (field_at k first o bs)
field_fits k first o bs =
    cond_both (leb 3 (length bs)) _ _ (Fits (length bs))
    (λ e.
    let h : 3 ≤ length bs = leb-true 3 (length bs) e in
    let whole : 3 + length (drop 3 bs) ≡ length bs = omega (arith, length-drop 3 bs) in
    subst (λ m. Fits m (tagged_field k first o (get_or bs 0 0) (two (get_or bs 1 0) (get_or bs 2 0)) (drop 3 bs))) whole
    (tagged_fits k o (two (get_or bs 1 0) (get_or bs 2 0)) (drop 3 bs) first (get_or bs 0 0)))
    (λ _. tt)
