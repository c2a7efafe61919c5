-- The listing of a file, field by field. Assumes nothing.
use Rattle.std.proofs.Common.{◌≡◌, ℕ, zero, suc, ◌+◌, ◌-◌, ◌<◌, ◌≤◌, Bool, false, eqb, List, [], ◌∷◌, length, take, drop, Some, None, Ok, Result, sym, ap, ◌∙◌, subst, le_of_suc-le-suc, not-suc-le-zero, add-zero, arith}
use Rattle.std.proofs.lemmas.List.{take_rest, drop-drop, length-drop}
use Rattle.std.proofs.lemmas.Bool.{ne_eqb}
use Rattle.weights.specs.Codes.{Codes}
use Rattle.weights.specs.Refusal.{Told}
use Rattle.tables.specs.Book.{Contents, refusal_in, taken}
use Rattle.drafts.specs.Advancing.{reading_from}
use Rattle.drafts.specs.Draft.{one_more, begun, listed, carried, reading}
use Rattle.drafts.specs.Fault.{faulted, unmade}
use Rattle.drafts.specs.Field.{field_at}
use Rattle.drafts.specs.declared.fault.Fault.{Fault}
use Rattle.drafts.specs.declared.field.Field.{Field}
use Rattle.drafts.proofs.Fits.{Fits, field_fits}

-- the bytes of the field before are passed
skipped :
    {W : Type 0} (k : Codes W) (first : Bool) (n o : ℕ) (xs : List ℕ) → n ≤ length xs →
    listed k first n o xs ≡ listed k first 0 (o + n) (drop n xs)
skipped k first zero o xs h = ap (λ j. listed k first 0 j xs) (sym (add-zero o))
skipped k first (suc n) o [] h = absurd (not-suc-le-zero h)
skipped k first (suc n) o (b ∷ bs) h =
    skipped k first n (suc o) bs (le_of_suc-le-suc h) ∙ ap (λ j. listed k first 0 j (drop n bs)) (let e : suc o + n ≡ o + suc n = omega arith in e)

module _ {W : Type 0} (k : Codes W) (first : Bool) (o : ℕ) where
  -- a field that is read: its call, and then what is listed from the next field on
  pub next_listed :
      (xs : List ℕ) (f : Field W) → field_at k first o xs ≡ Ok f →
      listed k first 0 o xs ≡ one_more (record { offset = o; call = f.call }) (listed k false 0 (o + f.length) (drop f.length xs))
  next_listed [] f e = absurd (cc)
  next_listed (b ∷ bs) f e =
      let n : ℕ = f.length in
      let fits : Fits (suc (length bs)) (Ok f) = subst (Fits (suc (length bs))) e (field_fits k first o (b ∷ bs)) in
      let inside : n - 1 ≤ length bs = omega (arith, fits.1) in
      let there : suc o + (n - 1) ≡ o + n = omega (arith, fits.0) in
      let past : suc (n - 1) ≡ n = omega (arith, fits.0) in
      ap (λ r. begun o r (λ m. listed k false m (suc o) bs)) e
      ∙ ap (one_more (record { offset = o; call = f.call }))
      (skipped k false (n - 1) (suc o) bs inside
      ∙ ap (λ m. listed k false 0 m (drop (n - 1) bs)) there
      ∙ ap (λ m. listed k false 0 (o + n) (drop m (b ∷ bs))) past)

module _ {W : Type 0} (k : Codes W) (bs : List ℕ) (o : ℕ) (h : o < length bs) where
  -- a field that is read lies within the file
  pub within_file : (first : Bool) (f : Field W) → field_at k first o (drop o bs) ≡ Ok f → (0 < f.length) × (o + f.length ≤ length bs)
  within_file first f e =
      let fits : Fits (length (drop o bs)) (Ok f) = subst (Fits (length (drop o bs))) e (field_fits k first o (drop o bs)) in
      (fits.0, omega (arith, fits.1, length-drop o bs))

  -- the next field of a file is not the first
  goes_on :
      (first : Bool) (f : Field W) → field_at k first o (drop o bs) ≡ Ok f →
      listed k first 0 o (drop o bs)
      ≡ one_more (record { offset = o; call = f.call }) (listed k (eqb (o + f.length) 0) 0 (o + f.length) (drop (o + f.length) bs))
  goes_on first f e =
      let n : ℕ = f.length in
      let inside = within_file first f e in
      let later : eqb (o + n) 0 ≡ false = ne_eqb (o + n) 0 (λ z. omega (arith, inside.0)) in
      next_listed k first o (drop o bs) f e
      ∙ ap (λ xs. one_more (record { offset = o; call = f.call }) (listed k false 0 (o + n) xs)) (drop-drop n o bs)
      ∙ ap (λ b. one_more (record { offset = o; call = f.call }) (listed k b 0 (o + n) (drop (o + n) bs))) (sym later)

  module _ (c : Contents W) where
    -- the call is taken
    pub read_on :
        (f : Field W) → field_at k (eqb o 0) o (drop o bs) ≡ Ok f → refusal_in c f.call ≡ None →
        (o < o + f.length)
        × (o + f.length ≤ length bs)
        × (reading_from k bs o c ≡ reading_from k bs (o + f.length) (taken c f.call))
    read_on f e v =
        let inside = within_file (eqb o 0) f e in
        let rest = listed k (eqb (o + f.length) 0) 0 (o + f.length) (drop (o + f.length) bs) in (
          omega (arith, inside.0),
          inside.1,
          ap (reading c) (goes_on (eqb o 0) f e) ∙ ap (λ w. carried w o c (reading (taken c f.call) rest)) v,
        )

    -- the call is refused
    pub read_refused :
        (f : Field W) (t : Told) → field_at k (eqb o 0) o (drop o bs) ≡ Ok f → refusal_in c f.call ≡ Some t →
        reading_from k bs o c ≡ record { after = c; fault = Some (unmade o t) }
    read_refused f t e v =
        let rest = listed k (eqb (o + f.length) 0) 0 (o + f.length) (drop (o + f.length) bs) in
        ap (reading c) (goes_on (eqb o 0) f e) ∙ ap (λ w. carried w o c (reading (taken c f.call) rest)) v

-- the field at an offset, from what was answered for the rest of the file as a slice
pub field_read :
    {W : Type 0} (k : Codes W) (bs : List ℕ) (o : ℕ) (r s : Result (Field W) Fault) →
    faulted r ≡ field_at k (eqb o 0) o (take (length bs - o) (drop o bs)) → r ≡ s → field_at k (eqb o 0) o (drop o bs) ≡ faulted s
field_read k bs o r s e same = ap (field_at k (eqb o 0) o) (sym (take_rest bs o)) ∙ sym e ∙ ap faulted same
