-- Reading a list of calls into a book draws them, one after another. Assumes nothing.
use Rattle.std.proofs.Common.{◌≡◌, ℕ, zero, suc, ◌+◌, ◌<◌, List, [], ◌∷◌, ◌++◌, map, length, Some, None, Option, sym, refl, ap, ◌∙◌, subst, zero-add, add-one, arith}
use Rattle.std.specs.List.{range_with_len}
use Rattle.std.proofs.lemmas.List.FromFn.{map-range_with_len_more}
use Rattle.weights.specs.Codes.{Codes}
use Rattle.weights.specs.Refusal.{Told}
use Rattle.tables.specs.Book.{Contents, refusal_in, taken}
use Rattle.tables.specs.Sketch.{Lengths, Sketch, refusal_on, drawn_on}
use Rattle.tables.specs.declared.call.Call.{Call}
use Rattle.tables.proofs.InStep.{InStep}
use Rattle.tables.proofs.Steps.{taken_in_step, same_refusal}
use Rattle.drafts.specs.Draft.{Reading, carried, made_on}
use Rattle.drafts.specs.Written.{field_of}
use Rattle.drafts.proofs.Fields.{decoded, placed}

-- a reading without a fault took its first call
carried_on :
    {W : Type 0} (v : Option Told) (o : ℕ) (c : Contents W) (rest : Reading W) → (carried v o c rest).fault ≡ None →
    (v ≡ None) × (carried v o c rest ≡ rest)
carried_on None o c rest e = (refl, refl)
carried_on (Some t) o c rest e = absurd (cc)

module _ {W : Type 0} (k : Codes W) (d : W) where
  -- the sketch after a list of calls that are all taken
  abbrev pub drawn_all : Sketch W → List (Call ℕ) → Sketch W
  drawn_all s [] = s
  drawn_all s (c ∷ cs) = drawn_all (drawn_on s (decoded k d c)) cs

  -- each of them meets no refusal
  abbrev pub Unrefused : Lengths → Sketch W → List (Call ℕ) → Type 0
  Unrefused n s [] = Unit {0}
  Unrefused n s (c ∷ cs) = (refusal_on n s (decoded k d c) ≡ None) × Unrefused n (drawn_on s (decoded k d c)) cs

  pub drawn_append : (s : Sketch W) (xs ys : List (Call ℕ)) → drawn_all s (xs ++ ys) ≡ drawn_all (drawn_all s xs) ys
  drawn_append s [] ys = refl
  drawn_append s (x ∷ xs) ys = drawn_append (drawn_on s (decoded k d x)) xs ys

  pub unrefused_append :
      (n : Lengths) (s : Sketch W) (xs ys : List (Call ℕ)) → Unrefused n s xs → Unrefused n (drawn_all s xs) ys → Unrefused n s (xs ++ ys)
  unrefused_append n s [] ys h more = more
  unrefused_append n s (x ∷ xs) ys h more = (h.0, unrefused_append n (drawn_on s (decoded k d x)) xs ys h.1 more)

  -- the book after a reading without a fault is in step with the sketch of all the calls
  pub read_in_step :
      (n : Lengths) (s : Sketch W) (b : Contents W) (cs : List (Call ℕ)) (o : ℕ) → InStep n s b →
      (made_on b (placed k d o cs) None).fault ≡ None → InStep n (drawn_all s cs) (made_on b (placed k d o cs) None).after
  read_in_step n s b [] o h e = h
  read_in_step n s b (c ∷ cs) o h e =
      let call = decoded k d c in
      let next = o + length (field_of k.number c) in
      let rest = made_on (taken b call) (placed k d next cs) None in
      let on = carried_on (refusal_in b call) o b rest e in
      let clear : rest.fault ≡ None = sym (ap (λ r. r.fault) on.1) ∙ e in
      subst (λ r. InStep n (drawn_all (drawn_on s call) cs) r.after) (sym on.1)
      (read_in_step n (drawn_on s call) (taken b call) cs next (taken_in_step n s b call h on.0) clear)

  -- where no call meets a refusal, there is no fault
  pub read_unrefused :
      (n : Lengths) (s : Sketch W) (b : Contents W) (cs : List (Call ℕ)) (o : ℕ) → InStep n s b → Unrefused n s cs →
      (made_on b (placed k d o cs) None).fault ≡ None
  read_unrefused n s b [] o h u = refl
  read_unrefused n s b (c ∷ cs) o h u =
      let call = decoded k d c in
      let next = o + length (field_of k.number c) in
      let met : refusal_in b call ≡ None = same_refusal n s b call h ∙ u.0 in
      ap (λ v. (carried v o b (made_on (taken b call) (placed k d next cs) None)).fault) met
      ∙ read_unrefused n (drawn_on s call) (taken b call) cs next (taken_in_step n s b call h met) u.1

  -- the sketch after the calls of the numbers below m
  abbrev pub run : Sketch W → (ℕ → Call ℕ) → ℕ → Sketch W
  run s f m = drawn_all s (map f (range_with_len 0 m))

  pub run_more : (s : Sketch W) (f : ℕ → Call ℕ) (m : ℕ) → run s f (suc m) ≡ drawn_on (run s f m) (decoded k d (f m))
  run_more s f m =
      ap (run s f) (sym (add-one m))
      ∙ ap (drawn_all s) (map-range_with_len_more f 0 m m (zero-add m))
      ∙ drawn_append s (map f (range_with_len 0 m)) (f m ∷ [])

  pub run_unrefused :
      (n : Lengths) (s : Sketch W) (f : ℕ → Call ℕ) (m : ℕ) →
      ((i : ℕ) → i < m → refusal_on n (run s f i) (decoded k d (f i)) ≡ None) → Unrefused n s (map f (range_with_len 0 m))
  run_unrefused n s f zero h = tt
  run_unrefused n s f (suc m) h =
      subst (Unrefused n s) (sym (map-range_with_len_more f 0 m m (zero-add m)) ∙ ap (λ j. map f (range_with_len 0 j)) (add-one m))
      (unrefused_append n s (map f (range_with_len 0 m)) (f m ∷ []) (run_unrefused n s f m (λ i l. h i (omega arith))) (h m (omega arith), tt))
