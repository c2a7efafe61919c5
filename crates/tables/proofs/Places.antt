-- The places of arcs, and targets of which a run of places is cleared. Assumes nothing.
use Rattle.std.proofs.Common.{◌≡◌, ℕ, zero, suc, ◌+◌, ◌*◌, ◌<◌, ◌≤◌, ◌≢◌, List, [], ◌∷◌, length, get_or, set, replicate, refl, ap, ◌∙◌, add-one, inl, inr, add-zero, mul-le-mul_right, suc-mul, arith}
use Rattle.std.proofs.Math.Seq.{paste}
use Rattle.std.proofs.lemmas.List.{length-set, get_or-set_other}
use Rattle.std.proofs.lemmas.List.Edits.{fill_from_more, paste_none}
use Rattle.std.proofs.lemmas.Bool.{cases_eq, cases_order}
use Rattle.tables.specs.Book.{place, unset, cleared}

-- the row of a state ends before the row of a later state begins
pub row_before : (s p q : ℕ) → p < q → p * s + s ≤ q * s
row_before s p q l = rw (suc-mul p s) at (mul-le-mul_right s l)

-- an arc of one of n states lies before the end of their rows
pub place_inside : (s q a n : ℕ) → q < n → a < s → place s q a < 1 + n * s
place_inside s q a n l m = let r : q * s + s ≤ n * s = row_before s q n l in omega arith

-- no arc of an earlier state lies in the row of a later one
pub place_before : (s p b q a : ℕ) → p < q → b < s → place s p b < place s q a
place_before s p b q a l m = let r : p * s + s ≤ q * s = row_before s p q l in omega arith

-- arcs at one place leave one state
pub same_state : (s p b q a : ℕ) → b < s → a < s → place s p b ≡ place s q a → p ≡ q
same_state s p b q a m l e =
    elim (cases_order p q) [
      | inl h ↦ h
      | inr (inl h) ↦ (let r : place s p b < place s q a = place_before s p b q a h m in omega arith)
      | inr (inr h) ↦ (let r : place s q a < place s p b = place_before s q a p b h l in omega arith)
    ]

-- arcs at one place have one letter
pub same_letter : (s p b q a : ℕ) → b < s → a < s → place s p b ≡ place s q a → b ≡ a
same_letter s p b q a m l e =
    let r : p * s ≡ q * s = cc (same_state s p b q a m l e) in
    omega arith

-- what is set to the default reads as the default, whether or not the place exists
pub get_or_set_default : (xs : List ℕ) (k d : ℕ) → get_or (set xs k d) k d ≡ d
get_or_set_default [] k d = refl
get_or_set_default (x ∷ xs) zero d = refl
get_or_set_default (x ∷ xs) (suc k) d = get_or_set_default xs k d

-- clearing pastes a run of unset targets
pub cleared-paste : (xs : List ℕ) (k n : ℕ) → k + n ≤ length xs → cleared xs k n ≡ paste xs k (replicate n unset) n
cleared-paste xs k zero l = paste_none xs k []
cleared-paste xs k (suc n) l =
    let before : k + n ≤ length xs = omega arith in
    let inside : k + n < length xs = omega arith in
    ap (λ ys. set ys (k + n) unset) (cleared-paste xs k n before)
    ∙ fill_from_more xs k n unset inside
    ∙ ap (λ m. paste xs k (replicate m unset) m) (add-one n)

-- clearing keeps the length
pub length_cleared : (xs : List ℕ) (k n : ℕ) → length (cleared xs k n) ≡ length xs
length_cleared xs k zero = refl
length_cleared xs k (suc n) = length-set (cleared xs k n) (k + n) unset ∙ length_cleared xs k n

-- clearing keeps what stands before
pub cleared_before : (xs : List ℕ) (k n j : ℕ) → j < k → get_or (cleared xs k n) j unset ≡ get_or xs j unset
cleared_before xs k zero j l = refl
cleared_before xs k (suc n) j l =
    let other : j ≢ k + n = omega arith in
    get_or-set_other (cleared xs k n) (k + n) j unset unset other ∙ cleared_before xs k n j l

-- what is cleared is unset
pub cleared_inside : (xs : List ℕ) (k n j : ℕ) → k ≤ j → j < k + n → get_or (cleared xs k n) j unset ≡ unset
cleared_inside xs k zero j l m = let no : j < k = rw add-zero at m in omega arith
cleared_inside xs k (suc n) j l m =
    elim (cases_eq j (k + n)) [
      | inl e ↦ rw e (get_or_set_default (cleared xs k n) (k + n) unset)
      | inr other ↦
          (let before : j < k + n = omega arith in
          get_or-set_other (cleared xs k n) (k + n) j unset unset other ∙ cleared_inside xs k n j l before)
    ]
