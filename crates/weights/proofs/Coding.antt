-- The code of a meaning is the code of each element that has it. Assumes nothing.
use Rattle.std.proofs.Common.{◌≡◌, ℕ, zero, suc, ◌+◌, ◌<◌, ◌≤◌, Bool, true, false, Some, None, Option, sym, refl, ap, ◌∙◌, ⊎_elim, add-zero, add-suc, arith}
use Rattle.std.proofs.lemmas.Bool.{cases_Bool, cond-true, cond-false, cases_eq}
use Rattle.weights.specs.Group.{Kind}
use Rattle.weights.specs.Codes.{Codes, holds, means, first_of, code_for}

-- the one number that passes a test is found
first_is :
    (p : ℕ → Bool) (d : ℕ) → p d ≡ true → ((c : ℕ) → p c ≡ true → c ≡ d) → (n c : ℕ) → c ≤ d → d < c + n → first_of p c n ≡ d
first_is p d there only zero c l h = let e : c + 0 ≡ c = add-zero c in absurd (omega arith)
first_is p d there only (suc n) c l h =
    ⊎_elim
    (λ t. cond-true (p c) c (first_of p (suc c) n) t ∙ only c t)
    (λ f.
    cond-false (p c) c (first_of p (suc c) n) f
    ∙ first_is p d there only n (suc c)
    (⊎_elim
    (λ same. let z : ◌≡◌ {A = Bool} true false = sym there ∙ ap p (sym same) ∙ f in absurd (let y : ◌≡◌ {A = ℕ} 0 1 = cc in omega arith))
    (λ other. let e : suc c ≤ d = omega arith in e)
    (cases_eq c d))
    (let e : c + suc n ≡ suc (c + n) = add-suc c n in omega arith))
    (cases_Bool (p c))

held : {X : Type 0} (d : Dec X) → holds d ≡ true → X
held (yes p) e = p
held (no n) e = absurd (let y : ◌≡◌ {A = ℕ} 0 1 = cc in omega arith)

holding : {X : Type 0} (d : Dec X) → X → holds d ≡ true
holding (yes p) x = refl
holding (no n) x = absurd (n x)

module _ {E : Type 0} (K : Kind E) (k : Codes E) (made : (c : ℕ) (x : E) → k.element c ≡ Some x → k.code_of x ≡ c)
    (whole : (x : E) → (y : E) × (k.element (k.code_of x) ≡ Some y) × (K.mean y ≡ K.mean x))
    (alike : (x y : E) → K.mean x ≡ K.mean y → k.code_of x ≡ k.code_of y) where
  -- a code of an element that means m is that of any other
  same_code : (x : E) (c : ℕ) (o : Option E) → k.element c ≡ o → means K (K.mean x) o ≡ true → c ≡ k.code_of x
  same_code x c (Some y) e t = sym (made c y e) ∙ alike y x (held (K.group.decide (K.mean y) (K.mean x)) t)
  same_code x c None e t = absurd (let y : ◌≡◌ {A = ℕ} 0 1 = cc in omega arith)

  pub code_for_mean : (x : E) → k.code_of x < 65536 → code_for K k (K.mean x) ≡ k.code_of x
  unfolding code_for
  code_for_mean x small =
      let y = whole x in
      first_is (λ c. means K (K.mean x) (k.element c)) (k.code_of x)
      (ap (means K (K.mean x)) y.1 ∙ holding (K.group.decide (K.mean y.0) (K.mean x)) y.2)
      (λ c t. same_code x c (k.element c) refl t) 65536 0 (omega arith) (omega arith)

  -- the code of a meaning that an element has makes an element that has it
  pub code_for_makes :
      (x : E) (m : K.group.Mean) → K.mean x ≡ m → k.code_of x < 65536 →
      (y : E) × (k.element (code_for K k m) ≡ Some y) × (K.mean y ≡ m)
  code_for_makes x m e small =
      let y = whole x in
      let there : k.element (code_for K k m) ≡ Some y.0 =
      ap (λ z. k.element (code_for K k z)) (sym e) ∙ ap k.element (code_for_mean x small) ∙ y.1 in
      (y.0, there, y.2 ∙ e)
