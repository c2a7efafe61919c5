-- Numbers below a bound: the first that passes, and two that have one value. Assumes nothing.
use Rattle.std.proofs.Common.{◌≡◌, ℕ, zero, suc, ◌-◌, min, ◌<◌, ◌≤◌, ◌⊎◌, inl, inr, sym, refl, ◌∙◌, subst, arith}
use Rattle.std.proofs.lemmas.Bool.{cases_lt, cases_eq}

-- of the numbers below n the smallest that passes, or all fail
pub first_below :
    (n : ℕ) (P Q : ℕ → Type 0) → ((i : ℕ) → i < n → P i ⊎ Q i) →
    ((i : ℕ) × (i < n) × P i × ((j : ℕ) → j < i → Q j)) ⊎ ((i : ℕ) → i < n → Q i)
first_below zero P Q decide = inr (λ i l. absurd (omega arith))
first_below (suc n) P Q decide =
    elim (first_below n P Q (λ i l. decide i (omega arith))) [
      | inl x ↦ inl (x.0, omega (arith, x.1), x.2, x.3)
      | inr none ↦
          elim (decide n (omega arith)) [
            | inl p ↦ inl (n, omega arith, p, none)
            | inr q ↦
                inr (
                λ i l.
                elim (cases_eq i n) [
                  | inl e ↦ subst Q (sym e) q
                  | inr other ↦ none i (omega arith)
                ])
          ]
    ]

-- of more numbers than there are values, two have one value
pub pigeonhole :
    (a b : ℕ) (f : ℕ → ℕ) → b < a → ((i : ℕ) → i < a → f i < b) → (i : ℕ) × (j : ℕ) × (i < j) × (j < a) × (f i ≡ f j)
pigeonhole zero b f less inside = absurd (omega arith)
pigeonhole (suc a) b f less inside =
    elim (first_below a (λ i. f i ≡ f a) (λ i. f i ≡ f a → ⊥) (λ i l. cases_eq (f i) (f a))) [
      | inl x ↦ (x.0, a, x.1, omega arith, x.2)
      | inr none ↦
          -- no other number has the value of the last, so the values above it come down by one
          (let last : f a < b = inside a (omega arith) in
          let down : ℕ → ℕ = λ i. f i - min 1 (f i - f a) in
          let two =
          pigeonhole a (b - 1) down (omega arith)
          (λ i l. let own : f i < b = inside i (omega arith) in let other : f i ≡ f a → ⊥ = none i l in omega arith)
          in
          let p : f two.0 ≡ f a → ⊥ = none two.0 (omega (arith, two.2, two.3)) in
          let r : f two.1 ≡ f a → ⊥ = none two.1 two.3 in
          let e : f two.0 - min 1 (f two.0 - f a) ≡ f two.1 - min 1 (f two.1 - f a) = two.4 in
          (two.0, two.1, two.2, omega (arith, two.3), omega arith))
    ]

-- the pigeonhole for values that are given at the numbers below a alone
extended : (a : ℕ) (g : (i : ℕ) → i < a → ℕ) (i : ℕ) → (i < a) ⊎ (a ≤ i) → ℕ
extended a g i (inl l) = g i l
extended a g i (inr m) = 0

extended_inside :
    (a : ℕ) (g : (i : ℕ) → i < a → ℕ) (i : ℕ) (c : (i < a) ⊎ (a ≤ i)) → i < a → (l : i < a) × (extended a g i c ≡ g i l)
unfolding extended
extended_inside a g i (inl l) h = (l, refl)
extended_inside a g i (inr m) h = absurd (omega arith)

-- of values at the numbers below a, too many for the bound, two are one
pub two_alike :
    (a b : ℕ) (g : (i : ℕ) → i < a → ℕ) → b < a → ((i : ℕ) (l : i < a) → g i l < b) →
    (i : ℕ) × (j : ℕ) × (l : i < a) × (m : j < a) × (i < j) × (g i l ≡ g j m)
two_alike a b g less inside =
    let f : ℕ → ℕ = λ i. extended a g i (cases_lt i a) in
    let below : (i : ℕ) → i < a → f i < b =
    λ i l.
    let x = extended_inside a g i (cases_lt i a) l in
    subst (λ n. n < b) (sym x.1) (inside i x.0) in
    let h = pigeonhole a b f less below in
    let x = extended_inside a g h.0 (cases_lt h.0 a) (omega (arith, h.2, h.3)) in
    let y = extended_inside a g h.1 (cases_lt h.1 a) h.3 in
    (h.0, h.1, x.0, y.0, h.2, sym x.1 ∙ h.4 ∙ y.1)
