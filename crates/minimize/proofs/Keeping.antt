-- Counts of kept states, and of fewer. Assumes nothing.
use Rattle.std.proofs.Common.{◌≡◌, ℕ, zero, suc, ◌<◌, ◌≤◌, Bool, true, false, cond, inl, inr, sym, ap, refl, ◌∙◌, arith}
use Rattle.std.proofs.lemmas.Bool.{cases_Bool, cases_eq, cases_order}
use Rattle.theory.specs.Hyper.{count_below}
use Rattle.theory.proofs.Kept.{after_kept, after_dropped, kept_rises}

module _ (kept : ℕ → Bool) where
  -- no more are kept than there are
  pub kept_few : (n : ℕ) → count_below kept n ≤ n
  kept_few zero = omega arith
  kept_few (suc n) =
      elim (cases_Bool (kept n)) [
        | inl e ↦ omega (arith, after_kept kept n e, kept_few n)
        | inr e ↦ omega (arith, after_dropped kept n e, kept_few n)
      ]

  -- kept states with one number are one
  pub kept_injective : (q p : ℕ) → kept q ≡ true → kept p ≡ true → count_below kept q ≡ count_below kept p → q ≡ p
  kept_injective q p hq hp e =
      elim (cases_order q p) [
        | inl same ↦ same
        | inr (inl less) ↦ omega (arith, kept_rises kept q p hq less)
        | inr (inr more) ↦ omega (arith, kept_rises kept p q hp more)
      ]

-- where marks are taken away, fewer are left, or all
module _ (m left : ℕ → Bool) where
  one_fewer : (b c : Bool) → (b ≡ true → c ≡ true) → cond b 1 0 ≤ cond c 1 0
  one_fewer true c h = omega (arith, ap {B = ℕ} (λ x. cond x 1 0) (h refl))
  one_fewer false c h = omega arith

  pub kept_fewer : (n : ℕ) → ((q : ℕ) → q < n → left q ≡ true → m q ≡ true) → count_below left n ≤ count_below m n
  kept_fewer zero was = omega arith
  kept_fewer (suc n) was =
      omega (arith, kept_fewer n (λ q l. was q (omega arith)), one_fewer (left n) (m n) (was n (omega arith)))

  pub kept_lost :
      (n : ℕ) → ((q : ℕ) → q < n → left q ≡ true → m q ≡ true) → (q : ℕ) → q < n → m q ≡ true → left q ≡ false →
      count_below left n < count_below m n
  kept_lost zero was q l e f = absurd (omega arith)
  kept_lost (suc n) was q l e f =
      let lower : (p : ℕ) → p < n → left p ≡ true → m p ≡ true = λ p k. was p (omega arith) in
      elim (cases_eq q n) [
        | inl same ↦
            (let had : m n ≡ true = ap m (sym same) ∙ e in
            let lost : left n ≡ false = ap left (sym same) ∙ f in
            omega (arith, kept_fewer n lower, ap {B = ℕ} (λ b. cond b 1 0) had, ap {B = ℕ} (λ b. cond b 1 0) lost))
        | inr other ↦
            omega (arith, kept_lost n lower q (omega arith) e f, one_fewer (left n) (m n) (was n (omega arith)))
      ]

  -- where no fewer are left, all are
  pub kept_stands :
      (n : ℕ) → ((q : ℕ) → q < n → left q ≡ true → m q ≡ true) → count_below m n ≤ count_below left n → (q : ℕ) → q < n →
      m q ≡ true → left q ≡ true
  kept_stands n was all q l e =
      elim (cases_Bool (left q)) [
        | inl stays ↦ stays
        | inr gone ↦ absurd (omega (arith, kept_lost n was q l e gone))
      ]
