-- Counts of kept states. Assumes nothing.
use Rattle.std.proofs.Common.{◌≡◌, ℕ, zero, suc, ◌<◌, ◌≤◌, Bool, true, false, cond, inl, inr, refl, ap, arith}
use Rattle.std.proofs.lemmas.Bool.{cases_Bool, cases_lt, cond-true, cond-false}
use Rattle.theory.specs.Hyper.{count_below}

-- a state of a count: a kept one below n that has number i
pub record Numbered (kept : ℕ → Bool) (n i : ℕ) : Type 0 where
  pub state : ℕ
  pub inside : state < n
  pub is_kept : kept state ≡ true
  pub number : count_below kept state ≡ i

module _ (kept : ℕ → Bool) where
  -- a kept state adds one to the count, another none
  pub after_kept : (q : ℕ) → kept q ≡ true → count_below kept (suc q) ≡ suc (count_below kept q)
  after_kept q e = let one : cond {A = ℕ} (kept q) 1 0 ≡ 1 = cond-true (kept q) 1 0 e in omega arith

  pub after_dropped : (q : ℕ) → kept q ≡ false → count_below kept (suc q) ≡ count_below kept q
  after_dropped q e = let none : cond {A = ℕ} (kept q) 1 0 ≡ 0 = cond-false (kept q) 1 0 e in omega arith

  -- the count doesn't fall
  pub kept_grows : (q p : ℕ) → q ≤ p → count_below kept q ≤ count_below kept p
  kept_grows q zero l = let e : q ≡ 0 = omega arith in omega (arith, ap (count_below kept) e)
  kept_grows q (suc p) l =
      elim (cases_lt p q) [
        | inl past ↦ (let e : q ≡ suc p = omega arith in omega (arith, ap (count_below kept) e))
        | inr before ↦ omega (arith, kept_grows q p before)
      ]

  -- a kept state has a smaller number than each later state
  pub kept_rises : (q p : ℕ) → kept q ≡ true → q < p → count_below kept q < count_below kept p
  kept_rises q p e l = omega (arith, after_kept q e, kept_grows (suc q) p (omega arith))

  numbered_later : (n i : ℕ) → Numbered kept n i → Numbered kept (suc n) i
  numbered_later n i s =
      record { state = s.state; inside = omega (arith, s.inside); is_kept = s.is_kept; number = s.number }

  -- each number below the count of kept states below n is that of one of them
  pub numbered : (n i : ℕ) → i < count_below kept n → Numbered kept n i
  numbered zero i l = absurd (omega arith)
  numbered (suc n) i l =
      elim (cases_lt i (count_below kept n)) [
        | inl before ↦ numbered_later n i (numbered n i before)
        | inr last ↦
            elim (cases_Bool (kept n)) [
              | inl e ↦
                  record { state = n; inside = omega arith; is_kept = e; number = omega (arith, after_kept n e) }
              | inr e ↦ absurd (omega (arith, after_dropped n e))
            ]
      ]

-- marks that agree below a number count alike up to it
pub counts_alike : (p o : ℕ → Bool) (n : ℕ) → ((q : ℕ) → q < n → p q ≡ o q) → count_below p n ≡ count_below o n
counts_alike p o zero h = refl
counts_alike p o (suc n) h =
    let last : cond {A = ℕ} (p n) 1 0 ≡ cond (o n) 1 0 = ap (λ b. cond b 1 0) (h n (omega arith)) in
    omega (arith, counts_alike p o n (λ q l. h q (omega arith)), last)
