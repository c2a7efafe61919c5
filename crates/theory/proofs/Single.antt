-- A table has one hyper table. Assumes nothing.
use Rattle.std.proofs.Common.{◌≡◌, ℕ, ◌+◌, ◌<◌, ◌≤◌, true, cond, List, Some, inl, inr, sym, ap, ◌∙◌, subst, arith}
use Rattle.std.proofs.lemmas.Bool.{cases_order, cases_eq}
use Rattle.weights.specs.Group.{Group}
use Rattle.tables.specs.Table.{Table, weight_from}
use Rattle.theory.specs.Runs.{accepts, Closed}
use Rattle.theory.specs.Series.{AlmostBy}
use Rattle.theory.specs.Kernel.{CoKernel}
use Rattle.theory.specs.Hyper.{Hyper, Representative, Factor, count_below}
use Rattle.theory.specs.Theorems.{HyperIsDetermined}
use Rattle.theory.proofs.Lengths.{some_longer}
use Rattle.theory.proofs.Basics.{scaled_told, walked, accepted_weighs, multiple_accepts, multiple_from}
use Rattle.theory.proofs.Search.{kernel_or_preamble, co_kernel_or_preamble, kernel_not_preamble}
use Rattle.theory.proofs.HyperRun.{moved, moved_kept, moved_inside}
use Rattle.theory.proofs.Equal.{EqualParts, equal_same}
use Rattle.theory.proofs.Kept.{Numbered, numbered, kept_rises, counts_alike}

module _ (G : Group) (t : Table G.Mean) where
  -- a state has one representative
  no_smaller : (q r s : ℕ) → Representative G t q r → Representative G t q s → r < s → ⊥
  no_smaller q r s x y less =
      elim y.smallest [
        | inr preamble ↦ preamble.smallest r less x.almost
        | inl kernel ↦
            elim x.smallest [
              | inl kernel' ↦ kernel_not_preamble t r kernel'.kernel (kernel.smallest r less x.almost)
              | inr preamble ↦ kernel_not_preamble t s kernel.kernel (preamble.preamble s y.inside y.almost)
            ]
      ]

  pub one_representative : (q r s : ℕ) → Representative G t q r → Representative G t q s → r ≡ s
  one_representative q r s x y =
      elim (cases_order r s) [
        | inl same ↦ same
        | inr (inl less) ↦ absurd (no_smaller q r s x y less)
        | inr (inr more) ↦ absurd (no_smaller q s r y x more)
      ]

  -- a state from which infinitely many words are accepted has one factor towards another state
  pub one_almost : (q r : ℕ) (k m : G.Mean) → CoKernel t q → AlmostBy G t k q r → AlmostBy G t m q r → k ≡ m
  one_almost q r k m c x y =
      let a = multiple_from x in
      let b = multiple_from y in
      let z = some_longer c.words (a.from + b.from) in
      let w : List ℕ = z.0 in
      let accepted : accepts t r w ≡ true = sym (multiple_accepts G t t q r a.multiple w z.1 (omega (arith, z.2))) ∙ z.3 in
      let some : weight_from G t r w ≡ Some (walked G t r w) = accepted_weighs G t r w accepted in
      scaled_told G k m (walked G t r w) (weight_from G t r w) (weight_from G t r w) some some
      (sym (a.multiple.words w z.1 (omega (arith, z.2))) ∙ b.multiple.words w z.1 (omega (arith, z.2)))

-- and one factor towards its representative
pub one_factor :
    (G : Group) (t : Table G.Mean) → Closed t → (q r : ℕ) (k m : G.Mean) → q < t.states → Factor G t q r k → Factor G t q r m → k ≡ m
one_factor G t closed q r k m l x y =
    elim (co_kernel_or_preamble t closed q l) [
      | inl co_kernel ↦ one_almost G t q r k m co_kernel x.almost y.almost
      | inr co_preamble ↦ x.one co_preamble ∙ sym (y.one co_preamble)
    ]

module _ (G : Group) (l h : Table G.Mean) (r : ℕ → ℕ) (f : ℕ → G.Mean) (closed : Closed l) (x : Hyper G l h r f) where
  -- an arc is led to a kept state, whose number is a state of the hyper table
  led_number : (q : ℕ) → q < l.states → count_below x.kept (moved G l h r f closed x q) < h.states
  led_number q m =
      omega (
        arith,
        kept_rises x.kept (moved G l h r f closed x q) l.states (moved_kept G l h r f closed x q m)
            (moved_inside G l h r f closed x q m),
        x.states,
      )

  -- a state of the hyper table is the number of a kept state
  origin : (i : ℕ) → i < h.states → Numbered x.kept l.states i
  origin i m = numbered x.kept l.states i (subst (λ n. i < n) x.states m)

  -- a hyper table is closed
  pub hyper_closed : Closed h
  hyper_closed =
      record {
        start_inside = subst (λ n. n < h.states) (sym x.start) (led_number l.start closed.start_inside);
        target_inside =
            λ i a m o.
            let q = origin i m in
            let letter : a < l.letters = subst (λ n. a < n) x.letters o in
            let leads : h.target i a ≡ count_below x.kept (moved G l h r f closed x (l.target q.state a)) =
            ap (λ j. h.target j a) (sym q.number) ∙ x.target q.state a q.inside letter q.is_kept in
            subst (λ n. n < h.states) (sym leads)
            (led_number (l.target q.state a) (closed.target_inside q.state a q.inside letter));
      }

-- two hyper tables of one closed table
module _ (G : Group) (l h k : Table G.Mean) (r s : ℕ → ℕ) (f g : ℕ → G.Mean) (closed : Closed l)
    (x : Hyper G l h r f) (y : Hyper G l k s g) where
  -- representatives, factors, kept states and their numbers are the same
  representatives_alike : (q : ℕ) → q < l.states → r q ≡ s q
  representatives_alike q m = one_representative G l q (r q) (s q) (x.representative q m) (y.representative q m)

  factors_alike : (q : ℕ) → q < l.states → f q ≡ g q
  factors_alike q m =
      one_factor G l closed q (s q) (f q) (g q) m (subst (λ p. Factor G l q p (f q)) (representatives_alike q m) (x.factor q m))
      (y.factor q m)

  kept_alike : (q : ℕ) → q < l.states → x.kept q ≡ y.kept q
  kept_alike q m =
      elim (kernel_or_preamble l closed q m) [
        | inl kernel ↦ x.keeps_kernel q m kernel ∙ sym (y.keeps_kernel q m kernel)
        | inr preamble ↦
            elim (cases_eq (r q) q) [
              | inl own ↦ x.keeps_itself q m own ∙ sym (y.keeps_itself q m (sym (representatives_alike q m) ∙ own))
              | inr other ↦
                  x.redirects q m preamble other
                  ∙ sym (y.redirects q m preamble (λ e. other (representatives_alike q m ∙ e)))
            ]
      ]

  numbers_alike : (q : ℕ) → q ≤ l.states → count_below x.kept q ≡ count_below y.kept q
  numbers_alike q m = counts_alike x.kept y.kept q (λ p n. kept_alike p (omega arith))

  -- an arc to state q is led to one number, with one weight
  led_number_alike :
      (q : ℕ) → q < l.states →
      count_below x.kept (cond (x.kept q) q (r q)) ≡ count_below y.kept (cond (y.kept q) q (s q))
  led_number_alike q m =
      let inside : cond (x.kept q) q (r q) < l.states = moved_inside G l h r f closed x q m in
      numbers_alike (cond (x.kept q) q (r q)) (omega arith)
      ∙ ap (λ b. count_below y.kept (cond b q (r q))) (kept_alike q m)
      ∙ ap (λ p. count_below y.kept (cond (y.kept q) q p)) (representatives_alike q m)

  led_weight_alike :
      (q : ℕ) (w : G.Mean) → q < l.states → cond (x.kept q) w (G.mul w (f q)) ≡ cond (y.kept q) w (G.mul w (g q))
  led_weight_alike q w m =
      ap (λ b. cond b w (G.mul w (f q))) (kept_alike q m) ∙ ap (λ z. cond (y.kept q) w (G.mul w z)) (factors_alike q m)

  -- so the tables are equal in their parts
  hyper_equal : EqualParts G h k
  hyper_equal =
      let origin_of : (i : ℕ) → i < h.states → Numbered x.kept l.states i = origin G l h r f closed x in
      let kept : (i : ℕ) (m : i < h.states) → y.kept (origin_of i m).state ≡ true =
      λ i m. let q = origin_of i m in sym (kept_alike q.state q.inside) ∙ q.is_kept in
      let number : (i : ℕ) (m : i < h.states) → count_below y.kept (origin_of i m).state ≡ i =
      λ i m. let q = origin_of i m in sym (numbers_alike q.state (omega (arith, q.inside))) ∙ q.number in
      record {
        states = x.states ∙ numbers_alike l.states (omega arith) ∙ sym y.states;
        letters = x.letters ∙ sym y.letters;
        start = x.start ∙ led_number_alike l.start closed.start_inside ∙ sym y.start;
        start_weight = x.start_weight ∙ led_weight_alike l.start l.start_weight closed.start_inside ∙ sym y.start_weight;
        final =
            λ i m.
            let q = origin_of i m in
            ap h.final (sym q.number)
            ∙ x.final q.state q.inside q.is_kept
            ∙ sym (y.final q.state q.inside (kept i m))
            ∙ ap k.final (number i m);
        target =
            λ i a m o.
            let q = origin_of i m in
            let letter : a < l.letters = subst (λ n. a < n) x.letters o in
            ap (λ j. h.target j a) (sym q.number)
            ∙ x.target q.state a q.inside letter q.is_kept
            ∙ led_number_alike (l.target q.state a) (closed.target_inside q.state a q.inside letter)
            ∙ sym (y.target q.state a q.inside letter (kept i m))
            ∙ ap (λ j. k.target j a) (number i m);
        weight =
            λ i a m o.
            let q = origin_of i m in
            let letter : a < l.letters = subst (λ n. a < n) x.letters o in
            ap (λ j. h.weight j a) (sym q.number)
            ∙ x.weight q.state a q.inside letter q.is_kept
            ∙ led_weight_alike (l.target q.state a) (l.weight q.state a) (closed.target_inside q.state a q.inside letter)
            ∙ sym (y.weight q.state a q.inside letter (kept i m))
            ∙ ap (λ j. k.weight j a) (number i m);
      }

pub hyper_is_determined : (G : Group) → HyperIsDetermined G
hyper_is_determined G t h k r s f g closed x y =
    record {
      table =
          equal_same G h k (hyper_closed G t h r f closed x) (hyper_closed G t k s g closed y)
          (hyper_equal G t h k r s f g closed x y);
      representatives = representatives_alike G t h k r s f g closed x y;
      factors = factors_alike G t h k r s f g closed x y;
    }
