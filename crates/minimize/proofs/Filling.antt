-- Rows that are filled place by place. Assumes nothing.
use Rattle.std.proofs.Common.{◌≡◌, ◌≢◌, ℕ, ◌+◌, ◌*◌, ◌<◌, List, length, set, inl, inr, sym, ap, ◌∙◌, subst, arith}
use Rattle.std.proofs.lemmas.Bool.{cases_eq}
use Rattle.std.proofs.lemmas.List.{get_or-set_same, get_or-set_other}
use Rattle.std.proofs.lemmas.Nat.{row_fits}
use Rattle.std.specs.Prelude.{slice_index}
use Rattle.weights.specs.Group.{Kind}
use Rattle.tables.specs.Sheet.{mean_at}
use Rattle.minimize.proofs.Memory.{mean_set_same, mean_set_other}
use Rattle.minimize.specs.Filling.{FilledPlace, FilledRow, Filled}

module _ {W : Type 0} (K : Kind W) (s : ℕ) (label : ℕ → ℕ → ℕ) (element : ℕ → ℕ → K.group.Mean) where
  pub filled_more :
      (q a i x : ℕ) (w : W) (row_labels row_labels' : List ℕ) (row_elements row_elements' : List W) →
      i ≡ q * s + a → i < length row_labels' → i < length row_elements' → x ≡ label q a → K.mean w ≡ element q a →
      FilledRow K s label element q a row_labels row_elements row_labels' row_elements' →
      FilledRow K s label element q (a + 1) row_labels row_elements (set row_labels' i x) (set row_elements' i w)
  filled_more q a i x w row_labels row_labels' row_elements row_elements' at room room' labelled weighs f =
      record {
        place =
            λ b l.
            elim (cases_eq b a) [
              | inl last ↦
                  (let here : q * s + b ≡ i = ap (λ c. q * s + c) last ∙ sym at in
                  record {
                    holds_label =
                        ap (slice_index (set row_labels' i x)) here
                        ∙ get_or-set_same row_labels' i x 0 room
                        ∙ labelled
                        ∙ ap (label q) (sym last);
                    holds_element =
                        ap (mean_at K (set row_elements' i w)) here
                        ∙ mean_set_same K row_elements' i w room'
                        ∙ weighs
                        ∙ ap (element q) (sym last);
                  })
              | inr other ↦
                  (let apart : q * s + b ≢ i = λ e. other (omega arith) in
                  let old = f.place b (omega arith) in
                  record {
                    holds_label = get_or-set_other row_labels' i (q * s + b) x 0 apart ∙ old.holds_label;
                    holds_element = mean_set_other K row_elements' i (q * s + b) w apart ∙ old.holds_element;
                  })
            ];
        labels_before =
            λ j l.
            let apart : j ≢ i = λ e. omega arith in
            get_or-set_other row_labels' i j x 0 apart ∙ f.labels_before j l;
        elements_before =
            λ j l.
            let apart : j ≢ i = λ e. omega arith in
            mean_set_other K row_elements' i j w apart ∙ f.elements_before j l;
      }

  pub filled_row_more :
      (q : ℕ) (row_labels row_labels' : List ℕ) (row_elements row_elements' : List W) →
      Filled K s label element q row_labels row_elements → FilledRow K s label element q s row_labels row_elements row_labels' row_elements' →
      Filled K s label element (q + 1) row_labels' row_elements'
  filled_row_more q row_labels row_labels' row_elements row_elements' f r =
      record {
        place =
            λ p a l m.
            elim (cases_eq p q) [
              | inl last ↦ subst (λ o. FilledPlace K s label element o a row_labels' row_elements') (sym last) (r.place a m)
              | inr other ↦
                  (let before : p * s + a < q * s = omega (arith, row_fits p s q s (omega arith) (omega arith)) in
                  let old = f.place p a (omega arith) m in
                  record {
                    holds_label = r.labels_before (p * s + a) before ∙ old.holds_label;
                    holds_element = r.elements_before (p * s + a) before ∙ old.holds_element;
                  })
            ];
      }
