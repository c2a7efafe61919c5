-- The table that is redirected is the hyper table. Assumes nothing.
use Rattle.std.proofs.Common.{ℕ, eqb, get_or, List, inl, inr, sym, subst}
use Rattle.std.proofs.lemmas.Bool.{cases_Bool, or_left, or_right, or_from, eq-eqb, ne_eqb}
use Rattle.weights.specs.Group.{Kind}
use Rattle.tables.specs.Table.{Table}
use Rattle.tables.specs.Sheet.{mean_at}
use Rattle.theory.specs.Kernel.{Kernel, Preamble}
use Rattle.theory.specs.Hyper.{Hyper, Factor}
use Rattle.theory.proofs.Search.{kernel_not_preamble}
use Rattle.minimize.specs.Steps.{Marked, AlmostClasses, has_mark}
use Rattle.minimize.specs.Choosing.{Choices, is_kept, Redirected}
use Rattle.minimize.proofs.Choosing.{told_true, told_false, factor_chosen, representative_chosen}

unfoldable pub hyper_table :
    {W : Type 0} (K : Kind W) (l h : Table K.group.Mean) (labels : List ℕ) (factors : List W) (kernel co_kernel representatives : List ℕ)
    (chosen : List W) → Marked K.group l (has_mark kernel) (has_mark co_kernel) →
    AlmostClasses K.group l (λ q. get_or labels q 0) (mean_at K factors) →
    Choices K l.states labels factors kernel co_kernel representatives chosen →
    Redirected K.group l h (is_kept kernel representatives) (λ q. get_or representatives q 0) (mean_at K chosen) →
    Hyper K.group l h (λ q. get_or representatives q 0) (mean_at K chosen)
hyper_table K l h labels factors kernel co_kernel representatives chosen marked classes choices d =
    let G = K.group in
    let r : ℕ → ℕ = λ q. get_or representatives q 0 in
    record {
      representative =
          λ q i. representative_chosen G l labels kernel (has_mark co_kernel) (mean_at K factors) marked classes q (r q) i (choices.representative q i);
      factor =
          λ q i.
          let c = choices.representative q i in
          subst (Factor G l q (r q)) (sym (choices.factor q i))
          (factor_chosen G l (has_mark kernel) (has_mark co_kernel) (λ q. get_or labels q 0) (mean_at K factors) marked classes q (r q) i c.inside c.same);
      kept = is_kept kernel representatives;
      keeps_kernel =
          λ q i k.
          elim (cases_Bool (has_mark kernel q)) [
            | inl e ↦ or_left (has_mark kernel q) (eqb (r q) q) e
            | inr e ↦
                absurd (kernel_not_preamble l q k (told_false (has_mark kernel q) (Kernel l q) (Preamble l q) e (marked.kernel q i)))
          ];
      keeps_itself = λ q i e. or_right (has_mark kernel q) (eqb (r q) q) (eq-eqb (r q) q e);
      redirects =
          λ q i p other.
          elim (cases_Bool (has_mark kernel q)) [
            | inl e ↦
                absurd (kernel_not_preamble l q (told_true (has_mark kernel q) (Kernel l q) (Preamble l q) e (marked.kernel q i)) p)
            | inr e ↦ or_from (has_mark kernel q) (eqb (r q) q) e (ne_eqb (r q) q other)
          ];
      states = d.states;
      letters = d.letters;
      final = d.final;
      target = d.target;
      weight = d.weight;
      start = d.start;
      start_weight = d.start_weight;
    }
