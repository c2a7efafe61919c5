-- Representatives and factors. Assumes nothing.
use Rattle.std.proofs.Common.{◌≡◌, ℕ, ◌+◌, ◌<◌, ◌≤◌, Bool, true, false, cond, get_or, set, List, length, inl, inr, sym, refl, ap, ◌∙◌, subst, arith}
use Rattle.std.proofs.lemmas.Bool.{cases_Bool, cond_both, false_from_ne_true}
use Rattle.std.proofs.lemmas.Grind.{common_steps}
use Rattle.weights.specs.Group.{Group, Kind}
use Rattle.tables.specs.Table.{Table, scaled}
use Rattle.tables.specs.Sheet.{mean_at}
use Rattle.theory.specs.Runs.{accepts}
use Rattle.theory.specs.Series.{AlmostBy, AlmostEquivalent}
use Rattle.theory.specs.Kernel.{Kernel, Preamble, CoKernel, CoPreamble}
use Rattle.theory.specs.Hyper.{Representative, Factor}
use Rattle.theory.proofs.Lengths.{all_shorter}
use Rattle.theory.proofs.Basics.{multiple_accepts, almost_multiple, multiple_from, almost_by_sym, almost_by_trans, not_accepted}
use Rattle.theory.proofs.Search.{co_kernel_not_preamble}
use Rattle.minimize.specs.Compile.{Tells}
use Rattle.minimize.specs.Steps.{Marked, AlmostClasses, has_mark}
use Rattle.minimize.specs.Choosing.{rank, Chosen, factor_towards}
use Rattle.minimize.proofs.Memory.{mean_set_same, mean_set_other}

-- what a mark tells
pub told_true : (b : Bool) (X Y : Type 0) → b ≡ true → Tells b X Y → X
told_true b X Y e h = subst (λ v. Tells v X Y) e h

pub told_false : (b : Bool) (X Y : Type 0) → b ≡ false → Tells b X Y → Y
told_false b X Y e h = subst (λ v. Tells v X Y) e h

module _ (G : Group) (t : Table G.Mean) (k o : ℕ → Bool) (label : ℕ → ℕ) (factor : ℕ → G.Mean) where
  -- states with one label are almost-equivalent
  one_label :
      AlmostClasses G t label factor → (q r : ℕ) → q < t.states → r < t.states → label r ≡ label q →
      AlmostBy G t (G.mul (factor q) (G.inv (factor r))) q r
  one_label c q r i j e =
      let d = c.almost q i in
      let x = subst (λ p. AlmostBy G t (factor r) r p) e (c.almost r j) in
      almost_by_trans G t (factor q) (G.inv (factor r)) q (label q) r d (almost_by_sym G t (factor r) r (label q) x)

  -- where finitely many words are accepted from q, any factor serves
  any_factor : (q r : ℕ) (x y : G.Mean) → CoPreamble t q → AlmostBy G t x q r → AlmostBy G t y q r
  any_factor q r x y c a =
      let short = all_shorter c.words in
      let m = multiple_from a in
      almost_multiple {n = short.0 + m.from}
      (record {
        words =
            λ w h l.
            let no : accepts t q w ≡ false =
            false_from_ne_true (accepts t q w) (λ e. omega (arith, short.1 w h e)) in
            let both : accepts t q w ≡ accepts t r w = multiple_accepts G t t q r m.multiple w h (omega arith) in
            not_accepted G t q w no ∙ sym (ap (scaled G y) (not_accepted G t r w (sym both ∙ no)));
      })

  pub factor_chosen :
      Marked G t k o → AlmostClasses G t label factor → (q r : ℕ) → q < t.states → r < t.states → label r ≡ label q →
      Factor G t q r (cond (o q) (G.mul (factor q) (G.inv (factor r))) G.one)
  factor_chosen marked c q r i j e =
      let x : G.Mean = G.mul (factor q) (G.inv (factor r)) in
      let tells = marked.co_kernel q i in
      cond_both (o q) x G.one (Factor G t q r)
      (λ b.
      record {
        almost = one_label c q r i j e;
        one = λ p. absurd (co_kernel_not_preamble t q (told_true (o q) (CoKernel t q) (CoPreamble t q) b tells) p);
      })
      (λ b.
      record {
        almost = any_factor q r x G.one (told_false (o q) (CoKernel t q) (CoPreamble t q) b tells) (one_label c q r i j e);
        one = λ p. refl;
      })

module _ (G : Group) (t : Table G.Mean) (labels kernel : List ℕ) (o : ℕ → Bool) (factor : ℕ → G.Mean) where
  pub representative_chosen :
      Marked G t (has_mark kernel) o → AlmostClasses G t (λ q. get_or labels q 0) factor → (q r : ℕ) → q < t.states →
      Chosen t.states labels kernel q r → Representative G t q r
  representative_chosen marked c q r i chosen =
      let n : ℕ = t.states in
      let order : (p : ℕ) → p < n → AlmostEquivalent G t q p → rank n labels kernel r ≤ rank n labels kernel p =
      λ p j a. chosen.first p j (sym (c.one_class q p i j a)) in
      let preamble : (p : ℕ) → p < n → has_mark kernel p ≡ false → Preamble t p =
      λ p j e. told_false (has_mark kernel p) (Kernel t p) (Preamble t p) e (marked.kernel p j) in
      record {
        inside = chosen.inside;
        almost = record { factor = G.mul (factor q) (G.inv (factor r)); by = one_label G t (has_mark kernel) o (λ q. get_or labels q 0) factor c q r i chosen.inside chosen.same };
        smallest =
            elim (cases_Bool (has_mark kernel r)) [
              | inl e ↦
                  inl (
                  record {
                    kernel = told_true (has_mark kernel r) (Kernel t r) (Preamble t r) e (marked.kernel r chosen.inside);
                    smallest =
                        λ p l a.
                        let j : p < n = omega (arith, chosen.inside) in
                        let o = order p j a in
                        preamble p j (grind arith);
                  })
              | inr e ↦
                  inr (
                  record {
                    preamble = λ p j a. let o = order p j a in preamble p j (grind arith);
                    smallest = λ p l a. let o = order p (omega (arith, chosen.inside)) a in grind arith;
                  })
            ];
      }

-- the states below m have their representative and their factor
pub record Looked {W : Type 0} (K : Kind W) (labels leaders co_kernel : List ℕ) (factors : List W) (m : ℕ) (representatives : List ℕ) (chosen : List W) : Type 0 where
  pub representative : (q : ℕ) → q < m → get_or representatives q 0 ≡ get_or leaders (get_or labels q 0) 0
  pub factor :
      (q : ℕ) → q < m → mean_at K chosen q ≡ factor_towards K co_kernel factors q (get_or leaders (get_or labels q 0) 0)

-- one more value is written at place i, which is m
pub written_more :
    (f : ℕ → ℕ) (xs : List ℕ) (m i x : ℕ) → i ≡ m → x ≡ f m → m < length xs → ((k : ℕ) → k < m → get_or xs k 0 ≡ f k) →
    (k : ℕ) → k < m + 1 → get_or (set xs i x) k 0 ≡ f k
written_more f xs m i x at value room h k l = grind (arith, common_steps)

-- one more element
pub means_more :
    {W : Type 0} (K : Kind W) (f : ℕ → K.group.Mean) (xs : List W) (m i : ℕ) (x : W) → i ≡ m → K.mean x ≡ f m → m < length xs →
    ((k : ℕ) → k < m → mean_at K xs k ≡ f k) → (k : ℕ) → k < m + 1 → mean_at K (set xs i x) k ≡ f k
means_more K f xs m i x at value room h k l = grind (arith, mean_set_same, mean_set_other)

-- one more state
pub looked_more :
    {W : Type 0} (K : Kind W) (labels leaders co_kernel : List ℕ) (factors : List W) (m i j r : ℕ) (x : W) (representatives : List ℕ)
    (chosen : List W) → i ≡ m → j ≡ m → r ≡ get_or leaders (get_or labels m 0) 0 → K.mean x ≡ factor_towards K co_kernel factors m r →
    m < length representatives → m < length chosen → Looked K labels leaders co_kernel factors m representatives chosen →
    Looked K labels leaders co_kernel factors (m + 1) (set representatives i r) (set chosen j x)
looked_more K labels leaders co_kernel factors m i j r x representatives chosen e d leader by room more h =
    let f : ℕ → ℕ = λ q. get_or leaders (get_or labels q 0) 0 in
    record {
      representative = written_more f representatives m i r e leader room h.representative;
      factor =
          means_more K (λ q. factor_towards K co_kernel factors q (f q)) chosen m j x d
          (by ∙ ap (factor_towards K co_kernel factors m) leader) more h.factor;
    }
