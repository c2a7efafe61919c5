-- Rounds that gather almost-equivalent states: what is gathered is almost-equivalent, and where a round gathers no more, all that is
-- almost-equivalent is gathered. Assumes nothing.
use Rattle.std.proofs.Common.{◌≡◌, ◌≢◌, ℕ, zero, suc, ◌+◌, ◌<◌, ◌≤◌, Bool, true, false, cond, List, [], ◌∷◌, length, None, inl, inr, sym, refl, ap, ◌∙◌, subst, arith}
use Rattle.std.proofs.lemmas.Bool.{cases_Bool, cases_eq, eqb-true, eq-eqb, both_ways, cond-true, false_from_ne_true}
use Rattle.weights.specs.Group.{Group}
use Rattle.weights.proofs.Groups.{one_right}
use Rattle.tables.specs.Table.{Table, Word, scaled, weight_from}
use Rattle.tables.proofs.Reading.{scaled_twice}
use Rattle.theory.specs.Runs.{Closed, accepts}
use Rattle.theory.specs.Series.{Multiple, Equivalent, AlmostBy, AlmostEquivalent}
use Rattle.theory.specs.Kernel.{CoKernel, CoPreamble}
use Rattle.theory.specs.Hyper.{count_below}
use Rattle.theory.proofs.Lengths.{all_shorter, some_longer, infinitely_many}
use Rattle.theory.proofs.Basics.{inv_cancels, cancels_inv, walked, not_accepted, multiple_later, multiple_after, multiple_accepts, almost_multiple, multiple_from, almost_by_itself, almost_by_sym, almost_by_trans, almost_by_next, almost_sym}
use Rattle.theory.proofs.Search.{co_kernel_not_preamble}
use Rattle.theory.proofs.Single.{one_almost}
use Rattle.minimize.proofs.Keeping.{kept_fewer, kept_stands}
use Rattle.minimize.proofs.Choosing.{told_true, told_false}
use Rattle.minimize.specs.Compile.{Tells}
use Rattle.minimize.specs.Steps.{AlmostClasses, none, leads}
use Rattle.minimize.specs.Almost.{weighed, base, OneRow, Regrouped}

-- choices by one mark
cond_alike :
    {X Y : Type 0} (f : X → Y) (b c : Bool) (x z : Y) (y w : X) → b ≡ c → (b ≡ true → x ≡ f y) → (b ≡ false → z ≡ f w) →
    cond b x z ≡ f (cond c y w)
cond_alike f true true x z y w e h k = h refl
cond_alike f true false x z y w e h k = absurd cc
cond_alike f false true x z y w e h k = absurd cc
cond_alike f false false x z y w e h k = k refl

module _ (G : Group) where
  -- a common factor goes out of a quotient
  quotient_same : (k x y : G.Mean) → G.mul (G.inv (G.mul k x)) (G.mul k y) ≡ G.mul (G.inv x) y
  quotient_same k x y =
      let z = G.mul (G.inv x) y in
      ap (λ u. G.mul (G.inv (G.mul k x)) (G.mul k u)) (sym (cancels_inv G x y))
      ∙ ap (G.mul (G.inv (G.mul k x))) (sym (G.assoc k x z))
      ∙ inv_cancels G (G.mul k x) z

  -- equal quotients by two bases
  quotients_scale : (b c x y : G.Mean) → G.mul (G.inv b) x ≡ G.mul (G.inv c) y → x ≡ G.mul (G.mul b (G.inv c)) y
  quotients_scale b c x y e =
      sym (cancels_inv G b x) ∙ ap (G.mul b) e ∙ sym (G.assoc b (G.inv c) y)

  -- a factor before a weight and after it
  factor_moved : (w v k x y : G.Mean) → x ≡ G.mul (G.mul (G.inv (G.mul w G.one)) (G.mul k (G.mul v G.one))) y → G.mul w x ≡ G.mul k (G.mul v y)
  factor_moved w v k x y e =
      let w' = G.mul w G.one in
      let v' = G.mul v G.one in
      ap (λ z. G.mul z x) (sym (one_right G w))
      ∙ ap (G.mul w') (e ∙ G.assoc (G.inv w') (G.mul k v') y)
      ∙ cancels_inv G w' (G.mul (G.mul k v') y)
      ∙ G.assoc k v' y
      ∙ ap (λ z. G.mul k (G.mul z y)) (one_right G v)

module _ (G : Group) (t : Table G.Mean) where
  co_kernel_alike : (q p : ℕ) → AlmostEquivalent G t q p → CoKernel t q → CoKernel t p
  co_kernel_alike q p e c =
      let x = multiple_from e.by in
      record {
        words =
            infinitely_many
            (λ n.
            let z = some_longer c.words (n + x.from) in
            (z.0, z.1, omega (arith, z.2), sym (multiple_accepts G t t q p x.multiple z.0 z.1 (omega (arith, z.2))) ∙ z.3));
      }

  -- an arc's weight towards a state that both targets are multiples of
  next_weighs :
      (k x y : G.Mean) (q p a r : ℕ) → a < t.letters → CoKernel t (t.target q a) → AlmostBy G t k q p →
      AlmostBy G t x (t.target q a) r → AlmostBy G t y (t.target p a) r → G.mul (t.weight q a) x ≡ G.mul k (G.mul (t.weight p a) y)
  next_weighs k x y q p a r l c h i j =
      let z = G.mul (G.inv (walked G t q (a ∷ []))) (G.mul k (walked G t p (a ∷ []))) in
      factor_moved G (t.weight q a) (t.weight p a) k x y
      (one_almost G t (t.target q a) r x (G.mul z y) c i
      (almost_by_trans G t z y (t.target q a) (t.target p a) r (almost_by_next G t k q p a l h) j))

-- all are kept
kept_all : (f : ℕ → Bool) (n : ℕ) → ((q : ℕ) → q < n → f q ≡ true) → count_below f n ≡ n
kept_all f zero e = refl
kept_all f (suc n) e =
    let last : cond {A = ℕ} (f n) 1 0 ≡ 1 = cond-true (f n) 1 0 (e n (omega arith)) in
    omega (arith, kept_all f n (λ q l. e q (omega arith)), last)

module _ (G : Group) (t : Table G.Mean) (o : ℕ → Bool) (label : ℕ → ℕ) (factor : ℕ → G.Mean) where
  -- the labels so far: each state is a multiple of the first state that has its label, and states with one label have targets with
  -- one, as far as those are co-kernel
  pub record Settled : Type 0 where
    pub first : (q : ℕ) → q < t.states → label q ≤ q
    pub leader : (q : ℕ) → q < t.states → label (label q) ≡ label q
    pub almost : (q : ℕ) → q < t.states → AlmostBy G t (factor q) q (label q)
    pub congruent :
        (q p a : ℕ) → q < t.states → p < t.states → a < t.letters → label q ≡ label p → o (t.target q a) ≡ true →
        label (t.target q a) ≡ label (t.target p a)

module _ (G : Group) (t : Table G.Mean) (o : ℕ → Bool) (closed : Closed t) (few : t.states ≤ 4096)
    (told : (q : ℕ) → q < t.states → Tells (o q) (CoKernel t q) (CoPreamble t q)) where
  is_co_kernel : (q : ℕ) → q < t.states → o q ≡ true → CoKernel t q
  is_co_kernel q l e = told_true (o q) (CoKernel t q) (CoPreamble t q) e (told q l)

  is_co_preamble : (q : ℕ) → q < t.states → o q ≡ false → CoPreamble t q
  is_co_preamble q l e = told_false (o q) (CoKernel t q) (CoPreamble t q) e (told q l)

  mark_goes : (q p : ℕ) → q < t.states → p < t.states → AlmostEquivalent G t q p → o q ≡ true → o p ≡ true
  mark_goes q p l k e b =
      elim (cases_Bool (o p)) [
        | inl on ↦ on
        | inr off ↦ absurd (co_kernel_not_preamble t p (co_kernel_alike G t q p e (is_co_kernel q l b)) (is_co_preamble p k off))
      ]

  -- almost-equivalent states have one mark
  marks_alike : (q p : ℕ) → q < t.states → p < t.states → AlmostEquivalent G t q p → o q ≡ o p
  marks_alike q p l k e =
      elim (cases_Bool (o q)) [
        | inl on ↦ on ∙ sym (mark_goes q p l k e on)
        | inr off ↦
            off
            ∙ sym (
            false_from_ne_true (o p) (λ on.
            let z : o q ≡ true = mark_goes p q k l (almost_sym G t q p e) on in absurd cc))
      ]

  module _ (label : ℕ → ℕ) (factor : ℕ → G.Mean) where
    -- bases of rows by which weights are k times those by another
    base_alike :
        (q p : ℕ) (k : G.Mean) (m : ℕ) → ((a : ℕ) → a < m → o (t.target q a) ≡ o (t.target p a)) →
        ((a : ℕ) → a < m → o (t.target q a) ≡ true → weighed G t factor q a ≡ G.mul k (weighed G t factor p a)) →
        (a : ℕ) → a < m → o (t.target q a) ≡ true → base G t o factor q m ≡ G.mul k (base G t o factor p m)
    base_alike q p k zero marks weighs a l b = absurd (omega arith)
    base_alike q p k (suc m) marks weighs a l b =
        cond_alike (G.mul k) (o (t.target q m)) (o (t.target p m)) (weighed G t factor q m) (base G t o factor q m) (weighed G t factor p m)
        (base G t o factor p m) (marks m (omega arith)) (weighs m (omega arith))
        (λ off.
        let before : a ≢ m = λ e. both_ways (o (t.target q m)) off (sym (ap (λ c. o (t.target q c)) e) ∙ b) in
        base_alike q p k m (λ c i. marks c (omega arith)) (λ c i. weighs c (omega arith)) a (omega arith) b)

    module _ (s : Settled G t o label factor) where
      -- almost-equivalent states whose targets have one label have one row
      one_row :
          (q p : ℕ) (k : G.Mean) → q < t.states → p < t.states → AlmostBy G t k q p →
          ((a : ℕ) → a < t.letters → o (t.target q a) ≡ true → label (t.target q a) ≡ label (t.target p a)) → OneRow G t o label factor q p
      one_row q p k l m h labels =
          record {
            one_label =
                λ a i.
                cond_alike (λ x. x) (o (t.target q a)) (o (t.target p a)) (label (t.target q a)) none (label (t.target p a)) none (marks a i)
                (labels a i) (λ off. refl);
            one_element =
                λ a i.
                let b = base G t o factor q t.letters in
                let c = base G t o factor p t.letters in
                let x = weighed G t factor q a in
                let y = weighed G t factor p a in
                cond_alike (λ z. z) (o (t.target q a)) (o (t.target p a)) (G.mul (G.inv b) x) G.one (G.mul (G.inv c) y) G.one (marks a i)
                (λ on.
                ap (λ z. G.mul (G.inv z) x) (base_alike q p k t.letters marks weighs a i on)
                ∙ ap (G.mul (G.inv (G.mul k c))) (weighs a i on)
                ∙ quotient_same G k c y)
                (λ off. refl);
          }
        where
          marks : (a : ℕ) → a < t.letters → o (t.target q a) ≡ o (t.target p a)
          marks a i =
              marks_alike (t.target q a) (t.target p a) (closed.target_inside q a l i) (closed.target_inside p a m i)
              (record { factor = G.mul (G.inv (walked G t q (a ∷ []))) (G.mul k (walked G t p (a ∷ []))); by = almost_by_next G t k q p a i h })

          weighs :
              (a : ℕ) → a < t.letters → o (t.target q a) ≡ true →
              weighed G t factor q a ≡ G.mul k (weighed G t factor p a)
          weighs a i on =
              let q' = t.target q a in
              let p' = t.target p a in
              let l' = closed.target_inside q a l i in
              next_weighs G t k (factor q') (factor p') q p a (label q') i (is_co_kernel q' l' on) h (s.almost q' l')
              (subst (AlmostBy G t (factor p') p') (sym (labels a i on)) (s.almost p' (closed.target_inside p a m i)))

      -- what one row tells of targets
      module _ (q p a : ℕ) (l : q < t.states) (m : p < t.states) (i : a < t.letters) (row : OneRow G t o label factor q p) where
        label_small : (r : ℕ) → r < t.states → label r ≢ none
        label_small r j = λ e. omega (arith, s.first r j)

        marks_same : o (t.target q a) ≡ o (t.target p a)
        marks_same =
            by_labels (o (t.target q a)) (o (t.target p a)) (label (t.target q a)) (label (t.target p a)) (row.one_label a i)
            (label_small (t.target q a) (closed.target_inside q a l i)) (label_small (t.target p a) (closed.target_inside p a m i))
          where
            by_labels : (b c : Bool) (x y : ℕ) → cond b x none ≡ cond c y none → x ≢ none → y ≢ none → b ≡ c
            by_labels true true x y e f g = refl
            by_labels true false x y e f g = absurd (f e)
            by_labels false true x y e f g = absurd (g (sym e))
            by_labels false false x y e f g = refl

        labels_same : o (t.target q a) ≡ true → label (t.target q a) ≡ label (t.target p a)
        labels_same on =
            sym (cond-true (o (t.target q a)) (label (t.target q a)) none on)
            ∙ row.one_label a i
            ∙ cond-true (o (t.target p a)) (label (t.target p a)) none (sym marks_same ∙ on)

      -- a letter after which words from q weigh what words from p do, up to a factor, from some length on
      record Letter (k : G.Mean) (q p a : ℕ) : Type 0 where
        pub from : ℕ
        pub words :
            (w : List ℕ) → Word t.letters w → from ≤ length w →
            weight_from G t q (a ∷ w) ≡ scaled G k (weight_from G t p (a ∷ w))

      -- so do words from states with one row
      row_letter :
          (q p a : ℕ) → q < t.states → p < t.states → a < t.letters → OneRow G t o label factor q p →
          Letter (G.mul (base G t o factor q t.letters) (G.inv (base G t o factor p t.letters))) q p a
      row_letter q p a l m i row =
          elim (cases_Bool (o (t.target q a))) [
            | inl on ↦ (let x = multiple_from (s.almost q' l') in let y = multiple_from (s.almost p' m') in
                record {
                  from = x.from + y.from;
                  words =
                      λ w h n.
                      let f = weight_from G t (label q') w in
                      ap (scaled G (t.weight q a)) (x.multiple.words w h (omega arith))
                      ∙ scaled_twice G (t.weight q a) (factor q') f
                      ∙ ap (λ z. scaled G z f) (weights on)
                      ∙ sym (scaled_twice G k (weighed G t factor p a) f)
                      ∙ ap (scaled G k)
                      (sym (scaled_twice G (t.weight p a) (factor p') f)
                      ∙ ap (λ r. scaled G (t.weight p a) (scaled G (factor p') (weight_from G t r w))) (labels_same q p a l m i row on)
                      ∙ ap (scaled G (t.weight p a)) (sym (y.multiple.words w h (omega arith))));
                })
            | inr off ↦
                (let x = all_shorter (is_co_preamble q' l' off).words in
                let y = all_shorter (is_co_preamble p' m' (sym (marks_same q p a l m i row) ∙ off)).words in
                record {
                  from = x.0 + y.0;
                  words =
                      λ w h n.
                      ap (scaled G (t.weight q a)) (none_from q' x.0 x.1 w h (omega arith))
                      ∙ sym (ap (λ z. scaled G k (scaled G (t.weight p a) z)) (none_from p' y.0 y.1 w h (omega arith)));
                })
          ]
        where
          q' : ℕ
          q' = t.target q a

          p' : ℕ
          p' = t.target p a

          l' : q' < t.states
          l' = closed.target_inside q a l i

          m' : p' < t.states
          m' = closed.target_inside p a m i

          k : G.Mean
          k = G.mul (base G t o factor q t.letters) (G.inv (base G t o factor p t.letters))

          none_from :
              (r n : ℕ) → ((w : List ℕ) → Word t.letters w → accepts t r w ≡ true → length w < n) → (w : List ℕ) →
              Word t.letters w → n ≤ length w → weight_from G t r w ≡ None
          none_from r n short w h long =
              not_accepted G t r w (false_from_ne_true (accepts t r w) (λ e. omega (arith, short w h e)))

          weights : o q' ≡ true → weighed G t factor q a ≡ G.mul k (weighed G t factor p a)
          weights on =
              let b = base G t o factor q t.letters in
              let c = base G t o factor p t.letters in
              let x = weighed G t factor q a in
              let y = weighed G t factor p a in
              quotients_scale G b c x y
              (sym (cond-true (o q') (G.mul (G.inv b) x) G.one on)
              ∙ row.one_element a i
              ∙ cond-true (o p') (G.mul (G.inv c) y) G.one (sym (marks_same q p a l m i row) ∙ on))

      record Letters (k : G.Mean) (q p m : ℕ) : Type 0 where
        pub from : ℕ
        pub words :
            (a : ℕ) (w : List ℕ) → a < m → Word t.letters w → from ≤ length w →
            weight_from G t q (a ∷ w) ≡ scaled G k (weight_from G t p (a ∷ w))

      all_letters : (k : G.Mean) (q p m : ℕ) → ((a : ℕ) → a < m → Letter k q p a) → Letters k q p m
      all_letters k q p zero h = record { from = 0; words = λ a w l. absurd (omega arith) }
      all_letters k q p (suc m) h =
          let before = all_letters k q p m (λ a l. h a (omega arith)) in
          let last = h m (omega arith) in
          record {
            from = before.from + last.from;
            words =
                λ a w l word n.
                elim (cases_eq a m) [
                  | inl here ↦
                      subst (λ b. weight_from G t q (b ∷ w) ≡ scaled G k (weight_from G t p (b ∷ w))) (sym here) (last.words w word (omega arith))
                  | inr other ↦ before.words a w (omega arith) word (omega arith)
                ];
          }

      -- states with one row are almost-equivalent
      row_almost :
          (q p : ℕ) → q < t.states → p < t.states → OneRow G t o label factor q p →
          AlmostBy G t (G.mul (base G t o factor q t.letters) (G.inv (base G t o factor p t.letters))) q p
      row_almost q p l m row =
          let k = G.mul (base G t o factor q t.letters) (G.inv (base G t o factor p t.letters)) in
          let all = all_letters k q p t.letters (λ a i. row_letter q p a l m i row) in
          almost_multiple {n = suc all.from} (record { words = λ w h n. words k all w h n })
        where
          words :
              (k : G.Mean) (all : Letters k q p t.letters) (w : List ℕ) → Word t.letters w → suc all.from ≤ length w →
              weight_from G t q w ≡ scaled G k (weight_from G t p w)
          words k all [] h n = absurd (omega arith)
          words k all (a ∷ w) h n = all.words a w h.0 h.1 (omega arith)

  -- labels to begin with
  pub begun_settled :
      (label : ℕ → ℕ) (factor : ℕ → G.Mean) → ((q : ℕ) → q < t.states → label q ≡ q) → ((q : ℕ) → q < t.states → factor q ≡ G.one) →
      Settled G t o label factor
  begun_settled label factor own one =
      record {
        first = λ q l. omega (arith, own q l);
        leader = λ q l. ap label (own q l);
        almost =
            λ q l.
            subst (λ p. AlmostBy G t (factor q) q p) (sym (own q l))
            (subst (λ k. AlmostBy G t k q q) (sym (one q l)) (almost_by_itself G t q));
        congruent =
            λ q p a l m i e on.
            let same : q ≡ p = sym (own q l) ∙ e ∙ own p m in
            ap (λ r. label (t.target r a)) same;
      }

  -- a round
  module _ (label label' : ℕ → ℕ) (factor factor' : ℕ → G.Mean) (m : ℕ) (s : Settled G t o label factor)
      (r : Regrouped G t o label factor label' factor' m) where
    -- states that had one label keep one
    coarser : (q p : ℕ) → q < t.states → p < t.states → label q ≡ label p → label' q ≡ label' p
    coarser q p l k e =
        r.one_first q p l k
        (one_row label factor s q p (G.mul (factor q) (G.inv (factor p))) l k
        (almost_by_trans G t (factor q) (G.inv (factor p)) q (label p) p (subst (AlmostBy G t (factor q) q) e (s.almost q l))
        (almost_by_sym G t (factor p) p (label p) (s.almost p k)))
        (λ a i on. s.congruent q p a l k i e on))

    row_both : (q p : ℕ) → q < t.states → p < t.states → label' q ≡ label' p → OneRow G t o label factor q p
    row_both q p l k e =
        let x = r.same q l in
        let y : OneRow G t o label factor p (label' q) = subst (OneRow G t o label factor p) (sym e) (r.same p k) in
        record {
          one_label = λ a i. x.one_label a i ∙ sym (y.one_label a i);
          one_element = λ a i. x.one_element a i ∙ sym (y.one_element a i);
        }

    inside : (q : ℕ) → q < t.states → label' q < t.states
    inside q l = omega (arith, r.first q l)

    pub regrouped_settled : Settled G t o label' factor'
    regrouped_settled =
        record {
          first = r.first;
          leader = λ q l. sym (r.one_first q (label' q) l (inside q l) (r.same q l));
          almost =
              λ q l.
              subst (λ k. AlmostBy G t k q (label' q)) (sym (r.towards q l))
              (row_almost label factor s q (label' q) l (inside q l) (r.same q l));
          congruent =
              λ q p a l k i e on.
              coarser (t.target q a) (t.target p a) (closed.target_inside q a l i) (closed.target_inside p a k i)
              (labels_same label factor s q p a l k i (row_both q p l k e) on);
        }

    led_before : (q : ℕ) → q < t.states → leads label' q ≡ true → leads label q ≡ true
    led_before q l e =
        let own : label' q ≡ q = eqb-true (label' q) q e in
        let v : ℕ = label q in
        let below : v ≤ q = s.first q l in
        let same : label' v ≡ label' q = coarser v q (omega arith) l (s.leader q l) in
        let lower : label' v ≤ v = r.first v (omega arith) in
        eq-eqb v q (omega arith)

    -- a round makes no new labels
    pub regrouped_fewer : (known : ℕ) → known ≡ count_below (leads label) t.states → m ≤ known
    regrouped_fewer known e = omega (arith, r.count, e, kept_fewer (leads label) (leads label') t.states led_before)

    module _ (known : ℕ) (counted : known ≡ count_below (leads label) t.states) (same : m ≡ known) where
      -- where there are as many labels as before, they are what they were
      stands : (q : ℕ) → q < t.states → label' q ≡ label q
      stands q l =
          let v : ℕ = label q in
          let below : v ≤ q = s.first q l in
          let k : v < t.states = omega arith in
          coarser q v l k (sym (s.leader q l))
          ∙ eqb-true (label' v) v
          (kept_stands (leads label) (leads label') t.states led_before (omega (arith, r.count, same, counted)) v k (eq-eqb (label v) v (s.leader q l)))

      module _ (apart : (q p : ℕ) → q < t.states → p < t.states → Equivalent G t q p → q ≡ p) where
        -- almost-equivalent states have one label
        gathered :
            (n q p : ℕ) (k : G.Mean) → q < t.states → p < t.states →
            Multiple G t.letters n k (weight_from G t q) (weight_from G t p) → label' q ≡ label' p
        gathered zero q p k i j h = ap label' (apart q p i j (record { factor = k; by = h }))
        gathered (suc n) q p k i j h =
            r.one_first q p i j
            (one_row label factor s q p k i j (almost_multiple h)
            (λ a l on.
            let i' = closed.target_inside q a i l in
            let j' = closed.target_inside p a j l in
            sym (stands (t.target q a) i')
            ∙ gathered n (t.target q a) (t.target p a) (G.mul (G.inv (walked G t q (a ∷ []))) (G.mul k (walked G t p (a ∷ [])))) i' j'
            (multiple_later (omega arith) (multiple_after G t t q p (a ∷ []) (l, tt) h))
            ∙ stands (t.target p a) j'))

        pub almost_classes : AlmostClasses G t label' factor'
        almost_classes =
            record {
              inside = inside;
              almost = regrouped_settled.almost;
              one_class = λ q p i j e. let x = multiple_from e.by in gathered x.from q p e.factor i j x.multiple;
            }

-- so many labels there are to begin with
pub begun_count : (label : ℕ → ℕ) (n : ℕ) → ((q : ℕ) → q < n → label q ≡ q) → n ≡ count_below (leads label) n
begun_count label n own = sym (kept_all (leads label) n (λ q l. eq-eqb (label q) q (own q l)))
