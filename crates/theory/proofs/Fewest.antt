-- No table that weighs all but finitely many words as a source has fewer states than the hyper table. Assumes nothing.
use Rattle.std.proofs.Common.{◌≡◌, ℕ, ◌+◌, ◌-◌, ◌<◌, ◌≤◌, Bool, true, List, length, inl, inr, sym, ap, subst, arith}
use Rattle.std.proofs.lemmas.Bool.{cases_lt}
use Rattle.weights.specs.Group.{Group}
use Rattle.tables.specs.Table.{Table, Lawful, Word, weight_from}
use Rattle.theory.specs.Runs.{led, Closed}
use Rattle.theory.specs.Series.{Multiple, AlmostEquivalent, AlmostWeighAlike, WeighAlikeFrom}
use Rattle.theory.specs.Least.{Least}
use Rattle.theory.specs.Kernel.{Kernel, Preamble}
use Rattle.theory.specs.Hyper.{Hyper, count_below}
use Rattle.theory.specs.Theorems.{HyperIsSmallest}
use Rattle.theory.proofs.Lengths.{some_longer}
use Rattle.theory.proofs.Basics.{led_inside, one_state, almost_multiple, alike_from_length, almost_sym}
use Rattle.theory.proofs.Pigeonhole.{two_alike}
use Rattle.theory.proofs.Search.{kernel_or_preamble, kernel_not_preamble}
use Rattle.theory.proofs.Minimal.{least_closed, least_alike_from, least_reachable, least_is_minimal}
use Rattle.theory.proofs.HyperRun.{smallest_of_class}
use Rattle.theory.proofs.Kept.{Numbered, numbered}

module _ (G : Group) (l h : Table G.Mean) (r : ℕ → ℕ) (f : ℕ → G.Mean) (closed : Closed l) (hyper : Hyper G l h r f) where
  -- a kept preamble state is the only kept state of its class
  alone :
      (q p : ℕ) → q < l.states → p < l.states → hyper.kept q ≡ true → hyper.kept p ≡ true → Preamble l q →
      AlmostEquivalent G l q p → q ≡ p
  alone q p mq mp kq kp preamble e =
      let x = smallest_of_class G l h r f closed hyper q mq kq preamble in
      let y = smallest_of_class G l h r f closed hyper p mp kp (x.preamble p mp e) in
      elim (cases_lt p q) [
        | inl less ↦ absurd (x.smallest p less e)
        | inr more ↦
            elim (cases_lt q p) [
              | inl less ↦ absurd (y.smallest q less (almost_sym G l q p e))
              | inr same ↦ omega arith
            ]
      ]

-- a word of table l that leads to a kept state, numbered i; it is long if the state is kernel
record ChosenWord (kept : ℕ → Bool) {M : Type 0} (l : Table M) (long i : ℕ) : Type 0 where
  pub numbered : Numbered kept l.states i
  pub word : List ℕ
  pub is_word : Word l.letters word
  pub leads : led l l.start word ≡ numbered.state
  pub far : Kernel l numbered.state → long ≤ length word

module _ (G : Group) (t l h b : Table G.Mean) (r : ℕ → ℕ) (f : ℕ → G.Mean)
    (lawful : Lawful t) (least : Least G t l) (hyper : Hyper G l h r f) (closed : Closed b) (alike : AlmostWeighAlike G t b) where
  -- from some length on the rival weighs words as the least table
  long : ℕ
  long = (alike_from_length G t b alike).0

  rival_alike : WeighAlikeFrom G long l b
  unfolding long
  rival_alike = least_alike_from G t l lawful least long b (alike_from_length G t b alike).1

  -- a word for each kept state
  choose : (i : ℕ) → i < count_below hyper.kept l.states → ChosenWord hyper.kept l long i
  choose i m =
      let s : Numbered hyper.kept l.states i = numbered hyper.kept l.states i m in
      elim (kernel_or_preamble l (least_closed G t l lawful least) s.state s.inside) [
        | inl kernel ↦
            (let w = some_longer kernel.words long in
            record { numbered = s; word = w.0; is_word = w.1; leads = w.3; far = λ k. w.2 })
        | inr preamble ↦
            (let w = least_reachable G t l lawful least s.state s.inside in
            record {
              numbered = s;
              word = w.by;
              is_word = w.is_word;
              leads = w.leads;
              far = λ k. absurd (kernel_not_preamble l s.state k preamble);
            })
      ]

  -- two chosen words that lead the rival to one state are for one number
  rival_tells :
      (i j : ℕ) (x : ChosenWord hyper.kept l long i) (y : ChosenWord hyper.kept l long j) →
      led b b.start x.word ≡ led b b.start y.word → x.numbered.state ≡ y.numbered.state
  rival_tells i j x y e =
      let q = x.numbered.state in
      let p = y.numbered.state in
      let n = long - length x.word + (long - length y.word) in
      let m = one_state G l b long rival_alike q p x.word y.word x.is_word y.is_word x.leads y.leads e in
      let almost : AlmostEquivalent G l q p = record { factor = m.0; by = almost_multiple m.1 } in
      elim (kernel_or_preamble l (least_closed G t l lawful least) q x.numbered.inside) [
        | inr preamble ↦
            alone G l h r f (least_closed G t l lawful least) hyper q p x.numbered.inside y.numbered.inside x.numbered.is_kept y.numbered.is_kept preamble almost
        | inl kernel ↦
            elim (kernel_or_preamble l (least_closed G t l lawful least) p y.numbered.inside) [
              | inr preamble ↦
                  sym (alone G l h r f (least_closed G t l lawful least) hyper p q y.numbered.inside x.numbered.inside y.numbered.is_kept x.numbered.is_kept preamble
                  (almost_sym G l q p almost))
              | inl kernel' ↦
                  (let none : n ≡ 0 = omega (arith, x.far kernel, y.far kernel') in
                  (least_is_minimal G t l lawful least).apart q p x.numbered.inside y.numbered.inside
                  (record {
                    factor = m.0;
                    by = subst (λ z. Multiple G l.letters z m.0 (weight_from G l q) (weight_from G l p)) none m.1;
                  }))
            ]
      ]

  -- the rival has a state for each kept state
  no_fewer : count_below hyper.kept l.states ≤ b.states
  no_fewer =
      elim (cases_lt b.states (count_below hyper.kept l.states)) [
        | inr enough ↦ enough
        | inl fewer ↦
            (let s = two_alike (count_below hyper.kept l.states) b.states (λ i m. led b b.start (choose i m).word) fewer
            (λ i m.
            led_inside b closed b.start (choose i m).word closed.start_inside
            (subst (λ c. Word c (choose i m).word) rival_alike.letters (choose i m).is_word)) in
            let x = choose s.0 s.2 in
            let y = choose s.1 s.3 in
            let same : count_below hyper.kept x.numbered.state ≡ count_below hyper.kept y.numbered.state =
            ap (count_below hyper.kept) (rival_tells s.0 s.1 x y s.5) in
            absurd (omega (arith, x.numbered.number, y.numbered.number, same, s.4)))
      ]

pub hyper_is_smallest : (G : Group) → HyperIsSmallest G
hyper_is_smallest G t l h b r f lawful least hyper closed alike =
    subst (λ n. n ≤ b.states) (sym hyper.states) (no_fewer G t l h b r f lawful least hyper closed alike)
