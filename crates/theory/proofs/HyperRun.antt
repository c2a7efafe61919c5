-- The run of a hyper table, read in the table that it was made from. Assumes nothing.
use Rattle.std.proofs.Common.{◌≡◌, ℕ, suc, ◌+◌, ◌<◌, ◌≤◌, Bool, true, false, cond, List, [], ◌∷◌, ◌++◌, length, take, drop, inl, inr, sym, refl, ap, ◌∙◌, subst, arith}
use Rattle.std.proofs.Math.Seq.{take-append_seam}
use Rattle.std.proofs.lemmas.Bool.{cases_eq, cases_order, cond-true, cond_both, both_ways}
use Rattle.std.proofs.lemmas.List.{take-append-drop, take-append-le, length-append}
use Rattle.weights.specs.Codes.{within}
use Rattle.weights.specs.Group.{Group}
use Rattle.weights.proofs.Groups.{one_right}
use Rattle.tables.specs.Table.{Table, Word, scaled, weight_from, weight_of}
use Rattle.tables.proofs.Reading.{scaled_twice}
use Rattle.theory.specs.Runs.{led, Closed, Reachable}
use Rattle.theory.specs.Series.{AlmostBy, AlmostEquivalent}
use Rattle.theory.specs.Kernel.{Kernel, Preamble}
use Rattle.theory.specs.Hyper.{Hyper, Representative, SmallestPreamble, count_below}
use Rattle.theory.proofs.Lengths.{infinitely_many, some_longer}
use Rattle.theory.proofs.Basics.{scaled_one, word_append, word_left, word_right, word_drop, led_append, led_inside, walked, weight_append, multiple_from, almost_by_itself, almost_refl, almost_sym, almost_trans, almost_next}
use Rattle.theory.proofs.Search.{times, times_word, times_long, times_led, pumped, loops, kernel_or_preamble, kernel_not_preamble}

-- a run over u from q passes a state that some further word leads back to
record Detour {M : Type 0} (t : Table M) (q : ℕ) (u : List ℕ) : Type 0 where
  pub before : List ℕ
  pub after : List ℕ
  pub round : List ℕ
  pub before_is_word : Word t.letters before
  pub after_is_word : Word t.letters after
  pub round_is_word : Word t.letters round
  pub whole : before ++ after ≡ u
  pub some : 1 ≤ length round
  pub again : led t (led t q before) round ≡ led t q before

module _ {M : Type 0} (t : Table M) where
  -- so does each run of at least m - 1 letters, where m counts the states: with one letter more it passes a state twice
  detour : Closed t → 1 ≤ t.letters → (q : ℕ) (u : List ℕ) → q < t.states → Word t.letters u → t.states ≤ suc (length u) → Detour t q u
  detour closed letter q u l h long =
      let s : ℕ = t.letters in
      let more : List ℕ = u ++ (0 ∷ []) in
      let more_is_word : Word s more = word_append s u (0 ∷ []) h (letter, tt) in
      let o = loops t closed q more l more_is_word (omega (arith, length-append u (0 ∷ []))) in
      let i : ℕ = length o.before in
      let parts : Word s (o.before ++ (o.round ++ o.after)) = subst (Word s) (sym o.whole) more_is_word in
      let first : take i u ≡ o.before =
      sym (take-append-le i u (0 ∷ [])
      (omega (arith, o.some, ap length o.whole, length-append u (0 ∷ []), length-append o.before (o.round ++ o.after), length-append o.round o.after)))
      ∙ ap (take i) (sym o.whole) ∙ take-append_seam o.before (o.round ++ o.after) in
      record {
        before = o.before;
        after = drop i u;
        round = o.round;
        before_is_word = word_left s o.before (o.round ++ o.after) parts;
        after_is_word = word_drop s i u h;
        round_is_word = word_left s o.round o.after (word_right s o.before (o.round ++ o.after) parts);
        whole = ap (λ x. x ++ drop i u) (sym first) ∙ take-append-drop i u;
        some = o.some;
        again = o.again;
      }

  -- after at least m - 1 letters the run is in a kernel state
  pub long_kernel :
      Closed t → 1 ≤ t.letters → (u : List ℕ) → Word t.letters u → t.states ≤ suc (length u) → Kernel t (led t t.start u)
  long_kernel closed letter u h long =
      let o = detour closed letter t.start u closed.start_inside h long in
      record {
        words =
            infinitely_many
            (λ n.
            let z =
            pumped t t.start n o.before o.round o.after o.before_is_word o.round_is_word o.after_is_word o.some o.again in
            (z.0, z.1, z.2, z.3 ∙ sym (led_append t t.start o.before o.after) ∙ ap (led t t.start) o.whole));
      }

  -- a kernel state leads to kernel states
  pub kernel_next : (q a : ℕ) → a < t.letters → Kernel t q → Kernel t (t.target q a)
  kernel_next q a l k =
      record {
        words =
            infinitely_many
            (λ n.
            let w = some_longer k.words n in (
              w.0 ++ (a ∷ []),
              word_append t.letters w.0 (a ∷ []) w.1 (l, tt),
              omega (arith, length-append w.0 (a ∷ []), w.2),
              led_append t t.start w.0 (a ∷ []) ∙ ap (λ p. t.target p a) w.3,
            ));
      }

-- the start weight and the product of the weights along a word from the start
abbrev pub so_far : (G : Group) (t : Table G.Mean) → List ℕ → G.Mean
so_far G t u = G.mul t.start_weight (walked G t t.start u)

-- what a table weighs two words as
pub whole_append :
    (G : Group) (t : Table G.Mean) (u z : List ℕ) → weight_of G t (u ++ z) ≡ scaled G (so_far G t u) (weight_from G t (led t t.start u) z)
whole_append G t u z =
    ap (scaled G t.start_weight) (weight_append G t t.start u z)
    ∙ scaled_twice G t.start_weight (walked G t t.start u) (weight_from G t (led t t.start u) z)

-- l is a closed table, and h its hyper table
module _ (G : Group) (l h : Table G.Mean) (r : ℕ → ℕ) (f : ℕ → G.Mean) (closed : Closed l) (hyper : Hyper G l h r f) where
  -- a representative is kept
  pub representative_kept : (q : ℕ) → q < l.states → hyper.kept (r q) ≡ true
  representative_kept q i =
      let o = hyper.representative q i in
      elim o.smallest [
        | inl k ↦ hyper.keeps_kernel (r q) o.inside k.kernel
        | inr s ↦
            hyper.keeps_itself (r q) o.inside
            (let p = hyper.representative (r q) o.inside in
            let far = almost_trans G l q (r q) (r (r q)) o.almost p.almost in
            elim p.smallest [
              | inl k ↦ absurd (kernel_not_preamble l (r (r q)) k.kernel (s.preamble (r (r q)) p.inside far))
              | inr s' ↦
                  elim (cases_order (r (r q)) (r q)) [
                    | inl e ↦ e
                    | inr (inl less) ↦ absurd (s.smallest (r (r q)) less far)
                    | inr (inr more) ↦ absurd (s'.smallest (r q) more (almost_refl G l (r q)))
                  ]
            ])
      ]

  -- a kept preamble state is its own representative
  itself : (q : ℕ) → q < l.states → hyper.kept q ≡ true → Preamble l q → r q ≡ q
  itself q m k p =
      elim (cases_eq (r q) q) [
        | inl e ↦ e
        | inr other ↦ absurd (both_ways (hyper.kept q) (hyper.redirects q m p other) k)
      ]

  -- no kernel state is almost-equivalent to it, and it is the smallest of those that are
  pub smallest_of_class : (q : ℕ) → q < l.states → hyper.kept q ≡ true → Preamble l q → SmallestPreamble G l q q
  smallest_of_class q m k p =
      let s : Representative G l q q = subst (Representative G l q) (itself q m k p) (hyper.representative q m) in
      elim s.smallest [ inl kernel ↦ absurd (kernel_not_preamble l q kernel.kernel p) | inr preamble ↦ preamble ]

  -- where a redirection leads, and the factor that it adds
  abbrev pub moved : ℕ → ℕ
  moved q = cond (hyper.kept q) q (r q)

  abbrev shift : ℕ → G.Mean
  shift q = cond (hyper.kept q) G.one (f q)

  -- the table with its redirections, before states are dropped
  abbrev pub redirected : Table G.Mean
  redirected =
      record {
        states = l.states;
        letters = l.letters;
        start = moved l.start;
        start_weight = G.mul l.start_weight (shift l.start);
        final = l.final;
        target = λ q a. moved (l.target q a);
        weight = λ q a. G.mul (l.weight q a) (shift (l.target q a));
      }

  -- it leads to a kept state that is almost-equivalent by the factor
  pub moved_inside : (q : ℕ) → q < l.states → moved q < l.states
  moved_inside q i =
      cond_both (hyper.kept q) q (r q) (λ p. p < l.states) (λ e. i) (λ e. (hyper.representative q i).inside)

  pub moved_kept : (q : ℕ) → q < l.states → hyper.kept (moved q) ≡ true
  moved_kept q i =
      cond_both (hyper.kept q) q (r q) (λ p. hyper.kept p ≡ true) (λ e. e) (λ e. representative_kept q i)

  moved_by : (q : ℕ) → q < l.states → AlmostBy G l (shift q) q (moved q)
  moved_by q i =
      two_conds (hyper.kept q) q (r q) G.one (f q) (λ p k. AlmostBy G l k q p)
      (almost_by_itself G l q) (hyper.factor q i).almost
    where
      two_conds :
          (b : Bool) (p o : ℕ) (k m : G.Mean) (P : ℕ → G.Mean → Type 0) → P p k → P o m → P (cond b p o) (cond b k m)
      two_conds true p o k m P x y = x
      two_conds false p o k m P x y = y

  -- a kernel state isn't moved
  kernel_stays : (q : ℕ) → q < l.states → Kernel l q → (moved q ≡ q) × (shift q ≡ G.one)
  kernel_stays q i k =
      let e = hyper.keeps_kernel q i k in
      (cond-true (hyper.kept q) q (r q) e, cond-true (hyper.kept q) G.one (f q) e)

  pub redirected_closed : Closed redirected
  redirected_closed =
      record {
        start_inside = moved_inside l.start closed.start_inside;
        target_inside = λ q a i b. moved_inside (l.target q a) (closed.target_inside q a i b);
      }

  -- a weight, multiplied on the right where the state isn't kept
  shifted : (b : Bool) (x k : G.Mean) → cond b x (G.mul x k) ≡ G.mul x (cond b G.one k)
  shifted true x k = sym (one_right G x)
  shifted false x k = refl

  -- from a kept state, the hyper table weighs words as the redirected table
  hyper_weighs :
      (q : ℕ) (w : List ℕ) → q < l.states → hyper.kept q ≡ true → Word l.letters w →
      weight_from G h (count_below hyper.kept q) w ≡ weight_from G redirected q w
  hyper_weighs q [] i k o = ap (λ b. within b G.one) (hyper.final q i k)
  hyper_weighs q (a ∷ w) i k o =
      let p : ℕ = l.target q a in
      let inside : p < l.states = closed.target_inside q a i o.0 in
      ap (λ x. scaled G x (weight_from G h (h.target (count_below hyper.kept q) a) w))
      (hyper.weight q a i o.0 k ∙ shifted (hyper.kept p) (l.weight q a) (f p))
      ∙ ap (λ x. scaled G (G.mul (l.weight q a) (shift p)) (weight_from G h x w)) (hyper.target q a i o.0 k)
      ∙ ap (scaled G (G.mul (l.weight q a) (shift p))) (hyper_weighs (moved p) w (moved_inside p inside) (moved_kept p inside) o.1)

  -- from a kernel state, the redirected table weighs words as the table itself
  pub kernel_weighs : (q : ℕ) (w : List ℕ) → q < l.states → Kernel l q → Word l.letters w → weight_from G redirected q w ≡ weight_from G l q w
  kernel_weighs q [] i k o = refl
  kernel_weighs q (a ∷ w) i k o =
      let p : ℕ = l.target q a in
      let inside : p < l.states = closed.target_inside q a i o.0 in
      let next : Kernel l p = kernel_next l q a o.0 k in
      let stays = kernel_stays p inside next in
      ap (λ x. scaled G (G.mul (l.weight q a) x) (weight_from G redirected (moved p) w)) stays.1
      ∙ ap (λ x. scaled G x (weight_from G redirected (moved p) w)) (one_right G (l.weight q a))
      ∙ ap (λ x. scaled G (l.weight q a) (weight_from G redirected x w)) stays.0
      ∙ ap (scaled G (l.weight q a)) (kernel_weighs p w inside next o.1)

  -- nor does the redirected run leave the kernel states
  kernel_led : (q : ℕ) (w : List ℕ) → q < l.states → Kernel l q → Word l.letters w → Kernel l (led redirected q w)
  kernel_led q [] i k o = k
  kernel_led q (a ∷ w) i k o =
      let p : ℕ = l.target q a in
      let inside : p < l.states = closed.target_inside q a i o.0 in
      let next : Kernel l p = kernel_next l q a o.0 k in
      kernel_led (moved p) w (moved_inside p inside) (subst (Kernel l) (sym (kernel_stays p inside next).0) next) o.1

  -- a redirected run stays in kept states
  redirected_kept : (q : ℕ) (w : List ℕ) → q < l.states → hyper.kept q ≡ true → Word l.letters w → hyper.kept (led redirected q w) ≡ true
  redirected_kept q [] i k o = k
  redirected_kept q (a ∷ w) i k o =
      let inside : l.target q a < l.states = closed.target_inside q a i o.0 in
      redirected_kept (moved (l.target q a)) w (moved_inside (l.target q a) inside) (moved_kept (l.target q a) inside) o.1

  -- one word leads almost-equivalent states to such, the one in the table and the other in the redirected one
  led_almost :
      (q p : ℕ) (w : List ℕ) → q < l.states → p < l.states → Word l.letters w → AlmostEquivalent G l q p →
      AlmostEquivalent G l (led l q w) (led redirected p w)
  led_almost q p [] i j o e = e
  led_almost q p (a ∷ w) i j o e =
      let x : ℕ = l.target p a in
      let inside : x < l.states = closed.target_inside p a j o.0 in
      led_almost (l.target q a) (moved x) w (closed.target_inside q a i o.0) (moved_inside x inside) o.1
      (almost_trans G l (l.target q a) x (moved x) (almost_next G l q p a o.0 e)
      (record { factor = shift x; by = moved_by x inside }))

  -- after at least m - 1 letters the redirected run is in a kernel state too
  pub redirected_kernel :
      1 ≤ l.letters → ((q : ℕ) → q < l.states → Reachable l q) → (u : List ℕ) → Word l.letters u → l.states ≤ suc (length u) →
      Kernel l (led redirected redirected.start u)
  redirected_kernel letter reach u o long =
      let d = detour redirected redirected_closed letter (moved l.start) u redirected_closed.start_inside o long in
      let c : ℕ = led redirected (moved l.start) d.before in
      let inside : c < l.states =
      led_inside redirected redirected_closed (moved l.start) d.before redirected_closed.start_inside d.before_is_word in
      let kept : hyper.kept c ≡ true =
      redirected_kept (moved l.start) d.before redirected_closed.start_inside (moved_kept l.start closed.start_inside)
      d.before_is_word in
      let kernel : Kernel l c = elim (kernel_or_preamble l closed c inside) [
        | inl k ↦ k
        | inr b ↦
            (let by = reach c inside in
            let v : List ℕ = times d.round l.states in
            let v_is_word : Word l.letters v = times_word l.letters d.round l.states d.round_is_word in
            let near : AlmostEquivalent G l c (led l c v) =
            subst (λ x. AlmostEquivalent G l x (led l c v)) (times_led redirected c d.round l.states d.again)
            (almost_sym G l (led l c v) (led redirected c v) (led_almost c c v inside inside v_is_word (almost_refl G l c))) in
            let preamble : Preamble l (led l c v) =
            (smallest_of_class c inside kept b).preamble (led l c v) (led_inside l closed c v inside v_is_word) near in
            let w : List ℕ = by.by ++ v in
            let leads : led l l.start w ≡ led l c v = led_append l l.start by.by v ∙ ap (λ x. led l x v) by.leads in
            let k : Kernel l (led l l.start w) =
            long_kernel l closed letter w (word_append l.letters by.by v by.is_word v_is_word)
            (omega (arith, length-append by.by v, times_long d.round l.states d.some)) in
            absurd (kernel_not_preamble l (led l c v) (subst (Kernel l) leads k) preamble))
      ] in
      subst (Kernel l) (sym (led_append redirected (moved l.start) d.before d.after) ∙ ap (led redirected (moved l.start)) d.whole)
      (kernel_led c d.after inside kernel d.after_is_word)

  -- what the table weighs long words as, by the redirected run
  record Carried (q : ℕ) (u : List ℕ) : Type 0 where
    pub from : ℕ
    pub words :
        (z : List ℕ) → Word l.letters z → from ≤ length z →
        weight_from G l q (u ++ z) ≡ scaled G (walked G redirected q u) (weight_from G l (led redirected q u) z)

  carried : (q : ℕ) (u : List ℕ) → q < l.states → Word l.letters u → Carried q u
  carried q [] i o = record { from = 0; words = λ z h n. sym (scaled_one G (weight_from G l q z)) }
  carried q (a ∷ u) i o =
      let p : ℕ = l.target q a in
      let inside : p < l.states = closed.target_inside q a i o.0 in
      let m = multiple_from (moved_by p inside) in
      let next = carried (moved p) u (moved_inside p inside) o.1 in
      record {
        from = m.from + next.from;
        words =
            λ z h n.
            let x = l.weight q a in
            let y = walked G redirected (moved p) u in
            let rest = weight_from G l (led redirected (moved p) u) z in
            ap (scaled G x)
            (m.multiple.words (u ++ z) (word_append l.letters u z o.1 h) (omega (arith, length-append u z))
            ∙ ap (scaled G (shift p)) (next.words z h (omega arith)))
            ∙ scaled_twice G x (shift p) (scaled G y rest)
            ∙ scaled_twice G (G.mul x (shift p)) y rest;
      }

  -- the hyper table weighs words as the redirected table
  pub hyper_whole : (w : List ℕ) → Word l.letters w → weight_of G h w ≡ weight_of G redirected w
  hyper_whole w o =
      ap (λ x. scaled G x (weight_from G h h.start w)) (hyper.start_weight ∙ shifted (hyper.kept l.start) l.start_weight (f l.start))
      ∙ ap (λ x. scaled G (G.mul l.start_weight (shift l.start)) (weight_from G h x w)) hyper.start
      ∙ ap (scaled G (G.mul l.start_weight (shift l.start)))
      (hyper_weighs (moved l.start) w (moved_inside l.start closed.start_inside) (moved_kept l.start closed.start_inside) o)

  -- what the table weighs long words as, by the redirected run
  pub record Followed (u : List ℕ) : Type 0 where
    pub from : ℕ
    pub words :
        (z : List ℕ) → Word l.letters z → from ≤ length z →
        weight_of G l (u ++ z) ≡ scaled G (so_far G redirected u) (weight_from G l (led redirected redirected.start u) z)

  pub followed : (u : List ℕ) → Word l.letters u → Followed u
  followed u o =
      let m = multiple_from (moved_by l.start closed.start_inside) in
      let next = carried (moved l.start) u (moved_inside l.start closed.start_inside) o in
      record {
        from = m.from + next.from;
        words =
            λ z h n.
            let x = l.start_weight in
            let y = walked G redirected (moved l.start) u in
            let rest = weight_from G l (led redirected (moved l.start) u) z in
            ap (scaled G x)
            (m.multiple.words (u ++ z) (word_append l.letters u z o h) (omega (arith, length-append u z))
            ∙ ap (scaled G (shift l.start)) (next.words z h (omega arith)))
            ∙ scaled_twice G x (shift l.start) (scaled G y rest)
            ∙ scaled_twice G (G.mul x (shift l.start)) y rest;
      }
