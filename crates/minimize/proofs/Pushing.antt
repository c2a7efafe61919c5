-- Distances and pushes by rounds, and tables whose weights are pushed. Assumes nothing.
use Rattle.std.proofs.Common.{get_or, slice_index, slice_set, ◌≡◌, ◌≢◌, ℕ, suc, ◌+◌, ◌-◌, ◌*◌, ◌/◌, ◌<◌, ◌≤◌, true, false, eqb, cond, List, [], ◌∷◌, length, Some, None, Option, inl, inr, sym, refl, ap, ◌∙◌, subst, arith}
use Rattle.std.proofs.lemmas.Bool.{cases_eq, cases_lt, cond-true, cond-false, eq-eqb, ne_eqb, cases_Bool}
use Rattle.std.proofs.lemmas.List.{get_or-set_same, get_or-set_other}
use Rattle.std.proofs.lemmas.Nat.{div-mul-add}
use Rattle.weights.specs.Codes.{within}
use Rattle.weights.specs.Group.{Group, Kind}
use Rattle.tables.specs.Book.{laid, place}
use Rattle.tables.specs.Sheet.{mean_at}
use Rattle.tables.specs.Table.{Table, Word, scaled, weight_from}
use Rattle.tables.proofs.Reading.{scaled_twice, within_true}
use Rattle.theory.specs.Runs.{led, accepts, Closed, Dead}
use Rattle.theory.specs.Push.{Earlier, Smallest}
use Rattle.theory.proofs.Basics.{led_inside, mul_inv_back}
use Rattle.theory.proofs.Search.{shorter, live_or_dead, smallest_there, push_unique, none_smaller, final_push}
use Rattle.theory.proofs.Minimal.{dead_weighs, empty_form}
use Rattle.tables.proofs.Places.{place_inside}
use Rattle.minimize.specs.Rows.{rows_table}
use Rattle.minimize.specs.Steps.{none, LivePush, Pushes, PushedWeights, Normal}
use Rattle.minimize.specs.Pushing.{NoneLong, NoneBelow, FirstLetter, Unmet, Known, Rounding, Rounded, PushedBelow, pushed_arc, pushed_start}
use Rattle.minimize.proofs.Alike.{smallest_moved, dead_moved, smallest_not_dead}
use Rattle.minimize.proofs.Memory.{mean_read, mean_set_same, mean_set_other}

module _ {M : Type 0} (t : Table M) where
  -- the empty word is the smallest from a final state
  empty_smallest : (q : ℕ) → t.final q ≡ true → Smallest t q []
  empty_smallest q f = record { is_word = tt; accepted = f; least = λ v h a. none_smaller v }

  -- from a state that is not final no word of fewer than one letter is accepted
  none_empty : (q : ℕ) → t.final q ≡ false → NoneBelow t q 1
  none_empty q f = record { no_word = no_word }
    where
      no_word : (w : List ℕ) → Word t.letters w → length w < 1 → accepts t q w ≡ true → ⊥
      no_word [] h l a = let z : true ≡ false = sym a ∙ f in let z' : ◌≡◌ {A = ℕ} 0 1 = cc in omega arith
      no_word (a ∷ w) h l e = omega arith

  -- where no letter leads to a state that accepts a word of x letters, no word of one letter more is accepted
  none_more : (q r : ℕ) → NoneBelow t q r → ((a : ℕ) → a < t.letters → NoneLong t (t.target q a) (r - 1)) → 1 ≤ r → NoneBelow t q (r + 1)
  none_more q r below each some = record { no_word = no_word }
    where
      no_word : (w : List ℕ) → Word t.letters w → length w < r + 1 → accepts t q w ≡ true → ⊥
      no_word [] h l e = below.no_word [] tt (omega arith) e
      no_word (a ∷ w) h l e =
          elim (cases_lt (suc (length w)) r) [
            | inl short ↦ below.no_word (a ∷ w) h short e
            | inr long ↦ (each a h.0).no_word w h.1 (omega arith) e
          ]

  -- a letter before the smallest word of the state that it leads to, where no earlier letter serves
  smallest_more :
      (q r a : ℕ) (w : List ℕ) → NoneBelow t q r → length w + 1 ≡ r → a < t.letters → Smallest t (t.target q a) w →
      ((b : ℕ) → b < a → NoneLong t (t.target q b) (length w)) → Smallest t q (a ∷ w)
  smallest_more q r a w below long letter s before =
      record {
        is_word = (letter, s.is_word);
        accepted = s.accepted;
        least =
            λ v h e less.
            elim less [
              | inl short ↦ (let l : length v < suc (length w) = short in below.no_word v h (omega arith) e)
              | inr earlier ↦ none v h e earlier.0 earlier.1
            ];
      }
    where
      none : (v : List ℕ) → Word t.letters v → accepts t q v ≡ true → length v ≡ length (a ∷ w) → Earlier v (a ∷ w) → ⊥
      none [] h e l less = less
      none (b ∷ v) h e l (inl less) = (before b less).no_word v h.1 (omega arith) e
      none (b ∷ v) h e l (inr less) =
          s.least v h.1 (subst (λ c. accepts t (t.target q c) v ≡ true) less.0 e) (inr (omega arith, less.1))

  -- the smallest accepted word visits no state twice
  smallest_short : Closed t → (q : ℕ) (w : List ℕ) → q < t.states → Smallest t q w → length w < t.states
  smallest_short closed q w inside s =
      elim (cases_lt (length w) t.states) [
        | inl short ↦ short
        | inr long ↦
            (let v = shorter t closed (length w) q w (omega arith) inside s.is_word in
            let few : length v.0 < t.states = v.2 in
            absurd (s.least v.0 v.1 (ap t.final v.3 ∙ s.accepted) (inl (omega arith))))
      ]

module _ (G : Group) (t : Table G.Mean) where
  known_final : (q d : ℕ) (u : G.Mean) → t.final q ≡ true → d ≡ 0 → u ≡ G.one → Known G t 1 q d u
  known_final q d u f e o =
      inl (
      record {
        push =
            record {
              word = [];
              smallest = empty_smallest t q f;
              long = sym e;
              short = omega arith;
              weighs = within_true (t.final q) G.one f ∙ ap Some (sym o);
            };
        near = omega arith;
      })

  known_other : (q d : ℕ) (u : G.Mean) → t.final q ≡ false → d ≡ none → u ≡ G.one → Known G t 1 q d u
  known_other q d u f e o = inr (record { far = e; one = o; words = none_empty t q f })

  -- the first distance of a state, 0 where it is final, and push one
  known_first : (q d : ℕ) (u : G.Mean) → d ≡ cond (t.final q) 0 none → u ≡ G.one → Known G t 1 q d u
  known_first q d u e o =
      elim (cases_Bool (t.final q)) [
        | inl f ↦ known_final q d u f (e ∙ cond-true (t.final q) 0 none f) o
        | inr f ↦ known_other q d u f (e ∙ cond-false (t.final q) 0 none f) o
      ]

  -- where a state that accepts no word below r leads to a state of another distance than r - 1, that accepts no word of r - 1 letters
  other_distance :
      (r s q a d : ℕ) (u : G.Mean) → 1 ≤ r → r ≤ s → NoneBelow t q r → a < t.letters → Known G t s (t.target q a) d u → d ≢ r - 1 →
      NoneLong t (t.target q a) (r - 1)
  other_distance r s q a d u some later below letter (inl m) other =
      record {
        no_word =
            λ w h l e.
            elim (cases_lt d (r - 1)) [
              | inl near ↦ below.no_word (a ∷ m.push.word) (letter, m.push.smallest.is_word) (omega (arith, m.push.long)) m.push.smallest.accepted
              | inr far ↦ m.push.smallest.least w h e (inl (omega (arith, m.push.long)))
            ];
      }
  other_distance r s q a d u some later below letter (inr m) other =
      record { no_word = λ w h l e. m.words.no_word w h (omega arith) e }

  -- the push of a state, from that of the state that its first letter towards distance r - 1 leads to
  live_more :
      (r q a d : ℕ) (u v : G.Mean) → 1 ≤ r → r < none → NoneBelow t q r → a < t.letters → LivePush G t (t.target q a) d u → d ≡ r - 1 →
      ((b : ℕ) → b < a → NoneLong t (t.target q b) (r - 1)) → v ≡ G.mul (t.weight q a) u → LivePush G t q r v
  live_more r q a d u v some small below letter p e before product =
      record {
        word = a ∷ p.word;
        smallest =
            smallest_more t q r a p.word below (omega (arith, p.long)) letter p.smallest
            (λ b l. subst (NoneLong t (t.target q b)) (omega (arith, p.long)) (before b l));
        long = omega (arith, p.long);
        short = small;
        weighs = ap (scaled G (t.weight q a)) p.weighs ∙ ap Some (sym product);
      }

  -- in a round, a state without a distance leads by a letter to a state of another distance: that state accepts no word of r - 1 letters
  none_long :
      (r i q a : ℕ) (d : ℕ → ℕ) (u : ℕ → G.Mean) → Closed t → 1 ≤ r → q < t.states → a < t.letters → NoneBelow t q r →
      Rounding G t r i d u → d (t.target q a) ≢ r - 1 → NoneLong t (t.target q a) (r - 1)
  none_long r i q a d u closed some inside letter below known other =
      let p : ℕ = t.target q a in
      let there : p < t.states = closed.target_inside q a inside letter in
      elim (cases_lt p i) [
        | inl early ↦ other_distance r (r + 1) q a (d p) (u p) some (omega arith) below letter (known.done p early there) other
        | inr late ↦ other_distance r r q a (d p) (u p) some (omega arith) below letter (known.left p late there) other
      ]

  -- a state without a distance none of whose letters leads to a state of distance r - 1
  unmet_more :
      (r i q : ℕ) (d : ℕ → ℕ) (u : ℕ → G.Mean) → Closed t → 1 ≤ r → q < t.states → Rounding G t r i d u →
      d q ≡ none → Known G t r q (d q) (u q) → FirstLetter t d q (r - 1) None → Known G t (r + 1) q (d q) (u q)
  unmet_more r i q d u closed some inside known far (inl m) no_letter = absurd (omega (arith, m.push.short))
  unmet_more r i q d u closed some inside known far (inr m) no_letter =
      inr (
      record {
        far = m.far;
        one = m.one;
        words =
            none_more t q r m.words (λ a l. none_long r i q a d u closed some inside l m.words known (no_letter a l)) some;
      })

  -- a state without a distance whose first letter to a state of distance r - 1 is a
  met_more :
      (r i q a : ℕ) (d : ℕ → ℕ) (u : ℕ → G.Mean) (v : G.Mean) → Closed t → 1 ≤ r → r < none → q < t.states → Rounding G t r i d u →
      d q ≡ none → Known G t r q (d q) (u q) → FirstLetter t d q (r - 1) (Some a) → v ≡ G.mul (t.weight q a) (u (t.target q a)) →
      Known G t (r + 1) q r v
  met_more r i q a d u v closed some small inside known far (inl m) first product = absurd (omega (arith, m.push.short))
  met_more r i q a d u v closed some small inside known far (inr m) first product =
      let p : ℕ = t.target q a in
      let there : p < t.states = closed.target_inside q a inside first.0 in
      let from : d p ≡ r - 1 = first.1 in
      let push : LivePush G t p (d p) (u p) =
      elim (cases_lt p i) [
        | inl early ↦ met_push (r + 1) p (d p) (u p) (known.done p early there) (omega arith)
        | inr late ↦ met_push r p (d p) (u p) (known.left p late there) (omega arith)
      ] in
      inl (
      record {
        push =
            live_more r q a (d p) (u p) v some small m.words first.0 push from
            (λ b l. none_long r i q b d u closed some inside (omega (arith, first.0)) m.words known (first.2 b l)) product;
        near = omega arith;
      })
    where
      met_push : (s p d : ℕ) (u : G.Mean) → Known G t s p d u → d < none → LivePush G t p d u
      met_push s p d u (inl m) near = m.push
      met_push s p d u (inr m) near = absurd (omega (arith, m.far))

  -- one state more of a round
  round_more :
      (r i : ℕ) (d d' : ℕ → ℕ) (u u' : ℕ → G.Mean) → Rounding G t r i d u →
      ((q : ℕ) → q ≢ i → d' q ≡ d q) → ((q : ℕ) → q ≢ i → u' q ≡ u q) → Known G t (r + 1) i (d' i) (u' i) → Rounding G t r (i + 1) d' u'
  round_more r i d d' u u' known kept_d kept_u here =
      record {
        done =
            λ q l inside.
            elim (cases_eq q i) [
              | inl e ↦ subst (λ p. Known G t (r + 1) p (d' p) (u' p)) (sym e) here
              | inr other ↦ moved (r + 1) q other (known.done q (omega arith) inside)
            ];
        left = λ q l inside. let other : q ≢ i = omega arith in moved r q other (known.left q (omega arith) inside);
      }
    where
      moved : (s q : ℕ) → q ≢ i → Known G t s q (d q) (u q) → Known G t s q (d' q) (u' q)
      moved s q other k =
          subst (λ x. Known G t s q x (u' q)) (sym (kept_d q other)) (subst (Known G t s q (d q)) (sym (kept_u q other)) k)

  -- what each state has, once no state without a distance accepts a word
  pushes_all :
      (r : ℕ) (d : ℕ → ℕ) (u : ℕ → G.Mean) → Rounded G t r d u →
      ((q : ℕ) → q < t.states → Unmet G t r q (d q) (u q) → Dead t q) → Pushes G t d u
  pushes_all r d u known dead q inside =
      elim (known.known q inside) [
        | inl m ↦ inl m.push
        | inr m ↦ inr (record { dead = dead q inside m; far = m.far; one = m.one })
      ]

  -- after as many rounds as there are states, less one
  pub all_rounds : (d : ℕ → ℕ) (u : ℕ → G.Mean) → Closed t → Rounded G t t.states d u → Pushes G t d u
  all_rounds d u closed known =
      pushes_all t.states d u known
      (λ q inside m.
      elim (live_or_dead t closed q inside) [
        | inl live ↦
            (let s = smallest_there t closed q live in
            absurd (m.words.no_word s.0 s.1.is_word (smallest_short t closed q s.0 inside s.1) s.1.accepted))
        | inr dead ↦ dead
      ])

  -- after a round that gave no state a distance, no state without one accepts a word
  none_accepted :
      (r : ℕ) (d : ℕ → ℕ) (u : ℕ → G.Mean) → Closed t → Rounded G t (r + 1) d u → ((q : ℕ) → q < t.states → d q ≢ r) →
      (q : ℕ) (w : List ℕ) → q < t.states → Unmet G t (r + 1) q (d q) (u q) → Word t.letters w → accepts t q w ≡ true → ⊥
  none_accepted r d u closed known stale q [] inside m h e = m.words.no_word [] tt (omega arith) e
  none_accepted r d u closed known stale q (a ∷ w) inside m h e =
      let p : ℕ = t.target q a in
      let there : p < t.states = closed.target_inside q a inside h.0 in
      elim (known.known p there) [
        | inl n ↦
            (let other : d p ≢ r = stale p there in
            m.words.no_word (a ∷ n.push.word) (h.0, n.push.smallest.is_word) (omega (arith, n.push.long, n.near)) n.push.smallest.accepted)
        | inr n ↦ none_accepted r d u closed known stale p w there n h.1 e
      ]

  -- and so the search may end
  pub stale_round :
      (r : ℕ) (d : ℕ → ℕ) (u : ℕ → G.Mean) → Closed t → Rounded G t (r + 1) d u → ((q : ℕ) → q < t.states → d q ≢ r) → Pushes G t d u
  stale_round r d u closed known stale =
      pushes_all (r + 1) d u known
      (λ q inside m.
      record {
        none =
            λ w h.
            elim (cases_Bool (accepts t q w)) [
              | inl passes ↦ absurd (none_accepted r d u closed known stale q w inside m h passes)
              | inr fails ↦ fails
            ];
      })

-- what slices hold after a write, and what is read from them
index_here : (xs : List ℕ) (i j x : ℕ) → j ≡ i → i < length xs → slice_index (slice_set xs j x) i ≡ x
index_here xs i j x e l = ap (λ k. slice_index (slice_set xs k x) i) e ∙ get_or-set_same xs i x 0 l

index_other : (xs : List ℕ) (i j x q : ℕ) → j ≡ i → q ≢ i → slice_index (slice_set xs j x) q ≡ slice_index xs q
index_other xs i j x q e other = ap (λ k. slice_index (slice_set xs k x) q) e ∙ get_or-set_other xs i q x 0 other

module _ {W : Type 0} (K : Kind W) where
  mean_here : (ws : List W) (i j : ℕ) (x : W) → j ≡ i → i < length ws → mean_at K (slice_set ws j x) i ≡ K.mean x
  mean_here ws i j x e l = ap (λ k. mean_at K (slice_set ws k x) i) e ∙ mean_set_same K ws i x l

  mean_other : (ws : List W) (i j q : ℕ) (x : W) → j ≡ i → q ≢ i → mean_at K (slice_set ws j x) q ≡ mean_at K ws q
  mean_other ws i j q x e other = ap (λ k. mean_at K (slice_set ws k x) q) e ∙ mean_set_other K ws i q x other

  -- a state gets its distance and its push
  pub settled :
      (t : Table K.group.Mean) (r q a i j : ℕ) (ds : List ℕ) (us : List W) (x : W) → Closed t → 1 ≤ r → r < none → q < t.states →
      q < length ds → q < length us → Rounding K.group t r q (slice_index ds) (mean_at K us) → slice_index ds q ≡ none →
      FirstLetter t (slice_index ds) q (r - 1) (Some a) → i ≡ q → j ≡ q →
      K.mean x ≡ K.group.mul (t.weight q a) (mean_at K us (t.target q a)) →
      Rounding K.group t r (q + 1) (slice_index (slice_set ds i r)) (mean_at K (slice_set us j x))
  settled t r q a i j ds us x closed some small inside room_d room_u known far first e f product =
      round_more K.group t r q (slice_index ds) (slice_index (slice_set ds i r)) (mean_at K us) (mean_at K (slice_set us j x)) known
      (λ p other. index_other ds q i r p e other) (λ p other. mean_other us q j p x f other)
      (subst (λ d. Known K.group t (r + 1) q d (mean_at K (slice_set us j x) q)) (sym (index_here ds q i r e room_d))
      (subst (Known K.group t (r + 1) q r) (sym (mean_here us q j x f room_u))
      (met_more K.group t r q q a (slice_index ds) (mean_at K us) (K.mean x) closed some small inside known far
      (known.left q (omega arith) inside) first product)))

  -- a state stays without a distance
  pub unsettled :
      (t : Table K.group.Mean) (r q : ℕ) (d : ℕ → ℕ) (u : ℕ → K.group.Mean) → Closed t → 1 ≤ r → q < t.states →
      Rounding K.group t r q d u → d q ≡ none → FirstLetter t d q (r - 1) None → Rounding K.group t r (q + 1) d u
  unsettled t r q d u closed some inside known far no_letter =
      round_more K.group t r q d d u u known (λ p other. refl) (λ p other. refl)
      (unmet_more K.group t r q q d u closed some inside known far (known.left q (omega arith) inside) no_letter)

  -- one more state of those that are given their first distance
  pub begun_more :
      (t : Table K.group.Mean) (q i j : ℕ) (ds : List ℕ) (us : List W) (d : ℕ) (x : W) → q < length ds → q < length us →
      ((p : ℕ) → p < q → Known K.group t 1 p (slice_index ds p) (mean_at K us p)) → i ≡ q → j ≡ q → d ≡ cond (t.final q) 0 none →
      K.mean x ≡ K.group.one → (p : ℕ) → p < q + 1 → Known K.group t 1 p (slice_index (slice_set ds i d) p) (mean_at K (slice_set us j x) p)
  begun_more t q i j ds us d x room_d room_u known e f first one p l =
      elim (cases_eq p q) [
        | inl same ↦
            subst (λ p. Known K.group t 1 p (slice_index (slice_set ds i d) p) (mean_at K (slice_set us j x) p)) (sym same)
            (subst (λ d. Known K.group t 1 q d (mean_at K (slice_set us j x) q)) (sym (index_here ds q i d e room_d))
            (subst (Known K.group t 1 q d) (sym (mean_here us q j x f room_u))
            (known_first K.group t q d (K.mean x) first one)))
        | inr other ↦
            subst (λ d. Known K.group t 1 p d (mean_at K (slice_set us j x) p)) (sym (index_other ds q i d p e other))
            (subst (Known K.group t 1 p (slice_index ds p)) (sym (mean_other us q j p x f other)) (known p (omega arith)))
      ]

  -- one more arc is pushed
  pub pushed_more :
      (s : ℕ) (d : ℕ → ℕ) (u : ℕ → K.group.Mean) (ts : List ℕ) (old ws : List W) (i : ℕ) (y x : W) → 1 + i < length ws →
      PushedBelow K s d u ts old ws i → y ≡ get_or ws (1 + i) y →
      K.mean x ≡ pushed_arc K.group d u (K.group.inv (u (i / s))) (K.mean y) (slice_index ts (1 + i)) →
      PushedBelow K s d u ts old (slice_set ws (1 + i) x) (i + 1)
  pushed_more s d u ts old ws i y x room before read weighs =
      record {
        done =
            λ k l.
            elim (cases_eq k i) [
              | inl same ↦
                  subst
                  (λ k. mean_at K (slice_set ws (1 + i) x) (1 + k) ≡ pushed_arc K.group d u (K.group.inv (u (k / s))) (mean_at K old (1 + k)) (slice_index ts (1 + k)))
                  (sym same)
                  (mean_set_same K ws (1 + i) x room
                  ∙ weighs
                  ∙ ap (λ z. pushed_arc K.group d u (K.group.inv (u (i / s))) z (slice_index ts (1 + i)))
                  (ap K.mean read ∙ mean_read K ws (1 + i) y room ∙ before.left i (omega arith)))
              | inr other ↦ mean_set_other K ws (1 + i) (1 + k) x (omega arith) ∙ before.done k (omega arith)
            ];
        left = λ k l. mean_set_other K ws (1 + i) (1 + k) x (omega arith) ∙ before.left k (omega arith);
        start = mean_set_other K ws (1 + i) 0 x (omega arith) ∙ before.start;
      }

  -- the arc of state q at letter a is pushed, by the inverse v of the state's push
  pub pushed_letter :
      (s : ℕ) (d : ℕ → ℕ) (u : ℕ → K.group.Mean) (ts : List ℕ) (old ws : List W) (q a j : ℕ) (v : K.group.Mean) (y x : W) → a < s →
      j ≡ 1 + (q * s + a) → j < length ws → v ≡ K.group.inv (u q) → y ≡ get_or ws j y →
      K.mean x ≡ pushed_arc K.group d u v (K.mean y) (slice_index ts j) → PushedBelow K s d u ts old ws (q * s + a) →
      PushedBelow K s d u ts old (slice_set ws j x) (q * s + (a + 1))
  pushed_letter s d u ts old ws q a j v y x inside at room turned read weighs before =
      let i : ℕ = q * s + a in
      let own : v ≡ K.group.inv (u (i / s)) = turned ∙ ap (λ p. K.group.inv (u p)) (sym (div-mul-add q s a inside)) in
      let next : i + 1 ≡ q * s + (a + 1) = omega arith in
      subst (PushedBelow K s d u ts old (slice_set ws j x)) next
      (subst (λ k. PushedBelow K s d u ts old (slice_set ws k x) (i + 1)) (sym at)
      (pushed_more s d u ts old ws i y x (subst (λ k. k < length ws) at room) before (subst (λ k. y ≡ get_or ws k y) at read)
      (subst (λ k. K.mean x ≡ pushed_arc K.group d u (K.group.inv (u (i / s))) (K.mean y) (slice_index ts k)) at
      (weighs ∙ ap (λ w. pushed_arc K.group d u w (K.mean y) (slice_index ts j)) own))))

  -- all arcs are pushed, and then the start
  pub pushed_all :
      (s n : ℕ) (d : ℕ → ℕ) (u : ℕ → K.group.Mean) (ts : List ℕ) (old ws : List W) (y x : W) → 0 < length ws →
      PushedBelow K s d u ts old ws (n * s) → y ≡ get_or ws 0 y → K.mean x ≡ pushed_start K.group d u (K.mean y) (slice_index ts 0) →
      (ms : List ℕ) →
      PushedWeights K.group (rows_table K (laid ts old ms s n)) d u (rows_table K (laid ts (slice_set ws 0 x) ms s n))
  pushed_all s n d u ts old ws y x room below read weighs ms =
      record {
        states = refl;
        letters = refl;
        start = refl;
        start_weight =
            mean_set_same K ws 0 x room
            ∙ weighs
            ∙ ap (λ z. pushed_start K.group d u z (slice_index ts 0)) (ap K.mean read ∙ mean_read K ws 0 y room ∙ below.start);
        final = λ q l. refl;
        target = λ q a l m. refl;
        weight =
            λ q a l m.
            let k : ℕ = q * s + a in
            let e : place s q a ≡ 1 + k = omega arith in
            let inside : k < n * s = (let r : place s q a < 1 + n * s = place_inside s q a n l m in omega arith) in
            mean_set_other K ws 0 (place s q a) x (omega arith)
            ∙ ap (mean_at K ws) e
            ∙ below.done k inside
            ∙ ap (λ p. pushed_arc K.group d u (K.group.inv (u p)) (mean_at K old (1 + k)) (slice_index ts (1 + k))) (div-mul-add q s a m)
            ∙ ap (λ j. pushed_arc K.group d u (K.group.inv (u q)) (mean_at K old j) (slice_index ts j)) (sym e);
      }

-- a table whose weights are pushed is closed
pub pushed_closed : (G : Group) (t : Table G.Mean) (d : ℕ → ℕ) (u : ℕ → G.Mean) (p : Table G.Mean) → Closed t → PushedWeights G t d u p → Closed p
pushed_closed G t d u p closed pushed =
    record {
      start_inside = rw (pushed.start, pushed.states) closed.start_inside;
      target_inside =
          λ q a l m.
          let l' : q < t.states = subst (λ n. q < n) pushed.states l in
          let m' : a < t.letters = subst (λ s. a < s) pushed.letters m in
          rw (pushed.target q a l' m', pushed.states) (closed.target_inside q a l' m');
    }

-- a table t whose weights are pushed to p
module _ (G : Group) (t : Table G.Mean) (d : ℕ → ℕ) (u : ℕ → G.Mean) (p : Table G.Mean) (closed : Closed t) (pushes : Pushes G t d u) (pushed : PushedWeights G t d u p) where
  word_in_pushed : (w : List ℕ) → Word t.letters w → Word p.letters w
  word_in_pushed w h = subst (λ s. Word s w) (sym pushed.letters) h

  -- words lead to the same states
  pushed_led : (q : ℕ) (w : List ℕ) → q < t.states → Word t.letters w → led p q w ≡ led t q w
  pushed_led q [] l h = refl
  pushed_led q (a ∷ w) l h =
      ap (λ r. led p r w) (pushed.target q a l h.0) ∙ pushed_led (t.target q a) w (closed.target_inside q a l h.0) h.1

  pushed_accepts : (q : ℕ) (w : List ℕ) → q < t.states → Word t.letters w → accepts p q w ≡ accepts t q w
  pushed_accepts q w l h = ap p.final (pushed_led q w l h) ∙ pushed.final (led t q w) (led_inside t closed q w l h)

  pushed_dead : (q : ℕ) → q < t.states → Dead t q → Dead p q
  pushed_dead q l = dead_moved t p q q (sym pushed.letters) (λ v h. sym (pushed_accepts q v l h))

  pushed_smallest : (q : ℕ) (w : List ℕ) → q < t.states → Smallest t q w → Smallest p q w
  pushed_smallest q w l = smallest_moved t p q q w (sym pushed.letters) (λ v h. sym (pushed_accepts q v l h))

  -- a final state's push is one
  final_one : (q : ℕ) → q < t.states → t.final q ≡ true → u q ≡ G.one
  final_one q l f =
      elim (pushes q l) [
        | inl live ↦
            push_unique G t q (u q) G.one (record { word = live.word; smallest = live.smallest; weighs = live.weighs })
            (final_push G t q f)
        | inr dead ↦ dead.one
      ]

  pub near_state : (q : ℕ) → LivePush G t q (d q) (u q) → eqb (d q) none ≡ false
  near_state q x = ne_eqb (d q) none (λ e. omega (arith, x.short))

  -- what an arc weighs
  pub arc_live :
      (q a : ℕ) → q < t.states → a < t.letters → LivePush G t (t.target q a) (d (t.target q a)) (u (t.target q a)) →
      p.weight q a ≡ G.mul (G.inv (u q)) (G.mul (t.weight q a) (u (t.target q a)))
  arc_live q a l m x =
      let r = t.target q a in
      pushed.weight q a l m
      ∙ cond-false (eqb (d r) none) G.one (G.mul (G.inv (u q)) (G.mul (t.weight q a) (u r))) (near_state r x)

  pub arc_dead : (q a : ℕ) → q < t.states → a < t.letters → d (t.target q a) ≡ none → p.weight q a ≡ G.one
  arc_dead q a l m e =
      let r = t.target q a in
      pushed.weight q a l m
      ∙ cond-true (eqb (d r) none) G.one (G.mul (G.inv (u q)) (G.mul (t.weight q a) (u r))) (eq-eqb (d r) none e)

  -- a factor that is taken along and back
  along_and_back : (k x v : G.Mean) (o : Option G.Mean) → scaled G (G.mul k (G.mul x v)) (scaled G (G.inv v) o) ≡ scaled G k (scaled G x o)
  along_and_back k x v o =
      scaled_twice G (G.mul k (G.mul x v)) (G.inv v) o
      ∙ ap (λ y. scaled G y o) (G.assoc k (G.mul x v) (G.inv v) ∙ ap (G.mul k) (mul_inv_back G x v))
      ∙ sym (scaled_twice G k x o)

  -- from each state a word weighs what it did, with the inverse of the state's push on the left
  pub pushed_weighs :
      (q : ℕ) (w : List ℕ) → q < t.states → Word t.letters w → weight_from G p q w ≡ scaled G (G.inv (u q)) (weight_from G t q w)
  pushed_weighs q [] l h =
      ap (λ b. within b G.one) (pushed.final q l) ∙ empty_form G (t.final q) (u q) (final_one q l)
  pushed_weighs q (a ∷ w) l h =
      let r : ℕ = t.target q a in
      let there : r < t.states = closed.target_inside q a l h.0 in
      let f : Option G.Mean = weight_from G t r w in
      let leads : weight_from G p (p.target q a) w ≡ weight_from G p r w = ap (λ i. weight_from G p i w) (pushed.target q a l h.0) in
      elim (pushes r there) [
        | inl live ↦
            ap (scaled G (p.weight q a)) (leads ∙ pushed_weighs r w there h.1)
            ∙ ap (λ k. scaled G k (scaled G (G.inv (u r)) f)) (arc_live q a l h.0 live)
            ∙ along_and_back (G.inv (u q)) (t.weight q a) (u r) f
        | inr dead ↦
            ap (scaled G (p.weight q a)) (leads ∙ dead_weighs G p r w (pushed_dead r there dead.dead) (word_in_pushed w h.1))
            ∙ sym (ap (λ o. scaled G (G.inv (u q)) (scaled G (t.weight q a) o)) (dead_weighs G t r w dead.dead h.1))
      ]

  -- a table whose weights are pushed is in normal form
  pub pushed_normal : Normal G p d
  pushed_normal =
      record {
        pushes =
            λ q l.
            let inside : q < t.states = subst (λ n. q < n) pushed.states l in
            elim (pushes q inside) [
              | inl live ↦
                  inl (
                  record {
                    word = live.word;
                    smallest = pushed_smallest q live.word inside live.smallest;
                    long = live.long;
                    short = live.short;
                    weighs =
                        pushed_weighs q live.word inside live.smallest.is_word
                        ∙ ap (scaled G (G.inv (u q))) live.weighs
                        ∙ ap Some (G.inv_left (u q));
                  })
              | inr dead ↦ inr (record { dead = pushed_dead q inside dead.dead; far = dead.far; one = refl })
            ];
        dead_arcs =
            λ q a l m dead.
            let l' : q < t.states = subst (λ n. q < n) pushed.states l in
            let m' : a < t.letters = subst (λ s. a < s) pushed.letters m in
            let r : ℕ = t.target q a in
            let there : r < t.states = closed.target_inside q a l' m' in
            let dead' : Dead p r = subst (Dead p) (pushed.target q a l' m') dead in
            elim (pushes r there) [
              | inl live ↦
                  absurd (smallest_not_dead p r live.word (pushed_smallest r live.word there live.smallest) dead')
              | inr gone ↦ arc_dead q a l' m' gone.far
            ];
      }
