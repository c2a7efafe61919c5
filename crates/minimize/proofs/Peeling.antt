-- Peeling ends with the states that infinitely many words lead to, or are accepted from. Assumes nothing.
use Rattle.std.proofs.Common.{◌≡◌, ◌≢◌, ℕ, zero, suc, ◌+◌, ◌*◌, ◌%◌, ◌<◌, ◌≤◌, Bool, true, false, ltb, eqb, List, [], ◌∷◌, ◌++◌, length, get_or, set, replicate, Decides, ◌==◌, inl, inr, sym, refl, ap, ◌∙◌, subst, arith}
use Rattle.std.proofs.lemmas.Bool.{true≢false, cases_Bool, cases_lt, cases_eq, ltb-false, eq-eqb, ne_eqb}
use Rattle.std.proofs.lemmas.List.{get_or-replicate, get_or-set_same, get_or-set_other, length-append}
use Rattle.tables.specs.Table.{Table, Word}
use Rattle.theory.specs.Runs.{led, accepts, Closed, Reachable, Live, Dead}
use Rattle.theory.specs.Finitely.{FinitelyMany, InfinitelyMany}
use Rattle.theory.specs.Kernel.{LeadsTo, AcceptedFrom, Kernel, Preamble, CoKernel, CoPreamble}
use Rattle.theory.specs.Hyper.{count_below}
use Rattle.theory.proofs.Lengths.{finitely_many, infinitely_many}
use Rattle.theory.proofs.Basics.{word_append, word_left, word_right, led_append, led_inside}
use Rattle.tables.specs.Book.{laid}
use Rattle.weights.specs.Group.{Group, Kind}
use Rattle.minimize.specs.Rows.{rows_table}
use Rattle.minimize.specs.Compile.{Tells}
use Rattle.minimize.specs.Steps.{none, Pushes, Normal, Marked, has_mark}
use Rattle.minimize.specs.Peeling.{TellsDead, ArcBelow, Arc, Back, Held, Holding, Peeled, Added}
use Rattle.minimize.proofs.Keeping.{kept_stands}

-- a word over s letters of at least k letters has a property
abbrev pub Long : ℕ → (List ℕ → Type 0) → ℕ → Type 0
Long s P k = (w : List ℕ) × Word s w × (k ≤ length w) × P w

-- long words of n states: those of state q come from those of a state that holds q, one letter shorter
pub record Growing (n s : ℕ) (E : ℕ → ℕ → Type 0) (P : ℕ → List ℕ → Type 0) : Type 0 where
  pub grows : (p q k : ℕ) → p < n → E p q → Long s (P p) k → Long s (P q) (suc k)
  pub shrinks : (q k : ℕ) → q < n → Long s (P q) (suc k) → (p : ℕ) × (p < n) × E p q × Long s (P p) k

-- where a peeling stands: marked states have a word, and those with long words are marked
pub record Peeling (n s : ℕ) (P : ℕ → List ℕ → Type 0) (m : ℕ → Bool) : Type 0 where
  pub some : (q : ℕ) → q < n → m q ≡ true → Long s (P q) 0
  pub depth : ℕ
  pub all : (q : ℕ) → q < n → Long s (P q) depth → m q ≡ true

-- a round makes words one letter longer
pub peeling_more :
    {n s : ℕ} {E : ℕ → ℕ → Type 0} {P : ℕ → List ℕ → Type 0} {m left : ℕ → Bool} → Growing n s E P → Peeling n s P m →
    Peeled n E m left → Peeling n s P left
peeling_more {s = s} {P = P} growing before round =
    record {
      some = λ q l e. before.some q l (round.was q l e);
      depth = suc before.depth;
      all =
          λ q l long.
          let p = growing.shrinks q before.depth l long in
          let shorter : Long s (P q) before.depth = (long.0, long.1, omega (arith, long.2), long.3) in
          round.keeps q l (before.all q l shorter)
          (record { by = p.0; inside = p.1; is_marked = before.all p.0 p.1 p.3; holds = p.2 });
    }

-- a word that has a letter has a last one
last_letter : (b : ℕ) (w : List ℕ) → (v : List ℕ) × (a : ℕ) × (v ++ (a ∷ []) ≡ b ∷ w)
last_letter b [] = ([], b, refl)
last_letter b (c ∷ w) =
    let r = last_letter c w in
    (b ∷ r.0, r.1, ap (λ x. b ∷ x) r.2)

module _ {M : Type 0} (t : Table M) (closed : Closed t) where
  leading_shrinks :
      (q k : ℕ) (w : List ℕ) → Word t.letters w → suc k ≤ length w → LeadsTo t q w →
      (p : ℕ) × (p < t.states) × Arc t p q × Long t.letters (LeadsTo t p) k
  leading_shrinks q k [] h long e = absurd (omega arith)
  leading_shrinks q k (b ∷ w) h long e =
      let r = last_letter b w in
      let v : List ℕ = r.0 in
      let a : ℕ = r.1 in
      let word : Word t.letters (v ++ (a ∷ [])) = subst (Word t.letters) (sym r.2) h in
      let first : Word t.letters v = word_left t.letters v (a ∷ []) word in
      let last : Word t.letters (a ∷ []) = word_right t.letters v (a ∷ []) word in
      let size : length v + 1 ≡ length (b ∷ w) = sym (length-append v (a ∷ [])) ∙ ap length r.2 in (
        led t t.start v,
        led_inside t closed t.start v closed.start_inside first,
        record {
          letter = a;
          is_letter = last.0;
          leads = sym (led_append t t.start v (a ∷ [])) ∙ ap (led t t.start) r.2 ∙ e;
        },
        (v, first, omega arith, refl),
      )

  pub leading : Growing t.states t.letters (Arc t) (LeadsTo t)
  leading =
      record {
        grows =
            λ p q k l arc long. (
              long.0 ++ (arc.letter ∷ []),
              word_append t.letters long.0 (arc.letter ∷ []) long.1 (arc.is_letter, tt),
              omega (arith, length-append long.0 (arc.letter ∷ []), long.2),
              led_append t t.start long.0 (arc.letter ∷ []) ∙ ap (λ x. t.target x arc.letter) long.3 ∙ arc.leads,
            );
        shrinks = λ q k l long. leading_shrinks q k long.0 long.1 long.2 long.3;
      }

  accepted_shrinks :
      (q k : ℕ) (w : List ℕ) → q < t.states → Word t.letters w → suc k ≤ length w → AcceptedFrom t q w →
      (p : ℕ) × (p < t.states) × Back t p q × Long t.letters (AcceptedFrom t p) k
  accepted_shrinks q k [] l h long e = absurd (omega arith)
  accepted_shrinks q k (a ∷ w) l h long e = (
    t.target q a,
    closed.target_inside q a l h.0,
    record { letter = a; is_letter = h.0; leads = refl },
    (w, h.1, omega arith, e),
  )

  pub accepted : Growing t.states t.letters (Back t) (AcceptedFrom t)
  accepted =
      record {
        grows =
            λ p q k l arc long. (
              arc.letter ∷ long.0,
              (arc.is_letter, long.1),
              omega (arith, long.2),
              ap (λ x. accepts t x long.0) arc.leads ∙ long.3,
            );
        shrinks = λ q k l long. accepted_shrinks q k long.0 l long.1 long.2 long.3;
      }

-- places below i hold what f says, and the others what they held before
pub record Done (f : ℕ → ℕ) (i : ℕ) (before after : List ℕ) : Type 0 where
  pub new : (q : ℕ) → q < i → get_or after q 0 ≡ f q
  pub rest : (q : ℕ) → i ≤ q → get_or after q 0 ≡ get_or before q 0

-- a round after which as many states are marked took no mark away
settled :
    (n : ℕ) (E : ℕ → ℕ → Type 0) (m left : ℕ → Bool) → Peeled n E m left → ltb (count_below left n) (count_below m n) ≡ false →
    (q : ℕ) → q < n → left q ≡ true → Held n E left q
settled n E m left round same q l e =
    let more = ltb-false (count_below left n) (count_below m n) same in
    let h = round.held q l e in
    record {
      by = h.by;
      inside = h.inside;
      is_marked = kept_stands m left n round.was more h.by h.inside h.is_marked;
      holds = h.holds;
    }

-- states are held by one more
module _ (k n : ℕ) (E : ℕ → ℕ → Type 0) (m held : ℕ → Bool) where
  later : (q : ℕ) → Held k E m q → Held (k + 1) E m q
  later q h = record { by = h.by; inside = omega (arith, h.inside); is_marked = h.is_marked; holds = h.holds }

  earlier : (q : ℕ) (h : Held (k + 1) E m q) → h.by ≢ k → Held k E m q
  earlier q h other = record { by = h.by; inside = omega (arith, h.inside); is_marked = h.is_marked; holds = h.holds }

  pub held_skip : Holding k n E m held → m k ≡ false → Holding (k + 1) n E m held
  held_skip holding e =
      record {
        met =
            λ q l h.
            elim (cases_eq h.by k) [
              | inl same ↦ absurd (true≢false (sym h.is_marked ∙ ap m same ∙ e))
              | inr other ↦ holding.met q l (earlier q h other)
            ];
        only = λ q l f. later q (holding.only q l f);
      }

  pub held_more :
      (after : ℕ → Bool) → Holding k n E m held → m k ≡ true → Added (E k) held after → Holding (k + 1) n E m after
  held_more after holding e added =
      record {
        met =
            λ q l h.
            elim (cases_eq h.by k) [
              | inl same ↦ added.met q (subst (λ p. E p q) same h.holds)
              | inr other ↦ added.stays q (holding.met q l (earlier q h other))
            ];
        only =
            λ q l f.
            elim (added.only q f) [
              | inl before ↦ later q (holding.only q l before)
              | inr here ↦ record { by = k; inside = omega arith; is_marked = e; holds = here }
            ];
      }

-- marks after one is written
module _ (held : List ℕ) (i x : ℕ) (room : i < length held) where
  mark_here : (q : ℕ) → q ≡ i → has_mark (set held i x) q ≡ (x == 1)
  mark_here q e = ap (λ p. has_mark (set held i x) p) e ∙ ap (λ y. y == 1) (get_or-set_same held i x 0 room)

  mark_other : (q : ℕ) → q ≢ i → has_mark (set held i x) q ≡ has_mark held q
  mark_other q other = ap (λ y. y == 1) (get_or-set_other held i q x 0 other)

-- the target of one more arc is marked
pub added_more :
    {M : Type 0} (t : Table M) (s p i : ℕ) (before : ℕ → Bool) (held : List ℕ) → t.target p s ≡ i → i < length held →
    Added (ArcBelow t s p) before (has_mark held) → Added (ArcBelow t (s + 1) p) before (has_mark (set held i 1))
added_more t s p i before held leads room added =
    record {
      stays = λ q e. stays q (added.stays q e);
      met =
          λ q arc.
          elim (cases_eq arc.letter s) [
            | inl last ↦ mark_here held i 1 room q (sym arc.leads ∙ ap (t.target p) last ∙ leads)
            | inr other ↦
                stays q (added.met q (record { letter = arc.letter; is_letter = omega (arith, arc.is_letter, other); leads = arc.leads }))
          ];
      only =
          λ q e.
          elim (cases_eq q i) [
            | inl same ↦ inr (record { letter = s; is_letter = omega arith; leads = leads ∙ sym same })
            | inr other ↦
                elim (added.only q (sym (mark_other held i 1 room q other) ∙ e)) [
                  | inl was ↦ inl was
                  | inr arc ↦
                      inr (record { letter = arc.letter; is_letter = omega (arith, arc.is_letter); leads = arc.leads })
                ]
          ];
    }
  where
    stays : (q : ℕ) → has_mark held q ≡ true → has_mark (set held i 1) q ≡ true
    stays q e =
        elim (cases_eq q i) [
          | inl same ↦ mark_here held i 1 room q same
          | inr other ↦ mark_other held i 1 room q other ∙ e
        ]

-- one more state is marked where it is held
pub holding_more :
    (n k i x : ℕ) (E : ℕ → ℕ → Type 0) (m : ℕ → Bool) (b : Bool) (held : List ℕ) → i ≡ k → k < length held → (x == 1) ≡ b →
    Decides b (Held n E m k) → Holding n k E m (has_mark held) → Holding n (k + 1) E m (has_mark (set held i x))
holding_more n k i x E m b held at room is decides holding =
    let inside : i < length held = omega arith in
    record {
      met =
          λ q l h.
          elim (cases_eq q k) [
            | inl last ↦
                mark_here held i x inside q (last ∙ sym at) ∙ is ∙ decides.1 (subst (Held n E m) last h)
            | inr other ↦ mark_other held i x inside q (omega arith) ∙ holding.met q (omega arith) h
          ];
      only =
          λ q l e.
          elim (cases_eq q k) [
            | inl last ↦
                subst (Held n E m) (sym last) (decides.0 (sym is ∙ sym (mark_here held i x inside q (last ∙ sym at)) ∙ e))
            | inr other ↦ holding.only q (omega arith) (sym (mark_other held i x inside q (omega arith)) ∙ e)
          ];
    }

-- a round that takes no mark away: words of every length are there for a marked state, and short ones alone for another
module _ (n s : ℕ) (E : ℕ → ℕ → Type 0) (P : ℕ → List ℕ → Type 0) (growing : Growing n s E P) (m : ℕ → Bool) where
  held_long :
      Peeling n s P m → ((q : ℕ) → q < n → m q ≡ true → Held n E m q) → (k q : ℕ) → q < n → m q ≡ true → Long s (P q) k
  held_long before held zero q l e = before.some q l e
  held_long before held (suc k) q l e =
      let h = held q l e in
      growing.grows h.by q k h.inside h.holds (held_long before held k h.by h.inside h.is_marked)

  peeled_short :
      (before : Peeling n s P m) (q : ℕ) → q < n → m q ≡ false → (w : List ℕ) → Word s w → P q w → length w < before.depth
  peeled_short before q l e w h p =
      elim (cases_lt (length w) before.depth) [
        | inl short ↦ short
        | inr long ↦ absurd (true≢false (sym (before.all q l (w, h, long, p)) ∙ e))
      ]

  told_cases :
      Peeling n s P m → ((q : ℕ) → q < n → m q ≡ true → Held n E m q) → (q : ℕ) → q < n →
      Tells (m q) (InfinitelyMany s (P q)) (FinitelyMany s (P q))
  told_cases before held q l =
      elim (cases_Bool (m q)) [
        | inl e ↦
            subst (λ b. Tells b (InfinitelyMany s (P q)) (FinitelyMany s (P q))) (sym e)
            (infinitely_many (λ k. held_long before held k q l e))
        | inr e ↦
            subst (λ b. Tells b (InfinitelyMany s (P q)) (FinitelyMany s (P q))) (sym e)
            (finitely_many before.depth (peeled_short before q l e))
      ]

last_round :
    {n s : ℕ} {E : ℕ → ℕ → Type 0} {P : ℕ → List ℕ → Type 0} {m left : ℕ → Bool} → Growing n s E P → Peeling n s P m →
    Peeled n E m left → ltb (count_below left n) (count_below m n) ≡ false → (q : ℕ) → q < n →
    Tells (left q) (InfinitelyMany s (P q)) (FinitelyMany s (P q))
last_round {n = n} {s = s} {E = E} {P = P} {m = m} {left = left} growing before round same =
    told_cases n s E P growing left (peeling_more growing before round) (settled n E m left round same)

pub told_as : {X Y Z W : Type 0} (b : Bool) → (X → Z) → (Y → W) → Tells b X Y → Tells b Z W
told_as true f g x = f x
told_as false f g y = g y

module _ {M : Type 0} (t : Table M) (closed : Closed t) (m left : ℕ → Bool) where
  pub kernel_told :
      Peeling t.states t.letters (LeadsTo t) m → Peeled t.states (Arc t) m left →
      ltb (count_below left t.states) (count_below m t.states) ≡ false → (q : ℕ) → q < t.states →
      Tells (left q) (Kernel t q) (Preamble t q)
  kernel_told before round same q l =
      told_as (left q) (λ x. record { words = x }) (λ x. record { words = x }) (last_round (leading t closed) before round same q l)

  pub co_kernel_told :
      Peeling t.states t.letters (AcceptedFrom t) m → Peeled t.states (Back t) m left →
      ltb (count_below left t.states) (count_below m t.states) ≡ false → (q : ℕ) → q < t.states →
      Tells (left q) (CoKernel t q) (CoPreamble t q)
  co_kernel_told before round same q l =
      told_as (left q) (λ x. record { words = x }) (λ x. record { words = x }) (last_round (accepted t closed) before round same q l)

-- all states are marked at first
pub kernel_first :
    {M : Type 0} (t : Table M) (m : List ℕ) (k : ℕ) → ((q : ℕ) → q < t.states → Reachable t q) → t.states ≤ k →
    m ≡ replicate k 1 → Peeling t.states t.letters (LeadsTo t) (has_mark m) × ((q : ℕ) → q < t.states → get_or m q 0 ≤ 1)
kernel_first t m k reached room filled = (
  record {
    some = λ q l e. let r = reached q l in (r.by, r.is_word, omega arith, r.leads);
    depth = 0;
    all = λ q l long. eq-eqb (get_or m q 0) 1 (one q l);
  },
  λ q l. omega (arith, one q l),
)
  where
    one : (q : ℕ) → q < t.states → get_or m q 0 ≡ 1
    one q l = ap (λ xs. get_or xs q 0) filled ∙ get_or-replicate k q 1 0 (omega arith)

-- the distances of the pushes tell the dead states
pub pushes_tell : (G : Group) (t : Table G.Mean) (d : ℕ → ℕ) (u : ℕ → G.Mean) → Pushes G t d u → TellsDead t d
pushes_tell G t d u pushes = record { tells = tells }
  where
    tells : (q : ℕ) → q < t.states → Tells (d q == none) (Dead t q) (Live t q)
    tells q l =
        elim (pushes q l) [
          | inl live ↦
              subst (λ b. Tells b (Dead t q) (Live t q)) (sym (ne_eqb (d q) none (omega (arith, live.short))))
              (record { by = live.word; is_word = live.smallest.is_word; accepted = live.smallest.accepted })
          | inr dead ↦ subst (λ b. Tells b (Dead t q) (Live t q)) (sym (eq-eqb (d q) none dead.far)) dead.dead
        ]

-- so do those of a table that is normal
pub normal_tells : (G : Group) (t : Table G.Mean) (d : ℕ → ℕ) → Normal G t d → TellsDead t d
normal_tells G t d normal = pushes_tell G t d (λ q. G.one) normal.pushes

-- what the two searches tell
pub marked_told :
    (G : Group) (t : Table G.Mean) (kernel co_kernel : List ℕ) →
    ((q : ℕ) → q < t.states → Tells (has_mark kernel q) (Kernel t q) (Preamble t q)) →
    ((q : ℕ) → q < t.states → Tells (has_mark co_kernel q) (CoKernel t q) (CoPreamble t q)) → Marked G t (has_mark kernel) (has_mark co_kernel)
marked_told G t kernel co_kernel k o = record { kernel = k; co_kernel = o }

-- writing kernel and co-kernel into the marks keeps which states are final
pub final_stays :
    {W : Type 0} (K : Kind W) (ts : List ℕ) (ws : List W) (before after : List ℕ) (s n k o : ℕ) (q : ℕ) →
    get_or after q 0 ≡ get_or before q 0 % 2 + 2 * k + 4 * o →
    (rows_table K (laid ts ws after s n)).final q ≡ (rows_table K (laid ts ws before s n)).final q
final_stays K ts ws before after s n k o q e =
    let same : get_or after q 0 % 2 ≡ get_or before q 0 % 2 = omega arith in
    ap (λ x. eqb x 1) same
