-- A copy of the reachable states of a table, arc by arc. Assumes nothing.
use Rattle.std.proofs.Common.{◌≡◌, ℕ, zero, suc, ◌+◌, ◌*◌, ◌/◌, ◌%◌, ◌<◌, ◌≤◌, Bool, true, false, cond, eqb, ◌≢◌, List, [], ◌∷◌, length, get_or, set, take, ◌⊎◌, inl, inr, sym, refl, ap, ◌∙◌, subst, below_more, arith}
use Rattle.std.proofs.Math.Nat.{div-lt_iff_lt-mul, mul-le-mul_right}
use Rattle.std.proofs.lemmas.Nat.{div-mul-add, mod-mul-add, div-add-mod'}
use Rattle.std.proofs.lemmas.List.{get_or-take, length-take, get_or-set_same, get_or-set_other}
use Rattle.std.proofs.lemmas.Bool.{cases_lt, cases_eq, cases_order, cond-true, cond-false, eq-eqb, ne_eqb}
use Rattle.weights.specs.Group.{Kind}
use Rattle.tables.specs.Table.{Table, Lawful, Word}
use Rattle.tables.specs.Book.{laid, place}
use Rattle.tables.specs.Sheet.{mean_at}
use Rattle.tables.proofs.Places.{place_inside, row_before}
use Rattle.theory.specs.Runs.{Closed, Reachable, led}
use Rattle.theory.specs.Least.{MetBefore}
use Rattle.theory.proofs.Basics.{lawful_closed, reachable_inside, reachable_next}
use Rattle.theory.proofs.Pigeonhole.{pigeonhole}
use Rattle.minimize.specs.Rows.{Laid, rows_table}
use Rattle.minimize.specs.Steps.{none, Copied}
use Rattle.minimize.specs.Copy.{Meets, Numbered, LedToBefore, ArcsCopied, MarksCopied}
use Rattle.minimize.proofs.Memory.{mean_set_same, mean_set_other}

-- one value and the values of f
abbrev with_first : ℕ → (ℕ → ℕ) → ℕ → ℕ
with_first p f zero = p
with_first p f (suc i) = f i

-- where m different numbers below n are taken, and p is none of them, there is room for it
pub room_for :
    (m n p : ℕ) (f : ℕ → ℕ) → p < n → ((i : ℕ) → i < m → f i < n) → ((i j : ℕ) → i < j → j < m → f i ≢ f j) →
    ((i : ℕ) → i < m → f i ≢ p) → m < n
room_for m n p f own inside apart other =
    elim (cases_lt m n) [
      | inl h ↦ h
      | inr full ↦
          (let two = pigeonhole (suc m) n (with_first p f) (omega arith) below in
          absurd (clash two.0 two.1 two.2 two.3 two.4))
    ]
  where
    below : (i : ℕ) → i < suc m → with_first p f i < n
    below zero l = own
    below (suc i) l = inside i (omega arith)

    clash : (i j : ℕ) → i < j → j < suc m → with_first p f i ≡ with_first p f j → ⊥
    clash zero zero l h e = omega arith
    clash zero (suc j) l h e = other j (omega arith) (sym e)
    clash (suc i) zero l h e = omega arith
    clash (suc i) (suc j) l h e = apart i j (omega arith) (omega arith) e

-- state p is met after m states
module _ {M : Type 0} (t : Table M) (laws : Lawful t) (ns os : List ℕ) (m p : ℕ) (before : Numbered t ns os m) (own : p < t.states) where
  -- a state without a number is not in the order
  not_ordered : get_or ns p 0 ≡ none → (i : ℕ) → i < m → get_or os i 0 ≢ p
  not_ordered unmet i l e =
      let x : i ≡ none = sym (before.number i l) ∙ ap (λ q. get_or ns q 0) e ∙ unmet in
      omega (arith, before.few, laws.few_states)

  -- a state without a number gets one that is below the count of states
  pub number_fits : get_or ns p 0 ≡ none → m < t.states
  number_fits unmet =
      room_for m t.states p (λ i. get_or os i 0) own
      (λ i l. reachable_inside t (lawful_closed t laws) (get_or os i 0) (before.reachable i l))
      (λ i j l h e. let x : i ≡ j = sym (before.number i (omega arith)) ∙ ap (λ q. get_or ns q 0) e ∙ before.number j h in omega arith)
      (not_ordered unmet)

  -- what is known then
  pub record Met (ns' os' : List ℕ) (m' : ℕ) : Type 0 where
    pub numbered : Numbered t ns' os' m'
    pub more : m ≤ m'
    pub kept : (i : ℕ) → i < m → get_or os' i 0 ≡ get_or os i 0
    pub number : get_or ns' p 0 < m'
    pub next : get_or ns' p 0 ≤ m
    pub state : get_or os' (get_or ns' p 0) 0 ≡ p
    pub each : (i : ℕ) → i < m' → (i < m) ⊎ (i ≡ get_or ns' p 0)

  module _ (ns' os' : List ℕ) (m' : ℕ) (number_room : t.states ≤ length ns) (order_room : t.states ≤ length os) (reachable : Reachable t p) where
    met_first : get_or ns p 0 ≡ none → ns' ≡ set ns p m → os' ≡ set os m p → m' ≡ m + 1 → Met ns' os' m'
    met_first unmet e f g =
        let fits : m < t.states = number_fits unmet in
        let here : get_or ns' p 0 ≡ m = ap (λ xs. get_or xs p 0) e ∙ get_or-set_same ns p m 0 (omega arith) in
        let last : get_or os' m 0 ≡ p = ap (λ xs. get_or xs m 0) f ∙ get_or-set_same os m p 0 (omega arith) in
        let others : (q : ℕ) → q ≢ p → get_or ns' q 0 ≡ get_or ns q 0 = λ q h. ap (λ xs. get_or xs q 0) e ∙ get_or-set_other ns p q m 0 h in
        let earlier : (i : ℕ) → i < m → get_or os' i 0 ≡ get_or os i 0 =
        λ i l. let h : i ≢ m = omega arith in ap (λ xs. get_or xs i 0) f ∙ get_or-set_other os m i p 0 h in
        record {
          numbered =
              record {
                some = omega arith;
                few = omega arith;
                start = earlier 0 before.some ∙ before.start;
                reachable =
                    subst (λ n. (i : ℕ) → i < n → Reachable t (get_or os' i 0)) (sym g)
                    (below_more (λ i. Reachable t (get_or os' i 0)) m
                    (λ i l. subst (Reachable t) (sym (earlier i l)) (before.reachable i l)) (subst (Reachable t) (sym last) reachable));
                number =
                    subst (λ n. (i : ℕ) → i < n → get_or ns' (get_or os' i 0) 0 ≡ i) (sym g)
                    (below_more (λ i. get_or ns' (get_or os' i 0) 0 ≡ i) m
                    (λ i l.
                    ap (λ q. get_or ns' q 0) (earlier i l) ∙ others (get_or os i 0) (not_ordered unmet i l) ∙ before.number i l)
                    (ap (λ q. get_or ns' q 0) last ∙ here));
                inside =
                    λ q l h.
                    elim (cases_eq q p) [
                      | inl same ↦ (let x : get_or ns' q 0 ≡ m = ap (λ r. get_or ns' r 0) same ∙ here in omega arith)
                      | inr other ↦
                          (let x : get_or ns' q 0 ≡ get_or ns q 0 = others q other in
                          let y : get_or ns q 0 < m = before.inside q l (λ z. h (x ∙ z)) in
                          omega arith)
                    ];
                state =
                    λ q l h.
                    elim (cases_eq q p) [
                      | inl same ↦
                          ap (λ r. get_or os' r 0) (ap (λ r. get_or ns' r 0) same ∙ here) ∙ last ∙ sym same
                      | inr other ↦
                          (let x : get_or ns' q 0 ≡ get_or ns q 0 = others q other in
                          let told : get_or ns q 0 ≢ none = λ z. h (x ∙ z) in
                          ap (λ r. get_or os' r 0) x ∙ earlier (get_or ns q 0) (before.inside q l told) ∙ before.state q l told)
                    ];
              };
          more = omega arith;
          kept = earlier;
          number = omega arith;
          next = omega arith;
          state = ap (λ i. get_or os' i 0) here ∙ last;
          each = λ i l. elim (cases_lt i m) [ inl h ↦ inl h | inr h ↦ inr (omega arith) ];
        }

    met_again : get_or ns p 0 ≢ none → ns' ≡ ns → os' ≡ os → m' ≡ m → Met ns' os' m'
    met_again told e f g =
        let number : get_or ns p 0 < m = before.inside p own told in
        let same : get_or ns' p 0 ≡ get_or ns p 0 = ap (λ xs. get_or xs p 0) e in
        record {
          numbered =
              subst (λ xs. Numbered t xs os' m') (sym e)
              (subst (λ xs. Numbered t ns xs m') (sym f) (subst (Numbered t ns os) (sym g) before));
          more = omega arith;
          kept = λ i l. ap (λ xs. get_or xs i 0) f;
          number = omega arith;
          next = omega arith;
          state = ap (λ i. get_or os' i 0) same ∙ ap (λ xs. get_or xs (get_or ns p 0) 0) f ∙ before.state p own told;
          each = λ i l. inl (omega arith);
        }

    pub met : Meets p m ns os ns' os' m' → Met ns' os' m'
    met step =
        elim (cases_eq (get_or ns p 0) none) [
          | inl unmet ↦
              (let e : eqb (get_or ns p 0) none ≡ true = eq-eqb (get_or ns p 0) none unmet in
              met_first unmet (step.numbers ∙ cond-true _ _ _ e) (step.order ∙ cond-true _ _ _ e) (step.count ∙ cond-true _ _ _ e))
          | inr told ↦
              (let e : eqb (get_or ns p 0) none ≡ false = ne_eqb (get_or ns p 0) none told in
              met_again told (step.numbers ∙ cond-false _ _ _ e) (step.order ∙ cond-false _ _ _ e) (step.count ∙ cond-false _ _ _ e))
        ]

-- arc k of m states is that of a state among them on a letter
pub arc_inside : (s m k : ℕ) → 1 ≤ s → k < m * s → (k / s < m) × (k % s < s)
arc_inside s m k some l =
    let positive : 0 < s = omega arith in
    ((div-lt_iff_lt-mul {k = s} {x = k} {y = m} positive).1 l, omega arith)

-- the state that arc k of m states leaves, and where it leads
module _ {M : Type 0} (t : Table M) (laws : Lawful t) (ns os : List ℕ) (m k : ℕ) (before : Numbered t ns os m) (more : k < m * t.letters) where
  from_reachable : Reachable t (get_or os (k / t.letters) 0)
  from_reachable = before.reachable (k / t.letters) (arc_inside t.letters m k laws.some_letter more).0

  pub from_inside : get_or os (k / t.letters) 0 < t.states
  from_inside = reachable_inside t (lawful_closed t laws) (get_or os (k / t.letters) 0) from_reachable

  pub to_reachable : (p : ℕ) → p ≡ t.target (get_or os (k / t.letters) 0) (k % t.letters) → Reachable t p
  to_reachable p e =
      subst (Reachable t) (sym e)
      (reachable_next t (get_or os (k / t.letters) 0) (k % t.letters) from_reachable (arc_inside t.letters m k laws.some_letter more).1)

led_kept :
    (ts ts' : List ℕ) (k k' i : ℕ) → k ≤ k' → ((j : ℕ) → j < k → get_or ts' (1 + j) 0 ≡ get_or ts (1 + j) 0) →
    LedToBefore ts k i → LedToBefore ts' k' i
led_kept ts ts' k k' i more kept (inl e) = inl e
led_kept ts ts' k k' i more kept (inr x) = inr (x.0, omega (arith, x.1), kept x.0 x.1 ∙ x.2)

-- arc k is copied: it leads to state p, which is met
module _ {W : Type 0} (K : Kind W) (t : Table K.group.Mean) (laws : Lawful t) (ts : List ℕ) (ws : List W) (ns os : List ℕ) (m k p : ℕ)
    (before : Numbered t ns os m) (own : p < t.states) (copied : ArcsCopied K t ts ws os m k) (more : k < m * t.letters) where
  pub copied_more :
      (ns' os' : List ℕ) (m' v : ℕ) (x : W) → Met t laws ns os m p before own ns' os' m' →
      p ≡ t.target (get_or os (k / t.letters) 0) (k % t.letters) → v ≡ get_or ns' p 0 →
      K.mean x ≡ t.weight (get_or os (k / t.letters) 0) (k % t.letters) →
      1 + t.states * t.letters ≤ length ts → 1 + t.states * t.letters ≤ length ws →
      ArcsCopied K t (set ts (1 + k) v) (set ws (1 + k) x) os' m' (k + 1)
  copied_more ns' os' m' v x met leads number weighs target_room weight_room =
      let s = t.letters in
      let ts' = set ts (1 + k) v in
      let ws' = set ws (1 + k) x in
      let size : m * s ≤ t.states * s = mul-le-mul_right s before.few in
      let size' : m * s ≤ m' * s = mul-le-mul_right s met.more in
      let here : get_or ts' (1 + k) 0 ≡ v = get_or-set_same ts (1 + k) v 0 (omega arith) in
      let kept : (j : ℕ) → j < k → get_or ts' (1 + j) 0 ≡ get_or ts (1 + j) 0 =
      λ j l. let h : 1 + j ≢ 1 + k = omega arith in get_or-set_other ts (1 + k) (1 + j) v 0 h in
      let first : 0 ≢ 1 + k = omega arith in
      let from : (j : ℕ) → j < m * s → get_or os' (j / s) 0 ≡ get_or os (j / s) 0 =
      λ j l. met.kept (j / s) (arc_inside s m j laws.some_letter l).0 in
      record {
        numbered = omega arith;
        start = get_or-set_other ts (1 + k) 0 v 0 first ∙ copied.start;
        start_weight = mean_set_other K ws (1 + k) 0 x first ∙ copied.start_weight;
        inside =
            below_more (λ j. get_or ts' (1 + j) 0 < m') k
            (λ j l. let e = kept j l in let h = copied.inside j l in omega (arith, met.more)) (omega (arith, met.number));
        target =
            below_more (λ j. get_or os' (get_or ts' (1 + j) 0) 0 ≡ t.target (get_or os' (j / s) 0) (j % s)) k
            (λ j l.
            ap (λ r. get_or os' r 0) (kept j l)
            ∙ met.kept (get_or ts (1 + j) 0) (copied.inside j l)
            ∙ copied.target j l
            ∙ ap (λ q. t.target q (j % s)) (sym (from j (omega arith))))
            (ap (λ r. get_or os' r 0) (here ∙ number)
            ∙ met.state
            ∙ leads
            ∙ ap (λ q. t.target q (k % s)) (sym (from k more)));
        weight =
            below_more (λ j. mean_at K ws' (1 + j) ≡ t.weight (get_or os' (j / s) 0) (j % s)) k
            (λ j l.
            let h : 1 + j ≢ 1 + k = omega arith in
            mean_set_other K ws (1 + k) (1 + j) x h
            ∙ copied.weight j l
            ∙ ap (λ q. t.weight q (j % s)) (sym (from j (omega arith))))
            (mean_set_same K ws (1 + k) x (omega arith) ∙ weighs ∙ ap (λ q. t.weight q (k % s)) (sym (from k more)));
        before =
            λ j i l h.
            below_more (λ j. (i : ℕ) → i < get_or ts' (1 + j) 0 → LedToBefore ts' j i) k
            (λ j l i h.
            let e = kept j l in
            led_kept ts ts' j j i (omega arith) (λ b n. kept b (omega arith)) (copied.before j i l (omega arith)))
            (λ i h. led_kept ts ts' k k i (omega arith) kept (copied.met i (omega (arith, met.next))))
            j l i h;
        met =
            λ i l.
            elim (met.each i l) [
              | inl h ↦ led_kept ts ts' k (k + 1) i (omega arith) kept (copied.met i h)
              | inr e ↦ inr (k, omega arith, here ∙ number ∙ sym e)
            ];
      }

-- the start is copied, and no arc yet
pub start_copied :
    {W : Type 0} (K : Kind W) (t : Table K.group.Mean) (ts : List ℕ) (ws : List W) (os : List ℕ) (x : W) →
    1 ≤ length ts → 1 ≤ length ws → K.mean x ≡ t.start_weight → ArcsCopied K t (set ts 0 0) (set ws 0 x) os 1 0
start_copied K t ts ws os x target_room weight_room weighs =
    record {
      numbered = omega arith;
      start = get_or-set_same ts 0 0 0 (omega arith);
      start_weight = mean_set_same K ws 0 x (omega arith) ∙ weighs;
      inside = λ j l. absurd (omega arith);
      target = λ j l. absurd (omega arith);
      weight = λ j l. absurd (omega arith);
      before = λ j i l h. absurd (omega arith);
      met = λ i l. inl (omega arith);
    }

-- the first n states of the order, where n is m
module _ {M : Type 0} (t : Table M) (os : List ℕ) (n m : ℕ) (same : n ≡ m) where
  -- they are states of the table
  pub taken_inside :
      (ns : List ℕ) → Lawful t → Numbered t ns os m → (i : ℕ) → i < length (take n os) → get_or (take n os) i 0 < t.states
  taken_inside ns laws numbered i l =
      let below : i < n = omega (arith, length-take n os) in
      rw (get_or-take n os i 0 below)
      (reachable_inside t (lawful_closed t laws) (get_or os i 0) (numbered.reachable i (omega arith)))

  module _ (ms : List ℕ) (room : m ≤ length os) (marked : MarksCopied t ms (take n os) (length (take n os))) where
    -- their marks are those of the whole order
    pub marks_taken : MarksCopied t ms os m
    marks_taken i l = let below : i < n = omega arith in rw (get_or-take n os i 0 below) at (marked i (omega (arith, length-take n os)))

    pub marks_small : (i : ℕ) → i < m → get_or ms i 0 ≤ 1
    marks_small i l = rw (marks_taken i l) (small (t.final (get_or os i 0)))
      where
        small : (b : Bool) → cond b 1 0 ≤ 1
        small true = omega arith
        small false = omega arith

-- all arcs of m states are copied
module _ {W : Type 0} (K : Kind W) (t : Table K.group.Mean) (laws : Lawful t) (ts : List ℕ) (ws : List W) (ms ns os : List ℕ) (m : ℕ)
    (numbered : Numbered t ns os m) (copied : ArcsCopied K t ts ws os m (m * t.letters)) where
  abbrev copy : Table K.group.Mean
  copy = rows_table K (laid ts ws ms t.letters m)

  -- the arc of state q on letter a, by its number
  abbrev arc : ℕ → ℕ → ℕ
  arc q a = q * t.letters + a

  arc_below : (q a : ℕ) → q < m → a < t.letters → arc q a < m * t.letters
  arc_below q a l h = let p = place_inside t.letters q a m l h in omega arith

  target_of : (q a : ℕ) → copy.target q a ≡ get_or ts (1 + arc q a) 0
  target_of q a = ap (λ j. get_or ts j 0) (omega arith)

  closed : Closed copy
  closed =
      record {
        start_inside = omega (arith, copied.start, numbered.some);
        target_inside = λ q a l h. let e = target_of q a in omega (arith, copied.inside (arc q a) (arc_below q a l h));
      }

  target_is : (q a : ℕ) → q < m → a < t.letters → get_or os (copy.target q a) 0 ≡ t.target (get_or os q 0) a
  target_is q a l h =
      ap (λ r. get_or os r 0) (target_of q a)
      ∙ copied.target (arc q a) (arc_below q a l h)
      ∙ ap (λ p. t.target (get_or os p 0) (arc q a % t.letters)) (div-mul-add q t.letters a h)
      ∙ ap (t.target (get_or os q 0)) (mod-mul-add q t.letters a h)

  weight_is : (q a : ℕ) → q < m → a < t.letters → copy.weight q a ≡ t.weight (get_or os q 0) a
  weight_is q a l h =
      ap (mean_at K ws) (let e : place t.letters q a ≡ 1 + arc q a = omega arith in e)
      ∙ copied.weight (arc q a) (arc_below q a l h)
      ∙ ap (λ p. t.weight (get_or os p 0) (arc q a % t.letters)) (div-mul-add q t.letters a h)
      ∙ ap (t.weight (get_or os q 0)) (mod-mul-add q t.letters a h)

  -- a word leads to a state that is met
  met_by : (w : List ℕ) (q : ℕ) → q < m → Word t.letters w → (r : ℕ) × (r < m) × (get_or os r 0 ≡ led t (get_or os q 0) w)
  met_by [] q l h = (q, l, refl)
  met_by (a ∷ w) q l h =
      let x = met_by w (copy.target q a) (closed.target_inside q a l h.0) h.1 in
      (x.0, x.1, x.2 ∙ ap (λ p. led t p w) (target_is q a l h.0))

  met_before : (q a i : ℕ) → a < t.letters → LedToBefore ts (arc q a) i → arc q a < m * t.letters → MetBefore copy q a i
  met_before q a i h (inl e) l = inl (e ∙ sym copied.start)
  met_before q a i h (inr x) l =
      let s = t.letters in
      let j = x.0 in
      let earlier : j < arc q a = x.1 in
      let at = arc_inside s m j laws.some_letter (omega arith) in
      let whole : j / s * s + j % s ≡ j = div-add-mod' j s in
      let order : (j / s < q) ⊎ ((j / s ≡ q) × (j % s < a)) = ordered (j / s) (j % s) at.1 (omega arith) in
      inr (j / s, j % s, at.0, at.1, order, target_of (j / s) (j % s) ∙ ap (λ b. get_or ts (1 + b) 0) whole ∙ x.2)
    where
      ordered : (p b : ℕ) → b < t.letters → p * t.letters + b < q * t.letters + a → (p < q) ⊎ ((p ≡ q) × (b < a))
      ordered p b bound less =
          elim (cases_order p q) [
            | inl e ↦ inr (e, let same : p * t.letters ≡ q * t.letters = ap (λ r. r * t.letters) e in omega arith)
            | inr (inl lower) ↦ inl lower
            | inr (inr higher) ↦
                (let row : q * t.letters + t.letters ≤ p * t.letters = row_before t.letters q p higher in absurd (omega arith))
          ]

  pub copy_laid :
      1 + t.states * t.letters ≤ length ts → 1 + t.states * t.letters ≤ length ws → t.states ≤ length ms → Laid K (laid ts ws ms t.letters m)
  copy_laid target_room weight_room mark_room =
      let size : m * t.letters ≤ t.states * t.letters = mul-le-mul_right t.letters numbered.few in
      record {
        some_letter = laws.some_letter;
        few_letters = laws.few_letters;
        some_state = numbered.some;
        few_states = omega (arith, numbered.few, laws.few_states);
        target_room = omega arith;
        weight_room = omega arith;
        mark_room = omega (arith, numbered.few);
        closed = closed;
      }

  pub copy_copied : MarksCopied t ms os m → Copied K.group t copy
  copy_copied marked =
      record {
        letters = refl;
        state = λ q. get_or os q 0;
        reachable = numbered.reachable;
        met =
            λ p r.
            let x = met_by r.by 0 numbered.some r.is_word in
            (x.0, x.1, x.2 ∙ ap (λ q. led t q r.by) numbered.start ∙ r.leads);
        once = λ q p l h e. sym (numbered.number q l) ∙ ap (λ r. get_or ns r 0) e ∙ numbered.number p h;
        start = ap (λ q. get_or os q 0) copied.start ∙ numbered.start;
        start_weight = copied.start_weight;
        final = λ q l. ap (λ x. eqb (x % 2) 1) (marked q l) ∙ mark_told (t.final (get_or os q 0));
        target = target_is;
        weight = weight_is;
        closed = closed;
        order =
            record {
              start_first = copied.start;
              arcs =
                  λ q a i l h less.
                  let e = target_of q a in
                  met_before q a i h (copied.before (arc q a) i (arc_below q a l h) (omega arith)) (arc_below q a l h);
            };
      }
    where
      mark_told : (b : Bool) → eqb (cond b 1 0 % 2) 1 ≡ b
      mark_told true = refl
      mark_told false = refl
