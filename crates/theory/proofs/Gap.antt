-- States of a closed table that agree with a factor from some length on agree with it from m - 1 letters on, where m counts the
-- states. Assumes nothing.
use Rattle.std.proofs.Common.{◌≡◌, ℕ, zero, suc, ◌+◌, ◌-◌, ◌<◌, ◌≤◌, cond, ltb, List, [], ◌∷◌, ◌++◌, length, take, drop, Some, None, Option, ◌⊎◌, inl, inr, sym, refl, ap, ◌∙◌, subst, arith}
use Rattle.std.proofs.lemmas.Bool.{cases_lt, cases_order, cond-true, cond-false, lt-ltb, le-ltb}
use Rattle.std.proofs.lemmas.List.{take-append-drop, length-drop, length-append}
use Rattle.weights.specs.Group.{Group}
use Rattle.tables.specs.Table.{Table, Word, scaled, weight_from}
use Rattle.tables.proofs.Reading.{scaled_twice, some_injective}
use Rattle.theory.specs.Runs.{led, Closed}
use Rattle.theory.specs.Series.{Multiple}
use Rattle.theory.proofs.Basics.{cancels_inv, factor_told, word_append, word_left, word_right, led_inside, walked, weight_append, multiple_refl, multiple_sym, multiple_trans, multiple_later, multiple_after}
use Rattle.theory.proofs.Pigeonhole.{pigeonhole}

-- where the goal is absurd, each statement may be taken as holding or not
classical : (A : Type 0) → (A ⊎ (A → ⊥) → ⊥) → ⊥
classical A k = k (inr (λ a. k (inl a)))

-- and where each number below n has a partner, a function gives the partners
chosen :
    (n : ℕ) (P : ℕ → ℕ → Type 0) → ((i : ℕ) → i < n → ((j : ℕ) × P i j → ⊥) → ⊥) →
    ((f : ℕ → ℕ) × ((i : ℕ) → i < n → P i (f i)) → ⊥) → ⊥
chosen zero P some never = never (λ i. 0, λ i l. absurd (omega arith))
chosen (suc n) P some never =
    chosen n P (λ i l. some i (omega arith))
    (λ c.
    some n (omega arith)
    (λ j.
    never (
      λ i. cond (ltb i n) (c.0 i) j.0,
      λ i l.
          elim (cases_lt i n) [
            | inl h ↦ subst (P i) (sym (cond-true (ltb i n) (c.0 i) j.0 (lt-ltb i n h))) (c.1 i h)
            | inr h ↦
                (let e : n ≡ i = omega arith in
                subst (P i) (sym (cond-false (ltb i n) (c.0 i) j.0 (le-ltb i n h))) (subst (λ i. P i j.0) e j.1))
          ],
    )))

-- relations on numbers, one for each level: equivalences that grow with the level
record Growing (R : ℕ → ℕ → ℕ → Type 0) : Type 0 where
  pub itself : (d x : ℕ) → R d x x
  pub back : (d x y : ℕ) → R d x y → R d y x
  pub through : (d x y z : ℕ) → R d x y → R d y z → R d x z
  pub later : (d e x y : ℕ) → d ≤ e → R d x y → R e x y

module _ (R : ℕ → ℕ → ℕ → Type 0) (grow : Growing R) where
  -- number i is related to a smaller one at level d + 1, and to none at level d
  record Newcomer (d i : ℕ) : Type 0 where
    pub partner : ℕ
    pub below : partner < i
    pub related : R (suc d) partner i
    pub none : (j : ℕ) → j < i → R d j i → ⊥

  -- two numbers below m are related at level d + 1 and not at level d
  record Edge (m d : ℕ) : Type 0 where
    pub one : ℕ
    pub other : ℕ
    pub one_inside : one < m
    pub other_inside : other < m
    pub related : R (suc d) one other
    pub apart : R d one other → ⊥

  -- then some number is a newcomer
  newcomer_ordered :
      (m n d x y : ℕ) → n ≤ m → y < n → x < y → R (suc d) x y → (R d x y → ⊥) →
      ((i : ℕ) × (i < m) × Newcomer d i → ⊥) → ⊥
  newcomer_ordered m zero d x y few l o r apart never = omega arith
  newcomer_ordered m (suc n) d x y few l o r apart never =
      classical ((j : ℕ) × (j < y) × R d j y)
      (λ c.
      elim c [
        | inl c ↦
            (let j = c.0 in
            let below : j < y = c.1 in
            let near : R d j y = c.2 in
            let far : R (suc d) x j = grow.through (suc d) x y j r (grow.back (suc d) j y (grow.later d (suc d) j y (omega arith) near)) in
            let parted : R d x j → ⊥ = λ e. apart (grow.through d x j y e near) in
            elim (cases_order x j) [
              | inl e ↦ parted (subst (R d x) e (grow.itself d x))
              | inr (inl h) ↦ newcomer_ordered m n d x j (omega arith) (omega arith) h far parted never
              | inr (inr h) ↦
                  newcomer_ordered m n d j x (omega arith) (omega arith) h (grow.back (suc d) x j far)
                  (λ e. parted (grow.back d j x e)) never
            ])
        | inr none ↦ never (y, omega arith, record { partner = x; below = o; related = r; none = λ j h e. none (j, h, e) })
      ])

  newcomer : (m d : ℕ) → Edge m d → ((i : ℕ) × (i < m) × Newcomer d i → ⊥) → ⊥
  newcomer m d e never =
      elim (cases_order e.one e.other) [
        | inl same ↦ e.apart (subst (R d e.one) same (grow.itself d e.one))
        | inr (inl h) ↦ newcomer_ordered m m d e.one e.other (omega arith) e.other_inside h e.related e.apart never
        | inr (inr h) ↦
            newcomer_ordered m m d e.other e.one (omega arith) e.one_inside h (grow.back (suc d) e.one e.other e.related)
            (λ r. e.apart (grow.back d e.other e.one r)) never
      ]

  -- a number is a newcomer at one level only
  newcomer_once : (d e i : ℕ) → d < e → Newcomer d i → Newcomer e i → ⊥
  newcomer_once d e i l n k = k.none n.partner n.below (grow.later (suc d) e n.partner i (omega arith) n.related)

  -- m numbers do not have an edge at each of m levels
  few_edges : (m : ℕ) → 1 ≤ m → ((d : ℕ) → d < m → (Edge m d → ⊥) → ⊥) → ⊥
  few_edges m some edges =
      chosen m (λ d i. (i < m) × Newcomer d i) (λ d l never. edges d l (λ e. newcomer m d e (λ n. never (n.0, (n.1, n.2)))))
      (λ c.
      let f : ℕ → ℕ = c.0 in
      let p = pigeonhole m (m - 1) (λ d. f d - 1) (omega arith)
      (λ d l. let n = c.1 d l in let b : n.1.partner < f d = n.1.below in let i : f d < m = n.0 in omega arith) in
      let d = p.0 in
      let e = p.1 in
      let less : d < e = p.2 in
      let inside : e < m = p.3 in
      let same : f d - 1 ≡ f e - 1 = p.4 in
      let n = c.1 d (omega arith) in
      let k = c.1 e inside in
      let b : n.1.partner < f d = n.1.below in
      let b' : k.1.partner < f e = k.1.below in
      let i : f e ≡ f d = omega arith in
      newcomer_once d e (f d) less n.1 (subst (Newcomer e) i k.1))

module _ (G : Group) where
  -- an equation between optional weights is decided, so it may be proved by contradiction
  stable : (o p : Option G.Mean) → ((o ≡ p → ⊥) → ⊥) → o ≡ p
  stable (Some x) (Some y) h =
      elim (G.decide x y) [
        | yes e ↦ ap Some e
        | no n ↦ absurd (h (λ e. n (some_injective e)))
      ]
  stable (Some x) None h = absurd (h (λ e. cc))
  stable None (Some y) h = absurd (h (λ e. cc))
  stable None None h = refl

  -- two factors that give one weight are equal
  factor_one : (k l x : G.Mean) (o : Option G.Mean) → scaled G k o ≡ Some x → scaled G l o ≡ Some x → k ≡ l
  factor_one k l x (Some y) e f = factor_told G k l y (some_injective e ∙ sym (some_injective f))
  factor_one k l x None e f = absurd cc

  -- a multiple is none only of none, and an option with no value is none
  scaled_none : (k : G.Mean) (o : Option G.Mean) → scaled G k o ≡ None → o ≡ None
  scaled_none k (Some x) e = absurd cc
  scaled_none k None e = refl

  is_none : (o : Option G.Mean) → ((x : G.Mean) → o ≡ Some x → ⊥) → o ≡ None
  is_none (Some x) h = absurd (h x refl)
  is_none None h = refl

module _ (G : Group) (t : Table G.Mean) where
  -- states x and y agree with some factor on words of at least d letters
  record AgreeFrom (d x y : ℕ) : Type 0 where
    pub factor : G.Mean
    pub by : Multiple G t.letters d factor (weight_from G t x) (weight_from G t y)

  -- these relations grow with the length
  agree_grows : Growing AgreeFrom
  agree_grows =
      record {
        itself = λ d x. record { factor = G.one; by = multiple_refl G t.letters d (weight_from G t x) };
        back = λ d x y r. record { factor = G.inv r.factor; by = multiple_sym r.by };
        through =
            λ d x y z r q.
            record {
              factor = G.mul r.factor q.factor;
              by = multiple_trans r.by q.by;
            };
        later = λ d e x y l r. record { factor = r.factor; by = multiple_later l r.by };
      }

  -- states x and y agree with factor k on words of more than d letters, and not on a word of d letters
  record Fails (d : ℕ) : Type 0 where
    pub x : ℕ
    pub y : ℕ
    pub factor : G.Mean
    pub word : List ℕ
    pub x_inside : x < t.states
    pub y_inside : y < t.states
    pub agree : Multiple G t.letters (suc d) factor (weight_from G t x) (weight_from G t y)
    pub is_word : Word t.letters word
    pub long : length word ≡ d
    pub fails : weight_from G t x word ≡ scaled G factor (weight_from G t y word) → ⊥

  -- the equation after a word gives that with the word before
  equation_before :
      (k : G.Mean) (q p : ℕ) (u v : List ℕ) →
      weight_from G t (led t q u) v
      ≡ scaled G (G.mul (G.inv (walked G t q u)) (G.mul k (walked G t p u))) (weight_from G t (led t p u) v) →
      weight_from G t q (u ++ v) ≡ scaled G k (weight_from G t p (u ++ v))
  equation_before k q p u v e =
      let x = walked G t q u in
      let y = walked G t p u in
      let o = weight_from G t (led t p u) v in
      weight_append G t q u v
      ∙ ap (scaled G x) e
      ∙ scaled_twice G x (G.mul (G.inv x) (G.mul k y)) o
      ∙ ap (λ z. scaled G z o) (cancels_inv G x (G.mul k y))
      ∙ sym (scaled_twice G k y o)
      ∙ ap (scaled G k) (sym (weight_append G t p u v))

  -- so a suffix of a word that fails makes the equation fail too
  suffix_fails :
      (closed : Closed t) (k : G.Mean) (q p : ℕ) (u v : List ℕ) → q < t.states → p < t.states → Word t.letters (u ++ v) →
      Multiple G t.letters (suc (length (u ++ v))) k (weight_from G t q) (weight_from G t p) →
      (weight_from G t q (u ++ v) ≡ scaled G k (weight_from G t p (u ++ v)) → ⊥) → Fails (length v)
  suffix_fails closed k q p u v hq hp h m fails =
      let left : Word t.letters u = word_left t.letters u v h in
      let long : length (u ++ v) ≡ length u + length v = length-append u v in
      record {
        x = led t q u;
        y = led t p u;
        factor = G.mul (G.inv (walked G t q u)) (G.mul k (walked G t p u));
        word = v;
        x_inside = led_inside t closed q u hq left;
        y_inside = led_inside t closed p u hp left;
        agree = multiple_later (omega arith) (multiple_after G t t q p u left m);
        is_word = word_right t.letters u v h;
        long = refl;
        fails = λ e. fails (equation_before k q p u v e);
      }

  -- a state from which a word of d letters weighs something, and no longer one does, and a state from which nothing does
  edge_dead :
      (closed : Closed t) (some : 1 ≤ t.letters) (d x : ℕ) (v : List ℕ) (c : G.Mean) → x < t.states → Word t.letters v →
      length v ≡ d → weight_from G t x v ≡ Some c →
      ((w : List ℕ) → Word t.letters w → suc d ≤ length w → weight_from G t x w ≡ None) → Edge AgreeFrom agree_grows t.states d
  edge_dead closed some d x v c hx h long there none =
      let more : Word t.letters (v ++ (0 ∷ [])) = word_append t.letters v (0 ∷ []) h (some, tt) in
      let z : ℕ = led t x (v ++ (0 ∷ [])) in
      let dead : (w : List ℕ) → Word t.letters w → weight_from G t z w ≡ None =
      λ w hw.
      scaled_none G (walked G t x (v ++ (0 ∷ []))) (weight_from G t z w)
      (sym (weight_append G t x (v ++ (0 ∷ [])) w)
      ∙ none ((v ++ (0 ∷ [])) ++ w) (word_append t.letters (v ++ (0 ∷ [])) w more hw)
      (omega (arith, length-append (v ++ (0 ∷ [])) w, length-append v (0 ∷ [])))) in
      record {
        one = x;
        other = z;
        one_inside = hx;
        other_inside = led_inside t closed x (v ++ (0 ∷ [])) hx more;
        related =
            record {
              factor = G.one;
              by = record { words = λ w hw l. none w hw l ∙ ap (scaled G G.one) (sym (dead w hw)) };
            };
        apart =
            λ r.
            let e : Some c ≡ None = sym there ∙ r.by.words v h (omega arith) ∙ ap (scaled G r.factor) (dead v h) in
            cc;
      }

  -- where the equation fails at d letters, some two states agree with some factor on longer words, and with none on those
  edge_there :
      (closed : Closed t) (some : 1 ≤ t.letters) (d : ℕ) → Fails d → (Edge AgreeFrom agree_grows t.states d → ⊥) → ⊥
  edge_there closed some d f never =
      classical ((w : List ℕ) × Word t.letters w × (suc d ≤ length w) × (c : G.Mean) × (weight_from G t f.x w ≡ Some c))
      (λ s.
      elim s [
        | inl s ↦
            (let w = s.0 in
            never
            (record {
              one = f.x;
              other = f.y;
              one_inside = f.x_inside;
              other_inside = f.y_inside;
              related = record { factor = f.factor; by = f.agree };
              apart =
                  λ r.
                  let one : f.factor ≡ r.factor =
                  factor_one G f.factor r.factor s.3 (weight_from G t f.y w) (sym (f.agree.words w s.1 s.2) ∙ s.4)
                  (sym (r.by.words w s.1 (omega arith)) ∙ s.4) in
                  f.fails
                  (r.by.words f.word f.is_word (omega arith) ∙ ap (λ k. scaled G k (weight_from G t f.y f.word)) (sym one));
            }))
        | inr s ↦
            (let x_none : (w : List ℕ) → Word t.letters w → suc d ≤ length w → weight_from G t f.x w ≡ None =
            λ w h l. is_none G (weight_from G t f.x w) (λ c e. s (w, h, l, c, e)) in
            let y_none : (w : List ℕ) → Word t.letters w → suc d ≤ length w → weight_from G t f.y w ≡ None =
            λ w h l. scaled_none G f.factor (weight_from G t f.y w) (sym (f.agree.words w h l) ∙ x_none w h l) in
            let x_not : weight_from G t f.x f.word ≡ None =
            is_none G (weight_from G t f.x f.word)
            (λ c e. never (edge_dead closed some d f.x f.word c f.x_inside f.is_word f.long e x_none)) in
            let y_not : weight_from G t f.y f.word ≡ None =
            is_none G (weight_from G t f.y f.word)
            (λ c e. never (edge_dead closed some d f.y f.word c f.y_inside f.is_word f.long e y_none)) in
            f.fails (x_not ∙ ap (scaled G f.factor) (sym y_not)))
      ])

module _ (G : Group) (t : Table G.Mean) (closed : Closed t) (some : 1 ≤ t.letters) where
  -- one letter fewer, where the words have at least m - 1 letters
  gap_step :
      (d q p : ℕ) (k : G.Mean) → t.states ≤ suc d → q < t.states → p < t.states →
      Multiple G t.letters (suc d) k (weight_from G t q) (weight_from G t p) →
      Multiple G t.letters d k (weight_from G t q) (weight_from G t p)
  gap_step d q p k many hq hp m =
      record {
        words =
            λ w h l.
            elim (cases_lt d (length w)) [
              | inl more ↦ m.words w h more
              | inr less ↦
                  stable G (weight_from G t q w) (scaled G k (weight_from G t p w))
                  (λ fails.
                  few_edges (AgreeFrom G t) (agree_grows G t) t.states (omega arith)
                  (λ e below never.
                  edge_there G t closed some e (failing w h (omega arith) fails e (omega arith)) never))
            ];
      }
    where
      failing :
          (w : List ℕ) → Word t.letters w → length w ≡ d →
          (weight_from G t q w ≡ scaled G k (weight_from G t p w) → ⊥) → (e : ℕ) → e ≤ length w → Fails G t e
      failing w h long fails e below =
          let i : ℕ = length w - e in
          let u = take i w in
          let v = drop i w in
          let whole : u ++ v ≡ w = take-append-drop i w in
          let short : length v ≡ e = omega (arith, length-drop i w) in
          let longer : suc (length (u ++ v)) ≡ suc d = ap (λ x. suc (length x)) whole ∙ ap suc long in
          subst (Fails G t) short
          (suffix_fails G t closed k q p u v hq hp (subst (Word t.letters) (sym whole) h)
          (subst (λ n. Multiple G t.letters n k (weight_from G t q) (weight_from G t p)) (sym longer) m)
          (subst (λ x. weight_from G t q x ≡ scaled G k (weight_from G t p x) → ⊥) (sym whole) fails))

  -- states that agree with a factor from some length on agree with it from m - 1 letters on
  pub gap :
      (n q p : ℕ) (k : G.Mean) → q < t.states → p < t.states →
      Multiple G t.letters n k (weight_from G t q) (weight_from G t p) →
      Multiple G t.letters (t.states - 1) k (weight_from G t q) (weight_from G t p)
  gap zero q p k hq hp m = multiple_later (omega arith) m
  gap (suc n) q p k hq hp m =
      elim (cases_lt n (t.states - 1)) [
        | inl l ↦ multiple_later (omega arith) m
        | inr l ↦ gap n q p k hq hp (gap_step n q p k (omega arith) hq hp m)
      ]
