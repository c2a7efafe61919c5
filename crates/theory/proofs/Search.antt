-- Searches among words: states that repeat, states that are live or dead, and smallest accepted words. Assumes nothing.
use Rattle.std.proofs.Common.{◌≡◌, ℕ, zero, suc, ◌+◌, ◌-◌, ◌<◌, ◌≤◌, Bool, true, false, List, [], ◌∷◌, ◌++◌, length, take, drop, eqb, ◌⊎◌, inl, inr, sym, refl, ap, ◌∙◌, subst, arith}
use Rattle.std.proofs.lemmas.Bool.{cases_Bool, cases_lt, cases_order, both_ways, eqb-true, eq-eqb}
use Rattle.std.proofs.lemmas.List.{length-append, length-take, length-drop, take-append-drop}
use Rattle.std.proofs.Math.Seq.{take-add}
use Rattle.weights.specs.Group.{Group}
use Rattle.tables.specs.Table.{Table, Word, weight_from}
use Rattle.tables.proofs.Reading.{some_injective}
use Rattle.theory.specs.Runs.{led, accepts, Closed, Live, Dead}
use Rattle.theory.specs.Finitely.{FinitelyMany, InfinitelyMany}
use Rattle.theory.specs.Kernel.{Kernel, Preamble, CoKernel, CoPreamble}
use Rattle.theory.specs.Push.{Earlier, Smaller, Smallest, Push}
use Rattle.theory.proofs.Lengths.{finitely_many, infinitely_many, not_both, finitely_fewer, infinitely_more}
use Rattle.theory.proofs.Basics.{word_append, word_left, word_right, word_take, led_append, led_inside, walked, accepted_weighs}
use Rattle.theory.proofs.Pigeonhole.{first_below, pigeonhole}

-- words of n letters
module _ {M : Type 0} (t : Table M) (test : ℕ → Bool) where
  -- the earliest word of n letters that leads from q to a state that passes the test
  record Found (q n : ℕ) : Type 0 where
    word : List ℕ
    is_word : Word t.letters word
    long : length word ≡ n
    passes : test (led t q word) ≡ true
    first : (v : List ℕ) → Word t.letters v → length v ≡ n → test (led t q v) ≡ true → Earlier v word → ⊥

  -- no word of n letters does
  record Missing (q n : ℕ) : Type 0 where
    none : (w : List ℕ) → Word t.letters w → length w ≡ n → test (led t q w) ≡ true → ⊥

  -- a letter more: the earliest word of the first letter after which there is one
  found_more :
      (q n a : ℕ) → a < t.letters → Found (t.target q a) n → ((b : ℕ) → b < a → Missing (t.target q b) n) → Found q (suc n)
  found_more q n a l f before =
      record {
        word = a ∷ f.word;
        is_word = (l, f.is_word);
        long = omega (arith, f.long);
        passes = f.passes;
        first = first;
      }
    where
      first :
          (v : List ℕ) → Word t.letters v → length v ≡ suc n → test (led t q v) ≡ true → Earlier v (a ∷ f.word) → ⊥
      first [] h e p less = less
      first (b ∷ v) h e p (inl less) = (before b less).none v h.1 (omega arith) p
      first (b ∷ v) h e p (inr less) =
          f.first v h.1 (omega arith) (subst (λ c. test (led t (t.target q c) v) ≡ true) less.0 p) less.1

  missing_more : (q n : ℕ) → ((a : ℕ) → a < t.letters → Missing (t.target q a) n) → Missing q (suc n)
  missing_more q n each = record { none = none }
    where
      none : (w : List ℕ) → Word t.letters w → length w ≡ suc n → test (led t q w) ≡ true → ⊥
      none [] h e p = absurd (omega arith)
      none (a ∷ w) h e p = (each a h.0).none w h.1 (omega arith) p

  found_or_missing : (n q : ℕ) → Found q n ⊎ Missing q n
  found_or_missing zero q =
      elim (cases_Bool (test q)) [
        | inl passes ↦
            inl (
            record { word = []; is_word = tt; long = refl; passes = passes; first = λ v h e p less. none_earlier v e less })
        | inr other ↦ inr (record { none = λ w h e p. fails w e other p })
      ]
    where
      none_earlier : (v : List ℕ) → length v ≡ 0 → Earlier v [] → ⊥
      none_earlier [] e less = less
      none_earlier (b ∷ v) e less = less

      fails : (w : List ℕ) → length w ≡ 0 → test q ≡ false → test (led t q w) ≡ true → ⊥
      fails [] e other p = both_ways (test q) other p
      fails (a ∷ w) e other p = omega arith
  found_or_missing (suc n) q =
      elim (first_below t.letters (λ a. Found (t.target q a) n) (λ a. Missing (t.target q a) n)
      (λ a l. found_or_missing n (t.target q a))) [
        | inl x ↦ inl (found_more q n x.0 x.1 x.2 x.3)
        | inr none ↦ inr (missing_more q n none)
      ]

-- a list k times, one after another
abbrev pub times : List ℕ → ℕ → List ℕ
times y zero = []
times y (suc k) = y ++ times y k

pub times_word : (s : ℕ) (y : List ℕ) (k : ℕ) → Word s y → Word s (times y k)
times_word s y zero h = tt
times_word s y (suc k) h = word_append s y (times y k) h (times_word s y k h)

pub times_long : (y : List ℕ) (k : ℕ) → 1 ≤ length y → k ≤ length (times y k)
times_long y zero l = omega arith
times_long y (suc k) l = omega (arith, length-append y (times y k), times_long y k l)

-- a word that visits a state twice: a round of letters leads from the state before it back to that state
pub record Loop {M : Type 0} (t : Table M) (q : ℕ) (w : List ℕ) : Type 0 where
  pub before : List ℕ
  pub round : List ℕ
  pub after : List ℕ
  pub whole : before ++ (round ++ after) ≡ w
  pub some : 1 ≤ length round
  pub few : length round ≤ t.states
  pub again : led t (led t q before) round ≡ led t q before

module _ {M : Type 0} (t : Table M) where
  pub times_led : (q : ℕ) (y : List ℕ) (k : ℕ) → led t q y ≡ q → led t q (times y k) ≡ q
  times_led q y zero e = refl
  times_led q y (suc k) e = led_append t q y (times y k) ∙ ap (λ p. led t p (times y k)) e ∙ times_led q y k e

  -- a word, a second any number of times that leads from where the first leads back to there, and a third
  pub pumped :
      (q n : ℕ) (u v w : List ℕ) → Word t.letters u → Word t.letters v → Word t.letters w → 1 ≤ length v →
      led t (led t q u) v ≡ led t q u → (z : List ℕ) × Word t.letters z × (n ≤ length z) × (led t q z ≡ led t (led t q u) w)
  pumped q n u v w hu hv hw some again =
      let s : ℕ = t.letters in
      let m : List ℕ = times v n in (
        u ++ (m ++ w),
        word_append s u (m ++ w) hu (word_append s m w (times_word s v n hv) hw),
        omega (arith, length-append u (m ++ w), length-append m w, times_long v n some),
        led_append t q u (m ++ w)
            ∙ led_append t (led t q u) m w
            ∙ ap (λ p. led t p w) (times_led (led t q u) v n again),
      )

  -- the word without its loop leads to the same state
  cut_led : (q : ℕ) (w : List ℕ) (o : Loop t q w) → led t (led t q o.before) o.after ≡ led t q w
  cut_led q w o =
      ap (λ p. led t p o.after) (sym o.again)
      ∙ sym (led_append t (led t q o.before) o.round o.after)
      ∙ sym (led_append t q o.before (o.round ++ o.after))
      ∙ ap (led t q) o.whole

  -- the parts of a word are words
  record Parts (q : ℕ) (w : List ℕ) (o : Loop t q w) : Type 0 where
    pub before : Word t.letters o.before
    pub round : Word t.letters o.round
    pub after : Word t.letters o.after

  parts : (q : ℕ) (w : List ℕ) (o : Loop t q w) → Word t.letters w → Parts q w o
  parts q w o h =
      let s : ℕ = t.letters in
      let all : Word s (o.before ++ (o.round ++ o.after)) = subst (Word s) (sym o.whole) h in
      let rest : Word s (o.round ++ o.after) = word_right s o.before (o.round ++ o.after) all in
      record {
        before = word_left s o.before (o.round ++ o.after) all;
        round = word_left s o.round o.after rest;
        after = word_right s o.round o.after rest;
      }

  -- words to the same state: long ones with the loop many times, and one that is shorter by the loop
  longer :
      (q n : ℕ) (w : List ℕ) → Loop t q w → Word t.letters w →
      (z : List ℕ) × Word t.letters z × (n ≤ length z) × (led t q z ≡ led t q w)
  longer q n w o h =
      let p = parts q w o h in
      let z = pumped q n o.before o.round o.after p.before p.round p.after o.some o.again in
      (z.0, z.1, z.2, z.3 ∙ cut_led q w o)

  cut :
      (q : ℕ) (w : List ℕ) (o : Loop t q w) → Word t.letters w →
      (z : List ℕ) × Word t.letters z × (length z + length o.round ≡ length w) × (led t q z ≡ led t q w)
  cut q w o h =
      let p = parts q w o h in (
        o.before ++ o.after,
        word_append t.letters o.before o.after p.before p.after,
        omega (
          arith,
          length-append o.before o.after,
          length-append o.round o.after,
          length-append o.before (o.round ++ o.after),
          ap length o.whole,
        ),
        led_append t q o.before o.after ∙ cut_led q w o,
      )

module _ {M : Type 0} (t : Table M) (closed : Closed t) where
  -- a word with as many letters as there are states visits a state twice
  pub loops : (q : ℕ) (w : List ℕ) → q < t.states → Word t.letters w → t.states ≤ length w → Loop t q w
  loops q w l h long =
      let n : ℕ = t.states in
      let two =
      pigeonhole (suc n) n (λ i. led t q (take i w)) (omega arith)
      (λ i m. led_inside t closed q (take i w) l (word_take t.letters i w h))
      in
      let i : ℕ = two.0 in
      let j : ℕ = two.1 in
      let k : ℕ = j - i in
      let less : i < j = two.2 in
      let few : j < suc n = two.3 in
      let sum : i + k ≡ j = omega arith in
      record {
        before = take i w;
        round = take k (drop i w);
        after = drop k (drop i w);
        whole = ap (λ r. take i w ++ r) (take-append-drop k (drop i w)) ∙ take-append-drop i w;
        some = omega (arith, length-take k (drop i w), length-drop i w);
        few = omega (arith, length-take k (drop i w), length-drop i w);
        again =
            sym (led_append t q (take i w) (take k (drop i w)))
            ∙ ap (led t q) (sym (take-add i k w))
            ∙ ap (λ m. led t q (take m w)) sum
            ∙ sym two.4;
      }

  -- a word to the same state, cut down to less than twice as many letters as there are states
  cut_down :
      (n q : ℕ) (w : List ℕ) → length w ≤ n → q < t.states → Word t.letters w → t.states ≤ length w →
      (v : List ℕ) × Word t.letters v × (t.states ≤ length v) × (length v < t.states + t.states) × (led t q v ≡ led t q w)
  cut_down zero q w fuel l h long = absurd (omega arith)
  cut_down (suc n) q w fuel l h long =
      elim (cases_lt (length w) (t.states + t.states)) [
        | inl short ↦ (w, h, long, short, refl)
        | inr more ↦
            (let o = loops q w l h long in
            let c = cut t q w o h in
            let size : length c.0 + length o.round ≡ length w = c.2 in
            let some : 1 ≤ length o.round = o.some in
            let few : length o.round ≤ t.states = o.few in
            let less = cut_down n q c.0 (omega arith) l c.1 (omega arith) in
            (less.0, less.1, less.2, less.3, less.4 ∙ c.3))
      ]

  -- a word to the same state that has fewer letters than there are states
  pub shorter :
      (n q : ℕ) (w : List ℕ) → length w ≤ n → q < t.states → Word t.letters w →
      (v : List ℕ) × Word t.letters v × (length v < t.states) × (led t q v ≡ led t q w)
  shorter zero q w fuel l h = (w, h, omega arith, refl)
  shorter (suc n) q w fuel l h =
      elim (cases_lt (length w) t.states) [
        | inl short ↦ (w, h, short, refl)
        | inr long ↦
            (let o = loops q w l h long in
            let c = cut t q w o h in
            let size : length c.0 + length o.round ≡ length w = c.2 in
            let some : 1 ≤ length o.round = o.some in
            let less = shorter n q c.0 (omega arith) l c.1 in
            (less.0, less.1, less.2, less.3 ∙ c.3))
      ]

  -- each state is live or dead, kernel or preamble, co-kernel or co-preamble
  pub live_or_dead : (q : ℕ) → q < t.states → Live t q ⊎ Dead t q
  live_or_dead q l =
      elim (first_below t.states (Found t t.final q) (Missing t t.final q) (λ n m. found_or_missing t t.final n q)) [
        | inl x ↦ inl (record { by = x.2.word; is_word = x.2.is_word; accepted = x.2.passes })
        | inr none ↦
            inr (
            record {
              none =
                  λ w h.
                  elim (cases_Bool (accepts t q w)) [
                    | inl passes ↦
                        (let v = shorter (length w) q w (omega arith) l h in
                        absurd ((none (length v.0) v.2).none v.0 v.1 refl (ap t.final v.3 ∙ passes)))
                    | inr fails ↦ fails
                  ];
            })
      ]

  -- words that lead from q to a state that passes a test
  pub infinite_or_finite :
      (q : ℕ) (test : ℕ → Bool) → q < t.states →
      InfinitelyMany t.letters (λ w. test (led t q w) ≡ true) ⊎ FinitelyMany t.letters (λ w. test (led t q w) ≡ true)
  infinite_or_finite q test l =
      elim (first_below t.states (λ i. Found t test q (t.states + i)) (λ i. Missing t test q (t.states + i))
      (λ i m. found_or_missing t test (t.states + i) q)) [
        | inl x ↦
            (let f = x.2 in
            let long : length f.word ≡ t.states + x.0 = f.long in
            let o = loops q f.word l f.is_word (omega arith) in
            inl
            (infinitely_many (λ n. let z = longer t q n f.word o f.is_word in (z.0, z.1, z.2, ap test z.3 ∙ f.passes))))
        | inr none ↦
            inr
            (finitely_many t.states
            (λ w h p.
            elim (cases_lt (length w) t.states) [
              | inl short ↦ short
              | inr long ↦
                  (let v = cut_down (length w) q w (omega arith) l h long in
                  let least : t.states ≤ length v.0 = v.2 in
                  let most : length v.0 < t.states + t.states = v.3 in
                  absurd ((none (length v.0 - t.states) (omega arith)).none v.0 v.1 (omega arith) (ap test v.4 ∙ p)))
            ]))
      ]

  pub kernel_or_preamble : (q : ℕ) → q < t.states → Kernel t q ⊎ Preamble t q
  kernel_or_preamble q l =
      elim (infinite_or_finite t.start (λ p. eqb p q) closed.start_inside) [
        | inl many ↦
            inl (record { words = infinitely_more (λ w h e. (h, eqb-true (led t t.start w) q e)) many })
        | inr few ↦
            inr (record { words = finitely_fewer (λ w h e. (h, eq-eqb (led t t.start w) q e)) few })
      ]

  pub co_kernel_or_preamble : (q : ℕ) → q < t.states → CoKernel t q ⊎ CoPreamble t q
  co_kernel_or_preamble q l =
      elim (infinite_or_finite q t.final l) [
        | inl many ↦ inl (record { words = many })
        | inr few ↦ inr (record { words = few })
      ]

  -- a live state has a smallest accepted word
  pub smallest_there : (q : ℕ) → Live t q → (w : List ℕ) × Smallest t q w
  smallest_there q live =
      elim (first_below (suc (length live.by)) (Found t t.final q) (Missing t t.final q)
      (λ n m. found_or_missing t t.final n q)) [
        | inl x ↦
            (let f = x.2 in (
              f.word,
              record {
                is_word = f.is_word;
                accepted = f.passes;
                least =
                    λ v h a less.
                    elim less [
                      | inl short ↦ (x.3 (length v) (omega (arith, f.long))).none v h refl a
                      | inr earlier ↦ f.first v h (earlier.0 ∙ f.long) a earlier.1
                    ];
              },
            ))
        | inr none ↦ absurd ((none (length live.by) (omega arith)).none live.by live.is_word refl live.accepted)
      ]

-- no state is both
pub kernel_not_preamble : {M : Type 0} (t : Table M) (q : ℕ) → Kernel t q → Preamble t q → ⊥
kernel_not_preamble t q k p = not_both k.words p.words

pub co_kernel_not_preamble : {M : Type 0} (t : Table M) (q : ℕ) → CoKernel t q → CoPreamble t q → ⊥
co_kernel_not_preamble t q k p = not_both k.words p.words

-- no state is both live and dead
pub live_not_dead : {M : Type 0} (t : Table M) (q : ℕ) → Live t q → Dead t q → ⊥
live_not_dead t q l d =
    both_ways (accepts t q l.by) (d.none l.by l.is_word) l.accepted

-- of two words of one length, one is earlier, or they are one
earlier_cases : (v w : List ℕ) → length v ≡ length w → (v ≡ w) ⊎ (Earlier v w ⊎ Earlier w v)
earlier_cases [] [] e = inl refl
earlier_cases [] (a ∷ w) e = absurd (omega arith)
earlier_cases (b ∷ v) [] e = absurd (omega arith)
earlier_cases (b ∷ v) (a ∷ w) e =
    elim (cases_order b a) [
      | inl same ↦
          elim (earlier_cases v w (omega arith)) [
            | inl tail ↦ inl cc
            | inr (inl less) ↦ inr (inl (inr (same, less)))
            | inr (inr more) ↦ inr (inr (inr (sym same, more)))
          ]
      | inr (inl less) ↦ inr (inl (inl less))
      | inr (inr more) ↦ inr (inr (inl more))
    ]

-- one of two words is smaller, or they are one
smaller_cases : (v w : List ℕ) → (v ≡ w) ⊎ (Smaller v w ⊎ Smaller w v)
smaller_cases v w =
    elim (cases_order (length v) (length w)) [
      | inl same ↦
          elim (earlier_cases v w same) [
            | inl e ↦ inl e
            | inr (inl less) ↦ inr (inl (inr (same, less)))
            | inr (inr more) ↦ inr (inr (inr (sym same, more)))
          ]
      | inr (inl less) ↦ inr (inl (inl less))
      | inr (inr more) ↦ inr (inr (inl more))
    ]

-- a state has one smallest accepted word, and one push
pub smallest_unique : {M : Type 0} (t : Table M) (q : ℕ) (v w : List ℕ) → Smallest t q v → Smallest t q w → v ≡ w
smallest_unique t q v w h k =
    elim (smaller_cases v w) [
      | inl e ↦ e
      | inr (inl less) ↦ absurd (k.least v h.is_word h.accepted less)
      | inr (inr more) ↦ absurd (h.least w k.is_word k.accepted more)
    ]

-- a live state has a push
pub push_there : (G : Group) (t : Table G.Mean) → Closed t → (q : ℕ) → Live t q → (u : G.Mean) × Push G t q u
push_there G t closed q live =
    let s = smallest_there t closed q live in (
      walked G t q s.0,
      record {
        word = s.0;
        smallest = s.1;
        weighs = accepted_weighs G t q s.0 s.1.accepted;
      },
    )

pub push_unique : (G : Group) (t : Table G.Mean) (q : ℕ) (u v : G.Mean) → Push G t q u → Push G t q v → u ≡ v
push_unique G t q u v h k =
    some_injective (
    sym h.weighs
    ∙ ap (weight_from G t q) (smallest_unique t q h.word k.word h.smallest k.smallest)
    ∙ k.weighs)

-- no word is smaller than the empty one
pub none_smaller : (v : List ℕ) → Smaller v [] → ⊥
none_smaller v (inl l) = absurd (omega arith)
none_smaller [] (inr e) = absurd e.1
none_smaller (b ∷ v) (inr e) = absurd (omega arith)

-- so a final state's push is one
pub final_push : (G : Group) (t : Table G.Mean) (q : ℕ) → t.final q ≡ true → Push G t q G.one
final_push G t q e =
    record {
      word = [];
      smallest = record { is_word = tt; accepted = e; least = λ v h a. none_smaller v };
      weighs = accepted_weighs G t q [] e;
    }
