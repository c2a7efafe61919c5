-- Rounds that refine labels keep equivalent states together, and labels that no round refines are the classes. Assumes nothing.
use Rattle.std.proofs.Common.{◌≡◌, ◌≢◌, ℕ, zero, suc, ◌+◌, ◌*◌, ◌<◌, ◌≤◌, Bool, true, false, cond, eqb, List, [], ◌∷◌, ◌++◌, length, take, drop, Some, ◌⊎◌, inl, inr, sym, refl, ap, ◌∙◌, subst, arith}
use Rattle.std.proofs.lemmas.Bool.{cases_Bool, cases_eq, eqb-true, eq-eqb}
use Rattle.std.proofs.lemmas.List.{length-take-le, get_or_append_left, get_or-take}
use Rattle.std.specs.Prelude.{slice_index}
use Rattle.weights.specs.Codes.{within}
use Rattle.weights.specs.Group.{Group, Kind}
use Rattle.tables.specs.Table.{Table, Word, scaled, weight_from}
use Rattle.tables.proofs.Reading.{some_injective}
use Rattle.theory.specs.Runs.{Closed, accepts}
use Rattle.theory.specs.Series.{Equivalent}
use Rattle.theory.specs.Push.{Smallest}
use Rattle.theory.specs.Hyper.{count_below}
use Rattle.theory.proofs.Basics.{scaled_one, factor_told}
use Rattle.theory.proofs.Search.{smallest_unique, live_not_dead}
use Rattle.minimize.specs.Steps.{leads, LivePush, Normal, Classes}
use Rattle.minimize.specs.Group.{Grouped, SameRow}
use Rattle.minimize.specs.Classing.{OneRow, Refined, target_label}
use Rattle.minimize.specs.Filling.{Filled}
use Rattle.minimize.proofs.Alike.{smallest_moved, dead_moved, equivalent_accepts, equivalent_turned, equivalent_next}
use Rattle.minimize.proofs.Keeping.{kept_few, kept_fewer, kept_stands}

-- what the first n places hold after a copy
pub copied_below :
    (xs ys zs : List ℕ) (n q : ℕ) → xs ≡ take n ys → n ≤ length ys → q < n → slice_index (xs ++ drop n zs) q ≡ slice_index ys q
copied_below xs ys zs n q copied room l =
    let long : length xs ≡ n = ap length copied ∙ length-take-le n ys room in
    get_or_append_left xs (drop n zs) 0 q (omega arith)
    ∙ ap (λ us. slice_index us q) copied
    ∙ get_or-take n ys q 0 l

module _ (G : Group) (t : Table G.Mean) (d : ℕ → ℕ) where
  -- a state that accepts a word has the weight one at its smallest
  live_push :
      Normal G t d → (q : ℕ) → q < t.states → (w : List ℕ) → Word t.letters w → accepts t q w ≡ true → LivePush G t q (d q) G.one
  live_push n q l w h a =
      elim (n.pushes q l) [
        | inl live ↦ live
        | inr dead ↦ absurd (live_not_dead t q (record { by = w; is_word = h; accepted = a }) dead.dead)
      ]

  module _ (normal : Normal G t d) where
    -- of two equivalent states, one of which is live, both weigh one at one smallest word
    record Twins (q p : ℕ) : Type 0 where
      word : List ℕ
      is_word : Word t.letters word
      long : length word ≡ d q
      long' : length word ≡ d p
      weighs : weight_from G t q word ≡ Some G.one
      weighs' : weight_from G t p word ≡ Some G.one

    twins : (q p : ℕ) → q < t.states → p < t.states → Equivalent G t q p → LivePush G t q (d q) G.one → Twins q p
    twins q p l k e x =
        let s = smallest_moved t t q p x.word refl (equivalent_accepts G t q p e) x.smallest in
        let y = live_push normal p k x.word s.is_word s.accepted in
        let same : y.word ≡ x.word = smallest_unique t p y.word x.word y.smallest s in
        record {
          word = x.word;
          is_word = s.is_word;
          long = x.long;
          long' = ap length (sym same) ∙ y.long;
          weighs = x.weighs;
          weighs' = ap (weight_from G t p) (sym same) ∙ y.weighs;
        }

    -- equivalent states have one distance
    pub distances_alike : (q p : ℕ) → q < t.states → p < t.states → Equivalent G t q p → d q ≡ d p
    distances_alike q p l k e =
        elim (normal.pushes q l) [
          | inl live ↦ (let x = twins q p l k e live in sym x.long ∙ x.long')
          | inr dead ↦
              elim (normal.pushes p k) [
                | inl live' ↦ (let x = twins p q k l (equivalent_turned G t q p e) live' in sym x.long' ∙ x.long)
                | inr dead' ↦ dead.far ∙ sym dead'.far
              ]
        ]

    -- the arcs of equivalent states weigh alike
    pub weights_alike :
        Closed t → (q p a : ℕ) → q < t.states → p < t.states → a < t.letters → Equivalent G t q p → t.weight q a ≡ t.weight p a
    unfolding twins
    weights_alike closed q p a l k m e =
        let q' : ℕ = t.target q a in
        let p' : ℕ = t.target p a in
        let l' = closed.target_inside q a l m in
        let k' = closed.target_inside p a k m in
        let e' = equivalent_next G t q p a m e in
        elim (normal.pushes q' l') [
          | inr dead ↦
              normal.dead_arcs q a l m dead.dead
              ∙ sym (normal.dead_arcs p a k m (dead_moved t t q' p' refl (equivalent_accepts G t q' p' e') dead.dead))
          | inl live ↦
              (let x = twins q' p' l' k' e' live in
              let word : Word t.letters (a ∷ x.word) = (m, x.is_word) in
              let y = twins q p l k e (live_push normal q l (a ∷ x.word) word live.smallest.accepted) in
              let factor : G.mul e.factor G.one ≡ G.mul G.one G.one =
              some_injective (ap (scaled G e.factor) (sym y.weighs') ∙ sym (e.by.words y.word y.is_word (omega arith)) ∙ y.weighs)
              ∙ sym (G.one_left G.one) in
              let one : e.factor ≡ G.one = factor_told G e.factor G.one G.one factor in
              let alike : scaled G (t.weight q a) (weight_from G t q' x.word) ≡ scaled G (t.weight p a) (weight_from G t p' x.word) =
              e.by.words (a ∷ x.word) word (omega arith)
              ∙ ap (λ z. scaled G z (weight_from G t p (a ∷ x.word))) one
              ∙ scaled_one G (weight_from G t p (a ∷ x.word)) in
              factor_told G (t.weight q a) (t.weight p a) G.one
              (some_injective (
              ap (scaled G (t.weight q a)) (sym x.weighs)
              ∙ alike
              ∙ ap (scaled G (t.weight p a)) x.weighs')))
        ]

    -- a state is final exactly if its distance is 0
    final_near : (q : ℕ) → q < t.states → t.final q ≡ eqb (d q) 0
    final_near q l =
        elim (normal.pushes q l) [
          | inl live ↦ near live.word live.smallest live.long
          | inr dead ↦ dead.dead.none [] tt ∙ sym (ap (λ x. eqb x 0) dead.far)
        ]
      where
        far : (x : ℕ) → 1 ≤ x → eqb x 0 ≡ false
        far x l = grind arith

        near : (w : List ℕ) → Smallest t q w → length w ≡ d q → t.final q ≡ eqb (d q) 0
        near [] s e = s.accepted ∙ ap (λ x. eqb x 0) e
        near (a ∷ w) s e =
            elim (cases_Bool (t.final q)) [
              | inl final ↦ absurd (s.least [] tt final (inl (omega arith)))
              | inr other ↦ other ∙ sym (far (d q) (omega arith))
            ]

    pub finals_alike : (q p : ℕ) → q < t.states → p < t.states → d q ≡ d p → t.final q ≡ t.final p
    finals_alike q p l k e = final_near q l ∙ ap (λ x. eqb x 0) e ∙ sym (final_near p k)

  -- the labels so far: equivalent states have one label, and states of one label one distance; the labels of a round are counted
  pub record Labelled (label : ℕ → ℕ) (known : ℕ) : Type 0 where
    pub sound : (q p : ℕ) → q < t.states → p < t.states → Equivalent G t q p → label q ≡ label p
    pub near : (q p : ℕ) → q < t.states → p < t.states → label q ≡ label p → d q ≡ d p
    pub few : known ≤ t.states
    pub named : 1 ≤ known → (q : ℕ) → q < t.states → label q ≤ q
    pub counted : 1 ≤ known → known ≡ count_below (leads label) t.states

  -- distances are labels to begin with
  pub distances_labelled : Normal G t d → (label : ℕ → ℕ) → ((q : ℕ) → q < t.states → label q ≡ d q) → Labelled label 0
  distances_labelled normal label same =
      record {
        sound = λ q p l k e. same q l ∙ distances_alike normal q p l k e ∙ sym (same p k);
        near = λ q p l k e. sym (same q l) ∙ e ∙ same p k;
        few = omega arith;
        named = λ some. absurd (omega arith);
        counted = λ some. absurd (omega arith);
      }

  module _ (closed : Closed t) (normal : Normal G t d) (label label' : ℕ → ℕ) (known m : ℕ) where
    refined_sound :
        Labelled label known → Refined G t label label' m → (q p : ℕ) → q < t.states → p < t.states → Equivalent G t q p → label' q ≡ label' p
    refined_sound h r q p l k e =
        r.one_first q p l k (
        record {
          key = h.sound q p l k e;
          target =
              λ a b.
              h.sound (t.target q a) (t.target p a) (closed.target_inside q a l b) (closed.target_inside p a k b)
              (equivalent_next G t q p a b e);
          weight = λ a b. weights_alike normal closed q p a l k b e;
        })

    refined_finer :
        Refined G t label label' m → (q p : ℕ) → q < t.states → p < t.states → label' q ≡ label' p → OneRow G t label q p
    refined_finer r q p l k e =
        let x = r.same q l in
        let y : OneRow G t label p (label' q) = subst (OneRow G t label p) (sym e) (r.same p k) in
        record {
          key = x.key ∙ sym y.key;
          target = λ a b. x.target a b ∙ sym (y.target a b);
          weight = λ a b. x.weight a b ∙ sym (y.weight a b);
        }

    -- after a round the labels are as before, and as it counted
    pub refined_labelled : Labelled label known → Refined G t label label' m → Labelled label' m
    refined_labelled h r =
        record {
          sound = refined_sound h r;
          near = λ q p l k e. h.near q p l k (refined_finer r q p l k e).key;
          few = omega (arith, r.count, kept_few (leads label') t.states);
          named = λ _. r.first;
          counted = λ _. r.count;
        }

    still_leads :
        1 ≤ known → Labelled label known → Refined G t label label' m → (q : ℕ) → q < t.states → leads label q ≡ true → leads label' q ≡ true
    still_leads some h r q l e =
        let own : label q ≡ q = eqb-true (label q) q e in
        let v : ℕ = label' q in
        let below : v ≤ q = r.first q l in
        let key : label q ≡ label v = (r.same q l).key in
        let lower : label v ≤ v = h.named some v (omega arith) in
        eq-eqb v q (omega arith)

    -- a round does not lose labels
    pub refined_grows : Labelled label known → Refined G t label label' m → known ≤ m
    refined_grows h r = grows (cases_eq known 0)
      where
        grows : (known ≡ 0) ⊎ (known ≢ 0) → known ≤ m
        grows (inl nothing) = omega arith
        grows (inr other) =
            let some : 1 ≤ known = omega arith in
            omega (arith, h.counted some, r.count, kept_fewer (leads label') (leads label) t.states (still_leads some h r))

    -- a round that finds no new label leaves all labels as they were
    refined_stands :
        1 ≤ known → m ≡ known → Labelled label known → Refined G t label label' m → (q : ℕ) → q < t.states → label' q ≡ label q
    refined_stands some same h r q l =
        let v : ℕ = label' q in
        let below : v ≤ q = r.first q l in
        let inside : v < t.states = omega arith in
        let own' : label' v ≡ v = sym (r.one_first q v l inside (r.same q l)) in
        let less : count_below (leads label') t.states ≤ count_below (leads label) t.states =
        omega (arith, h.counted some, r.count) in
        let own : label v ≡ v =
        eqb-true (label v) v
        (kept_stands (leads label') (leads label) t.states (still_leads some h r) less v inside (eq-eqb (label' v) v own')) in
        sym own ∙ sym (r.same q l).key

    -- states of one label weigh each word alike, where a round left the labels as they were
    stable_weighs :
        Labelled label known → Refined G t label label' m → ((q : ℕ) → q < t.states → label' q ≡ label q) →
        (w : List ℕ) → Word t.letters w → (q p : ℕ) → q < t.states → p < t.states → label q ≡ label p →
        weight_from G t q w ≡ weight_from G t p w
    stable_weighs h r stands [] word q p l k e =
        ap (λ b. within b G.one) (finals_alike normal q p l k (h.near q p l k e))
    stable_weighs h r stands (a ∷ w) word q p l k e =
        let row = refined_finer r q p l k (stands q l ∙ e ∙ sym (stands p k)) in
        ap (λ x. scaled G x (weight_from G t (t.target q a) w)) (row.weight a word.0)
        ∙ ap (scaled G (t.weight p a))
        (stable_weighs h r stands w word.1 (t.target q a) (t.target p a) (closed.target_inside q a l word.0)
        (closed.target_inside p a k word.0) (row.target a word.0))

    -- labels that a round left as they were are the classes
    pub refined_classes : 1 ≤ t.states → m ≡ known → Labelled label known → Refined G t label label' m → Classes G t label'
    refined_classes some_state same h r =
        let lead : leads label' 0 ≡ true = (let e : label' 0 ≤ 0 = r.first 0 (omega arith) in eq-eqb (label' 0) 0 (omega arith)) in
        let some : 1 ≤ known = omega (arith, r.count, one_kept (leads label') t.states some_state lead) in
        let stands = refined_stands some same h r in
        record {
          first = r.first;
          equivalent =
              λ q l.
              let inside : label' q < t.states = omega (arith, r.first q l) in
              record {
                factor = G.one;
                by =
                    record {
                      words =
                          λ w word _.
                          stable_weighs h r stands w word q (label' q) l inside (r.same q l).key
                          ∙ sym (scaled_one G (weight_from G t (label' q) w));
                    };
              };
          smallest = refined_sound h r;
        }
      where
        one_kept : (f : ℕ → Bool) (n : ℕ) → 1 ≤ n → f 0 ≡ true → 1 ≤ count_below f n
        one_kept f zero l e = absurd (omega arith)
        one_kept f (suc zero) l e = subst (λ b. 1 ≤ 0 + cond b 1 0) (sym e) (omega arith)
        one_kept f (suc (suc n)) l e = omega (arith, one_kept f (suc n) (omega arith) e)

-- the rows of states
module _ {W : Type 0} (K : Kind W) (t : Table K.group.Mean) where
  -- first rows of equal rows are a round's labels
  pub grouped_refined :
      (label : ℕ → ℕ) (keys row_labels firsts : List ℕ) (row_elements : List W) (m : ℕ) → Closed t → ((q : ℕ) → q < t.states → slice_index keys q ≡ label q) →
      Filled K t.letters (target_label t keys) t.weight t.states row_labels row_elements → Grouped K t.letters t.states keys row_labels row_elements (slice_index firsts) m →
      Refined K.group t label (slice_index firsts) m
  grouped_refined label keys row_labels firsts row_elements m closed copied f g =
      record {
        first = g.first_inside;
        same = λ q l. one_row q (slice_index firsts q) l (omega (arith, g.first_inside q l)) (g.same q l);
        one_first = λ q p l k e. g.one_first q p l k (same_row q p l k e);
        count = g.count;
      }
    where
      row_label_of : (q a : ℕ) → q < t.states → a < t.letters → slice_index row_labels (q * t.letters + a) ≡ label (t.target q a)
      row_label_of q a l m = (f.place q a l m).holds_label ∙ copied (t.target q a) (closed.target_inside q a l m)

      one_row : (q p : ℕ) → q < t.states → p < t.states → SameRow K t.letters keys row_labels row_elements q p → OneRow K.group t label q p
      one_row q p l k e =
          record {
            key = sym (copied q l) ∙ e.key ∙ copied p k;
            target = λ a m. sym (row_label_of q a l m) ∙ e.label a m ∙ row_label_of p a k m;
            weight = λ a m. sym (f.place q a l m).holds_element ∙ e.element a m ∙ (f.place p a k m).holds_element;
          }

      same_row : (q p : ℕ) → q < t.states → p < t.states → OneRow K.group t label q p → SameRow K t.letters keys row_labels row_elements q p
      same_row q p l k e =
          record {
            key = copied q l ∙ e.key ∙ sym (copied p k);
            label = λ a m. row_label_of q a l m ∙ e.target a m ∙ sym (row_label_of p a k m);
            element = λ a m. (f.place q a l m).holds_element ∙ e.weight a m ∙ sym (f.place p a k m).holds_element;
          }
