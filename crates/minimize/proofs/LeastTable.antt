-- From a table to its least table: its reachable states copied, weights pushed, equal classes found and gathered. Assumes nothing.
use Rattle.std.proofs.Common.{◌≡◌, ℕ, zero, suc, ◌<◌, ◌≤◌, cond, eqb, List, [], ◌∷◌, inl, inr, sym, refl, ap, ◌∙◌, subst, arith}
use Rattle.std.proofs.lemmas.Bool.{cases_Bool, cases_lt, cases_eq, eqb-true, eqb-false, eq-eqb, cond-true, cond-false}
use Rattle.weights.specs.Codes.{within}
use Rattle.weights.specs.Group.{Group}
use Rattle.tables.specs.Table.{Table, Lawful, Word, scaled, weight_from}
use Rattle.theory.specs.Runs.{accepts, Dead}
use Rattle.theory.specs.Series.{Multiple, Equivalent}
use Rattle.theory.specs.Push.{Smallest, Push}
use Rattle.theory.specs.Least.{Pushed, Least, ReadBefore, MetBefore, InReadingOrder}
use Rattle.theory.specs.Hyper.{count_below}
use Rattle.theory.proofs.Basics.{scaled_one, multiple_sym, multiple_trans, multiple_accepts}
use Rattle.theory.proofs.Search.{push_unique}
use Rattle.theory.proofs.Kept.{kept_grows}
use Rattle.minimize.specs.Steps.{Copied, Pushes, PushedWeights, LivePush, Classes, Gathered, leads, number, none}
use Rattle.minimize.specs.Gathering.{Labelled}
use Rattle.minimize.proofs.Alike.{smallest_moved, dead_moved, smallest_not_dead, equivalent_accepts, equivalent_next}
use Rattle.minimize.proofs.Pushing.{pushed_closed, pushed_normal, pushed_weighs, near_state, arc_live, arc_dead}
use Rattle.minimize.proofs.Classing.{weights_alike}
use Rattle.minimize.proofs.Keeping.{kept_injective}
use Rattle.minimize.proofs.Gathering.{number_first, number_label, number_rises, number_inside, number_met, stands}

-- the last number below n that is sent to q
abbrev back : (ℕ → ℕ) → ℕ → ℕ → ℕ
back state zero q = 0
back state (suc n) q = cond (eqb (state n) q) n (back state n q)

back_found : (state : ℕ → ℕ) (n q i : ℕ) → i < n → state i ≡ q → (back state n q < n) × (state (back state n q) ≡ q)
back_found state zero q i l e = absurd (omega arith)
back_found state (suc n) q i l e =
    elim (cases_Bool (eqb (state n) q)) [
      | inl same ↦
          (let last : back state (suc n) q ≡ n = cond-true (eqb (state n) q) n (back state n q) same in
          (omega arith, ap state last ∙ eqb-true (state n) q same))
      | inr other ↦
          (let before : back state (suc n) q ≡ back state n q = cond-false (eqb (state n) q) n (back state n q) other in
          let apart : i ≡ n → ⊥ = λ same. eqb-false (state n) q other (ap state (sym same) ∙ e) in
          let x = back_found state n q i (omega arith) e in
          (omega (arith, x.0), ap state before ∙ x.1))
    ]

-- a copy
module _ (G : Group) (t c : Table G.Mean) (copied : Copied G t c) where
  -- words weigh what they do from the state that is copied
  copied_weighs :
      (q : ℕ) (w : List ℕ) → q < c.states → Word c.letters w → weight_from G c q w ≡ weight_from G t (copied.state q) w
  copied_weighs q [] l h = ap (λ b. within b G.one) (copied.final q l)
  copied_weighs q (a ∷ w) l h =
      let r : ℕ = c.target q a in
      ap (scaled G (c.weight q a))
      (copied_weighs r w (copied.closed.target_inside q a l h.0) h.1
      ∙ ap (λ i. weight_from G t i w) (copied.target q a l h.0))
      ∙ ap (λ k. scaled G k (weight_from G t (t.target (copied.state q) a) w)) (copied.weight q a l h.0)

  copied_accepts : (q : ℕ) (w : List ℕ) → q < c.states → Word c.letters w → accepts c q w ≡ accepts t (copied.state q) w
  copied_accepts q w l h =
      multiple_accepts G c t {n = 0} q (copied.state q)
      (record { words = λ v o m. copied_weighs q v l o ∙ sym (scaled_one G (weight_from G t (copied.state q) v)) }) w h (omega arith)

  -- the copy of a reachable state
  copy_of : ℕ → ℕ
  copy_of q = back copied.state c.states q

  copy_of_state : (i : ℕ) → i < c.states → copy_of (copied.state i) ≡ i
  unfolding copy_of
  copy_of_state i l =
      let x = back_found copied.state c.states (copied.state i) i l refl in copied.once (copy_of (copied.state i)) i x.0 l x.1

  dead_in_copy : (i : ℕ) → i < c.states → Dead t (copied.state i) → Dead c i
  dead_in_copy i l x =
      dead_moved t c (copied.state i) i (sym copied.letters)
      (λ v h. sym (copied_accepts i v l (subst (λ s. Word s v) (sym copied.letters) h))) x

  -- what is known of the push of a state tells that of its copy
  known_push :
      (d : ℕ → ℕ) (u : ℕ → G.Mean) (i : ℕ) (v : G.Mean) → Pushes G c d u → i < c.states → Push G t (copied.state i) v →
      LivePush G c i (d i) (u i) × (u i ≡ v)
  known_push d u i v pushes l x =
      elim (pushes i l) [
        | inl live ↦
            (let y : Smallest t (copied.state i) live.word =
            smallest_moved c t i (copied.state i) live.word copied.letters (λ w h. copied_accepts i w l h) live.smallest in
            let weighs = sym (copied_weighs i live.word l live.smallest.is_word) ∙ live.weighs in
            (live, push_unique G t (copied.state i) (u i) v (record { word = live.word; smallest = y; weighs = weighs }) x))
        | inr dead ↦
            absurd (smallest_not_dead c i x.word
            (smallest_moved t c (copied.state i) i x.word (sym copied.letters)
            (λ w h. sym (copied_accepts i w l (subst (λ s. Word s w) (sym copied.letters) h))) x.smallest)
            dead.dead)
      ]

  known_dead : (d : ℕ → ℕ) (u : ℕ → G.Mean) (i : ℕ) → Pushes G c d u → i < c.states → Dead t (copied.state i) → d i ≡ none
  known_dead d u i pushes l x =
      elim (pushes i l) [
        | inl live ↦ absurd (smallest_not_dead c i live.word live.smallest (dead_in_copy i l x))
        | inr dead ↦ dead.far
      ]

-- the labels of classes are their own labels
pub classes_labelled : (G : Group) (t : Table G.Mean) (label : ℕ → ℕ) → Classes G t label → Labelled t.states label
classes_labelled G t label x =
    record {
      inside = λ q l. omega (arith, x.first q l);
      leads = λ q l. sym (x.smallest q (label q) l (omega (arith, x.first q l)) (x.equivalent q l));
    }

-- the classes of a pushed copy
module _
    (G : Group)
    (t c p l : Table G.Mean)
    (d : ℕ → ℕ)
    (u : ℕ → G.Mean)
    (label : ℕ → ℕ)
    (copied : Copied G t c)
    (pushes : Pushes G c d u)
    (pushed : PushedWeights G c d u p)
    (classes : Classes G p label)
    (gathered : Gathered G p label l)
  where
    in_pushed : (i : ℕ) → i < c.states → i < p.states
    in_pushed i m = omega (arith, pushed.states)

    letters : p.letters ≡ t.letters
    letters = pushed.letters ∙ copied.letters

    labelled : Labelled c.states label
    labelled = subst (λ n. Labelled n label) pushed.states (classes_labelled G p label classes)

    -- the targets of equivalent states are equivalent
    targets_alike :
        (i j a : ℕ) → i < c.states → j < c.states → a < c.letters → Equivalent G p i j → Equivalent G p (c.target i a) (c.target j a)
    targets_alike i j a m n h e =
        let letter : a < p.letters = omega (arith, pushed.letters) in
        subst (λ k. Equivalent G p k (c.target j a)) (pushed.target i a m h)
        (subst (Equivalent G p (p.target i a)) (pushed.target j a n h) (equivalent_next G p i j a letter e))

    label_first : (i : ℕ) → i < c.states → label i ≤ i
    label_first i m = classes.first i (in_pushed i m)

    label_inside : (i : ℕ) → i < c.states → label i < c.states
    label_inside = labelled.inside

    -- a state of p is a multiple of the state of t that it stems from
    stems :
        (i : ℕ) → i < c.states →
        Multiple G t.letters 0 (G.inv (u i)) (weight_from G p i) (weight_from G t (copied.state i))
    stems i m =
        record {
          words =
              λ w h n.
              let o : Word c.letters w = subst (λ s. Word s w) (sym copied.letters) h in
              pushed_weighs G c d u p copied.closed pushes pushed i w m o
              ∙ ap (scaled G (G.inv (u i))) (copied_weighs G t c copied i w m o);
        }

    equivalent_there :
        (i j : ℕ) → i < c.states → j < c.states → Equivalent G t (copied.state i) (copied.state j) → Equivalent G p i j
    equivalent_there i j m n e =
        let s = t.letters in
        let fi = weight_from G p i in
        let fj = weight_from G p j in
        let gi = weight_from G t (copied.state i) in
        let gj = weight_from G t (copied.state j) in
        let x : G.Mean = G.inv (u i) in
        let y : G.Mean = G.inv (G.inv (u j)) in
        let back = multiple_sym (stems j n) in
        let whole : Multiple G s 0 (G.mul x (G.mul e.factor y)) fi fj =
        multiple_trans (stems i m) (multiple_trans e.by back) in
        record {
          factor = G.mul x (G.mul e.factor y);
          by = subst (λ s. Multiple G s 0 (G.mul x (G.mul e.factor y)) fi fj) (sym letters) whole;
        }

    equivalent_here :
        (i j : ℕ) → i < c.states → j < c.states → Equivalent G p i j → Equivalent G t (copied.state i) (copied.state j)
    equivalent_here i j m n e =
        let s = t.letters in
        let fi = weight_from G p i in
        let fj = weight_from G p j in
        let gi = weight_from G t (copied.state i) in
        let gj = weight_from G t (copied.state j) in
        let x : G.Mean = G.inv (G.inv (u i)) in
        let y : G.Mean = G.inv (u j) in
        let back = multiple_sym (stems i m) in
        let by : Multiple G s 0 e.factor fi fj = subst (λ s. Multiple G s 0 e.factor fi fj) letters e.by in
        record {
          factor = G.mul x (G.mul e.factor y);
          by = multiple_trans back (multiple_trans by (stems j n));
        }

    -- states with one label are equivalent
    one_label : (i j : ℕ) → i < c.states → j < c.states → label i ≡ label j → Equivalent G p i j
    one_label i j m n e =
        let x = classes.equivalent i (in_pushed i m) in
        let y = classes.equivalent j (in_pushed j n) in
        let f = weight_from G p (label j) in
        let g = weight_from G p j in
        let by : Multiple G p.letters 0 x.factor (weight_from G p i) f =
        subst (λ k. Multiple G p.letters 0 x.factor (weight_from G p i) (weight_from G p k)) e x.by in
        record {
          factor = G.mul x.factor (G.inv y.factor);
          by =
              multiple_trans by (multiple_sym y.by);
        }

    -- the class of a state of t
    class_of : ℕ → ℕ
    class_of q = number label (copy_of G t c copied q)

    class_copy : (i : ℕ) → i < c.states → class_of (copied.state i) ≡ number label i
    unfolding class_of
    class_copy i m = ap (number label) (copy_of_state G t c copied i m)

    class_label : (i : ℕ) → i < c.states → class_of (copied.state i) ≡ number label (label i)
    class_label i m = class_copy i m ∙ sym (number_label label i (labelled.leads i m))

    -- an arc to the target of a state's copy leads to the class of its own target
    class_target :
        (i a : ℕ) → i < c.states → a < c.letters → class_of (t.target (copied.state i) a) ≡ number label (c.target i a)
    class_target i a m h =
        ap class_of (sym (copied.target i a m h)) ∙ class_copy (c.target i a) (copied.closed.target_inside i a m h)

    -- the states that a state and its label lead to have one label
    label_next : (i a : ℕ) → i < c.states → a < c.letters → label (c.target (label i) a) ≡ label (c.target i a)
    label_next i a m h =
        let j = label i in
        let n : j < c.states = label_inside i m in
        let inside = in_pushed (c.target i a) (copied.closed.target_inside i a m h) in
        let inside' = in_pushed (c.target j a) (copied.closed.target_inside j a n h) in
        sym (classes.smallest (c.target i a) (c.target j a) inside inside'
        (targets_alike i j a m n h (classes.equivalent i (in_pushed i m))))

    -- the row of a class is that of its label
    arc_least :
        (i a : ℕ) → i < c.states → a < c.letters → l.target (number label (label i)) a ≡ number label (c.target i a)
    arc_least i a m h =
        let j = label i in
        let n : j < c.states = label_inside i m in
        let letter : a < p.letters = omega (arith, pushed.letters) in
        gathered.target j a (in_pushed j n) letter (labelled.leads i m)
        ∙ ap (number label) (pushed.target j a n h)
        ∙ ap (count_below (leads label)) (label_next i a m h)

    least_target :
        (i a : ℕ) → i < c.states → a < c.letters →
        l.target (class_of (copied.state i)) a ≡ class_of (t.target (copied.state i) a)
    least_target i a m h =
        ap (λ k. l.target k a) (class_label i m) ∙ arc_least i a m h ∙ sym (class_target i a m h)

    least_weight : (i a : ℕ) → i < c.states → a < c.letters → l.weight (class_of (copied.state i)) a ≡ p.weight (label i) a
    least_weight i a m h =
        let letter : a < p.letters = omega (arith, pushed.letters) in
        ap (λ k. l.weight k a) (class_label i m)
        ∙ gathered.weight (label i) a (in_pushed (label i) (label_inside i m)) letter (labelled.leads i m)

    least_final : (i : ℕ) → i < c.states → l.final (class_of (copied.state i)) ≡ t.final (copied.state i)
    least_final i m =
        let e = classes.equivalent i (in_pushed i m) in
        ap l.final (class_label i m)
        ∙ gathered.final (label i) (in_pushed (label i) (label_inside i m)) (labelled.leads i m)
        ∙ sym (equivalent_accepts G p i (label i) e [] tt)
        ∙ pushed.final i m
        ∙ copied.final i m

    weight_live :
        (i a : ℕ) (x y : G.Mean) → i < c.states → a < c.letters → Push G t (copied.state i) x →
        Push G t (t.target (copied.state i) a) y →
        l.weight (class_of (copied.state i)) a ≡ G.mul (G.inv x) (G.mul (t.weight (copied.state i) a) y)
    weight_live i a x y m h push push' =
        let r : ℕ = c.target i a in
        let k = known_push G t c copied d u i x pushes m push in
        let there : Push G t (copied.state r) y = subst (λ q. Push G t q y) (sym (copied.target i a m h)) push' in
        let k' = known_push G t c copied d u r y pushes (copied.closed.target_inside i a m h) there in
        least_weight i a m h
        ∙ sym (weights_alike G p d (pushed_normal G c d u p copied.closed pushes pushed)
        (pushed_closed G c d u p copied.closed pushed) i (label i) a (in_pushed i m) (in_pushed (label i) (label_inside i m))
        (omega (arith, pushed.letters)) (classes.equivalent i (in_pushed i m)))
        ∙ arc_live G c d u p copied.closed pushes pushed i a m h k'.0
        ∙ ap (λ v. G.mul (G.inv v) (G.mul (c.weight i a) (u r))) k.1
        ∙ ap (λ v. G.mul (G.inv x) (G.mul v (u r))) (copied.weight i a m h)
        ∙ ap (λ v. G.mul (G.inv x) (G.mul (t.weight (copied.state i) a) v)) k'.1

    weight_dead :
        (i a : ℕ) → i < c.states → a < c.letters → Dead t (t.target (copied.state i) a) →
        l.weight (class_of (copied.state i)) a ≡ G.one
    weight_dead i a m h x =
        let j = label i in
        let n : j < c.states = label_inside i m in
        let r : ℕ = c.target i a in
        let r' : ℕ = c.target j a in
        let inside : r < c.states = copied.closed.target_inside i a m h in
        let inside' : r' < c.states = copied.closed.target_inside j a n h in
        let here : Dead t (copied.state r) = subst (Dead t) (sym (copied.target i a m h)) x in
        let e =
        equivalent_here r r' inside inside'
        (targets_alike i j a m n h (classes.equivalent i (in_pushed i m))) in
        let there : Dead t (copied.state r') =
        dead_moved t t (copied.state r) (copied.state r') refl
        (equivalent_accepts G t (copied.state r) (copied.state r') e) here in
        least_weight i a m h
        ∙ arc_dead G c d u p copied.closed pushes pushed j a n h (known_dead G t c copied d u r' pushes inside' there)

    start_zero : number label c.start ≡ 0
    start_zero =
        let zero : c.start ≡ 0 = copied.order.start_first in
        let first : label 0 ≡ 0 = omega (arith, label_first 0 (omega (arith, copied.closed.start_inside))) in
        ap (number label) zero ∙ ap (count_below (leads label)) first

    -- labels are met in the order of their numbers, and none later than another state of its class
    read_before :
        (i b j a : ℕ) → label i ≡ i → label j ≡ j → ReadBefore i b j a → ReadBefore (number label i) b (number label j) a
    read_before i b j a e e' (inl less) = inl (number_rises label i j e e' less)
    read_before i b j a e e' (inr (same, less)) = inr (ap (number label) same, less)

    label_before : (i b j a : ℕ) → i < c.states → ReadBefore i b j a → ReadBefore (label i) b j a
    label_before i b j a m (inl less) = inl (omega (arith, label_first i m))
    label_before i b j a m (inr (same, less)) =
        elim (cases_eq (label i) i) [
          | inl e ↦ inr (e ∙ same, less)
          | inr other ↦ inl (omega (arith, label_first i m))
        ]

    in_least : (i : ℕ) → i < c.states → number label i < l.states
    in_least i m =
        omega (arith, gathered.states, ap (count_below (leads label)) pushed.states, number_inside c.states label labelled i m)

    met_least : (i : ℕ) → i < l.states → (q : ℕ) × (q < c.states) × (label q ≡ q) × (number label q ≡ i)
    met_least i m =
        let few : i < count_below (leads label) c.states =
        omega (arith, gathered.states, ap (count_below (leads label)) pushed.states) in
        number_met c.states label labelled i few

    start_least : l.start ≡ number label c.start
    start_least = gathered.start ∙ ap (number label) pushed.start

    -- where an earlier arc leads to a state, the arc of its state's label leads to the class of that state, and is read no later
    met_before :
        (j a i : ℕ) → label j ≡ j → MetBefore c j a i → MetBefore l (number label j) a (number label i)
    met_before j a i e (inl first) = inl (ap (number label) first ∙ sym start_least)
    met_before j a i e (inr (k, b, inside, letter, before, to)) =
        inr (
          number label (label k),
          b,
          in_least (label k) (label_inside k inside),
          omega (arith, gathered.letters, pushed.letters),
          read_before (label k) b j a (labelled.leads k inside) e (label_before k b j a inside before),
          arc_least k b inside letter ∙ ap (number label) to,
        )

    least_order : InReadingOrder l
    least_order =
        record {
          start_first = start_least ∙ start_zero;
          arcs =
              λ x a y inside letter less.
              let j = met_least x inside in
              let h : a < c.letters = omega (arith, gathered.letters, pushed.letters) in
              let r : ℕ = c.target j.0 a in
              let r_inside : r < c.states = copied.closed.target_inside j.0 a j.1 h in
              let to : l.target x a ≡ number label r =
              ap (λ i. l.target i a) (sym j.3 ∙ sym (number_label label j.0 (labelled.leads j.0 j.1)))
              ∙ arc_least j.0 a j.1 h in
              let i = met_least y (omega (arith, to, in_least r r_inside)) in
              let own : number label i.0 ≡ count_below (leads label) i.0 = number_first label i.0 i.2 in
              let below : i.0 < r =
              elim (cases_lt i.0 (label r)) [
                | inl before ↦ omega (arith, label_first r r_inside)
                | inr after ↦
                    absurd (omega (arith, to, own, i.3, kept_grows (leads label) (label r) i.0 after))
              ] in
              subst (λ k. MetBefore l k a y) j.3
              (subst (MetBefore l (number label j.0) a) i.3
              (met_before j.0 a i.0 j.2 (copied.order.arcs j.0 a i.0 j.1 h below)));
        }

    start_weighs : Pushed G t t.start t.start_weight l.start_weight
    start_weighs =
        let given = gathered.start_weight ∙ pushed.start_weight in
        let x : G.Mean = G.mul c.start_weight (u c.start) in
        record {
          live =
              λ v push.
              let there : Push G t (copied.state c.start) v = subst (λ q. Push G t q v) (sym copied.start) push in
              let k = known_push G t c copied d u c.start v pushes copied.closed.start_inside there in
              given
              ∙ cond-false (eqb (d c.start) none) G.one x (near_state G c d u p copied.closed pushes pushed c.start k.0)
              ∙ ap (λ y. G.mul y (u c.start)) copied.start_weight
              ∙ ap (G.mul t.start_weight) k.1;
          dead =
              λ dead.
              let there : Dead t (copied.state c.start) = subst (Dead t) (sym copied.start) dead in
              given
              ∙ cond-true (eqb (d c.start) none) G.one x
              (eq-eqb (d c.start) none (known_dead G t c copied d u c.start pushes copied.closed.start_inside there));
        }

    letter_copied : (a : ℕ) → a < t.letters → a < c.letters
    letter_copied a h = omega (arith, copied.letters)

    is_least : Least G t l
    is_least =
        record {
          letters = gathered.letters ∙ letters;
          class = class_of;
          class_inside =
              λ q r.
              let i = copied.met q r in
              subst (λ q. class_of q < l.states) i.2
              (subst (λ k. k < l.states) (sym (class_copy i.0 i.1)) (in_least i.0 i.1));
          class_met =
              λ k m.
              let i = met_least k m in (copied.state i.0, copied.reachable i.0 i.1, class_copy i.0 i.1 ∙ i.3);
          one_class =
              λ q q' r r' e.
              let i = copied.met q r in
              let j = copied.met q' r' in
              let e' : Equivalent G t (copied.state i.0) (copied.state j.0) =
              subst (λ k. Equivalent G t k (copied.state j.0)) (sym i.2) (subst (Equivalent G t q) (sym j.2) e) in
              let same : label i.0 ≡ label j.0 =
              classes.smallest i.0 j.0 (in_pushed i.0 i.1) (in_pushed j.0 j.1) (equivalent_there i.0 j.0 i.1 j.1 e') in
              ap class_of (sym i.2)
              ∙ class_copy i.0 i.1
              ∙ ap (count_below (leads label)) same
              ∙ sym (class_copy j.0 j.1)
              ∙ ap class_of j.2;
          equivalent =
              λ q q' r r' e.
              let i = copied.met q r in
              let j = copied.met q' r' in
              let same : number label i.0 ≡ number label j.0 =
              sym (class_copy i.0 i.1) ∙ ap class_of i.2 ∙ e ∙ ap class_of (sym j.2) ∙ class_copy j.0 j.1 in
              let one : label i.0 ≡ label j.0 =
              kept_injective (leads label) (label i.0) (label j.0) (stands label (label i.0) (labelled.leads i.0 i.1))
              (stands label (label j.0) (labelled.leads j.0 j.1)) same in
              subst (λ k. Equivalent G t k q') i.2
              (subst (Equivalent G t (copied.state i.0)) j.2
              (equivalent_here i.0 j.0 i.1 j.1 (one_label i.0 j.0 i.1 j.1 one)));
          start = start_least ∙ sym (class_copy c.start copied.closed.start_inside) ∙ ap class_of copied.start;
          final =
              λ q r.
              let i = copied.met q r in subst (λ q. l.final (class_of q) ≡ t.final q) i.2 (least_final i.0 i.1);
          target =
              λ q a r h.
              let i = copied.met q r in
              subst (λ q. l.target (class_of q) a ≡ class_of (t.target q a)) i.2
              (least_target i.0 a i.1 (letter_copied a h));
          weight_live =
              λ q a x y r h push push'.
              let i = copied.met q r in
              subst (λ q.
              Push G t q x → Push G t (t.target q a) y →
              l.weight (class_of q) a ≡ G.mul (G.inv x) (G.mul (t.weight q a) y))
              i.2
              (λ push push'. weight_live i.0 a x y i.1 (letter_copied a h) push push') push push';
          weight_dead =
              λ q a r h dead.
              let i = copied.met q r in
              subst (λ q. Dead t (t.target q a) → l.weight (class_of q) a ≡ G.one) i.2
              (λ dead. weight_dead i.0 a i.1 (letter_copied a h) dead) dead;
          start_weight = start_weighs;
          order = least_order;
        }

-- copied, pushed, told apart and gathered, a table becomes its least table
pub least_table :
    (G : Group) (t c p l : Table G.Mean) (d : ℕ → ℕ) (u : ℕ → G.Mean) (label : ℕ → ℕ) → Lawful t → Copied G t c → Pushes G c d u →
    PushedWeights G c d u p → Classes G p label → Gathered G p label l → Least G t l
least_table G t c p l d u label lawful copied pushes pushed classes gathered =
    is_least G t c p l d u label copied pushes pushed classes gathered
