-- Canonical tables that weigh every word alike are the same table. Assumes nothing.
use Rattle.std.proofs.Common.{◌≡◌, ℕ, ◌<◌, true, List, [], ◌∷◌, Some, None, Option, inl, inr, sym, refl, ap, ◌∙◌, subst, arith}
use Rattle.weights.specs.Group.{Group}
use Rattle.tables.specs.Table.{Table, Word, scaled, weight_from}
use Rattle.tables.proofs.Reading.{some_injective}
use Rattle.theory.specs.Runs.{accepts, Live, Dead}
use Rattle.theory.specs.Push.{Smallest, Push}
use Rattle.theory.specs.Theorems.{SameTable}
use Rattle.theory.proofs.Basics.{factor_told, scaled_one, scaled_told}
use Rattle.theory.proofs.Equal.{equal_same}
use Rattle.theory.proofs.Search.{live_or_dead, push_there}
use Rattle.theory.proofs.Determined.Mates.{Twins, mates_after, mates_accept, one_on_right}
use Rattle.theory.proofs.Determined.Numbers.{all_shared, same_states}

-- the weight that a multiple was made from
unscaled :
    (G : Group) (k u : G.Mean) (o : Option G.Mean) → Some u ≡ scaled G k o → (y : G.Mean) × (o ≡ Some y) × (u ≡ G.mul k y)
unscaled G k u (Some y) e = (y, refl, some_injective e)
unscaled G k u None e = absurd cc

-- what holds of two canonical tables that weigh every word alike
module _ (G : Group) (l m : Table G.Mean) (x : Twins G l m) where
  same_letters : l.letters ≡ m.letters
  same_letters = x.alike.letters

  same_start : l.start ≡ m.start
  same_start = x.left.order.start_first ∙ sym x.right.order.start_first

  same_final : (q : ℕ) → q < l.states → l.final q ≡ m.final q
  same_final q h = mates_accept G l m q q [] tt (all_shared G l m x q h).mates

  same_target : (q a : ℕ) → q < l.states → a < l.letters → l.target q a ≡ m.target q a
  same_target q a h b =
      let r : ℕ = l.target q a in
      let here = all_shared G l m x q h in
      let there = all_shared G l m x r (x.left.closed.target_inside q a h b) in
      let c : a < m.letters = subst (λ s. a < s) same_letters b in
      let inside : m.target q a < m.states = x.right.closed.target_inside q a here.in_right c in
      one_on_right G l m x r r (m.target q a) there.in_right inside there.mates
      (mates_after G l m q q (a ∷ []) (b, tt) here.mates)

  -- from one state the same words are accepted, so it has one smallest word, and is dead in both tables or in none
  same_accepts : (q : ℕ) (w : List ℕ) → q < l.states → Word l.letters w → accepts l q w ≡ accepts m q w
  same_accepts q w h word = mates_accept G l m q q w word (all_shared G l m x q h).mates

  same_smallest : (q : ℕ) (w : List ℕ) → q < l.states → Smallest l q w → Smallest m q w
  same_smallest q w h small =
      record {
        is_word = subst (λ s. Word s w) same_letters small.is_word;
        accepted = sym (same_accepts q w h small.is_word) ∙ small.accepted;
        least =
            λ v word accepted.
            let word' : Word l.letters v = subst (λ s. Word s v) (sym same_letters) word in
            small.least v word' (same_accepts q v h word' ∙ accepted);
      }

  same_dead : (q : ℕ) → q < l.states → Dead l q → Dead m q
  same_dead q h d =
      record {
        none =
            λ w word.
            let word' : Word l.letters w = subst (λ s. Word s w) (sym same_letters) word in
            sym (same_accepts q w h word') ∙ d.none w word';
      }

  -- a word that weighs one from state q of both tables
  record OneWord (q : ℕ) : Type 0 where
    pub word : List ℕ
    pub is_word : Word l.letters word
    pub accepted : accepts l q word ≡ true
    pub left : weight_from G l q word ≡ Some G.one
    pub right : weight_from G m q word ≡ Some G.one

  one_word : (q : ℕ) → q < l.states → Live l q → OneWord q
  one_word q h live =
      let p = push_there G l x.left.closed q live in
      let push = p.1 in
      let w : List ℕ = push.word in
      let both = all_shared G l m x q h in
      let one : weight_from G l q w ≡ Some G.one = push.weighs ∙ ap Some (x.left.pushes q p.0 h push) in
      let other = unscaled G both.mates.factor p.0 (weight_from G m q w)
      (sym push.weighs ∙ both.mates.by.words w push.smallest.is_word (omega arith)) in
      let push' : Push G m q other.0 = record { word = w; smallest = same_smallest q w h push.smallest; weighs = other.1 } in
      record {
        word = w;
        is_word = push.smallest.is_word;
        accepted = push.smallest.accepted;
        left = one;
        right = other.1 ∙ ap Some (x.right.pushes q other.0 both.in_right push');
      }

  -- from a live state a word weighs alike in both tables
  same_weight_from :
      (q : ℕ) (w : List ℕ) → q < l.states → Live l q → Word l.letters w → weight_from G l q w ≡ weight_from G m q w
  same_weight_from q w h live word =
      let both = all_shared G l m x q h in
      let k : G.Mean = both.mates.factor in
      let o = one_word q h live in
      let e : G.one ≡ G.mul k G.one =
      some_injective (sym o.left ∙ both.mates.by.words o.word o.is_word (omega arith) ∙ ap (scaled G k) o.right) in
      let one : k ≡ G.one = factor_told G k G.one G.one (sym e ∙ sym (G.one_left G.one)) in
      both.mates.by.words w word (omega arith)
      ∙ ap (λ y. scaled G y (weight_from G m q w)) one
      ∙ scaled_one G (weight_from G m q w)

  same_weight : (q a : ℕ) → q < l.states → a < l.letters → l.weight q a ≡ m.weight q a
  same_weight q a h b =
      let r : ℕ = l.target q a in
      let inside : r < l.states = x.left.closed.target_inside q a h b in
      let turn : r ≡ m.target q a = same_target q a h b in
      elim (live_or_dead l x.left.closed r inside) [
        | inl live ↦
            let o = one_word r inside live in
            let here : Live l q = record { by = a ∷ o.word; is_word = (b, o.is_word); accepted = o.accepted } in
            scaled_told G (l.weight q a) (m.weight q a) G.one (weight_from G l r o.word) (weight_from G m (m.target q a) o.word) o.left
            (subst (λ p. weight_from G m p o.word ≡ Some G.one) turn o.right)
            (same_weight_from q (a ∷ o.word) h here (b, o.is_word))
        | inr dead ↦
            x.left.dead_arcs q a h b dead
            ∙ sym (x.right.dead_arcs q a (all_shared G l m x q h).in_right (subst (λ s. a < s) same_letters b)
            (subst (Dead m) turn (same_dead r inside dead)))
      ]

  same_start_weight : l.start_weight ≡ m.start_weight
  same_start_weight =
      let inside : l.start < l.states = x.left.closed.start_inside in
      elim (live_or_dead l x.left.closed l.start inside) [
        | inl live ↦
            let o = one_word l.start inside live in
            scaled_told G l.start_weight m.start_weight G.one (weight_from G l l.start o.word) (weight_from G m m.start o.word) o.left
            (subst (λ p. weight_from G m p o.word ≡ Some G.one) same_start o.right) (x.alike.words o.word o.is_word)
        | inr dead ↦
            x.left.dead_start dead ∙ sym (x.right.dead_start (subst (Dead m) same_start (same_dead l.start inside dead)))
      ]

-- canonical tables that weigh every word alike are the same table
pub same_table : (G : Group) (l m : Table G.Mean) → Twins G l m → SameTable G l m
same_table G l m x =
    equal_same G l m x.left.closed x.right.closed
    (record {
      states = same_states G l m x;
      letters = same_letters G l m x;
      start = same_start G l m x;
      start_weight = same_start_weight G l m x;
      final = same_final G l m x;
      target = same_target G l m x;
      weight = same_weight G l m x;
    })
