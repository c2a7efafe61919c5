-- Canonical tables that weigh every word alike number their states alike. Assumes nothing.
use Rattle.std.proofs.Common.{◌≡◌, ℕ, zero, suc, ◌+◌, ◌*◌, ◌<◌, ◌≤◌, List, [], ◌∷◌, ◌⊎◌, inl, inr, sym, refl, ◌∙◌, subst, mul-le-mul_right, suc-mul, arith}
use Rattle.std.proofs.lemmas.Bool.{cases_order}
use Rattle.weights.specs.Group.{Group}
use Rattle.tables.specs.Table.{Table, Word}
use Rattle.theory.specs.Runs.{led}
use Rattle.theory.specs.Least.{ReadBefore, MetBefore}
use Rattle.theory.proofs.Determined.Canonical.{Canonical}
use Rattle.theory.proofs.Determined.Mates.{Mates, Twins, twins_turned, mates_turned, mates_after, starts_mate, one_on_left}

-- an arc that is read before another has a smaller place
earlier_place : (s p b q a : ℕ) → b < s → ReadBefore p b q a → p * s + b < q * s + a
earlier_place s p b q a inside (inl less) =
    let row : suc p * s ≤ q * s = mul-le-mul_right s less in
    omega (arith, suc-mul p s)
earlier_place s p b q a inside (inr (e, less)) = subst (λ r. p * s + b < r * s + a) e (omega arith)

-- arc (p, b) leads from a state below j to j
record ArcInto {M : Type 0} (t : Table M) (j p b : ℕ) : Type 0 where
  pub below : p < j
  pub letter : b < t.letters
  pub leads : t.target p b ≡ j

-- both tables have state j, and words weigh alike from it but for a factor
pub record Shared (G : Group) (l m : Table G.Mean) (j : ℕ) : Type 0 where
  pub in_left : j < l.states
  pub in_right : j < m.states
  pub mates : Mates G l m j j

module _ (G : Group) where
  shared_turned : (l m : Table G.Mean) (j : ℕ) → l.letters ≡ m.letters → Shared G l m j → Shared G m l j
  shared_turned l m j e x =
      record { in_left = x.in_right; in_right = x.in_left; mates = mates_turned G l m j j e x.mates }

  -- a word that leads from below j to j passes an arc from below j to j or above
  passes :
      (l : Table G.Mean) (j q : ℕ) (w : List ℕ) → q < j → Word l.letters w → led l q w ≡ j →
      (p : ℕ) × (b : ℕ) × (p < j) × (b < l.letters) × (j ≤ l.target p b)
  passes l j q [] less word e = absurd (omega arith)
  passes l j q (a ∷ w) less word e =
      elim (cases_order (l.target q a) j) [
        | inl same ↦ (q, a, less, word.0, omega arith)
        | inr (inl below) ↦ passes l j (l.target q a) w below word.1 e
        | inr (inr above) ↦ (q, a, less, word.0, omega arith)
      ]

  -- an arc that is met before an arc of a state below j
  met_arc :
      (l : Table G.Mean) (j q a : ℕ) → Canonical G l → 0 < j → q < j → MetBefore l q a j →
      (p : ℕ) × (b : ℕ) × ArcInto l j p b × ReadBefore p b q a
  met_arc l j q a x some less (inl e) = absurd (let z : l.start ≡ 0 = x.order.start_first in omega arith)
  met_arc l j q a x some less (inr (p, b, inside, letter, before, e)) =
      (p, b, record { below = not_above before; letter = letter; leads = e }, before)
    where
      not_above : ReadBefore p b q a → p < j
      not_above (inl h) = omega arith
      not_above (inr h) = omega arith

  -- each state but the start has an arc from a state below
  arc_into : (l : Table G.Mean) (j : ℕ) → Canonical G l → 0 < j → j < l.states → (p : ℕ) × (b : ℕ) × ArcInto l j p b
  arc_into l j x some inside =
      let r = x.reached j inside in
      let first : l.start ≡ 0 = x.order.start_first in
      let arc = passes l j l.start r.by (omega arith) r.is_word r.leads in
      elim (cases_order (l.target arc.0 arc.1) j) [
        | inl same ↦ (arc.0, arc.1, record { below = arc.2; letter = arc.3; leads = same })
        | inr (inl below) ↦ absurd (omega arith)
        | inr (inr above) ↦
            let met = met_arc l j arc.0 arc.1 x some arc.2 (x.order.arcs arc.0 arc.1 j (omega arith) arc.3 above) in
            (met.0, met.1, met.2)
      ]

  -- where an arc of l leads to j and the states below j are shared, j is shared too, or an earlier arc of m leads to j
  other_arc :
      (l m : Table G.Mean) (j p b : ℕ) → Twins G l m → ((i : ℕ) → i < j → Shared G l m i) → j < l.states → ArcInto l j p b →
      Shared G l m j ⊎ ((p' : ℕ) × (b' : ℕ) × (j < m.states) × ArcInto m j p' b' × ReadBefore p' b' p b)
  other_arc l m j p b x below inside arc =
      let from = below p arc.below in
      let y : ℕ = m.target p b in
      let letter : b < m.letters = subst (λ s. b < s) x.alike.letters arc.letter in
      let y_inside : y < m.states = x.right.closed.target_inside p b from.in_right letter in
      let there : Mates G l m j y =
      subst (λ i. Mates G l m i y) arc.leads (mates_after G l m p p (b ∷ []) (arc.letter, tt) from.mates) in
      elim (cases_order y j) [
        | inl same ↦
            inl (record { in_left = inside; in_right = subst (λ i. i < m.states) same y_inside; mates = subst (Mates G l m j) same there })
        | inr (inl less) ↦
            let clash : j ≡ y = one_on_left G l m x j y y inside (omega arith) there (below y less).mates in
            absurd (omega arith)
        | inr (inr above) ↦
            let before = x.right.order.arcs p b j from.in_right letter above in
            let met = met_arc m j p b x.right (omega (arith, arc.below)) arc.below before in
            inr (met.0, met.1, omega arith, met.2, met.3)
      ]

  -- an arc is looked for in the one table and in the other, and each time an earlier one
  shared_by_arc :
      (n s : ℕ) (l m : Table G.Mean) (j p b : ℕ) → Twins G l m → s ≡ l.letters → ((i : ℕ) → i < j → Shared G l m i) → j < l.states →
      p * s + b < n → ArcInto l j p b → Shared G l m j
  shared_by_arc zero s l m j p b x e below inside less arc = absurd (omega arith)
  shared_by_arc (suc n) s l m j p b x e below inside less arc =
      let same : l.letters ≡ m.letters = x.alike.letters in
      elim (other_arc l m j p b x below inside arc) [
        | inl shared ↦ shared
        | inr (p', b', inside', arc', before) ↦
            shared_turned m l j (sym same)
            (shared_by_arc n s m l j p' b' (twins_turned G l m x) (e ∙ same) (λ i h. shared_turned l m i same (below i h)) inside'
            (let letter : b' < s = subst (λ k. b' < k) (sym (e ∙ same)) arc'.letter in
            omega (arith, earlier_place s p' b' p b letter before))
            arc')
      ]

  shared_below : (n : ℕ) (l m : Table G.Mean) → Twins G l m → (j : ℕ) → j < n → j < l.states → Shared G l m j
  shared_below zero l m x j less inside = absurd (omega arith)
  shared_below (suc n) l m x zero less inside =
      let e : l.start ≡ 0 = x.left.order.start_first in
      let e' : m.start ≡ 0 = x.right.order.start_first in
      record {
        in_left = inside;
        in_right = subst (λ i. i < m.states) e' x.right.closed.start_inside;
        mates = subst (λ i. Mates G l m i 0) e (subst (Mates G l m l.start) e' (starts_mate G l m x.alike));
      }
  shared_below (suc n) l m x (suc i) less inside =
      let arc = arc_into l (suc i) x.left (omega arith) inside in
      shared_by_arc (suc (arc.0 * l.letters + arc.1)) l.letters l m (suc i) arc.0 arc.1 x refl
      (λ k h. shared_below n l m x k (omega arith) (omega arith)) inside (omega arith) arc.2

  -- every state of the one is a state of the other
  pub all_shared : (l m : Table G.Mean) → Twins G l m → (j : ℕ) → j < l.states → Shared G l m j
  all_shared l m x j inside = shared_below (suc j) l m x j (omega arith) inside

  -- so there are as many
  pub same_states : (l m : Table G.Mean) → Twins G l m → l.states ≡ m.states
  same_states l m x =
      elim (cases_order l.states m.states) [
        | inl same ↦ same
        | inr (inl less) ↦ absurd (omega (arith, (all_shared m l (twins_turned G l m x) l.states less).in_right))
        | inr (inr more) ↦ absurd (omega (arith, (all_shared l m x m.states more).in_right))
      ]
