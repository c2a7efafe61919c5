-- What two sources that weigh every word alike answer, where both answer a weight. Assumes nothing.
use Rattle.std.proofs.Common.{◌≡◌, ℕ, suc, List, [], ◌∷◌, Some, None, Ok, Option, Result, sym, ap, ◌∙◌, rules}
use Rattle.weights.specs.Group.{Group, Kind}
use Rattle.weights.specs.Refusal.{Told, judged, outcome_as, indexed}
use Rattle.weights.specs.declared.refusal.Refusal.{Refusal}
use Rattle.tables.specs.Table.{Table, Word, WeighAlike, meant, no_letter_from, weight_of, weighing}
use Rattle.tables.proofs.Reading.{first_letter}

-- a list without a byte that is no letter is a word
all_letters : (s i : ℕ) (w : List ℕ) → no_letter_from s i w ≡ None → Word s w
all_letters s i [] e = tt
all_letters s i (a ∷ w) e = let h = first_letter s i a w e in (h.0, all_letters s (suc i) w h.1)

-- an answer that is a weight comes of a word
weighed :
    {M : Type 0} (found : Option ℕ) (z : Option M) (m : M) →
    judged (elim found [ Some i ↦ Some (indexed 3 i) | None ↦ None ]) z ≡ Ok (Some m) → (found ≡ None) × (z ≡ Some m)
weighed None z m e = search rules
weighed (Some i) z m e = search rules

-- what a call answers is what weighing comes to
pub answered :
    {W : Type 0} (K : Kind W) (p : Result (Option W) Refusal) (x : W) (said : Result (Option K.group.Mean) Told) →
    outcome_as (meant K) p ≡ said → p ≡ Ok (Some x) → said ≡ Ok (Some (K.mean x))
answered K p x said e is = sym e ∙ ap (outcome_as (meant K)) is

-- two tables that weigh every word alike answer one weight
pub one_weight :
    (G : Group) (t u : Table G.Mean) (w : List ℕ) (x y : G.Mean) → weighing G t w ≡ Ok (Some x) → weighing G u w ≡ Ok (Some y) →
    WeighAlike G t u → x ≡ y
one_weight G t u w x y e f alike =
    let left = weighed (no_letter_from t.letters 0 w) (weight_of G t w) x e in
    let right = weighed (no_letter_from u.letters 0 w) (weight_of G u w) y f in
    let same : Some x ≡ Some y = sym left.1 ∙ alike.words w (all_letters t.letters 0 w left.0) ∙ right.1 in
    search rules
