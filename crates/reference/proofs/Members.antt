-- Lists of different states: one more state, and how many there are. Assumes nothing.
use Rattle.std.proofs.Common.{◌≡◌, ℕ, ◌<◌, ◌≤◌, ◌++◌, ◌∷◌, [], List, length, get_or, eqb, false, arith}
use Rattle.std.specs.List.{list_any}
use Rattle.std.proofs.lemmas.Cmp.{nat_eq_equiv}
use Rattle.std.proofs.lemmas.List.Elements.{All-push, All-nil, All-from_get_or}
use Rattle.std.proofs.lemmas.List.Folds.{list_any_none, Any-from_list_any}
use Rattle.std.proofs.lemmas.Map.Keys.{IsDistinct-push, IsDistinct-from_apart}
use Rattle.std.proofs.lemmas.Map.Steps.{length-le_from_distinct_below}
use Rattle.std.proofs.lemmas.Bool.Decides.{nat_tests}
use Rattle.reference.specs.Members.{Members}

-- a number is not among those that differ from it
absent : (ms : List ℕ) (q : ℕ) → ((k : ℕ) → k < length ms → get_or ms k 0 ≡ q → ⊥) → list_any (eqb q) ms ≡ false
absent ms q new =
    list_any_none (eqb q) ms
    (All-from_get_or (λ x. eqb q x ≡ false) ms 0 (λ k b. let n = new k b in grind (arith, nat_tests)))

-- one more state, which is not among them
pub new_member :
    (n : ℕ) (ms : List ℕ) (q : ℕ) → Members n ms → q < n → ((k : ℕ) → k < length ms → get_or ms k 0 ≡ q → ⊥) → Members n (ms ++ q ∷ [])
new_member n ms q m h new = record {
  distinct = IsDistinct-push nat_eq_equiv ms q m.distinct (absent ms q new);
  inside = All-push (λ x. x < n) ms q m.inside h;
}

-- one state alone
pub first_member : (n q : ℕ) → q < n → Members n (q ∷ [])
first_member n q h =
    let none : Members n [] = record {
      distinct = IsDistinct-from_apart eqb [] (λ i j d a b. absurd (omega arith));
      inside = All-nil (λ x. x < n);
    } in
    new_member n [] q none h (λ k b e. absurd (omega arith))

-- there are at most n
pub few_members : (n : ℕ) (ms : List ℕ) → Members n ms → length ms ≤ n
few_members n ms m =
    length-le_from_distinct_below ms n m.distinct
    (λ q e. let a = Any-from_list_any (eqb q) ms e in let i = m.inside a.0 a.1 a.2 in grind (arith, nat_tests))
