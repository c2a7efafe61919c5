-- Which states are kept, with one more representative. Assumes nothing.
use Rattle.std.proofs.Common.{◌≡◌, ℕ, ◌<◌, ◌++◌, ◌∷◌, [], ◌⊎◌, inl, inr, List, Bool, length, get_or, arith}
use Rattle.std.specs.List.{All, Contains}
use Rattle.std.proofs.lemmas.List.Elements.{All-push, All-weaker}
use Rattle.std.proofs.lemmas.Grind.{common_steps}
use Rattle.reference.specs.Redirection.{IsKept, Kept}

-- a state that is kept stays so
kept_longer : (kernel : List Bool) (rs : List ℕ) (r q : ℕ) → IsKept kernel rs q → IsKept kernel (rs ++ r ∷ []) q
kept_longer kernel rs r q (inl is) = inl is
kept_longer kernel rs r q (inr h) = inr (grind (arith, common_steps, h.0, h.1), grind (arith, common_steps, h.0, h.1))

-- the next state's representative is kept, where it was or is that state itself
next_kept : (kernel : List Bool) (rs : List ℕ) (r : ℕ) → IsKept kernel rs r ⊎ (r ≡ length rs) → IsKept kernel (rs ++ r ∷ []) r
next_kept kernel rs r (inl was) = kept_longer kernel rs r r was
next_kept kernel rs r (inr own) = inr (grind (arith, common_steps, own), grind (arith, common_steps, own))

-- all representatives are kept, with one more
pub all_kept :
    (kernel : List Bool) (rs : List ℕ) (r : ℕ) → All (IsKept kernel rs) rs → IsKept kernel rs r ⊎ (r ≡ length rs) → All (IsKept kernel (rs ++ r ∷ [])) (rs ++ r ∷ [])
all_kept kernel rs r all is =
    All-push (IsKept kernel (rs ++ r ∷ [])) rs r
    (All-weaker (IsKept kernel rs) (IsKept kernel (rs ++ r ∷ [])) (kept_longer kernel rs r) rs all)
    (next_kept kernel rs r is)

-- each representative is among the kept states
pub all_stand :
    (kernel : List Bool) (rs ks : List ℕ) → All (λ r. r < length rs) rs → All (IsKept kernel rs) rs → Kept kernel rs ks → All (Contains ks) rs
all_stand kernel rs ks inside kept has = λ k d b. has.all (get_or rs k d) (inside k d b) (kept k d b)
