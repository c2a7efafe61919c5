-- Which states of a least table are kept, and what the others are redirected to. Assumes nothing.
use Rattle.std.specs.Prelude.{◌≡◌, ℕ, ◌<◌, ◌≤◌, ◌⊎◌, Bool, true, false, List, length, slice_index, slice_index_or}
use Rattle.std.specs.List.{All, Contains}
use Rattle.reference.specs.declared.redirect.Redirection.{Redirection}

-- state q is kept, by the kernel states and the representatives of those states that have one yet: it is kernel or its own representative
abbrev pub IsKept : List Bool → List ℕ → ℕ → Type 0
IsKept kernel rs q = (slice_index_or kernel q false ≡ true) ⊎ ((q < length rs) × (slice_index rs q ≡ q))

-- the kept ones of the states that have a representative, at most so many as these
pub record Kept (kernel : List Bool) (rs ks : List ℕ) : Type 0 where
  pub few : length ks ≤ length rs
  pub inside : All (λ k. k < length rs) ks
  pub all : (q : ℕ) → q < length rs → IsKept kernel rs q → Contains ks q

-- each of n states has a representative that is kept, and a factor
pub record Redirects {W : Type 0} (n : ℕ) (r : Redirection W) : Type 0 where
  pub representatives : length r.representatives.items ≡ n
  pub factors : length r.factors.items ≡ n
  pub few : length r.kept.items ≤ n
  pub inside : All (λ k. k < n) r.kept.items
  pub stand : All (Contains r.kept.items) r.representatives.items
