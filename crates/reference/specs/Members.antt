-- Lists of different states, as those by which classes are known. Assumes nothing.
use Rattle.std.specs.Prelude.{ℕ, ◌<◌, nat_eq, List}
use Rattle.std.specs.List.{All, IsDistinct}

-- no two states of a list are equal, and each is one of n
pub record Members (n : ℕ) (ms : List ℕ) : Type 0 where
  pub distinct : IsDistinct nat_eq ms
  pub inside : All (λ m. m < n) ms
