-- What another implementation of least and hyper tables answers. Assumes nothing.
use Rattle.std.specs.Prelude.{◌≡◌, ℕ, ◌+◌, ◌*◌, ◌<◌, ◌≤◌, length, count_by}
use Rattle.std.specs.List.{All, Contains}
use Rattle.reference.specs.Closed.{Closed}
use Rattle.reference.specs.declared.hyper.Compiled.{Compiled}

-- What is answered for a source of n states and s letters: two closed tables of these letters, the hyper table with at most as many
-- states as the least table, and that with at most n; for each state of the least table what it is, its representative and its factor; and
-- the counts of all these.
pub record Fits {W : Type 0} (n s : ℕ) (c : Compiled W) : Type 0 where
  pub least : Closed c.least
  pub hyper : Closed c.hyper
  pub least_letters : c.least.letters ≡ s
  pub hyper_letters : c.hyper.letters ≡ s
  pub least_few : length c.least.states.items ≤ n
  pub hyper_few : length c.hyper.states.items ≤ length c.least.states.items
  pub kernel : length c.kernel.items ≡ length c.least.states.items
  pub co_kernel : length c.co_kernel.items ≡ length c.least.states.items
  pub representatives : length c.representatives.items ≡ length c.least.states.items
  pub stand : All (Contains c.kept.items) c.representatives.items
  pub factors : length c.factors.items ≡ length c.least.states.items
  pub kept : length c.kept.items ≡ length c.hyper.states.items
  pub kept_inside : All (λ k. k < length c.least.states.items) c.kept.items
  pub kernel_count : c.kernel_count ≡ count_by (λ b. b) c.kernel.items
  pub agreement : c.agreement + 2 ≡ 2 * length c.least.states.items
