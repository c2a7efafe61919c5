use Rattle.std.proofs.Common.{ℕ, ◌≤◌, ◌<◌, length}
use Rattle.std.specs.List.{All, Contains}
use Rattle.reference.specs.Redirection.{IsKept}
use Rattle.reference.proofs.redirect.kept_states.Given as goal

abbrev pub invariant-loop-state : goal.invariant-loop-state
invariant-loop-state l =
    (length l.kept.items ≤ l.state) × All (λ k. k < l.state) l.kept.items × ((q : ℕ) → q < l.state → IsKept l.kernel l.representatives q → Contains l.kept.items q)
