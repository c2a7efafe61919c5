use Rattle.std.proofs.Common.{◌≡◌, ◌<◌, length}
use Rattle.std.specs.List.{All}
use Rattle.reference.specs.Redirection.{IsKept}
use Rattle.reference.proofs.redirect.Redirection.of.Given as goal

abbrev pub invariant-loop-state : goal.invariant-loop-state
invariant-loop-state g l =
    (length l.representatives.items ≡ l.state) × (length l.factors.items ≡ l.state) × All (λ r. r < length l.kernel) l.representatives.items × All (IsKept l.kernel l.representatives.items) l.representatives.items
