-- Least tables are the same exactly when their sources weigh every word alike. Assumes nothing.
use Rattle.std.proofs.Common.{◌∙◌, subst}
use Rattle.weights.specs.Group.{Group}
use Rattle.tables.specs.Table.{Table, Word, WeighAlike}
use Rattle.theory.specs.Theorems.{LeastIsDetermined}
use Rattle.theory.proofs.Minimal.{least_alike}
use Rattle.theory.proofs.Determined.Canonical.{least_is_canonical}
use Rattle.theory.proofs.Determined.Mates.{alike_turned}
use Rattle.theory.proofs.Determined.Same.{same_table}
use Rattle.theory.proofs.Equal.{same_weighs_alike}
pub mod Canonical
pub mod Mates
pub mod Numbers
pub mod Same

-- a third table weighs every word alike too
pub alike_twice : (G : Group) (t u v : Table G.Mean) → WeighAlike G t u → WeighAlike G u v → WeighAlike G t v
alike_twice G t u v x y =
    record {
      letters = x.letters ∙ y.letters;
      words = λ w h. x.words w h ∙ y.words w (subst (λ s. Word s w) x.letters h);
    }

pub least_is_determined : (G : Group) → LeastIsDetermined G
least_is_determined G t u l m lawful lawful' h k =
    let x = least_is_canonical G t l lawful h in
    let y = least_is_canonical G u m lawful' k in
    let left : WeighAlike G l t = least_alike G t l lawful h in
    let right : WeighAlike G m u = least_alike G u m lawful' k in (
      λ same.
          alike_twice G t l u (alike_turned G l t left) (alike_twice G l m u (same_weighs_alike G l m x.closed same) right),
      λ alike.
          same_table G l m
          (record { left = x; right = y; alike = alike_twice G l t m left (alike_twice G t u m alike (alike_turned G m u right)) }),
    )
