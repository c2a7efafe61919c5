use Rattle.std.proofs.Common.{◌≡◌, ◌<◌, ◌⊎◌, ℕ, List, length, sym, subst, ◌∙◌, arith}
use Rattle.std.specs.List.{All}
use Rattle.std.proofs.lemmas.Grind.{common_steps}
use Rattle.std.proofs.lemmas.List.Elements.{All-push}
use Rattle.reference.specs.Redirection.{IsKept, Kept}
use Rattle.reference.proofs.Keeping.{all_kept, all_stand}
use Rattle.reference.proofs.redirect.Redirection.of.Goals as goal

pub loop-state-preserved : goal.loop-state-preserved
loop-state-preserved g c =
    let kernel = c.args.kernel.now in
    let rs = c.loop-state.representatives.items in
    let r = c.in_ok-choice.choice.target in
    let i = c.loop-state.invariant in
    let p = c.in_ok-push.ensures.items in
    let e : c.deref.result.now ≡ rs = cc in
    let n : c.loop-state.state ≡ length rs = cc in
    let stands : IsKept kernel rs r ⊎ (r ≡ length rs) =
    subst (λ (m : ℕ). IsKept kernel rs r ⊎ (r ≡ m)) n
    (subst (λ (xs : List ℕ). IsKept kernel xs r ⊎ (r ≡ c.loop-state.state)) e c.in_ok-choice.ensures.stands) in (
      grind (arith, common_steps, p, i.0),
      grind (arith, common_steps, c.in_ok-push-2.ensures.items, i.1),
      subst (λ (xs : List ℕ). All (λ q. q < length kernel) xs) (sym p)
          (All-push (λ q. q < length kernel) rs r i.2 c.in_ok-choice.ensures.inside),
      subst (λ (xs : List ℕ). All (IsKept kernel xs) xs) (sym p) (all_kept kernel rs r i.3 stands),
    )

pub returns : goal.returns
returns g c =
    let kernel = c.args.kernel.now in
    let rs = c.loop-state.representatives.items in
    let ks = c.in_ok-kept.kept.items in
    let i = c.loop-state.invariant in
    let e : c.deref-2.result.now ≡ rs = cc in
    let kept : Kept kernel rs ks = subst (λ (xs : List ℕ). Kept kernel xs ks) e c.in_ok-kept.ensures in
    let all : length rs ≡ length kernel = grind (arith, c.requires, i.0) in
    let inside : All (λ q. q < length rs) rs = subst (λ (m : ℕ). All (λ q. q < m) rs) (sym all) i.2 in
    let to : length rs ≡ length c.args.least.now.states.items = all ∙ c.requires in
    record {
      representatives = to;
      factors = grind (arith, i.0, i.1, to);
      few = grind (arith, kept.few, to);
      inside = subst (λ (m : ℕ). All (λ k. k < m) ks) to kept.inside;
      stand = all_stand kernel rs ks inside i.3 kept;
    }
