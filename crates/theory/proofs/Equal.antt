-- Tables that are equal in their parts, and what follows: kernel and co-kernel states, and weights of words. Assumes nothing.
use Rattle.std.proofs.Common.{◌≡◌, ℕ, ◌<◌, List, [], ◌∷◌, sym, refl, ap, ◌∙◌, subst}
use Rattle.weights.specs.Codes.{within}
use Rattle.weights.specs.Group.{Group}
use Rattle.tables.specs.Table.{Table, Word, scaled, weight_from, WeighAlike}
use Rattle.theory.specs.Runs.{led, Closed}
use Rattle.theory.specs.Kernel.{Kernel, CoKernel}
use Rattle.theory.specs.Theorems.{SameTable}
use Rattle.theory.proofs.Lengths.{infinitely_more}
use Rattle.theory.proofs.Basics.{led_inside}

-- two tables are equal in count, targets, weights and finality
pub record EqualParts (G : Group) (t u : Table G.Mean) : Type 0 where
  pub states : t.states ≡ u.states
  pub letters : t.letters ≡ u.letters
  pub start : t.start ≡ u.start
  pub start_weight : t.start_weight ≡ u.start_weight
  pub final : (q : ℕ) → q < t.states → t.final q ≡ u.final q
  pub target : (q a : ℕ) → q < t.states → a < t.letters → t.target q a ≡ u.target q a
  pub weight : (q a : ℕ) → q < t.states → a < t.letters → t.weight q a ≡ u.weight q a

-- in the other order
equal_turned : (G : Group) (t u : Table G.Mean) → EqualParts G t u → EqualParts G u t
equal_turned G t u e =
    record {
      states = sym e.states;
      letters = sym e.letters;
      start = sym e.start;
      start_weight = sym e.start_weight;
      final = λ q l. sym (e.final q (subst (λ n. q < n) (sym e.states) l));
      target = λ q a l m. sym (e.target q a (subst (λ n. q < n) (sym e.states) l) (subst (λ n. a < n) (sym e.letters) m));
      weight = λ q a l m. sym (e.weight q a (subst (λ n. q < n) (sym e.states) l) (subst (λ n. a < n) (sym e.letters) m));
    }

-- by equal targets each word leads to one state in both
pub led_alike :
    {M : Type 0} (t u : Table M) → Closed t → ((q a : ℕ) → q < t.states → a < t.letters → t.target q a ≡ u.target q a) → (q : ℕ)
    (w : List ℕ) → q < t.states → Word t.letters w → led t q w ≡ led u q w
led_alike t u closed targets q [] l h = refl
led_alike t u closed targets q (a ∷ w) l h =
    led_alike t u closed targets (t.target q a) w (closed.target_inside q a l h.0) h.1 ∙ ap (λ p. led u p w) (targets q a l h.0)

-- so they have the same kernel and co-kernel states
module _ (G : Group) (t u : Table G.Mean) (closed : Closed t) (e : EqualParts G t u) where
  kernel_alike : (q : ℕ) → Kernel t q → Kernel u q
  kernel_alike q k =
      record {
        words =
            infinitely_more
            (λ w h leads. (
              subst (λ s. Word s w) e.letters h,
              ap (λ p. led u p w) (sym e.start) ∙ sym (led_alike t u closed e.target t.start w closed.start_inside h) ∙ leads,
            ))
            k.words;
      }

  co_kernel_alike : (q : ℕ) → q < t.states → CoKernel t q → CoKernel u q
  co_kernel_alike q l k =
      record {
        words =
            infinitely_more
            (λ w h accepted. (
              subst (λ s. Word s w) e.letters h,
              ap u.final (sym (led_alike t u closed e.target q w l h)) ∙ sym (e.final (led t q w) (led_inside t closed q w l h)) ∙ accepted,
            ))
            k.words;
      }

-- closed ones are then the same
pub equal_same : (G : Group) (t u : Table G.Mean) → Closed t → Closed u → EqualParts G t u → SameTable G t u
equal_same G t u closed closed' e =
    let e' = equal_turned G t u e in
    record {
      states = e.states;
      letters = e.letters;
      start = e.start;
      start_weight = e.start_weight;
      final = e.final;
      target = e.target;
      weight = e.weight;
      kernel = λ q l. (kernel_alike G t u closed e q, kernel_alike G u t closed' e' q);
      co_kernel =
          λ q l. (co_kernel_alike G t u closed e q l, co_kernel_alike G u t closed' e' q (subst (λ n. q < n) e.states l));
    }

-- the same table weighs every word alike
module _ (G : Group) (l m : Table G.Mean) (closed : Closed l) (same : SameTable G l m) where
  pub weighs_from : (q : ℕ) (w : List ℕ) → q < l.states → Word l.letters w → weight_from G l q w ≡ weight_from G m q w
  weighs_from q [] h word = ap (λ b. within b G.one) (same.final q h)
  weighs_from q (a ∷ w) h word =
      ap (scaled G (l.weight q a)) (weighs_from (l.target q a) w (closed.target_inside q a h word.0) word.1)
      ∙ ap (λ k. scaled G k (weight_from G m (l.target q a) w)) (same.weight q a h word.0)
      ∙ ap (λ p. scaled G (m.weight q a) (weight_from G m p w)) (same.target q a h word.0)

  pub same_weighs_alike : WeighAlike G l m
  same_weighs_alike =
      record {
        letters = same.letters;
        words =
            λ w word.
            ap (scaled G l.start_weight) (weighs_from l.start w closed.start_inside word)
            ∙ ap (λ k. scaled G k (weight_from G m l.start w)) same.start_weight
            ∙ ap (λ p. scaled G m.start_weight (weight_from G m p w)) same.start;
      }
