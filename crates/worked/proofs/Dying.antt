-- The hyper table of a table that accepts no word of some length or more is its off state alone. Assumes nothing.
use Rattle.std.proofs.Common.{◌≡◌, ℕ, ◌<◌, ◌≤◌, Bool, true, false, cond, eqb, List, length, None, inl, inr, sym, refl, ap, ◌∙◌, arith}
use Rattle.std.proofs.lemmas.Bool.{both_ways, cases_Bool, eqb-true, eq-eqb}
use Rattle.weights.specs.Codes.{within}
use Rattle.weights.specs.Group.{Group}
use Rattle.weights.proofs.Groups.{one_right}
use Rattle.tables.specs.Table.{Table, Word, scaled, weight_from}
use Rattle.theory.specs.Kernel.{Kernel, Preamble}
use Rattle.theory.specs.Hyper.{Hyper, count_below}
use Rattle.theory.specs.Series.{AlmostBy}
use Rattle.theory.proofs.Basics.{walked, weight_walked, almost_multiple}
use Rattle.theory.proofs.Search.{kernel_not_preamble}
use Rattle.theory.proofs.Tests.{all_below, at_each}
use Rattle.worked.proofs.Sink.{holds_fast, sinks, sunk, sink_kernel, other_preamble}

-- each word of n letters leads from each state of t to state s, which is not final, and h has that state alone
pub record Dying (G : Group) (t h : Table G.Mean) (s n : ℕ) : Type 0 where
  pub inside : s < t.states
  pub start_inside : t.start < t.states
  pub some_letter : 0 < t.letters
  pub fast : holds_fast t s ≡ true
  pub few : all_below (sinks t s n) t.states ≡ true
  pub off : t.final s ≡ false
  pub before : count_below (λ q. eqb q s) s ≡ 0
  pub states : h.states ≡ count_below (λ q. eqb q s) t.states
  pub letters : h.letters ≡ t.letters
  pub final : h.final 0 ≡ false
  pub target : (a : ℕ) → a < t.letters → h.target 0 a ≡ 0
  pub weight : (a : ℕ) → a < t.letters → h.weight 0 a ≡ t.weight s a
  pub start : h.start ≡ 0
  pub start_weight : h.start_weight ≡ t.start_weight

module _ (G : Group) (t h : Table G.Mean) (s n : ℕ) (x : Dying G t h s n) where
  falls : (q : ℕ) → q < t.states → sinks t s n q ≡ true
  falls q l = at_each (sinks t s n) t.states x.few q l

  -- so no word of n letters or more is accepted, and all states are almost-equivalent
  gone : (q : ℕ) (w : List ℕ) → q < t.states → Word t.letters w → n ≤ length w → weight_from G t q w ≡ None
  gone q w l h long =
      weight_walked G t q w ∙ ap (λ b. within b (walked G t q w)) (ap t.final (sunk t s x.fast n q w (falls q l) h long) ∙ x.off)

  almost : (q : ℕ) → q < t.states → AlmostBy G t G.one q s
  almost q l =
      almost_multiple {n = n}
      (record { words = λ w h long. gone q w l h long ∙ ap (scaled G G.one) (sym (gone s w x.inside h long)) })

  -- state s alone is kernel
  kernel : Kernel t s
  kernel = sink_kernel t s x.fast n (falls t.start x.start_inside) x.some_letter

  others : (q : ℕ) → (q ≡ s → ⊥) → Preamble t q
  others q other = other_preamble t s x.fast n (falls t.start x.start_inside) q other

  -- and so each state becomes it, and no weight changes
  becomes : (q : ℕ) → count_below (λ q. eqb q s) (cond (eqb q s) q s) ≡ 0
  becomes q =
      ap (count_below (λ q. eqb q s))
      (elim (cases_Bool (eqb q s)) [
        | inl e ↦ ap (λ b. cond b q s) e ∙ eqb-true q s e
        | inr e ↦ ap (λ b. cond b q s) e
      ])
      ∙ x.before

  stays_same : (b : Bool) (k : G.Mean) → cond b k (G.mul k G.one) ≡ k
  stays_same true k = refl
  stays_same false k = one_right G k

  pub dying_hyper : Hyper G t h (λ q. s) (λ q. G.one)
  dying_hyper =
      record {
        representative =
            λ q l.
            record {
              inside = x.inside;
              almost = record { factor = G.one; by = almost q l };
              smallest = inl (record { kernel = kernel; smallest = λ p less e. others p (λ same. omega arith) });
            };
        factor = λ q l. record { almost = almost q l; one = λ c. refl };
        kept = λ q. eqb q s;
        keeps_kernel =
            λ q l k.
            elim (cases_Bool (eqb q s)) [
              | inl e ↦ e
              | inr e ↦ absurd (kernel_not_preamble t q k (others q (λ same. both_ways (eqb q s) e (eq-eqb q s same))))
            ];
        keeps_itself = λ q l e. eq-eqb q s (sym e);
        redirects =
            λ q l p other.
            elim (cases_Bool (eqb q s)) [ inl e ↦ absurd (other (sym (eqb-true q s e))) | inr e ↦ e ];
        states = x.states;
        letters = x.letters;
        final =
            λ q l k.
            ap h.final (number q k) ∙ x.final ∙ sym x.off ∙ ap t.final (sym (eqb-true q s k));
        target = λ q a l m k. ap (λ p. h.target p a) (number q k) ∙ x.target a m ∙ sym (becomes (t.target q a));
        weight =
            λ q a l m k.
            ap (λ p. h.weight p a) (number q k)
            ∙ x.weight a m
            ∙ ap (λ p. t.weight p a) (sym (eqb-true q s k))
            ∙ sym (stays_same (eqb (t.target q a) s) (t.weight q a));
        start = x.start ∙ sym (becomes t.start);
        start_weight = x.start_weight ∙ sym (stays_same (eqb t.start s) t.start_weight);
      }
    where
      number : (q : ℕ) → eqb q s ≡ true → count_below (λ q. eqb q s) q ≡ 0
      number q k = ap (count_below (λ q. eqb q s)) (eqb-true q s k) ∙ x.before
