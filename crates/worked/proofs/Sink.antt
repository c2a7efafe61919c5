-- A state that all arcs from it lead back to, and that each word of a few letters leads to, is the one kernel state. Assumes nothing.
use Rattle.std.proofs.Common.{◌≡◌, ℕ, zero, suc, ◌+◌, ◌<◌, ◌≤◌, Bool, true, false, eqb, List, [], ◌∷◌, ◌++◌, length, inl, inr, sym, refl, ap, ◌∙◌, arith}
use Rattle.std.proofs.lemmas.Bool.{both_ways, cases_lt, eqb-true}
use Rattle.std.proofs.lemmas.List.{length-append}
use Rattle.tables.specs.Table.{Table, Word}
use Rattle.theory.specs.Runs.{led}
use Rattle.theory.specs.Kernel.{Kernel, Preamble, CoKernel, CoPreamble}
use Rattle.theory.proofs.Lengths.{finitely_many, infinitely_many}
use Rattle.theory.proofs.Basics.{word_append, led_append}
use Rattle.theory.proofs.Tests.{all_below, at_each}

-- a word of letter 0 alone
zeros : (s n : ℕ) → 0 < s → (w : List ℕ) × Word s w × (n ≤ length w)
zeros s zero l = ([], tt, omega arith)
zeros s (suc n) l = let z = zeros s n l in (0 ∷ z.0, (l, z.1), omega (arith, z.2))

module _ {M : Type 0} (t : Table M) (s : ℕ) where
  -- whether all arcs from s lead back to it
  unfoldable pub holds_fast : Bool
  holds_fast = all_below (λ a. eqb (t.target s a) s) t.letters

  -- whether each word of n letters leads from state q to s
  unfoldable pub sinks : ℕ → ℕ → Bool
  sinks zero q = eqb q s
  sinks (suc n) q = all_below (λ a. sinks n (t.target q a)) t.letters

  module _ (fast : holds_fast ≡ true) where
    pub stays : (w : List ℕ) → Word t.letters w → led t s w ≡ s
    unfolding holds_fast
    stays [] h = refl
    stays (a ∷ w) h = ap (λ p. led t p w) (eqb-true _ _ (at_each _ _ fast a h.0)) ∙ stays w h.1

    pub sunk : (n q : ℕ) (w : List ℕ) → sinks n q ≡ true → Word t.letters w → n ≤ length w → led t q w ≡ s
    unfolding sinks
    sunk zero q w e h l = ap (λ p. led t p w) (eqb-true _ _ e) ∙ stays w h
    sunk (suc n) q [] e h l = absurd (omega arith)
    sunk (suc n) q (a ∷ w) e h l = sunk n (t.target q a) w (at_each _ _ e a h.0) h.1 (omega arith)

    -- where s is final, a state that a word leads to s from is co-kernel
    pub led_co_kernel :
        0 < t.letters → t.final s ≡ true → (q : ℕ) (u : List ℕ) → Word t.letters u → led t q u ≡ s → CoKernel t q
    led_co_kernel some final q u h e =
        record {
          words =
              infinitely_many
              (λ n.
              let z = zeros t.letters n some in (
                u ++ z.0,
                word_append t.letters u z.0 h z.1,
                omega (arith, length-append u z.0, z.2),
                ap t.final (led_append t q u z.0 ∙ ap (λ p. led t p z.0) e ∙ stays z.0 z.1) ∙ final,
              ));
        }

    -- where it is not, a state that each word of n letters leads to s from is co-preamble
    pub sunk_co_preamble : t.final s ≡ false → (n q : ℕ) → sinks n q ≡ true → CoPreamble t q
    sunk_co_preamble other n q few =
        record {
          words =
              finitely_many n
              (λ w h a.
              elim (cases_lt (length w) n) [
                | inl short ↦ short
                | inr long ↦ absurd (both_ways (t.final s) other (sym (ap t.final (sunk n q w few h long)) ∙ a))
              ]);
        }

    module _ (n : ℕ) (few : sinks n t.start ≡ true) where
      pub sink_kernel : 0 < t.letters → Kernel t s
      sink_kernel some =
          record {
            words =
                infinitely_many
                (λ m.
                let z = zeros t.letters (n + m) some in
                (z.0, z.1, omega (arith, z.2), sunk n t.start z.0 few z.1 (omega (arith, z.2))));
          }

      pub other_preamble : (q : ℕ) → (q ≡ s → ⊥) → Preamble t q
      other_preamble q other =
          record {
            words =
                finitely_many n
                (λ w h e.
                elim (cases_lt (length w) n) [
                  | inl short ↦ short
                  | inr long ↦ absurd (other (sym e ∙ sunk n t.start w few h long))
                ]);
          }
