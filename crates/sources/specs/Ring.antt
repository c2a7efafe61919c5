-- A ring: each letter leads on by one state, and from the last state to the first. Assumes nothing.
use Rattle.std.specs.Prelude.{◌≡◌, ℕ, zero, suc, ◌+◌, ◌%◌, ◌<◌, min, max, cond, ◌&&◌, List, length, None, Option, ◌==◌, nat_le, nat_lt}
use Rattle.std.proofs.Common.{arith}
use Rattle.std.proofs.lemmas.Bool.{cond_both, ltb-true}
use Rattle.weights.specs.Codes.{within}
use Rattle.weights.specs.Group.{Group, Kind}
use Rattle.weights.specs.Refusal.{Told, unless}
use Rattle.tables.specs.Table.{Table, Lawful, Word, weight_of, is_letter_count, letters_read}
use Rattle.sources.specs.declared.ring.Ring.{Ring}

-- the refusal that a ring of n states and s letters meets, if any
abbrev pub ring_verdict : ℕ → ℕ → Option Told
ring_verdict n s = unless (is_letter_count s) 1 (unless (nat_lt 0 n && nat_le n 4096) 8 None)

-- the states of a ring, 1 to 4096, and its letters, 1 to 64, whatever it holds
abbrev pub ring_states : {W : Type 0} → Ring W → ℕ
ring_states r = max 1 (min r.states 4096)

abbrev pub ring_letters : {W : Type 0} → Ring W → ℕ
ring_letters r = letters_read r.letters

-- the state after q in a ring of n states
abbrev pub next : ℕ → ℕ → ℕ
next n q = cond (nat_lt (q + 1) n) (q + 1) 0

-- the ring's table: state 0 is the start and alone final
abbrev pub ring_table : {W : Type 0} (K : Kind W) → Ring W → Table K.group.Mean
ring_table K r =
    record {
      states = ring_states r;
      letters = ring_letters r;
      start = 0;
      start_weight = K.group.one;
      final = λ q. (q == 0);
      target = λ q a. next (ring_states r) q;
      weight = λ q a. K.mean r.weight;
    }

pub next_inside : (n q : ℕ) → 0 < n → next n q < n
next_inside n q some =
    cond_both (nat_lt (q + 1) n) (q + 1) 0 (λ t. t < n) (λ e. ltb-true (q + 1) n e) (λ _. some)

pub ring_lawful : {W : Type 0} (K : Kind W) (r : Ring W) → Lawful (ring_table K r)
ring_lawful K r =
    record {
      some_state = omega arith;
      few_states = omega arith;
      some_letter = omega arith;
      few_letters = omega arith;
      start_inside = omega arith;
      target_inside = λ q a _ _. next_inside (ring_states r) q (omega arith);
    }

-- the n-th power of an element
abbrev pub power : (G : Group) → G.Mean → ℕ → G.Mean
power G x zero = G.one
power G x (suc n) = G.mul x (power G x n)

-- a table over s letters weighs words as a ring of n states and weight x does: a word whose length n divides weighs the power of
-- x by that length, and any other weighs nothing
pub record WeighsAsRing (G : Group) (n s : ℕ) (x : G.Mean) (t : Table G.Mean) : Type 0 where
  pub letters : t.letters ≡ s
  pub words : (w : List ℕ) → Word s w → weight_of G t w ≡ within (length w % n == 0) (power G x (length w))
