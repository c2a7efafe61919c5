-- Two sources side by side: each letter moves both, and weights multiply. Assumes nothing.
use Rattle.std.specs.Prelude.{◌≡◌, ℕ, ◌+◌, ◌*◌, ◌/◌, ◌%◌, ◌<◌, Bool, true, false, cond, ◌&&◌, List, Some, None, Option, ◌==◌, nat_le, refl}
use Rattle.std.proofs.Common.{arith}
use Rattle.std.proofs.Math.Arith.{digits_lt}
use Rattle.std.proofs.lemmas.Nat.{div_below, mod_below}
use Rattle.std.proofs.lemmas.Bool.{and_parts, eqb-true, leb-true}
use Rattle.weights.specs.Group.{Group}
use Rattle.weights.specs.Refusal.{Told, unless}
use Rattle.tables.specs.Table.{Table, Lawful, Word, weight_of}

-- two tables have the same letters, and at most 4096 pairs of states
abbrev pub same_letters : {M : Type 0} → Table M → Table M → Bool
same_letters t u = t.letters == u.letters

abbrev pub few_pairs : {M : Type 0} → Table M → Table M → Bool
few_pairs t u = nat_le (t.states * u.states) 4096

-- the refusal that joining two tables meets, if any
abbrev pub both_verdict : {M : Type 0} → Table M → Table M → Option Told
both_verdict t u = unless (same_letters t u) 9 (unless (few_pairs t u) 8 None)

-- two tables can be joined
abbrev pub joins : {M : Type 0} → Table M → Table M → Bool
joins t u = same_letters t u && few_pairs t u

-- two tables side by side: state q1 * n2 + q2 is state q1 of the one and state q2 of the other, which has n2 states
abbrev pub product_table : (G : Group) → Table G.Mean → Table G.Mean → Table G.Mean
product_table G t u =
    record {
      states = t.states * u.states;
      letters = t.letters;
      start = t.start * u.states + u.start;
      start_weight = G.mul t.start_weight u.start_weight;
      final = λ q. t.final (q / u.states) && u.final (q % u.states);
      target = λ q a. t.target (q / u.states) a * u.states + u.target (q % u.states) a;
      weight = λ q a. G.mul (t.weight (q / u.states) a) (u.weight (q % u.states) a);
    }

-- one of two tables, by a test
abbrev pub chosen : {M : Type 0} → Bool → Table M → Table M → Table M
chosen b t u =
    record {
      states = cond b t.states u.states;
      letters = cond b t.letters u.letters;
      start = cond b t.start u.start;
      start_weight = cond b t.start_weight u.start_weight;
      final = λ q. cond b (t.final q) (u.final q);
      target = λ q a. cond b (t.target q a) (u.target q a);
      weight = λ q a. cond b (t.weight q a) (u.weight q a);
    }

-- the table of a both over sources with tables t and u: where they cannot be joined, it is the left one's alone
abbrev pub both_table : (G : Group) → Table G.Mean → Table G.Mean → Table G.Mean
both_table G t u = chosen (joins t u) (product_table G t u) t

chosen_lawful : {M : Type 0} (b : Bool) (t u : Table M) → (b ≡ true → Lawful t) → Lawful u → Lawful (chosen b t u)
chosen_lawful true t u h l = h refl
chosen_lawful false t u h l = l

product_lawful :
    (G : Group) (t u : Table G.Mean) → Lawful t → Lawful u → joins t u ≡ true → Lawful (product_table G t u)
product_lawful G t u l m e =
    let h = and_parts (same_letters t u) (few_pairs t u) e in
    let same : t.letters ≡ u.letters = eqb-true t.letters u.letters h.0 in
    let some : 0 < u.states = m.some_state in
    let inside : t.start * u.states + u.start < t.states * u.states = digits_lt l.start_inside m.start_inside in
    record {
      some_state = omega arith;
      few_states = leb-true (t.states * u.states) 4096 h.1;
      some_letter = l.some_letter;
      few_letters = l.few_letters;
      start_inside = inside;
      target_inside =
          λ q a q_inside a_inside.
          digits_lt
          (l.target_inside (q / u.states) a (div_below q u.states t.states some q_inside) a_inside)
          (m.target_inside (q % u.states) a (mod_below q u.states some) (omega arith));
    }

pub both_lawful : (G : Group) (t u : Table G.Mean) → Lawful t → Lawful u → Lawful (both_table G t u)
both_lawful G t u l m = chosen_lawful (joins t u) (product_table G t u) t (product_lawful G t u l m) l

-- the product of two weights, or none where one of them is none
abbrev pub multiplied : (G : Group) → Option G.Mean → Option G.Mean → Option G.Mean
multiplied G (Some x) (Some y) = Some (G.mul x y)
multiplied G (Some x) None = None
multiplied G None (Some y) = None
multiplied G None None = None

-- a table weighs each word as the product of what two tables of its letters weigh it as
pub record WeighsAsProduct (G : Group) (t u v : Table G.Mean) : Type 0 where
  pub left : v.letters ≡ t.letters
  pub right : v.letters ≡ u.letters
  pub words : (w : List ℕ) → Word v.letters w → weight_of G v w ≡ multiplied G (weight_of G t w) (weight_of G u w)
