-- What a view and a sheet over a table that compiling leaves mean. Assumes nothing.
use Rattle.std.proofs.Common.{◌≡◌, ℕ, ◌+◌, ◌*◌, ◌%◌, ◌<◌, ◌≤◌, ◌&&◌, true, eqb, ltb, List, [], ◌∷◌, get_or, refl, ap, ◌∙◌, subst, arith}
use Rattle.std.proofs.lemmas.Bool.{cond-true, lt-ltb, and_from}
use Rattle.std.proofs.lemmas.List.{get_or_default}
use Rattle.weights.specs.Codes.{within}
use Rattle.weights.specs.Group.{Group, Kind}
use Rattle.tables.specs.Table.{Table, Word, scaled, weight_from, WeighAlike}
use Rattle.tables.specs.Book.{Contents, place, unset}
use Rattle.tables.specs.Sheet.{drawn, width, entry_at, mean_at, leads, led_to, led_by, is_drawn, sheet_table}
use Rattle.tables.proofs.Places.{place_inside}
use Rattle.theory.specs.Runs.{Closed}
use Rattle.theory.specs.Theorems.{SameTable}
use Rattle.theory.proofs.Basics.{lawful_closed}
use Rattle.theory.proofs.Equal.{equal_same}
use Rattle.minimize.specs.Rows.{rows_table, Laid}
use Rattle.minimize.specs.View.{height, seen_to, view_table, view_lawful}

-- A table has all of another, and maybe more states: what it says of the states of the other is what that says.
record Extends (G : Group) (t u : Table G.Mean) : Type 0 where
  letters : t.letters ≡ u.letters
  start : t.start ≡ u.start
  start_weight : t.start_weight ≡ u.start_weight
  final : (q : ℕ) → q < u.states → t.final q ≡ u.final q
  target : (q a : ℕ) → q < u.states → a < u.letters → t.target q a ≡ u.target q a
  weight : (q a : ℕ) → q < u.states → a < u.letters → t.weight q a ≡ u.weight q a

-- where the other is closed, both weigh every word alike
module _ (G : Group) (t u : Table G.Mean) (closed : Closed u) (e : Extends G t u) where
  extends_from : (q : ℕ) (w : List ℕ) → q < u.states → Word u.letters w → weight_from G t q w ≡ weight_from G u q w
  extends_from q [] l h = ap (λ b. within b G.one) (e.final q l)
  extends_from q (a ∷ w) l h =
      ap (λ x. scaled G x (weight_from G t (t.target q a) w)) (e.weight q a l h.0)
      ∙ ap (λ p. scaled G (u.weight q a) (weight_from G t p w)) (e.target q a l h.0)
      ∙ ap (scaled G (u.weight q a)) (extends_from (u.target q a) w (closed.target_inside q a l h.0) h.1)

  extends_alike : WeighAlike G t u
  extends_alike =
      record {
        letters = e.letters;
        words =
            λ w h.
            ap (λ x. scaled G x (weight_from G t t.start w)) e.start_weight
            ∙ ap (λ p. scaled G u.start_weight (weight_from G t p w)) e.start
            ∙ ap (scaled G u.start_weight)
            (extends_from u.start w closed.start_inside (subst (λ s. Word s w) e.letters h));
      }

module _ {W : Type 0} (K : Kind W) (c : Contents W) (laid : Laid K c) where
  letters_as : width c ≡ c.letters
  letters_as = omega (arith, laid.some_letter, laid.few_letters)

  states_as : height c ≡ c.count
  states_as = omega (arith, laid.some_state, laid.few_states)

  -- a place of the table is there, so it reads the same at any default
  entry_as : (k : ℕ) → k < 1 + c.count * c.letters → entry_at c k ≡ get_or c.targets k 0
  entry_as k l = get_or_default c.targets k unset 0 (omega (arith, laid.target_room))

  some_place : 0 < 1 + c.count * c.letters
  some_place = omega arith

  -- a place that leads to a state of the table
  seen_as : (k : ℕ) → k < 1 + c.count * c.letters → get_or c.targets k 0 < c.count → seen_to c k ≡ get_or c.targets k 0
  seen_as k l inside = omega (arith, entry_as k l, states_as)

  -- a view over the table means the table
  pub view_same : SameTable K.group (view_table K c) (rows_table K c)
  view_same =
      equal_same K.group (view_table K c) (rows_table K c) (lawful_closed (view_table K c) (view_lawful K c)) laid.closed
      (record {
        states = states_as;
        letters = letters_as;
        start = seen_as 0 some_place laid.closed.start_inside;
        start_weight = refl;
        final = λ q l. refl;
        target =
            λ q a l m.
            let i : q < c.count = omega (arith, states_as) in
            let j : a < c.letters = omega (arith, letters_as) in
            ap (λ s. seen_to c (place s q a)) letters_as
            ∙ seen_as (place c.letters q a) (place_inside c.letters q a c.count i j) (laid.closed.target_inside q a i j);
        weight = λ q a l m. ap (λ s. mean_at K c.weights (place s q a)) letters_as;
      })

  module _ (few : c.count ≤ 4095) where
    drawn_as : drawn c ≡ c.count
    drawn_as = omega arith

    leads_so : (k : ℕ) → k < 1 + c.count * c.letters → get_or c.targets k 0 < c.count → leads c k ≡ true
    leads_so k l inside = lt-ltb (entry_at c k) (drawn c) (omega (arith, entry_as k l, drawn_as))

    led_as : (k : ℕ) → k < 1 + c.count * c.letters → get_or c.targets k 0 < c.count → led_to c k ≡ get_or c.targets k 0
    led_as k l inside = cond-true (leads c k) (entry_at c k) (drawn c) (leads_so k l inside) ∙ entry_as k l

    led_by_as : (k : ℕ) → k < 1 + c.count * c.letters → get_or c.targets k 0 < c.count → led_by K c k ≡ mean_at K c.weights k
    led_by_as k l inside = cond-true (leads c k) (mean_at K c.weights k) K.group.one (leads_so k l inside)

    drawn_so : (q a : ℕ) → q < c.count → a < c.letters → is_drawn c q a ≡ true
    drawn_so q a l m =
        and_from (ltb q (drawn c)) (ltb a (width c)) (lt-ltb q (drawn c) (omega (arith, drawn_as)))
        (lt-ltb a (width c) (omega (arith, letters_as)))

    sheet_extends : Extends K.group (sheet_table K c) (rows_table K c)
    sheet_extends =
        record {
          letters = letters_as;
          start = led_as 0 some_place laid.closed.start_inside;
          start_weight = led_by_as 0 some_place laid.closed.start_inside;
          final = λ q l. ap (λ b. b && eqb (get_or c.marks q 0 % 2) 1) (lt-ltb q (drawn c) (omega (arith, drawn_as)));
          target =
              λ q a l m.
              cond-true (is_drawn c q a) (led_to c (place (width c) q a)) (drawn c) (drawn_so q a l m)
              ∙ ap (λ s. led_to c (place s q a)) letters_as
              ∙ led_as (place c.letters q a) (place_inside c.letters q a c.count l m) (laid.closed.target_inside q a l m);
          weight =
              λ q a l m.
              cond-true (is_drawn c q a) (led_by K c (place (width c) q a)) K.group.one (drawn_so q a l m)
              ∙ ap (λ s. led_by K c (place s q a)) letters_as
              ∙ led_by_as (place c.letters q a) (place_inside c.letters q a c.count l m) (laid.closed.target_inside q a l m);
        }

    -- a sheet over the table weighs every word as the table does
    pub sheet_alike : WeighAlike K.group (sheet_table K c) (rows_table K c)
    sheet_alike = extends_alike K.group (sheet_table K c) (rows_table K c) laid.closed sheet_extends
