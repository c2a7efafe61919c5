-- A table that is part of another has its least tables. Assumes nothing.
use Rattle.std.proofs.Common.{◌≡◌, ℕ, ◌<◌, sym, refl, ◌∙◌, subst}
use Rattle.weights.specs.Group.{Group}
use Rattle.weights.proofs.Groups.{one_right}
use Rattle.tables.specs.Table.{Table}
use Rattle.theory.specs.Runs.{Closed}
use Rattle.theory.specs.Least.{Least}
use Rattle.worked.proofs.Quotient.{Quotient, quotient_least}

-- u is a part of t that the start lies in and no arc leaves
pub record Part (G : Group) (t u : Table G.Mean) : Type 0 where
  pub closed : Closed u
  pub letters : u.letters ≡ t.letters
  pub start : u.start ≡ t.start
  pub start_weight : u.start_weight ≡ t.start_weight
  pub final : (q : ℕ) → q < u.states → u.final q ≡ t.final q
  pub target : (q a : ℕ) → q < u.states → a < u.letters → u.target q a ≡ t.target q a
  pub weight : (q a : ℕ) → q < u.states → a < u.letters → u.weight q a ≡ t.weight q a

module _ (G : Group) (t u : Table G.Mean) (part : Part G t u) where
  -- each state is its own class, with factor one
  whole : Quotient G t u u.states (λ q. q) (λ q. G.one)
  whole =
      let letter : (a : ℕ) → a < t.letters → a < u.letters = λ a m. subst (λ s. a < s) (sym part.letters) m in
      record {
        start_inside = subst (λ q. q < u.states) part.start part.closed.start_inside;
        target_inside =
            λ q a l m.
            subst (λ p. p < u.states) (part.target q a l (letter a m)) (part.closed.target_inside q a l (letter a m));
        letters = part.letters;
        start = part.start;
        start_weight = part.start_weight ∙ sym (one_right G t.start_weight);
        final = part.final;
        target = λ q a l m. part.target q a l (letter a m);
        weight =
            λ q a l m.
            one_right G (t.weight q a) ∙ sym (part.weight q a l (letter a m)) ∙ sym (G.one_left (u.weight q a));
        one = λ q l e. refl;
      }

  pub part_least : (l : Table G.Mean) → Least G u l → Least G t l
  part_least = quotient_least G t u u.states (λ q. q) (λ q. G.one) whole
