-- A least table is canonical: what it weighs words as leaves no choice. Assumes nothing.
use Rattle.std.proofs.Common.{◌≡◌, ℕ, ◌<◌, sym, ap, ◌∙◌, subst}
use Rattle.weights.specs.Group.{Group}
use Rattle.tables.specs.Table.{Table, Lawful, Word}
use Rattle.theory.specs.Runs.{Closed, Reachable, Dead}
use Rattle.theory.specs.Series.{Equivalent}
use Rattle.theory.specs.Push.{Push}
use Rattle.theory.specs.Least.{InReadingOrder, Least}
use Rattle.theory.proofs.Basics.{start_reachable, reachable_next}
use Rattle.theory.proofs.Minimal.{class_accepts, least_closed, least_reachable, least_apart, least_pushes}

-- a table with no state that is not reached, no two equivalent states, each push one, arcs into dead states that weigh one, and the
-- states numbered as they are met
pub record Canonical (G : Group) (l : Table G.Mean) : Type 0 where
  pub closed : Closed l
  pub reached : (i : ℕ) → i < l.states → Reachable l i
  pub apart : (q p : ℕ) → q < l.states → p < l.states → Equivalent G l q p → q ≡ p
  pub pushes : (q : ℕ) (u : G.Mean) → q < l.states → Push G l q u → u ≡ G.one
  pub dead_arcs : (q a : ℕ) → q < l.states → a < l.letters → Dead l (l.target q a) → l.weight q a ≡ G.one
  pub dead_start : Dead l l.start → l.start_weight ≡ G.one
  pub order : InReadingOrder l

module _ (G : Group) (t l : Table G.Mean) (lawful : Lawful t) (h : Least G t l) where
  -- a state with a dead class is dead
  dead_before : (q : ℕ) → Reachable t q → Dead l (h.class q) → Dead t q
  dead_before q r d =
      record {
        none =
            λ w word. sym (class_accepts G t l lawful h q w r word) ∙ d.none w (subst (λ s. Word s w) (sym h.letters) word);
      }

  pub least_is_canonical : Canonical G l
  least_is_canonical =
      record {
        closed = least_closed G t l lawful h;
        reached = least_reachable G t l lawful h;
        apart = least_apart G t l lawful h;
        pushes = least_pushes G t l lawful h;
        dead_arcs =
            λ q a inside letter d.
            let c = h.class_met q inside in
            let b : a < t.letters = subst (λ s. a < s) h.letters letter in
            let r : ℕ = t.target c.0 a in
            let e : l.target q a ≡ h.class r = ap (λ p. l.target p a) (sym c.2) ∙ h.target c.0 a c.1 b in
            ap (λ p. l.weight p a) (sym c.2)
            ∙ h.weight_dead c.0 a c.1 b (dead_before r (reachable_next t c.0 a c.1 b) (subst (Dead l) e d));
        dead_start = λ d. h.start_weight.dead (dead_before t.start (start_reachable t) (subst (Dead l) h.start d));
        order = h.order;
      }
