-- States that accept the same words, and equivalent states. Assumes nothing.
use Rattle.std.proofs.Common.{◌≡◌, ℕ, ◌<◌, List, [], ◌∷◌, sym, ◌∙◌, subst, arith}
use Rattle.weights.specs.Group.{Group}
use Rattle.tables.specs.Table.{Table, Word}
use Rattle.theory.specs.Runs.{accepts, Dead}
use Rattle.theory.specs.Series.{Equivalent}
use Rattle.theory.specs.Push.{Smallest}
use Rattle.theory.proofs.Basics.{multiple_sym, multiple_after, multiple_accepts, walked}
use Rattle.theory.proofs.Search.{live_not_dead}

-- where two states accept the same words, a word that is the smallest of the one is that of the other
pub smallest_moved :
    {M : Type 0} (t u : Table M) (q p : ℕ) (w : List ℕ) → t.letters ≡ u.letters →
    ((v : List ℕ) → Word t.letters v → accepts t q v ≡ accepts u p v) → Smallest t q w → Smallest u p w
smallest_moved t u q p w e alike x =
    record {
      is_word = subst (λ s. Word s w) e x.is_word;
      accepted = sym (alike w x.is_word) ∙ x.accepted;
      least = λ v h a less. let o : Word t.letters v = subst (λ s. Word s v) (sym e) h in x.least v o (alike v o ∙ a) less;
    }

pub dead_moved :
    {M : Type 0} (t u : Table M) (q p : ℕ) → t.letters ≡ u.letters →
    ((v : List ℕ) → Word t.letters v → accepts t q v ≡ accepts u p v) → Dead t q → Dead u p
dead_moved t u q p e alike d =
    record {
      none = λ v h. let o : Word t.letters v = subst (λ s. Word s v) (sym e) h in sym (alike v o) ∙ d.none v o;
    }

pub smallest_not_dead : {M : Type 0} (t : Table M) (q : ℕ) (w : List ℕ) → Smallest t q w → Dead t q → ⊥
smallest_not_dead t q w x d =
    live_not_dead t q (record { by = w; is_word = x.is_word; accepted = x.accepted }) d

module _ (G : Group) (t : Table G.Mean) where
  -- equivalent states accept the same words
  pub equivalent_accepts :
      (q p : ℕ) → Equivalent G t q p → (w : List ℕ) → Word t.letters w → accepts t q w ≡ accepts t p w
  equivalent_accepts q p e w h = multiple_accepts G t t q p e.by w h (omega arith)

  pub equivalent_turned : (q p : ℕ) → Equivalent G t q p → Equivalent G t p q
  equivalent_turned q p e = record { factor = G.inv e.factor; by = multiple_sym e.by }

  -- so are the states that a letter leads them to
  pub equivalent_next :
      (q p a : ℕ) → a < t.letters → Equivalent G t q p → Equivalent G t (t.target q a) (t.target p a)
  equivalent_next q p a l e =
      record {
        factor = G.mul (G.inv (walked G t q (a ∷ []))) (G.mul e.factor (walked G t p (a ∷ [])));
        by = multiple_after G t t q p (a ∷ []) (l, tt) e.by;
      }
