-- Series, and when one is a multiple of another. Assumes nothing.
use Rattle.std.specs.Prelude.{◌≡◌, ℕ, ◌≤◌, List, length, Option}
use Rattle.weights.specs.Group.{Group}
use Rattle.tables.specs.Table.{Table, Word, scaled, weight_from, weight_of}
use Rattle.theory.specs.Finitely.{AllButFinitelyMany}

-- a series gives each word a weight, or none
abbrev pub Series : Group → Type 0
Series G = List ℕ → Option G.Mean

-- on each word of length n or more over an alphabet of s letters, f is k times g: both give none, or f's weight is k times g's
pub record Multiple (G : Group) (s n : ℕ) (k : G.Mean) (f g : Series G) : Type 0 where
  pub words : (w : List ℕ) → Word s w → n ≤ length w → f w ≡ scaled G k (g w)

-- f is k times g on all words but finitely many
pub record AlmostMultiple (G : Group) (s : ℕ) (k : G.Mean) (f g : Series G) : Type 0 where
  pub words : AllButFinitelyMany s (λ w. f w ≡ scaled G k (g w))

module _ (G : Group) (t : Table G.Mean) where
  -- states q and p are equivalent with factor k: the weight from q is k times that from p, for every word
  abbrev pub EquivalentBy : G.Mean → ℕ → ℕ → Type 0
  EquivalentBy k q p = Multiple G t.letters 0 k (weight_from G t q) (weight_from G t p)

  -- they are equivalent
  pub record Equivalent (q p : ℕ) : Type 0 where
    pub factor : G.Mean
    pub by : EquivalentBy factor q p

  -- states q and p are almost-equivalent with factor k: the same for all but finitely many words
  abbrev pub AlmostBy : G.Mean → ℕ → ℕ → Type 0
  AlmostBy k q p = AlmostMultiple G t.letters k (weight_from G t q) (weight_from G t p)

  -- they are almost-equivalent
  pub record AlmostEquivalent (q p : ℕ) : Type 0 where
    pub factor : G.Mean
    pub by : AlmostBy factor q p

-- two tables have the same letters, and weigh all words of at least n letters alike
pub record WeighAlikeFrom (G : Group) (n : ℕ) (t u : Table G.Mean) : Type 0 where
  pub letters : t.letters ≡ u.letters
  pub words : (w : List ℕ) → Word t.letters w → n ≤ length w → weight_of G t w ≡ weight_of G u w

-- two tables have the same letters, and weigh all words but finitely many alike
pub record AlmostWeighAlike (G : Group) (t u : Table G.Mean) : Type 0 where
  pub letters : t.letters ≡ u.letters
  pub words : AllButFinitelyMany t.letters (λ w. weight_of G t w ≡ weight_of G u w)
