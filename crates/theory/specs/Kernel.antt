-- States that infinitely many words lead to, and states that infinitely many words are accepted from. Assumes nothing.
use Rattle.std.specs.Prelude.{◌≡◌, ℕ, true, List}
use Rattle.tables.specs.Table.{Table}
use Rattle.theory.specs.Runs.{led, accepts}
use Rattle.theory.specs.Finitely.{FinitelyMany, InfinitelyMany}

module _ {M : Type 0} (t : Table M) where
  -- a word leads from the start to state q
  abbrev pub LeadsTo : ℕ → List ℕ → Type 0
  LeadsTo q w = led t t.start w ≡ q

  -- a word is accepted from state q
  abbrev pub AcceptedFrom : ℕ → List ℕ → Type 0
  AcceptedFrom q w = accepts t q w ≡ true

  -- infinitely many words lead from the start to q
  pub record Kernel (q : ℕ) : Type 0 where
    pub words : InfinitelyMany t.letters (LeadsTo q)

  -- finitely many do
  pub record Preamble (q : ℕ) : Type 0 where
    pub words : FinitelyMany t.letters (LeadsTo q)

  -- infinitely many words are accepted from q
  pub record CoKernel (q : ℕ) : Type 0 where
    pub words : InfinitelyMany t.letters (AcceptedFrom q)

  -- finitely many are
  pub record CoPreamble (q : ℕ) : Type 0 where
    pub words : FinitelyMany t.letters (AcceptedFrom q)
