-- Worked tables, small enough to follow by hand. Assumes nothing.
use Rattle.std.specs.Prelude.{◌≡◌, ℕ, ◌<◌, Bool, true, false, List, [], ◌∷◌, length, get_or, Some, None}
use Rattle.weights.specs.Check.{Residue, residue_of, units_257}
use Rattle.weights.specs.Wheel.{Place, wheel_kind, wheel_place}
use Rattle.tables.specs.Table.{Table, weight_of}
use Rattle.theory.specs.Series.{AlmostBy, AlmostEquivalent}
use Rattle.theory.specs.Least.{Least}
use Rattle.theory.specs.Kernel.{Kernel}
use Rattle.theory.specs.Hyper.{Hyper}
use Rattle.theory.specs.Theorems.{SameTable, SameHyper}

-- what rows of numbers say of state q and letter a
abbrev pub entry : List (List ℕ) → ℕ → ℕ → ℕ
entry rows q a = get_or (get_or rows q []) a 0

-- a table written down: which states are final, and for each state a row of targets and a row of weights. It starts in state 0.
abbrev pub written : {M : Type 0} → (ℕ → M) → ℕ → ℕ → List Bool → List (List ℕ) → List (List ℕ) → Table M
written mean letters first finals targets weights = record {
  states = length finals;
  letters = letters;
  start = 0;
  start_weight = mean first;
  final = λ q. get_or finals q false;
  target = entry targets;
  weight = λ q a. mean (entry weights q a);
}

-- States 1 and 2 lead to state 3; states 2 and 3 are final. At x = 10, state 2 weighs each word of one letter or more as 5/2 times
-- what state 1 does. At x = 11 no factor does that, though the targets are equal.
abbrev pub fork : ℕ → Table Residue
fork x =
    written residue_of 2 7 (false ∷ false ∷ true ∷ true ∷ [])
    ((1 ∷ 2 ∷ []) ∷ (3 ∷ 3 ∷ []) ∷ (3 ∷ 3 ∷ []) ∷ (3 ∷ 3 ∷ []) ∷ [])
    ((1 ∷ 1 ∷ []) ∷ (2 ∷ 4 ∷ []) ∷ (5 ∷ x ∷ []) ∷ (3 ∷ 1 ∷ []) ∷ [])

-- its least table: the push of state 1 is 2, and the other pushes are 1
abbrev pub fork_least : ℕ → Table Residue
fork_least x =
    written residue_of 2 7 (false ∷ false ∷ true ∷ true ∷ [])
    ((1 ∷ 2 ∷ []) ∷ (3 ∷ 3 ∷ []) ∷ (3 ∷ 3 ∷ []) ∷ (3 ∷ 3 ∷ []) ∷ [])
    ((2 ∷ 1 ∷ []) ∷ (1 ∷ 2 ∷ []) ∷ (5 ∷ x ∷ []) ∷ (3 ∷ 1 ∷ []) ∷ [])

-- the hyper table at x = 10: state 2 is redirected to state 1 with factor 5, and state 3 becomes state 2
abbrev pub fork_hyper : Table Residue
fork_hyper =
    written residue_of 2 7 (false ∷ false ∷ true ∷ [])
    ((1 ∷ 1 ∷ []) ∷ (2 ∷ 2 ∷ []) ∷ (2 ∷ 2 ∷ []) ∷ [])
    ((2 ∷ 5 ∷ []) ∷ (1 ∷ 2 ∷ []) ∷ (3 ∷ 1 ∷ []) ∷ [])

-- its representatives and factors
abbrev pub fork_representative : ℕ → ℕ
fork_representative q = get_or (0 ∷ 1 ∷ 1 ∷ 3 ∷ []) q 0

abbrev pub fork_factor : ℕ → Residue
fork_factor q = residue_of (get_or (1 ∷ 1 ∷ 5 ∷ 1 ∷ []) q 1)

-- State 0 leads to itself, so every state is kernel. States 1, 2 and 3 are almost-equivalent, and all are kept.
abbrev pub spin : Table (Place 720)
spin =
    written wheel_place 3 0 (false ∷ true ∷ false ∷ true ∷ [])
    ((0 ∷ 1 ∷ 2 ∷ []) ∷ (3 ∷ 3 ∷ 3 ∷ []) ∷ (3 ∷ 3 ∷ 3 ∷ []) ∷ (3 ∷ 3 ∷ 3 ∷ []) ∷ [])
    ((0 ∷ 0 ∷ 0 ∷ []) ∷ (0 ∷ 0 ∷ 0 ∷ []) ∷ (0 ∷ 0 ∷ 0 ∷ []) ∷ (1 ∷ 1 ∷ 1 ∷ []) ∷ [])

-- its representatives and factors
abbrev pub spin_representative : ℕ → ℕ
spin_representative q = get_or (0 ∷ 1 ∷ 1 ∷ 1 ∷ []) q 0

abbrev pub spin_factor : ℕ → Place 720
spin_factor q = wheel_place (get_or (0 ∷ 0 ∷ 0 ∷ 1 ∷ []) q 0)

-- At 10 state 2 of the fork merges into state 1: there is one hyper table, it has three states, and no factor but 5 will do. Word
-- 1 0 weighs in it what it weighs in the fork, and word 1 no longer does.
pub record ForkMerges : Type 0 where
  pub least : Least units_257 (fork 10) (fork_least 10)
  pub hyper : Hyper units_257 (fork_least 10) fork_hyper fork_representative fork_factor
  pub only :
      (h : Table Residue) (r : ℕ → ℕ) (f : ℕ → Residue) → Hyper units_257 (fork_least 10) h r f →
      SameHyper units_257 (fork_least 10) fork_hyper h fork_representative r fork_factor f
  pub states : fork_hyper.states ≡ 3
  pub factor : (k : Residue) → AlmostBy units_257 (fork_least 10) k 2 1 → k ≡ residue_of 5
  pub long : weight_of units_257 (fork 10) (1 ∷ 0 ∷ []) ≡ Some (residue_of 35)
  pub long_hyper : weight_of units_257 fork_hyper (1 ∷ 0 ∷ []) ≡ Some (residue_of 35)
  pub short : weight_of units_257 (fork 10) (1 ∷ []) ≡ Some (residue_of 7)
  pub short_hyper : weight_of units_257 fork_hyper (1 ∷ []) ≡ None

-- At 11 no two states of the fork's least table are almost-equivalent, and each hyper table is the least table.
pub record ForkKeeps : Type 0 where
  pub least : Least units_257 (fork 11) (fork_least 11)
  pub apart : (q p : ℕ) → q < 4 → p < 4 → AlmostEquivalent units_257 (fork_least 11) q p → q ≡ p
  pub hyper : Hyper units_257 (fork_least 11) (fork_least 11) (λ q. q) (λ q. units_257.one)
  pub only :
      (h : Table Residue) (r : ℕ → ℕ) (f : ℕ → Residue) → Hyper units_257 (fork_least 11) h r f →
      SameTable units_257 (fork_least 11) h
  pub states : (fork_least 11).states ≡ 4

-- The spin is its own least table. Its states 2 and 3 are almost-equivalent to state 1, and yet each hyper table is the spin, since
-- all states are kernel.
pub record SpinKeeps : Type 0 where
  pub least : Least wheel_kind.group spin spin
  pub kernel : (q : ℕ) → q < 4 → Kernel spin q
  pub two_one : AlmostEquivalent wheel_kind.group spin 2 1
  pub three_one : AlmostEquivalent wheel_kind.group spin 3 1
  pub hyper : Hyper wheel_kind.group spin spin spin_representative spin_factor
  pub only :
      (h : Table (Place 720)) (r : ℕ → ℕ) (f : ℕ → Place 720) → Hyper wheel_kind.group spin h r f →
      SameTable wheel_kind.group spin h
