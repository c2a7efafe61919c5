-- The worked tables are least and hyper tables as they should be. Assumes nothing.
use Rattle.std.proofs.Common.{ℕ, true, false, List, [], ◌∷◌, get_or, Some, refl, ap, arith, rules}
use Rattle.weights.specs.Numbers.{chosen_path}
use Rattle.weights.specs.Check.{residue_of, units_257, product, power_255, square_times}
use Rattle.weights.specs.Wheel.{wheel_kind}
use Rattle.theory.specs.Hyper.{Hyper}
use Rattle.theory.specs.Examples.{ForkMerges, ForkKeeps, SpinKeeps, fork, fork_least, fork_hyper, fork_representative, fork_factor, spin, spin_representative, spin_factor}
use Rattle.theory.proofs.Tests.{all_below, any_below, all_both, is_word, is_closed, closed_there, Coded, same, ratio}
use Rattle.theory.proofs.LeastTests.{is_first, is_met, differ, LeastTests, tested_least}
use Rattle.theory.proofs.HyperTests.{goes_round, settles, diverge, Witnesses, HyperTests, tested_hyper, all_co_kernel, one_class, marked_kernel}
use Rattle.theory.proofs.Single.{one_almost, hyper_is_determined}

-- check numbers and wheel places are numbers
checks : Coded units_257
checks = record { number = λ x. x.at; injective = chosen_path }

places : Coded wheel_kind.group
places = record { number = λ x. x.at; injective = chosen_path }

-- a word to each state of the fork, and the smallest from it
fork_by : ℕ → List ℕ
fork_by q = get_or ([] ∷ (0 ∷ []) ∷ (1 ∷ []) ∷ (0 ∷ 0 ∷ []) ∷ []) q []

fork_first : ℕ → List ℕ
fork_first q = get_or ((1 ∷ []) ∷ (0 ∷ []) ∷ [] ∷ [] ∷ []) q []

fork_10_least : LeastTests units_257 checks (fork 10) (fork_least 10) fork_by fork_first [] (0 ∷ [])
unfolding all_below any_below all_both is_word is_closed same ratio is_first is_met differ product power_255 square_times checks fork_by fork_first
fork_10_least = search rules

fork_11_least : LeastTests units_257 checks (fork 11) (fork_least 11) fork_by fork_first [] (0 ∷ [])
unfolding all_below any_below all_both is_word is_closed same ratio is_first is_met differ product power_255 square_times checks fork_by fork_first
fork_11_least = search rules

-- from state 3 letter 0 leads back, and every state leads there by two letters
fork_witnesses : Witnesses
fork_witnesses =
    record {
      kernel = λ q. get_or (false ∷ false ∷ false ∷ true ∷ []) q false;
      before = 0 ∷ 0 ∷ [];
      round = 0 ∷ [];
      after = λ q. [];
      few = 2;
      out = 0 ∷ 0 ∷ [];
      again = 0 ∷ [];
      one = 0 ∷ 0 ∷ [];
      two = 1 ∷ 0 ∷ [];
    }

fork_10_hyper : HyperTests units_257 checks (fork_least 10) fork_hyper fork_representative fork_factor fork_witnesses
unfolding all_below all_both is_word is_closed same ratio goes_round settles diverge product power_255 square_times checks fork_witnesses
fork_10_hyper = search rules

-- at 11 every state is its own representative
fork_11_hyper : HyperTests units_257 checks (fork_least 11) (fork_least 11) (λ q. q) (λ q. units_257.one) fork_witnesses
unfolding all_below all_both is_word is_closed same ratio goes_round settles diverge product power_255 square_times checks fork_witnesses
fork_11_hyper = search rules

-- a word to each state of the spin, and the smallest from it
spin_by : ℕ → List ℕ
spin_by q = get_or ([] ∷ (1 ∷ []) ∷ (2 ∷ []) ∷ (1 ∷ 0 ∷ []) ∷ []) q []

spin_first : ℕ → List ℕ
spin_first q = get_or ((1 ∷ []) ∷ [] ∷ (0 ∷ []) ∷ [] ∷ []) q []

spin_least : LeastTests wheel_kind.group places spin spin spin_by spin_first [] (0 ∷ [])
unfolding all_below any_below all_both is_word is_closed same ratio is_first is_met differ places spin_by spin_first
spin_least = search rules

-- letter 0 leads from the start back to it, and each other state is one word on
spin_witnesses : Witnesses
spin_witnesses =
    record {
      kernel = λ q. true;
      before = [];
      round = 0 ∷ [];
      after = spin_by;
      few = 0;
      out = 1 ∷ 0 ∷ [];
      again = 0 ∷ [];
      one = 1 ∷ 0 ∷ [];
      two = 0 ∷ 1 ∷ 0 ∷ [];
    }

spin_hyper : HyperTests wheel_kind.group places spin spin spin_representative spin_factor spin_witnesses
unfolding all_below all_both is_word is_closed same ratio goes_round settles diverge places spin_by spin_witnesses
spin_hyper = search rules

pub fork_merges : ForkMerges
unfolding product
fork_merges =
    let hyper : Hyper units_257 (fork_least 10) fork_hyper fork_representative fork_factor =
    tested_hyper units_257 checks (fork_least 10) fork_hyper fork_representative fork_factor fork_witnesses fork_10_hyper in
    record {
      least = tested_least units_257 checks (fork 10) (fork_least 10) fork_by fork_first [] (0 ∷ []) fork_10_least;
      hyper = hyper;
      only =
          λ h r f x.
          hyper_is_determined units_257 (fork_least 10) fork_hyper h fork_representative r fork_factor f
          (closed_there (fork_least 10) fork_10_hyper.closed) hyper x;
      states = refl;
      factor =
          λ k e.
          one_almost units_257 (fork_least 10) 2 1 k (residue_of 5)
          (all_co_kernel units_257 checks (fork_least 10) fork_hyper fork_representative fork_factor fork_witnesses fork_10_hyper 2
          (omega arith))
          e (hyper.factor 2 (omega arith)).almost;
      long = ap Some (chosen_path _ _ refl);
      long_hyper = ap Some (chosen_path _ _ refl);
      short = ap Some (chosen_path _ _ refl);
      short_hyper = refl;
    }

pub fork_keeps : ForkKeeps
fork_keeps =
    let hyper : Hyper units_257 (fork_least 11) (fork_least 11) (λ q. q) (λ q. units_257.one) =
    tested_hyper units_257 checks (fork_least 11) (fork_least 11) (λ q. q) (λ q. units_257.one) fork_witnesses fork_11_hyper in
    record {
      least = tested_least units_257 checks (fork 11) (fork_least 11) fork_by fork_first [] (0 ∷ []) fork_11_least;
      apart =
          one_class units_257 checks (fork_least 11) (fork_least 11) (λ q. q) (λ q. units_257.one) fork_witnesses fork_11_hyper;
      hyper = hyper;
      only =
          λ h r f x.
          (hyper_is_determined units_257 (fork_least 11) (fork_least 11) h (λ q. q) r (λ q. units_257.one) f
          (closed_there (fork_least 11) fork_11_hyper.closed) hyper x).table;
      states = refl;
    }

pub spin_keeps : SpinKeeps
unfolding spin_witnesses
spin_keeps =
    let hyper : Hyper wheel_kind.group spin spin spin_representative spin_factor =
    tested_hyper wheel_kind.group places spin spin spin_representative spin_factor spin_witnesses spin_hyper in
    record {
      least = tested_least wheel_kind.group places spin spin spin_by spin_first [] (0 ∷ []) spin_least;
      kernel =
          λ q l.
          marked_kernel wheel_kind.group places spin spin spin_representative spin_factor spin_witnesses spin_hyper q l refl;
      two_one = record { factor = spin_factor 2; by = (hyper.factor 2 (omega arith)).almost };
      three_one = record { factor = spin_factor 3; by = (hyper.factor 3 (omega arith)).almost };
      hyper = hyper;
      only =
          λ h r f x.
          (hyper_is_determined wheel_kind.group spin spin h spin_representative r spin_factor f (closed_there spin spin_hyper.closed) hyper x).table;
    }
