-- The spinning draft is correct. Assumes nothing.
use Rattle.std.proofs.Common.{◌≡◌, ℕ, ◌<◌, true, eqb, [], ◌∷◌, refl, arith}
use Rattle.std.proofs.lemmas.Bool.{eqb-true}
use Rattle.weights.specs.Numbers.{chosen_path}
use Rattle.weights.specs.Wheel.{Place, wheel_kind}
use Rattle.tables.specs.Table.{Table}
use Rattle.theory.specs.Examples.{spin}
use Rattle.theory.specs.Kernel.{CoKernel}
use Rattle.theory.specs.Runs.{led, Closed}
use Rattle.theory.proofs.Tests.{all_below, all_both, at_both, is_closed, closed_there}
use Rattle.theory.proofs.WorkedTables.{spin_keeps}
use Rattle.worked.specs.Drafts.{Correct, source, spinning_draft}
use Rattle.worked.proofs.Answering.{all_kernel, all_co_kernel, minimized}
use Rattle.worked.proofs.Cases.{below_4}
use Rattle.worked.proofs.Part.{Part, part_least}
use Rattle.worked.proofs.Sink.{holds_fast, led_co_kernel}

-- the closed book's table
abbrev drawn : Table (Place 720)
drawn = source spinning_draft

drawn_closed : Closed drawn
unfolding is_closed all_below all_both
drawn_closed = closed_there drawn refl

spin_closed : Closed spin
unfolding is_closed all_below all_both
spin_closed = closed_there spin refl

-- the spin is what the start reaches of it
drawn_part : Part wheel_kind.group drawn spin
unfolding all_below all_both
drawn_part =
    record {
      closed = spin_closed;
      letters = refl;
      start = refl;
      start_weight = refl;
      final = below_4 (λ q. spin.final q ≡ drawn.final q) refl refl refl refl;
      target =
          λ q a l m. eqb-true _ _ (at_both (λ q a. eqb (spin.target q a) (drawn.target q a)) 4 3 refl q a l m);
      weight =
          λ q a l m.
          chosen_path _ _ (eqb-true _ _ (at_both (λ q a. eqb (spin.weight q a).at (drawn.weight q a).at) 4 3 refl q a l m));
    }

spin_fast : holds_fast spin 3 ≡ true
unfolding all_below holds_fast
spin_fast = refl

-- state 3 is final, holds fast, and word 1 0 leads there from each state
co_kernel : (q : ℕ) → q < 4 → CoKernel spin q
co_kernel q l =
    led_co_kernel spin 3 spin_fast (omega arith) refl q (1 ∷ 0 ∷ []) (omega arith, (omega arith, tt))
    (below_4 (λ q. led spin q (1 ∷ 0 ∷ []) ≡ 3) refl refl refl refl q l)

pub spinning_correct : Correct spinning_draft
spinning_correct =
    let m = spinning_draft.minimized in
    record {
      taken = refl;
      minimized =
          minimized wheel_kind.group m drawn
          (record {
            some_state = omega arith;
            few_states = omega arith;
            some_letter = omega arith;
            few_letters = omega arith;
            start_inside = drawn_closed.start_inside;
            target_inside = drawn_closed.target_inside;
          })
          (part_least wheel_kind.group drawn spin drawn_part spin spin_keeps.least)
          (all_kernel wheel_kind.group m (λ q. refl) spin_keeps.kernel) (all_co_kernel wheel_kind.group m (λ q. refl) co_kernel) spin_keeps.hyper;
    }
