-- The merging and the keeping draft are correct. Assumes nothing.
use Rattle.std.proofs.Common.{◌≡◌, ℕ, ◌<◌, true, eqb, [], ◌∷◌, refl, arith}
use Rattle.std.proofs.lemmas.Bool.{eqb-true}
use Rattle.weights.specs.Numbers.{chosen_path}
use Rattle.weights.specs.Check.{Residue, units_257, check_kind}
use Rattle.tables.specs.Sketch.{blank, sketch_of, sketch_table}
use Rattle.tables.specs.Table.{Table, Lawful}
use Rattle.theory.specs.Examples.{fork, fork_least}
use Rattle.theory.specs.Kernel.{CoKernel}
use Rattle.theory.specs.Runs.{led, Closed}
use Rattle.theory.proofs.Tests.{all_below, all_both, at_both, is_closed, closed_there}
use Rattle.theory.proofs.WorkedTables.{fork_merges, fork_keeps}
use Rattle.worked.specs.Drafts.{Correct, merging_draft, keeping_draft, check, fork_calls, room_for}
use Rattle.worked.proofs.Answering.{SinkTests, sink_marks, all_co_kernel, minimized}
use Rattle.worked.proofs.Cases.{below_4}
use Rattle.worked.proofs.Part.{Part, part_least}
use Rattle.worked.proofs.Sink.{holds_fast, sinks, led_co_kernel}

-- the closed book's table
abbrev drawn : ℕ → Table Residue
drawn x = sketch_table check_kind (sketch_of (room_for 4 2) blank (fork_calls check x))

drawn_closed : (x : ℕ) → Closed (drawn x)
unfolding is_closed all_below all_both
drawn_closed x = closed_there (drawn x) refl

fork_closed : (x : ℕ) → Closed (fork x)
unfolding is_closed all_below all_both
fork_closed x = closed_there (fork x) refl

drawn_lawful : (x : ℕ) → Lawful (drawn x)
drawn_lawful x =
    record {
      some_state = omega arith;
      few_states = omega arith;
      some_letter = omega arith;
      few_letters = omega arith;
      start_inside = (drawn_closed x).start_inside;
      target_inside = (drawn_closed x).target_inside;
    }

-- the fork is what the start reaches of it
drawn_part :
    (x : ℕ) → all_both (λ q a. eqb ((fork x).weight q a).at ((drawn x).weight q a).at) 4 2 ≡ true → Part units_257 (drawn x) (fork x)
unfolding all_below all_both
drawn_part x e =
    record {
      closed = fork_closed x;
      letters = refl;
      start = refl;
      start_weight = refl;
      final = below_4 (λ q. (fork x).final q ≡ (drawn x).final q) refl refl refl refl;
      target =
          λ q a l m. eqb-true _ _ (at_both (λ q a. eqb ((fork x).target q a) ((drawn x).target q a)) 4 2 refl q a l m);
      weight =
          λ q a l m.
          chosen_path _ _
          (eqb-true _ _ (at_both (λ q a. eqb ((fork x).weight q a).at ((drawn x).weight q a).at) 4 2 e q a l m));
    }

-- the sink is final, and word 1 0 leads there from each state
co_kernel : (x : ℕ) → holds_fast (fork_least x) 3 ≡ true → (q : ℕ) → q < 4 → CoKernel (fork_least x) q
co_kernel x fast q l =
    led_co_kernel (fork_least x) 3 fast (omega arith) refl q (1 ∷ 0 ∷ []) (omega arith, (omega arith, tt))
    (below_4 (λ q. led (fork_least x) q (1 ∷ 0 ∷ []) ≡ 3) refl refl refl refl q l)

merging_sink : SinkTests units_257 merging_draft.minimized 3 2
unfolding all_below holds_fast sinks
merging_sink = record { some_letter = omega arith; fast = refl; few = refl; marks = λ q. refl }

keeping_sink : SinkTests units_257 keeping_draft.minimized 3 2
unfolding all_below holds_fast sinks
keeping_sink = record { some_letter = omega arith; fast = refl; few = refl; marks = λ q. refl }

pub merging_correct : Correct merging_draft
unfolding all_below all_both holds_fast
merging_correct =
    let m = merging_draft.minimized in
    record {
      taken = refl;
      minimized =
          minimized units_257 m (drawn 10) (drawn_lawful 10)
          (part_least units_257 (drawn 10) (fork 10) (drawn_part 10 refl) m.least fork_merges.least)
          (sink_marks units_257 m 3 2 merging_sink) (all_co_kernel units_257 m (λ q. refl) (co_kernel 10 refl)) fork_merges.hyper;
    }

pub keeping_correct : Correct keeping_draft
unfolding all_below all_both holds_fast
keeping_correct =
    let m = keeping_draft.minimized in
    record {
      taken = refl;
      minimized =
          minimized units_257 m (drawn 11) (drawn_lawful 11)
          (part_least units_257 (drawn 11) (fork 11) (drawn_part 11 refl) m.least fork_keeps.least)
          (sink_marks units_257 m 3 2 keeping_sink) (all_co_kernel units_257 m (λ q. refl) (co_kernel 11 refl)) fork_keeps.hyper;
    }
