use Rattle.std.proofs.Common.{Some, refl, ap}
use Rattle.weights.specs.Check.{product}
use Rattle.weights.specs.Numbers.{chosen_path}
use Rattle.theory.proofs.WorkedTables.{spin_keeps}
use Rattle.worked.proofs.Forks.{merging_correct, keeping_correct}
use Rattle.worked.proofs.Listed.{merging_listed}
use Rattle.worked.proofs.Rings.{ring_correct, both_correct}
use Rattle.worked.proofs.Round.{wheel_correct, beam_wheel_correct}
use Rattle.worked.proofs.Small.{new_book_correct, one_state_correct}
use Rattle.worked.proofs.Spin.{spinning_correct}
use Rattle.worked.proofs.drafts_proved.worked_drafts.Goals as goal

pub returns : goal.returns
unfolding product
returns c =
    record {
      new_book = new_book_correct;
      new_book_counts = refl;
      new_book_marks = refl;
      one_state = one_state_correct;
      one_state_counts = refl;
      one_state_marks = refl;
      one_state_final = refl;
      one_state_weight = refl;
      merging = merging_correct;
      merging_counts = refl;
      merging_marks = refl;
      merging_factor = refl;
      keeping = keeping_correct;
      keeping_counts = refl;
      keeping_marks = refl;
      spinning = spinning_correct;
      spinning_counts = refl;
      spinning_marks = refl;
      spinning_two_one = spin_keeps.two_one;
      spinning_three_one = spin_keeps.three_one;
      wheel = wheel_correct;
      wheel_counts = refl;
      wheel_marks = refl;
      beam_wheel = beam_wheel_correct;
      beam_wheel_counts = refl;
      beam_wheel_marks = refl;
      ring_2_made = refl;
      ring_made = refl;
      ring = ring_correct;
      ring_counts = refl;
      ring_marks = refl;
      both_made = refl;
      both = both_correct;
      both_counts = refl;
      both_marks = refl;
      file_size = refl;
      file_whole = refl;
      file_calls = refl;
      listed = merging_listed;
      word_0_1 = ap Some (chosen_path _ _ refl);
      word_0_1_hyper = ap Some (chosen_path _ _ refl);
      word_1_0 = ap Some (chosen_path _ _ refl);
      word_1_0_hyper = ap Some (chosen_path _ _ refl);
      word_1 = ap Some (chosen_path _ _ refl);
      word_1_hyper = refl;
    }
