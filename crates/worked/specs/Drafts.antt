-- Worked drafts: tables that calls draw and tables of other sources, each with its least and its hyper table. Assumes nothing.
use Rattle.std.specs.Prelude.{◌≡◌, ℕ, ◌+◌, ◌*◌, ◌%◌, true, false, ◌==◌, List, [], ◌∷◌, ◌++◌, length, map, Some, None, Ok, codes}
use Rattle.std.specs.List.{flat_map}
use Rattle.weights.specs.Check.{Residue, residue_of, units_257, check_kind}
use Rattle.weights.specs.Codes.{check_codes}
use Rattle.weights.specs.Group.{Kind}
use Rattle.weights.specs.Wheel.{Place, wheel_kind, wheel_place, beam_wheel_kind, beam_wheel_place}
use Rattle.weights.specs.declared.check.Check.{Check}
use Rattle.weights.specs.declared.wheel.Wheel.{Wheel}
use Rattle.weights.specs.declared.beam_wheel.BeamWheel.{BeamWheel}
use Rattle.tables.specs.Sketch.{Lengths, blank, sketch_of, sketch_table, answers_of}
use Rattle.tables.specs.Table.{Table, weight_of}
use Rattle.tables.specs.declared.call.Call.{Call}
use Rattle.tables.specs.declared.call.Call.TheVariants.{Rule, State, Arc, Start}
use Rattle.sources.specs.Ring.{ring_verdict, ring_table}
use Rattle.sources.specs.Both.{both_verdict, both_table}
use Rattle.drafts.specs.Draft.{listing}
use Rattle.drafts.specs.Written.{field_of}
use Rattle.theory.specs.Series.{AlmostEquivalent}
use Rattle.listings.specs.File.{FileText}
use Rattle.worked.specs.Minimized.{Minimized, Counts, counts, marks, MinimizedTo, unmerged}
use Rattle.theory.specs.Examples.{written, fork_least, fork_hyper, fork_representative, fork_factor, spin, spin_representative, spin_factor}

-- a draft: the calls on a new book over so much memory, and what the table of the closed book is minimized to
pub record Draft {W : Type 0} (K : Kind W) : Type 0 where
  pub room : Lengths
  pub calls : List (Call W)
  pub minimized : Minimized K.group

-- memories with just enough room for n states over s letters
abbrev pub room_for : ℕ → ℕ → Lengths
room_for n s = record { targets = 1 + n * s; weights = 1 + n * s; marks = n }

-- the table of the closed book: its states, and last the off state
abbrev pub source : {W : Type 0} {K : Kind W} → Draft K → Table K.group.Mean
source {K = K} d = sketch_table K (sketch_of d.room blank d.calls)

-- the book takes each call, and the table of the closed book is minimized as the draft says
pub record Correct {W : Type 0} {K : Kind W} (d : Draft K) : Type 0 where
  pub taken : answers_of d.room blank d.calls ≡ map (λ k. Ok tt) d.calls
  pub minimized : MinimizedTo K.group (source d) d.minimized

abbrev pub draft_counts : {W : Type 0} {K : Kind W} → Draft K → Counts
draft_counts d = counts (source d) d.minimized

-- the check number of a code
abbrev pub check : ℕ → Check
check c = record { 0 = c % 256 }

-- the table of one state that is not final, over one letter, with a start weight
abbrev pub off_alone : ℕ → Table Residue
off_alone first = written residue_of 1 first (false ∷ []) ((0 ∷ []) ∷ []) ((1 ∷ []) ∷ [])

-- A new book is closed at once. The off state is all there is.
abbrev pub new_book_draft : Draft check_kind
new_book_draft = record {
  room = room_for 0 1;
  calls = [];
  minimized =
      record {
        least = off_alone 1;
        kernel = λ q. q == 0;
        co_kernel = λ q. false;
        hyper = off_alone 1;
        representative = λ q. 0;
        factor = λ q. residue_of 1;
      };
}

-- One final state, and no arc, so that its arc leads to the off state, which is state 1. It is redirected there.
abbrev pub one_state_draft : Draft check_kind
one_state_draft = record {
  room = room_for 1 1;
  calls = State true ∷ Start 0 (check 5) ∷ [];
  minimized =
      record {
        least =
            written residue_of 1 5 (true ∷ false ∷ []) ((1 ∷ []) ∷ (1 ∷ []) ∷ []) ((1 ∷ []) ∷ (1 ∷ []) ∷ []);
        kernel = λ q. q == 1;
        co_kernel = λ q. false;
        hyper = off_alone 5;
        representative = λ q. 1;
        factor = λ q. residue_of 1;
      };
}

-- The calls that draw the fork of theory's examples, with weights named by their codes. No arc leads to the off state.
abbrev pub fork_calls : {W : Type 0} → (ℕ → W) → ℕ → List (Call W)
fork_calls w x =
    Rule 2 ∷ State false ∷ State false ∷ State true ∷ State true ∷
    Arc 0 0 1 (w 1) ∷ Arc 0 1 2 (w 1) ∷
    Arc 1 0 3 (w 2) ∷ Arc 1 1 3 (w 4) ∷
    Arc 2 0 3 (w 5) ∷ Arc 2 1 3 (w x) ∷
    Arc 3 0 3 (w 3) ∷ Arc 3 1 3 (w 1) ∷
    Start 0 (w 7) ∷ []

-- The fork at 10: state 2 is redirected to state 1 with factor 5.
abbrev pub merging_draft : Draft check_kind
merging_draft = record {
  room = room_for 4 2;
  calls = fork_calls check 10;
  minimized =
      record {
        least = fork_least 10;
        kernel = λ q. q == 3;
        co_kernel = λ q. true;
        hyper = fork_hyper;
        representative = fork_representative;
        factor = fork_factor;
      };
}

-- The fork at 11: no state is redirected.
abbrev pub keeping_draft : Draft check_kind
keeping_draft = record {
  room = room_for 4 2;
  calls = fork_calls check 11;
  minimized = unmerged units_257 (fork_least 11) (λ q. q == 3);
}

-- the wheel number of a place
abbrev pub wheel : ℕ → Wheel
wheel n = record { 0 = n }

-- The spin of theory's examples. No arc leads to the off state. All states are kernel, so those of one class are not merged.
abbrev pub spinning_draft : Draft wheel_kind
spinning_draft = record {
  room = room_for 4 3;
  calls =
      Rule 3 ∷ State false ∷ State true ∷ State false ∷ State true ∷
      Arc 0 0 0 (wheel 0) ∷ Arc 0 1 1 (wheel 0) ∷ Arc 0 2 2 (wheel 0) ∷
      Arc 1 0 3 (wheel 0) ∷ Arc 1 1 3 (wheel 0) ∷ Arc 1 2 3 (wheel 0) ∷
      Arc 2 0 3 (wheel 0) ∷ Arc 2 1 3 (wheel 0) ∷ Arc 2 2 3 (wheel 0) ∷
      Arc 3 0 3 (wheel 1) ∷ Arc 3 1 3 (wheel 1) ∷ Arc 3 2 3 (wheel 1) ∷
      Start 0 (wheel 0) ∷ [];
  minimized =
      record {
        least = spin;
        kernel = λ q. true;
        co_kernel = λ q. true;
        hyper = spin;
        representative = spin_representative;
        factor = spin_factor;
      };
}

-- the beam wheel number of a place
abbrev pub beam_wheel : ℕ → BeamWheel
beam_wheel n = record { 0 = n }

-- Calls with codes below 720, which the wheel and the beam wheel both have. State 2 weighs each word 360 on from where state 1 does,
-- if 360 and 360 come round to place 0. No arc leads to the off state.
abbrev pub round_calls : {W : Type 0} → (ℕ → W) → List (Call W)
round_calls w =
    Rule 2 ∷ State true ∷ State false ∷ State false ∷ State true ∷
    Arc 0 0 1 (w 0) ∷ Arc 0 1 2 (w 0) ∷
    Arc 1 0 3 (w 0) ∷ Arc 1 1 3 (w 360) ∷
    Arc 2 0 3 (w 360) ∷ Arc 2 1 3 (w 0) ∷
    Arc 3 0 3 (w 0) ∷ Arc 3 1 3 (w 1) ∷
    Start 0 (w 0) ∷ []

-- the draft of these calls, of which one state of the least table is kernel
abbrev pub round_draft : {W : Type 0} (K : Kind W) → (ℕ → W) → Table K.group.Mean → ℕ → Draft K
round_draft K w least sink = record {
  room = room_for 4 2;
  calls = round_calls w;
  minimized = unmerged K.group least (λ q. q == sink);
}

-- On the wheel 360 and 360 are place 0: states 1 and 2 become one state of the least table.
abbrev pub wheel_draft : Draft wheel_kind
wheel_draft =
    round_draft wheel_kind wheel
    (written wheel_place 2 0 (true ∷ false ∷ true ∷ [])
    ((1 ∷ 1 ∷ []) ∷ (2 ∷ 2 ∷ []) ∷ (2 ∷ 2 ∷ []) ∷ [])
    ((0 ∷ 360 ∷ []) ∷ (0 ∷ 360 ∷ []) ∷ (0 ∷ 1 ∷ []) ∷ []))
    2

-- On the beam wheel 360 and 360 are place 720: no two states become one. The push of state 2 is 360.
abbrev pub beam_wheel_draft : Draft beam_wheel_kind
beam_wheel_draft =
    round_draft beam_wheel_kind beam_wheel
    (written beam_wheel_place 2 0 (true ∷ false ∷ false ∷ true ∷ [])
    ((1 ∷ 2 ∷ []) ∷ (3 ∷ 3 ∷ []) ∷ (3 ∷ 3 ∷ []) ∷ (3 ∷ 3 ∷ []) ∷ [])
    ((0 ∷ 360 ∷ []) ∷ (0 ∷ 360 ∷ []) ∷ (0 ∷ 1080 ∷ []) ∷ (0 ∷ 1 ∷ []) ∷ []))
    3

-- the ring of n states over one letter, whose arcs each weigh 1
abbrev pub ring_of : ℕ → Table (Place 720)
ring_of n = ring_table wheel_kind (record { states = n; letters = 1; weight = wheel 1 })

-- In the least table of the ring of 3 its weights gather on the arc from state 0: the pushes of states 1 and 2 are 2 and 1. All
-- states are kernel.
abbrev pub ring_minimized : Minimized wheel_kind.group
ring_minimized =
    unmerged wheel_kind.group
    (written wheel_place 1 0 (true ∷ false ∷ false ∷ [])
    ((1 ∷ []) ∷ (2 ∷ []) ∷ (0 ∷ []) ∷ [])
    ((3 ∷ []) ∷ (0 ∷ []) ∷ (0 ∷ []) ∷ []))
    (λ q. true)

-- the rings of 2 and 3 side by side
abbrev pub both_rings : Table (Place 720)
both_rings = both_table wheel_kind.group (ring_of 2) (ring_of 3)

-- They turn as one ring of 6, whose arcs each weigh 2.
abbrev pub both_minimized : Minimized wheel_kind.group
both_minimized =
    unmerged wheel_kind.group
    (written wheel_place 1 0 (true ∷ false ∷ false ∷ false ∷ false ∷ false ∷ [])
    ((1 ∷ []) ∷ (2 ∷ []) ∷ (3 ∷ []) ∷ (4 ∷ []) ∷ (5 ∷ []) ∷ (0 ∷ []) ∷ [])
    ((12 ∷ []) ∷ (0 ∷ []) ∷ (0 ∷ []) ∷ (0 ∷ []) ∷ (0 ∷ []) ∷ (0 ∷ []) ∷ []))
    (λ q. true)

-- the draft file of the merging draft
abbrev pub file : List ℕ
file = flat_map (field_of check_codes.number) (fork_calls (λ c. c) 10)

-- the text that it is listed as
abbrev pub text : List ℕ
text =
    codes "least 4\nhyper 3\nkernel 1\nagree 6\nstart 0 7\nstate 0 no\nstate 1 no\nstate 2 final\n"
    ++ codes "arc 0 0 1 2\narc 0 1 1 5\narc 1 0 2 1\narc 1 1 2 2\narc 2 0 2 3\narc 2 1 2 1\n"

pub record WorkedDrafts : Type 0 where
  pub new_book : Correct new_book_draft
  pub new_book_counts : draft_counts new_book_draft ≡ record { source = 1; least = 1; hyper = 1; kernel = 1; agreement = 0 }
  pub new_book_marks : marks new_book_draft.minimized ≡ 2 ∷ []
  pub one_state : Correct one_state_draft
  pub one_state_counts : draft_counts one_state_draft ≡ record { source = 2; least = 2; hyper = 1; kernel = 1; agreement = 2 }
  pub one_state_marks : marks one_state_draft.minimized ≡ 1 ∷ 2 ∷ []
  pub one_state_final : one_state_draft.minimized.hyper.final 0 ≡ false
  pub one_state_weight : one_state_draft.minimized.hyper.start_weight ≡ residue_of 5
  pub merging : Correct merging_draft
  pub merging_counts : draft_counts merging_draft ≡ record { source = 5; least = 4; hyper = 3; kernel = 1; agreement = 6 }
  pub merging_marks : marks merging_draft.minimized ≡ 4 ∷ 4 ∷ 5 ∷ 7 ∷ []
  pub merging_factor : merging_draft.minimized.factor 2 ≡ residue_of 5
  pub keeping : Correct keeping_draft
  pub keeping_counts : draft_counts keeping_draft ≡ record { source = 5; least = 4; hyper = 4; kernel = 1; agreement = 6 }
  pub keeping_marks : marks keeping_draft.minimized ≡ 4 ∷ 4 ∷ 5 ∷ 7 ∷ []
  pub spinning : Correct spinning_draft
  pub spinning_counts : draft_counts spinning_draft ≡ record { source = 5; least = 4; hyper = 4; kernel = 4; agreement = 6 }
  pub spinning_marks : marks spinning_draft.minimized ≡ 6 ∷ 7 ∷ 6 ∷ 7 ∷ []
  -- its states 2 and 3 are almost-equivalent to state 1, and are kept
  pub spinning_two_one : AlmostEquivalent wheel_kind.group spinning_draft.minimized.least 2 1
  pub spinning_three_one : AlmostEquivalent wheel_kind.group spinning_draft.minimized.least 3 1
  pub wheel : Correct wheel_draft
  pub wheel_counts : draft_counts wheel_draft ≡ record { source = 5; least = 3; hyper = 3; kernel = 1; agreement = 4 }
  pub wheel_marks : marks wheel_draft.minimized ≡ 5 ∷ 4 ∷ 7 ∷ []
  pub beam_wheel : Correct beam_wheel_draft
  pub beam_wheel_counts : draft_counts beam_wheel_draft ≡ record { source = 5; least = 4; hyper = 4; kernel = 1; agreement = 6 }
  pub beam_wheel_marks : marks beam_wheel_draft.minimized ≡ 5 ∷ 4 ∷ 4 ∷ 7 ∷ []
  -- the makings of the rings of 2 and 3, and of both side by side, refuse nothing
  pub ring_2_made : ring_verdict 2 1 ≡ None
  pub ring_made : ring_verdict 3 1 ≡ None
  pub ring : MinimizedTo wheel_kind.group (ring_of 3) ring_minimized
  pub ring_counts : counts (ring_of 3) ring_minimized ≡ record { source = 3; least = 3; hyper = 3; kernel = 3; agreement = 4 }
  pub ring_marks : marks ring_minimized ≡ 7 ∷ 6 ∷ 6 ∷ []
  pub both_made : both_verdict (ring_of 2) (ring_of 3) ≡ None
  pub both : MinimizedTo wheel_kind.group both_rings both_minimized
  pub both_counts : counts both_rings both_minimized ≡ record { source = 6; least = 6; hyper = 6; kernel = 6; agreement = 10 }
  pub both_marks : marks both_minimized ≡ 7 ∷ 6 ∷ 6 ∷ 6 ∷ 6 ∷ 6 ∷ []
  -- the file of the merging draft has 108 bytes and no fault, lists its calls, and is listed as the text
  pub file_size : length file ≡ 108
  pub file_whole : (listing check_codes file).fault ≡ None
  pub file_calls : map (λ p. p.call) (listing check_codes file).calls ≡ merging_draft.calls
  pub listed : FileText file text
  -- In the merging draft the closed book and the hyper table agree on words 0 1 and 1 0, and not yet on word 1. Numbers below 256 are
  -- named by the byte that stores them.
  pub word_0_1 : weight_of units_257 (source merging_draft) (0 ∷ 1 ∷ []) ≡ Some (residue_of 28)
  pub word_0_1_hyper : weight_of units_257 merging_draft.minimized.hyper (0 ∷ 1 ∷ []) ≡ Some (residue_of 28)
  pub word_1_0 : weight_of units_257 (source merging_draft) (1 ∷ 0 ∷ []) ≡ Some (residue_of 35)
  pub word_1_0_hyper : weight_of units_257 merging_draft.minimized.hyper (1 ∷ 0 ∷ []) ≡ Some (residue_of 35)
  pub word_1 : weight_of units_257 (source merging_draft) (1 ∷ []) ≡ Some (residue_of 7)
  pub word_1_hyper : weight_of units_257 merging_draft.minimized.hyper (1 ∷ []) ≡ None
