-- What a list of calls on a new book comes to, told by the lengths of the memories and the calls' arguments alone.
-- Assumes nothing.
use Rattle.std.specs.Prelude.{ℕ, ◌+◌, Bool, false, cond, ◌&&◌, List, [], ◌∷◌, ◌++◌, length, Some, None, Option, Result, ◌==◌, is_none, slice_index_or}
use Rattle.weights.specs.Group.{Kind}
use Rattle.weights.specs.Refusal.{Told, judged}
use Rattle.tables.specs.Table.{Table}
use Rattle.tables.specs.Call.{Size, verdict, if_taken}
use Rattle.tables.specs.declared.call.Call.{Call}
use Rattle.tables.specs.declared.call.Call.TheVariants.{Rule, State, Arc, Start}

-- the lengths of the three memories
pub record Lengths : Type 0 where
  pub targets : ℕ
  pub weights : ℕ
  pub marks : ℕ

abbrev pub lengths_of : {W : Type 0} → List ℕ → List W → List ℕ → Lengths
lengths_of ts ws ms = record { targets = length ts; weights = length ws; marks = length ms }

-- where an arc or the start leads, and with which weight
pub record Link (W : Type 0) : Type 0 where
  pub to : ℕ
  pub weight : W

-- the letters, for each state in order whether it is final, and the arcs and the start that are set
pub record Sketch (W : Type 0) : Type 0 where
  pub letters : ℕ
  pub finals : List Bool
  pub arc : ℕ → ℕ → Option (Link W)
  pub start : Option (Link W)

-- one letter, no states, nothing set
abbrev pub blank : {W : Type 0} → Sketch W
blank = record { letters = 1; finals = []; arc = λ q a. None; start = None }

-- what the refusals go by, but that of a second arc, for memories of lengths n
abbrev pub sketch_size : {W : Type 0} → Lengths → Sketch W → Size
sketch_size n s =
    record {
      targets = n.targets;
      weights = n.weights;
      marks = n.marks;
      letters = s.letters;
      count = length s.finals;
    }

-- arc (q, a) is not drawn
abbrev pub is_undrawn : {W : Type 0} → Sketch W → ℕ → ℕ → Bool
is_undrawn s q a = is_none (s.arc q a)

-- the refusal that a call meets, if any, for memories of lengths n
abbrev pub refusal_on : {W : Type 0} → Lengths → Sketch W → Call W → Option Told
refusal_on n s k = verdict (sketch_size n s) (is_undrawn s) k

-- the sketch after a call that is taken: a start stands in place of an earlier one; an arc never does, since a second one is refused
abbrev pub drawn_on : {W : Type 0} → Sketch W → Call W → Sketch W
drawn_on s (Rule n) = record { letters = n; finals = s.finals; arc = s.arc; start = s.start }
drawn_on s (State f) = record { letters = s.letters; finals = s.finals ++ (f ∷ []); arc = s.arc; start = s.start }
drawn_on s (Arc q a r w) =
    record {
      letters = s.letters;
      finals = s.finals;
      arc = λ p b. cond (p == q && b == a) (Some (record { to = r; weight = w })) (s.arc p b);
      start = s.start;
    }
drawn_on s (Start q w) =
    record { letters = s.letters; finals = s.finals; arc = s.arc; start = Some (record { to = q; weight = w }) }

-- the sketch after a call, taken or refused
abbrev pub sketched : {W : Type 0} → Lengths → Sketch W → Call W → Sketch W
sketched n s k = if_taken (refusal_on n s k) (drawn_on s k) s

-- the answer to a call
abbrev pub sketch_answer : {W : Type 0} → Lengths → Sketch W → Call W → Result (Unit {0}) Told
sketch_answer n s k = judged (refusal_on n s k) tt

-- the sketch of a list of calls, and the answers that they get, one after another
abbrev pub sketch_of : {W : Type 0} → Lengths → Sketch W → List (Call W) → Sketch W
sketch_of n s [] = s
sketch_of n s (k ∷ ks) = sketch_of n (sketched n s k) ks

abbrev pub answers_of : {W : Type 0} → Lengths → Sketch W → List (Call W) → List (Result (Unit {0}) Told)
answers_of n s [] = []
answers_of n s (k ∷ ks) = sketch_answer n s k ∷ answers_of n (sketched n s k) ks

-- where a link leads: what is not set leads to the off state, with weight one
abbrev pub link_to : {W : Type 0} → ℕ → Option (Link W) → ℕ
link_to off (Some l) = l.to
link_to off None = off

abbrev pub link_by : {W : Type 0} (K : Kind W) → Option (Link W) → K.group.Mean
link_by K (Some l) = K.mean l.weight
link_by K None = K.group.one

-- the table of a sketch: its states, and last the off state, which is not final
abbrev pub sketch_table : {W : Type 0} (K : Kind W) → Sketch W → Table K.group.Mean
sketch_table K s =
    record {
      states = length s.finals + 1;
      letters = s.letters;
      start = link_to (length s.finals) s.start;
      start_weight = link_by K s.start;
      final = λ q. slice_index_or s.finals q false;
      target = λ q a. link_to (length s.finals) (s.arc q a);
      weight = λ q a. link_by K (s.arc q a);
    }
