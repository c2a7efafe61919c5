-- What an open book holds, and what each call makes of it. Assumes nothing.
use Rattle.std.specs.Prelude.{ℕ, zero, suc, ◌+◌, ◌*◌, Bool, cond, List, [], ◌∷◌, length, Option, Result, ◌==◌, slice_index_or, slice_set}
use Rattle.weights.specs.Refusal.{Told, judged}
use Rattle.tables.specs.Call.{Size, verdict, if_taken}
use Rattle.tables.specs.declared.call.Call.{Call}
use Rattle.tables.specs.declared.call.Call.TheVariants.{Rule, State, Arc, Start}

-- The three memories of a book or a sheet, its letters, and how many states it has. Place 0 of targets and weights is the
-- start, and place 1 + q * letters + a is arc (q, a).
pub record Contents (W : Type 0) : Type 0 where
  pub targets : List ℕ
  pub weights : List W
  pub marks : List ℕ
  pub letters : ℕ
  pub count : ℕ

-- three memories with their letters and states
abbrev pub laid : {W : Type 0} → List ℕ → List W → List ℕ → ℕ → ℕ → Contents W
laid ts ws ms s n = record { targets = ts; weights = ws; marks = ms; letters = s; count = n }

-- what the refusals of a book go by, but that of a second arc
abbrev pub size_of : {W : Type 0} → Contents W → Size
size_of c =
    record {
      targets = length c.targets;
      weights = length c.weights;
      marks = length c.marks;
      letters = c.letters;
      count = c.count;
    }

-- the place of arc (q, a) where there are s letters
abbrev pub place : ℕ → ℕ → ℕ → ℕ
place s q a = 1 + q * s + a

-- a target that is not set
abbrev pub unset : ℕ
unset = 65535

-- n places from k on, made unset
abbrev pub cleared : List ℕ → ℕ → ℕ → List ℕ
cleared xs k zero = xs
cleared xs k (suc n) = slice_set (cleared xs k n) (k + n) unset

-- the mark of a state that is final or not
abbrev pub mark : Bool → ℕ
mark f = cond f 1 0

-- a new book over three memories
abbrev pub opened : {W : Type 0} → List ℕ → List W → List ℕ → Contents W
opened ts ws ms = record { targets = slice_set ts 0 unset; weights = ws; marks = ms; letters = 1; count = 0 }

-- arc (q, a) is not drawn: its target is unset, or has no place
abbrev pub is_free : {W : Type 0} → Contents W → ℕ → ℕ → Bool
is_free c q a = slice_index_or c.targets (place c.letters q a) unset == unset

-- the refusal that a call meets, if any
abbrev pub refusal_in : {W : Type 0} → Contents W → Call W → Option Told
refusal_in c k = verdict (size_of c) (is_free c) k

-- what a call answers
abbrev pub answer_to : {W : Type 0} → Contents W → Call W → Result (Unit {0}) Told
answer_to c k = judged (refusal_in c k) tt

-- what a call that is taken leaves
abbrev pub taken : {W : Type 0} → Contents W → Call W → Contents W
taken c (Rule s) = record { targets = c.targets; weights = c.weights; marks = c.marks; letters = s; count = c.count }
taken c (State f) =
    record {
      targets = cleared c.targets (place c.letters c.count 0) c.letters;
      weights = c.weights;
      marks = slice_set c.marks c.count (mark f);
      letters = c.letters;
      count = c.count + 1;
    }
taken c (Arc q a r w) =
    record {
      targets = slice_set c.targets (place c.letters q a) r;
      weights = slice_set c.weights (place c.letters q a) w;
      marks = c.marks;
      letters = c.letters;
      count = c.count;
    }
taken c (Start q w) =
    record {
      targets = slice_set c.targets 0 q;
      weights = slice_set c.weights 0 w;
      marks = c.marks;
      letters = c.letters;
      count = c.count;
    }

-- what a call leaves, taken or refused
abbrev pub left_by : {W : Type 0} → Contents W → Call W → Contents W
left_by c k = if_taken (refusal_in c k) (taken c k) c

-- what a list of calls leaves, made one after another, and the answers that they get
abbrev pub left_by_all : {W : Type 0} → Contents W → List (Call W) → Contents W
left_by_all c [] = c
left_by_all c (k ∷ ks) = left_by_all (left_by c k) ks

abbrev pub answers_by : {W : Type 0} → Contents W → List (Call W) → List (Result (Unit {0}) Told)
answers_by c [] = []
answers_by c (k ∷ ks) = answer_to c k ∷ answers_by (left_by c k) ks
