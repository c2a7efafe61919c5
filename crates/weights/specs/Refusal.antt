-- What a refusal tells: a number, and the values that go with it. Assumes nothing.
use Rattle.std.specs.Prelude.{ℕ, Bool, cond, List, [], ◌∷◌, ◌++◌, Some, None, Ok, Err, codes, Option, Result}
use Rattle.std.specs.Fmt.{decimal}
use Rattle.weights.specs.declared.refusal.Refusal.{Refusal}
use Rattle.weights.specs.declared.refusal.Refusal.TheVariants.{Letters, NoState, NoLetter, NoLetterAt, NoCode, NoRoom, ShortMemory, BadField, StateCount, UnequalLetters, SecondArc}

pub record Told : Type 0 where
  pub number : ℕ
  pub values : List ℕ

-- a number alone, and a number with an index
abbrev pub bare : ℕ → Told
bare n = record { number = n; values = [] }

abbrev pub indexed : ℕ → ℕ → Told
indexed n i = record { number = n; values = i ∷ [] }

-- the number and the values of each refusal
abbrev pub told : Refusal → Told
told Letters = bare 1
told NoState = bare 2
told NoLetter = bare 3
told (NoLetterAt i) = indexed 3 i
told NoCode = bare 4
told NoRoom = bare 5
told ShortMemory = bare 6
told BadField = bare 7
told StateCount = bare 8
told UnequalLetters = bare 9
told SecondArc = bare 10

-- how a refusal prints: its number, and the index that goes with it
abbrev pub told_text : Told → List ℕ
told_text t = elim t.values [ [] ↦ decimal t.number | i ∷ is ↦ decimal t.number ++ (codes " at index " ++ decimal i) ]

-- an answer as a value, or as what its refusal tells
abbrev pub outcome : {X : Type 0} → Result X Refusal → Result X Told
outcome (Ok x) = Ok x
outcome (Err e) = Err (told e)

-- the same, with the value seen through f
abbrev pub outcome_as : {X Y : Type 0} → (X → Y) → Result X Refusal → Result Y Told
outcome_as f (Ok x) = Ok (f x)
outcome_as f (Err e) = Err (told e)

-- the checks of a call, in order: the refusal of that number where the test fails, else what the later checks find
abbrev pub unless : Bool → ℕ → Option Told → Option Told
unless b n rest = cond b rest (Some (bare n))

-- the answer of a call that meets a refusal or none
abbrev pub judged : {X : Type 0} → Option Told → X → Result X Told
judged None x = Ok x
judged (Some t) x = Err t

-- the value where there is one, else a refusal
abbrev pub given : {X : Type 0} → Told → Option X → Result X Told
given t (Some x) = Ok x
given t None = Err t
