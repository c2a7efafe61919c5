-- The kind of a draft file. Assumes nothing.
use Rattle.std.specs.Prelude.{ℕ, cond, List, Some, None, codes, Option, ◌==◌}
use Rattle.weights.specs.Codes.{plain_codes, check_codes, wheel_codes, beam_wheel_codes}
use Rattle.drafts.specs.declared.kind.FileKind.{FileKind}
use Rattle.drafts.specs.declared.kind.FileKind.TheVariants.{Plain, Check, Wheel, BeamWheel}

-- what a kind of files is known by: its number in a file, and its word
pub record Known : Type 0 where
  pub number : ℕ
  pub word : List ℕ

-- the number and the word of each kind
abbrev pub known : FileKind → Known
known Plain = record { number = plain_codes.number; word = codes "plain" }
known Check = record { number = check_codes.number; word = codes "check" }
known Wheel = record { number = wheel_codes.number; word = codes "wheel" }
known BeamWheel = record { number = beam_wheel_codes.number; word = codes "beam wheel" }

-- the kind that has the number of a byte, plain where the byte is missing or unknown
abbrev pub kind_of : Option ℕ → FileKind
kind_of (Some n) =
    cond (n == (known Check).number) Check (cond (n == (known Wheel).number) Wheel (cond (n == (known BeamWheel).number) BeamWheel Plain))
kind_of None = Plain
