-- The text that a draft file is listed as. Assumes nothing.
use Rattle.std.specs.Prelude.{◌≡◌, ℕ, ◌<◌, Bool, List, ◌++◌, length, codes, Ok, Err, Result, nat_lt, slice_get}
use Rattle.weights.specs.Check.{check_kind}
use Rattle.weights.specs.Codes.{Codes, plain_codes, check_codes, wheel_codes, beam_wheel_codes}
use Rattle.weights.specs.Group.{Kind}
use Rattle.weights.specs.Plain.{plain_kind}
use Rattle.weights.specs.Wheel.{wheel_kind, beam_wheel_kind}
use Rattle.tables.specs.Sketch.{Lengths, Sketch, sketch_table}
use Rattle.tables.specs.Table.{Table}
use Rattle.drafts.specs.Fault.{Blame}
use Rattle.drafts.specs.FileKind.{kind_of}
use Rattle.drafts.specs.Sketched.{draft_sketch}
use Rattle.drafts.specs.declared.kind.FileKind.{FileKind}
use Rattle.drafts.specs.declared.kind.FileKind.TheVariants.{Plain, Check, Wheel, BeamWheel}
use Rattle.theory.specs.Hyper.{Hyper, count_below}
use Rattle.theory.specs.Kernel.{Kernel, Preamble}
use Rattle.theory.specs.Least.{Least}
use Rattle.theory.specs.Theorems.{agreement_length}
use Rattle.minimize.specs.Compile.{Tells}
use Rattle.listings.specs.Listing.{field, line, listing_text}

-- the line of a refusal, and of the offset where the file is at fault
abbrev pub refused_text : ℕ → ℕ → List ℕ
refused_text n o = field (codes "refused ") n ++ line (codes " ") o

-- the book that a file is drawn in has so many places and marks
abbrev pub book_lengths : Lengths
book_lengths = record { targets = 1017; weights = 1017; marks = 127 }

module _ {W : Type 0} (K : Kind W) (k : Codes W) where
  -- A text lists the hyper table of t. There is one such text: t determines its least table, and the least table its kernel states,
  -- its hyper table, the representatives and the factors.
  pub record HyperText (t : Table K.group.Mean) (text : List ℕ) : Type 0 where
    pub least : Table K.group.Mean
    pub is_least : Least K.group t least
    pub hyper : Table K.group.Mean
    pub representative : ℕ → ℕ
    pub factor : ℕ → K.group.Mean
    pub is_hyper : Hyper K.group least hyper representative factor
    -- which states of the least table are kernel
    pub kernel : ℕ → Bool
    pub is_kernel : (q : ℕ) → q < least.states → Tells (kernel q) (Kernel least q) (Preamble least q)
    pub is_text : text ≡ listing_text K k hyper least.states hyper.states (count_below kernel least.states) (agreement_length least.states)

  -- the text of a sketch or a fault
  abbrev pub SketchText : Result (Sketch W) Blame → List ℕ → Type 0
  SketchText (Ok s) text = HyperText (sketch_table K s) text
  SketchText (Err b) text = text ≡ refused_text b.told.number b.offset

  -- the text of a file of the kind
  abbrev pub KindText : List ℕ → List ℕ → Type 0
  KindText bs text = SketchText (draft_sketch book_lengths k bs) text

-- the text of a file that is read as of a kind
abbrev pub TextOf : FileKind → List ℕ → List ℕ → Type 0
TextOf Plain bs text = KindText plain_kind plain_codes bs text
TextOf Check bs text = KindText check_kind check_codes bs text
TextOf Wheel bs text = KindText wheel_kind wheel_codes bs text
TextOf BeamWheel bs text = KindText beam_wheel_kind beam_wheel_codes bs text

-- the text of a file; its kind is told at offset 3, and a file of more than 16384 bytes is refused
abbrev pub FileText : List ℕ → List ℕ → Type 0
FileText bs text = Tells (nat_lt 16384 (length bs)) (text ≡ refused_text 6 16384) (TextOf (kind_of (slice_get bs 3)) bs text)
