-- What a fault tells: the layer that refused, the refusal, and the offset of the field's tag. Assumes nothing.
use Rattle.std.specs.Prelude.{ℕ, List, ◌++◌, Some, None, Ok, Err, codes, Option, Result}
use Rattle.std.specs.Fmt.{decimal}
use Rattle.weights.specs.Refusal.{Told, told, bare}
use Rattle.drafts.specs.declared.fault.Fault.{Fault}
use Rattle.drafts.specs.declared.fault.Layer.{Layer}
use Rattle.drafts.specs.declared.fault.Layer.TheVariants.{File, Weight, Book}

-- the word of each layer
abbrev pub layer_name : Layer → List ℕ
layer_name File = codes "file"
layer_name Weight = codes "weight"
layer_name Book = codes "book"

-- a fault as text: the layer, the number of the refusal and the offset
abbrev pub fault_text : Fault → List ℕ
fault_text f =
    codes "layer "
    ++ (layer_name f.layer ++ (codes ", number " ++ (decimal (told f.refusal).number ++ (codes ", offset " ++ decimal f.offset))))

-- what a fault tells: its layer, what its refusal tells, and its offset
pub record Blame : Type 0 where
  pub layer : Layer
  pub told : Told
  pub offset : ℕ

abbrev pub blame : Fault → Blame
blame f = record { layer = f.layer; told = told f.refusal; offset = f.offset }

-- an answer as a value, or as what its fault tells
abbrev pub faulted : {X : Type 0} → Result X Fault → Result X Blame
faulted (Ok x) = Ok x
faulted (Err f) = Err (blame f)

-- the answer of a reading that ends with a fault or with none
abbrev pub ended : Option Blame → Result (Unit {0}) Blame
ended None = Ok tt
ended (Some b) = Err b

-- the field at an offset is not well formed; it has a code that is not of the kind; the book refused its call
abbrev pub malformed : ℕ → Blame
malformed o = record { layer = File; told = bare 7; offset = o }

abbrev pub uncoded : ℕ → Blame
uncoded o = record { layer = Weight; told = bare 4; offset = o }

abbrev pub unmade : ℕ → Told → Blame
unmade o t = record { layer = Book; told = t; offset = o }
