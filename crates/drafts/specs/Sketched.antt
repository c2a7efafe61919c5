-- What a draft file draws, apart from what any memory holds: a sketch, or the fault that ends it. Assumes nothing.
use Rattle.std.specs.Prelude.{ℕ, List, [], ◌∷◌, Some, None, Ok, Err, Option, Result}
use Rattle.weights.specs.Codes.{Codes}
use Rattle.weights.specs.Refusal.{Told}
use Rattle.tables.specs.Sketch.{Lengths, Sketch, blank, refusal_on, drawn_on}
use Rattle.drafts.specs.Draft.{Placed, listing}
use Rattle.drafts.specs.Fault.{Blame, unmade}

-- a file at fault draws nothing
abbrev pub drawn_whole : {W : Type 0} → Option Blame → Sketch W → Result (Sketch W) Blame
drawn_whole None s = Ok s
drawn_whole (Some b) s = Err b

-- what follows is drawn after a call that is taken, and a refusal ends it
abbrev pub drawn_after : {W : Type 0} → Option Told → ℕ → Result (Sketch W) Blame → Result (Sketch W) Blame
drawn_after None o rest = rest
drawn_after (Some t) o rest = Err (unmade o t)

-- the calls are made on the sketch one after another, for memories of those lengths; the fault of the file comes after them
abbrev pub file_sketch : {W : Type 0} → Lengths → Sketch W → List (Placed W) → Option Blame → Result (Sketch W) Blame
file_sketch n s [] f = drawn_whole f s
file_sketch n s (p ∷ ps) f = drawn_after (refusal_on n s p.call) p.offset (file_sketch n (drawn_on s p.call) ps f)

-- what the bytes of a file draw
abbrev pub draft_sketch : {W : Type 0} → Lengths → Codes W → List ℕ → Result (Sketch W) Blame
draft_sketch n k bs = file_sketch n blank (listing k bs).calls (listing k bs).fault
