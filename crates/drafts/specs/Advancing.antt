-- How the reader goes on from one field to the next. Assumes nothing.
use Rattle.std.specs.Prelude.{◌≡◌, ℕ, ◌<◌, ◌≤◌, List, length, drop, Some, Ok, Err, Result, ◌==◌}
use Rattle.weights.specs.Codes.{Codes}
use Rattle.tables.specs.Book.{Contents}
use Rattle.drafts.specs.Draft.{Reading, listed, reading}
use Rattle.drafts.specs.Fault.{blame}
use Rattle.drafts.specs.declared.fault.Fault.{Fault}

-- the reading of a file from offset o on, where a field begins
abbrev pub reading_from : {W : Type 0} → Codes W → List ℕ → ℕ → Contents W → Reading W
reading_from k bs o c = reading c (listed k (o == 0) 0 o (drop o bs))

-- one field is read: the next begins later and goes on with the same reading, or the fault ends it
abbrev pub Advanced : {W : Type 0} → Codes W → List ℕ → ℕ → Contents W → Contents W → Result ℕ Fault → Type 0
Advanced k bs o c d (Ok next) = (o < next) × (next ≤ length bs) × (reading_from k bs o c ≡ reading_from k bs next d)
Advanced k bs o c d (Err f) = reading_from k bs o c ≡ record { after = d; fault = Some (blame f) }
