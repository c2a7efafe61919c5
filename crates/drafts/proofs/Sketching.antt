-- Reading a file into a book draws what the file draws. Assumes nothing.
use Rattle.std.proofs.Common.{◌≡◌, ℕ, List, [], ◌∷◌, length, Some, None, Ok, Err, Option, Result, refl, subst, sym}
use Rattle.weights.specs.Codes.{Codes}
use Rattle.weights.specs.Group.{Kind}
use Rattle.weights.specs.Refusal.{Told}
use Rattle.tables.specs.Book.{Contents, opened, refusal_in, taken}
use Rattle.tables.specs.Sheet.{sheet_table}
use Rattle.tables.specs.Sketch.{Lengths, Sketch, blank, drawn_on, sketch_table}
use Rattle.tables.proofs.InStep.{InStep}
use Rattle.tables.proofs.Steps.{opened_in_step, same_table, same_refusal, taken_in_step}
use Rattle.drafts.specs.Draft.{Placed, Reading, carried, listing, made_on, reading}
use Rattle.drafts.specs.Fault.{Blame}
use Rattle.drafts.specs.Sketched.{drawn_whole, drawn_after, file_sketch, draft_sketch}

-- a reading ends with the fault, or with none and a book in step with the sketch
abbrev pub Draws : {W : Type 0} → Lengths → Result (Sketch W) Blame → Reading W → Type 0
Draws n (Ok s) r = (r.fault ≡ None) × InStep n s r.after
Draws n (Err b) r = r.fault ≡ Some b

-- the same, with the table of the book's sheet
abbrev pub DrawsTable : {W : Type 0} → Kind W → Result (Sketch W) Blame → Reading W → Type 0
DrawsTable K (Ok s) r = (r.fault ≡ None) × (sheet_table K r.after ≡ sketch_table K s)
DrawsTable K (Err b) r = r.fault ≡ Some b

module _ {W : Type 0} (n : Lengths) where
  ended : (s : Sketch W) (c : Contents W) (f : Option Blame) → InStep n s c → Draws n (drawn_whole f s) (record { after = c; fault = f })
  ended s c None h = (refl, h)
  ended s c (Some b) h = refl

  went_on :
      (v : Option Told) (o : ℕ) (c : Contents W) (d : Result (Sketch W) Blame) (rest : Reading W) → (v ≡ None → Draws n d rest) →
      Draws n (drawn_after v o d) (carried v o c rest)
  went_on None o c d rest h = h refl
  went_on (Some t) o c d rest h = refl

  -- a book that is in step with a sketch is read into as is drawn on the sketch
  pub made_as_drawn :
      (s : Sketch W) (c : Contents W) (ps : List (Placed W)) (f : Option Blame) → InStep n s c →
      Draws n (file_sketch n s ps f) (made_on c ps f)
  made_as_drawn s c [] f h = ended s c f h
  made_as_drawn s c (p ∷ ps) f h =
      let rest = file_sketch n (drawn_on s p.call) ps f in
      let read = made_on (taken c p.call) ps f in
      subst (λ v. Draws n (drawn_after v p.offset rest) (carried (refusal_in c p.call) p.offset c read))
      (same_refusal n s c p.call h)
      (went_on (refusal_in c p.call) p.offset c rest read
      (λ e. made_as_drawn (drawn_on s p.call) (taken c p.call) ps f (taken_in_step n s c p.call h e)))

-- a file is read into a new book over three memories as it is drawn for memories of their lengths
pub read_as_sketched :
    {W : Type 0} (k : Codes W) (ts : List ℕ) (ws : List W) (ms bs : List ℕ) (n : Lengths) →
    n ≡ record { targets = length ts; weights = length ws; marks = length ms } →
    Draws n (draft_sketch n k bs) (reading (opened ts ws ms) (listing k bs))
read_as_sketched k ts ws ms bs n e =
    subst (λ m. Draws m (draft_sketch m k bs) (reading (opened ts ws ms) (listing k bs))) (sym e)
    (made_as_drawn (record { targets = length ts; weights = length ws; marks = length ms }) blank (opened ts ws ms) (listing k bs).calls
    (listing k bs).fault (opened_in_step ts ws ms))

same_tables : {W : Type 0} (K : Kind W) (n : Lengths) (d : Result (Sketch W) Blame) (r : Reading W) → Draws n d r → DrawsTable K d r
same_tables K n (Ok s) r h = (h.0, same_table K n s r.after h.1)
same_tables K n (Err b) r h = h

-- and the closed book means the table of the sketch
pub read_as_table :
    {W : Type 0} (K : Kind W) (k : Codes W) (ts : List ℕ) (ws : List W) (ms bs : List ℕ) (n : Lengths) →
    n ≡ record { targets = length ts; weights = length ws; marks = length ms } →
    DrawsTable K (draft_sketch n k bs) (reading (opened ts ws ms) (listing k bs))
read_as_table K k ts ws ms bs n e =
    same_tables K n (draft_sketch n k bs) (reading (opened ts ws ms) (listing k bs)) (read_as_sketched k ts ws ms bs n e)
