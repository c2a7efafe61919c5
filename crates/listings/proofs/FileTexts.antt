-- The text of a file, from what reading and compiling it leave. Assumes nothing.
use Rattle.std.proofs.Common.{◌≡◌, ℕ, zero, suc, ◌+◌, ◌*◌, ◌<◌, ◌≤◌, Bool, true, List, length, Some, None, Ok, Err, Option, Result, slice_index, sym, refl, ap, ◌∙◌, subst, zero-add, add-one, arith}
use Rattle.std.proofs.Math.Nat.{suc-mul}
use Rattle.weights.specs.Codes.{Codes}
use Rattle.weights.specs.Group.{Kind}
use Rattle.weights.specs.Refusal.{told}
use Rattle.weights.specs.declared.refusal.Refusal.{Refusal}
use Rattle.tables.specs.Book.{Contents, opened}
use Rattle.tables.specs.Sheet.{drawn, width, mean_at, sheet_table}
use Rattle.tables.specs.Sketch.{Lengths, Sketch}
use Rattle.tables.specs.Table.{Table}
use Rattle.tables.proofs.InStep.{InStep}
use Rattle.tables.proofs.Steps.{same_table}
use Rattle.drafts.specs.Draft.{Reading, listing, reading}
use Rattle.drafts.specs.Fault.{Blame, blame, faulted, ended}
use Rattle.drafts.specs.Sketched.{draft_sketch}
use Rattle.drafts.specs.declared.fault.Fault.{Fault}
use Rattle.drafts.proofs.Sketching.{Draws, read_as_sketched}
use Rattle.theory.specs.Hyper.{count_below}
use Rattle.minimize.specs.Compile.{Tells, least_in, hyper_in, Compiled, Finished, Outcome}
use Rattle.minimize.specs.Memories.{Memories}
use Rattle.minimize.specs.Rows.{rows_table}
use Rattle.minimize.specs.declared.compiler.Report.{Report}
use Rattle.listings.specs.Answer.{Lists}
use Rattle.listings.specs.File.{refused_text, book_lengths, HyperText, SketchText, KindText}
use Rattle.listings.specs.Listing.{listing_text}
use Rattle.listings.specs.Places.{BookPlaces}
use Rattle.listings.specs.Text.{Put}
use Rattle.listings.proofs.Putting.{put_over}

-- a text that is put at the front is listed
pub put_lists :
    (F : List ℕ → Type 0) (text before after : List ℕ) (n : ℕ) → F text → Put text 0 before after n → Lists F before after n
put_lists F text before after n fact p =
    record {
      text = text;
      fact = fact;
      bytes = put_over p;
      size = p.next_place ∙ zero-add (length text);
      fits = omega (arith, p.fits, p.next_place);
    }

pub lists_as :
    (F G : List ℕ → Type 0) (before after : List ℕ) (n : ℕ) → ((text : List ℕ) → F text → G text) → Lists F before after n →
    Lists G before after n
lists_as F G before after n f l = record { text = l.text; fact = f l.text l.fact; bytes = l.bytes; size = l.size; fits = l.fits }

pub tells_true : (b : Bool) (X Y : Type 0) → b ≡ true → X → Tells b X Y
tells_true b X Y e x = subst (λ c. Tells c X Y) (sym e) x

-- compiling that answers a report finished
pub finished :
    {W : Type 0} (K : Kind W) (t : Table K.group.Mean) (before after : Memories W) (answer : Result Report Refusal) (r : Report) →
    Outcome K t before after answer → answer ≡ Ok r → Finished K t before after r
finished K t before after answer r h e = subst (Outcome K t before after) e h

-- what compiling leaves is listed
pub compiled_text :
    {W : Type 0} (K : Kind W) (k : Codes W) (t : Table K.group.Mean) (m : Memories W) (r : Report) (text : List ℕ) → Compiled K t m r →
    text ≡ listing_text K k (rows_table K (hyper_in t.letters m r)) r.least r.hyper r.kernel r.agreement → HyperText K k t text
compiled_text K k t m r text c e =
    let h = rows_table K (hyper_in t.letters m r) in
    record {
      least = rows_table K (least_in t.letters m r);
      is_least = c.least;
      hyper = h;
      representative = slice_index m.representatives;
      factor = mean_at K m.factors;
      is_hyper = c.hyper;
      kernel = c.kernel;
      is_kernel = c.is_kernel;
      is_text =
          e
          ∙ ap (λ n. listing_text K k h r.least r.hyper n r.agreement) c.kernel_count
          ∙ ap (listing_text K k h r.least r.hyper (count_below c.kernel r.least)) c.agreement;
    }

-- how a reading ended
met_fault : (o : Option Blame) (b : Blame) → ended o ≡ Err b → o ≡ Some b
met_fault None b e = absurd (cc)
met_fault (Some a) b e = cc

met_none : (o : Option Blame) (u : Unit {0}) → ended o ≡ Ok u → o ≡ None
met_none None u e = refl
met_none (Some a) u e = absurd (cc)

module _ {W : Type 0} (n : Lengths) where
  drew_fault : (d : Result (Sketch W) Blame) (r : Reading W) (b : Blame) → Draws n d r → r.fault ≡ Some b → d ≡ Err b
  drew_fault (Ok s) r b h e = absurd (cc (h.0))
  drew_fault (Err a) r b h e = cc

  drew_sketch :
      (d : Result (Sketch W) Blame) (r : Reading W) → Draws n d r → r.fault ≡ None → (s : Sketch W) × (d ≡ Ok s) × InStep n s r.after
  drew_sketch (Ok s) r h e = (s, refl, h.1)
  drew_sketch (Err a) r h e = absurd (cc)

-- one row more than that of the states; there is none where there is no state
one_row_more : (n s : ℕ) → s ≤ 64 → (0 < n → 1 + n * s ≤ 1017) → (n + 1) * s ≤ 1080
one_row_more zero s few room = omega arith
one_row_more (suc n) s few room =
    let rows : (suc n + 1) * s ≡ suc n * s + s = ap (λ m. m * s) (add-one (suc n)) ∙ suc-mul (suc n) s in
    omega (arith, room (omega arith), rows)

-- the book of a file has room for its off state
pub closed_fits :
    {W : Type 0} (s : Sketch W) (c : Contents W) → InStep book_lengths s c → (drawn c + 1 ≤ 128) × ((drawn c + 1) * width c ≤ 1080)
closed_fits s c h =
    let letters : width c ≡ c.letters = omega (arith, h.some_letter, h.few_letters) in
    let states : drawn c ≡ c.count = omega (arith, h.few_states) in
    let marks : length c.marks ≡ 127 = h.marks in
    let targets : length c.targets ≡ 1017 = h.targets in (
      omega (arith, h.mark_room),
      subst (λ n. (n + 1) * width c ≤ 1080) (sym states)
          (subst (λ m. (c.count + 1) * m ≤ 1080) (sym letters)
          (one_row_more c.count c.letters h.few_letters (λ some. subst (λ n. 1 + c.count * c.letters ≤ n) targets (h.target_room some)))),
    )

module _ {W : Type 0} (K : Kind W) (k : Codes W) (bs ts : List ℕ) (ws : List W) (ms : List ℕ) (places : BookPlaces ts ws ms) where
  pub read : Draws book_lengths (draft_sketch book_lengths k bs) (reading (opened ts ws ms) (listing k bs))
  read =
      read_as_sketched k ts ws ms bs book_lengths
      (λ i.
      record { targets = sym places.targets_length i; weights = sym places.weights_length i; marks = sym places.marks_length i })

  module _ (b : Contents W) (r : Result (Unit {0}) Fault) (new : b ≡ opened ts ws ms)
      (answer : faulted r ≡ ended (reading b (listing k bs)).fault) where
    same : ended (reading (opened ts ws ms) (listing k bs)).fault ≡ faulted r
    same = ap (λ c. ended (reading c (listing k bs)).fault) (sym new) ∙ sym answer

    -- a file at fault is refused
    pub fault_listed : (f : Fault) → r ≡ Err f → KindText K k bs (refused_text (told f.refusal).number f.offset)
    fault_listed f e =
        let met = met_fault (reading (opened ts ws ms) (listing k bs)).fault (blame f) (same ∙ ap faulted e) in
        let drew = drew_fault book_lengths (draft_sketch book_lengths k bs) (reading (opened ts ws ms) (listing k bs)) (blame f) read met in
        subst (λ d. SketchText K k d (refused_text (told f.refusal).number f.offset)) (sym drew) refl

    -- the closed book of any other is in step with the sketch of the file
    pub closed_in_step :
        (c : Contents W) (u : Unit {0}) → r ≡ Ok u → c ≡ (reading b (listing k bs)).after →
        (s : Sketch W) × (draft_sketch book_lengths k bs ≡ Ok s) × InStep book_lengths s c
    closed_in_step c u e after =
        let met = met_none (reading (opened ts ws ms) (listing k bs)).fault u (same ∙ ap faulted e) in
        let drew = drew_sketch book_lengths (draft_sketch book_lengths k bs) (reading (opened ts ws ms) (listing k bs)) read met in
        let held : c ≡ (reading (opened ts ws ms) (listing k bs)).after = after ∙ ap (λ c. (reading c (listing k bs)).after) new in
        (drew.0, drew.1, subst (InStep book_lengths drew.0) (sym held) drew.2)

    -- and the text of its table is that of the file
    pub closed_text :
        (c : Contents W) (u : Unit {0}) → r ≡ Ok u → c ≡ (reading b (listing k bs)).after → (text : List ℕ) →
        HyperText K k (sheet_table K c) text → KindText K k bs text
    closed_text c u e after text h =
        let step = closed_in_step c u e after in
        subst (λ d. SketchText K k d text) (sym step.1)
        (subst (λ t. HyperText K k t text) (same_table K book_lengths step.0 c step.2) h)
