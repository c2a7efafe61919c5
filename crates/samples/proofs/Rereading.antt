-- A draft file that was written, and what is read of its bytes. Assumes nothing.
use Rattle.std.proofs.Common.{◌≡◌, ℕ, List, length, take, drop, Some, None, Ok, Err, Option, Result, sym, refl, ap, ◌∙◌, subst, arith}
use Rattle.std.specs.Result.{result_ok}
use Rattle.std.proofs.lemmas.List.{take_at}
use Rattle.weights.specs.Codes.{Codes}
use Rattle.weights.specs.Group.{Kind}
use Rattle.weights.proofs.Judging.{taken_none}
use Rattle.tables.specs.Book.{Contents, opened}
use Rattle.tables.specs.Call.{if_taken}
use Rattle.tables.specs.Sheet.{sheet_table}
use Rattle.tables.specs.Table.{Table, WeighAlike}
use Rattle.drafts.specs.Draft.{Reading, listing, reading}
use Rattle.drafts.specs.Fault.{Blame, ended}
use Rattle.drafts.specs.Written.{over, draft_size, draft_bytes, write_verdict, DraftWritten}

no_fault : (f : Option Blame) (u : Unit {0}) → Ok u ≡ ended f → f ≡ None
no_fault None u e = refl
no_fault (Some b) u e = absurd (let z : ◌≡◌ {A = ℕ} 0 1 = cc in omega arith)

-- an answer whose value is there is that value
pub ok_some : {X E : Type 0} (r : Result X E) (x : X) → result_ok r ≡ Some x → r ≡ Ok x
ok_some (Ok y) x e = cc
ok_some (Err f) x e = absurd (let z : ◌≡◌ {A = ℕ} 0 1 = cc in omega arith)

module _ {W : Type 0} (K : Kind W) (k : Codes W) (t : Table K.group.Mean) (before after : List ℕ) (n m : ℕ)
    (h : DraftWritten K k t before after (Ok n)) (whole : m ≡ n) where
  -- so many bytes of the memory are the file
  file : take m after ≡ draft_bytes K k t
  file =
      let taken = taken_none (write_verdict t (length before)) (draft_size t) n (sym h.answer) in
      let holds : after ≡ over (draft_bytes K k t) before =
      h.bytes ∙ ap (λ v. if_taken v (over (draft_bytes K k t) before) before) taken.0 in
      ap (λ j. take j after) whole
      ∙ ap (take n) holds
      ∙ take_at (draft_bytes K k t) (drop (length (draft_bytes K k t)) before) n (h.size ∙ sym taken.1)

  -- read unrefused into a new book, they are drawn as the table
  pub reread :
      (ts : List ℕ) (ws : List W) (ms : List ℕ) (book : Contents W) → book ≡ opened ts ws ms → (u : Unit {0}) →
      Ok u ≡ ended (reading book (listing k (take m after))).fault →
      WeighAlike K.group (sheet_table K (reading book (listing k (take m after))).after) t
  reread ts ws ms book new u answer =
      let read : List ℕ → Contents W → Reading W = λ bs c. reading c (listing k bs) in
      let same : read (take m after) book ≡ read (draft_bytes K k t) (opened ts ws ms) =
      ap (λ bs. read bs book) file ∙ ap (read (draft_bytes K k t)) new in
      subst (λ r. WeighAlike K.group (sheet_table K r.after) t) (sym same)
      ((h.again ts ws ms).alike (no_fault _ u (answer ∙ ap (λ r. ended r.fault) same)))
