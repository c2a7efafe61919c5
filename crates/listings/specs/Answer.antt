-- What listing a file answers. Assumes nothing.
use Rattle.std.specs.Prelude.{◌≡◌, ℕ, ◌<◌, ◌≤◌, List, length, Ok, Err, Result}
use Rattle.weights.specs.Refusal.{told, bare}
use Rattle.weights.specs.declared.refusal.Refusal.{Refusal}
use Rattle.drafts.specs.Written.{over}
use Rattle.listings.specs.File.{FileText}

-- a text of which a fact holds lies over the front of a memory, and has n bytes
pub record Lists (Fact : List ℕ → Type 0) (before after : List ℕ) (n : ℕ) : Type 0 where
  pub text : List ℕ
  pub fact : Fact text
  pub bytes : after ≡ over text before
  pub size : n ≡ length text
  pub fits : n ≤ length before

-- the memory has 32768 bytes or more, over its front lies the text of the file, and the file has no other text
pub record Listed (bs before after : List ℕ) (n : ℕ) : Type 0 where
  pub room : 32768 ≤ length before
  pub lists : Lists (FileText bs) before after n
  pub only : (text : List ℕ) → FileText bs text → text ≡ lists.text

-- the memory has fewer, and stays as it was
pub record Refused (before after : List ℕ) (e : Refusal) : Type 0 where
  pub number : told e ≡ bare 6
  pub no_room : length before < 32768
  pub kept : after ≡ before

-- what the call answers for a file and a memory
abbrev pub Answers : List ℕ → List ℕ → List ℕ → Result ℕ Refusal → Type 0
Answers bs before after (Ok n) = Listed bs before after n
Answers bs before after (Err e) = Refused before after e
