-- Text in a memory. Assumes nothing.
use Rattle.std.specs.Prelude.{◌≡◌, ℕ, ◌+◌, ◌≤◌, List, ◌++◌, length, take, drop}

-- text in a memory from place at on, in place of what was there
abbrev pub placed : ℕ → List ℕ → List ℕ → List ℕ
placed at text memory = take at memory ++ (text ++ drop (at + length text) memory)

-- text is put into a memory from place at on: it fits, nothing else changes, and the place after it is next
pub record Put (text : List ℕ) (at : ℕ) (before after : List ℕ) (next : ℕ) : Type 0 where
  pub fits : at + length text ≤ length before
  pub bytes : after ≡ placed at text before
  pub next_place : next ≡ at + length text
