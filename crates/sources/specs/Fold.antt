-- A fold of a source over a list of its letters: letter a acts as the one at place a. Assumes nothing.
use Rattle.std.specs.Prelude.{◌≡◌, ℕ, ◌<◌, cond, List, map, length, Option, nat_lt, slice_index}
use Rattle.std.proofs.Common.{arith}
use Rattle.std.proofs.lemmas.Bool.{cond_both, ltb-true}
use Rattle.weights.specs.Group.{Group}
use Rattle.weights.specs.Refusal.{Told, unless}
use Rattle.tables.specs.Table.{Table, Lawful, Word, weight_of, word_verdict, is_letter_count, letters_read}
use Rattle.sources.specs.LetterMap.{letter_at, letters_of}
use Rattle.sources.specs.declared.fold.Fold.{Fold}
use Rattle.sources.specs.declared.letters.LetterMap.{LetterMap}

-- the refusal that folding a source of s letters over a list meets, if any: the first of the list that is no letter of the
-- source is told by its place
abbrev pub fold_verdict : ℕ → List ℕ → Option Told
fold_verdict s xs = unless (is_letter_count (length xs)) 1 (word_verdict s xs)

-- the letters of a fold, 1 to 64, whatever it holds
abbrev pub fold_letters : {S : Type 0} → Fold S → ℕ
fold_letters f = letters_read f.letters

-- the letter, of s letters, that letter a acts as: 0 where the map has none of them
abbrev pub acts_as : LetterMap → ℕ → ℕ → ℕ
acts_as m s a = cond (nat_lt (letter_at m a) s) (letter_at m a) 0

-- the table of a fold over a source whose table is t
abbrev pub fold_table : {S M : Type 0} → Table M → Fold S → Table M
fold_table t f =
    record {
      states = t.states;
      letters = fold_letters f;
      start = t.start;
      start_weight = t.start_weight;
      final = t.final;
      target = λ q a. t.target q (acts_as f.map t.letters a);
      weight = λ q a. t.weight q (acts_as f.map t.letters a);
    }

-- and that is one of them
pub acts_inside : (m : LetterMap) (s a : ℕ) → 0 < s → acts_as m s a < s
acts_inside m s a some =
    cond_both (nat_lt (letter_at m a) s) (letter_at m a) 0 (λ b. b < s) (λ e. ltb-true (letter_at m a) s e) (λ _. some)

pub fold_lawful : {S M : Type 0} (t : Table M) (f : Fold S) → Lawful t → Lawful (fold_table t f)
fold_lawful t f l =
    record {
      some_state = l.some_state;
      few_states = l.few_states;
      some_letter = omega arith;
      few_letters = omega arith;
      start_inside = l.start_inside;
      target_inside =
          λ q a inside _.
          l.target_inside q (acts_as f.map t.letters a) inside (acts_inside f.map t.letters a l.some_letter);
    }

-- what a fold is made of: the source, and the letters that its own act as
pub record Folding (S : Type 0) : Type 0 where
  pub source : S
  pub letters : List ℕ

abbrev pub folding : {S : Type 0} → Fold S → Folding S
folding f = record { source = f.source; letters = letters_of f.map (fold_letters f) }

-- a table u weighs each word as t weighs its image, the word of the letters that those of the word act as
pub record WeighsAsImage (G : Group) (xs : List ℕ) (t u : Table G.Mean) : Type 0 where
  pub letters : u.letters ≡ length xs
  pub words : (w : List ℕ) → Word (length xs) w → weight_of G u w ≡ weight_of G t (map (λ a. slice_index xs a) w)
