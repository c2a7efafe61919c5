-- What a fold weighs a word as. Assumes nothing.
use Rattle.std.proofs.Common.{◌≡◌, ℕ, zero, suc, ◌<◌, List, [], ◌∷◌, map, length, get_or, None, Ok, sym, refl, ap, ◌∙◌, arith}
use Rattle.std.proofs.lemmas.List.FromFn.{fill_by_all}
use Rattle.std.proofs.lemmas.Bool.Decides.{nat_tests}
use Rattle.weights.specs.Group.{Group}
use Rattle.weights.specs.Refusal.{judged}
use Rattle.tables.specs.Table.{Table, Word, scaled, weight_from, no_letter_from}
use Rattle.tables.proofs.Reading.{first_letter}
use Rattle.sources.specs.Fold.{fold_verdict, fold_letters, acts_as, fold_table, folding, WeighsAsImage}
use Rattle.sources.specs.LetterMap.{letter_at, letters_of}
use Rattle.sources.specs.declared.fold.Fold.{Fold}
use Rattle.sources.specs.declared.letters.LetterMap.{LetterMap}

-- where no place is told, each holds a letter
all_letters : (s i : ℕ) (xs : List ℕ) → no_letter_from s i xs ≡ None → (a : ℕ) → a < length xs → get_or xs a 0 < s
all_letters s i [] e a l = absurd (omega arith)
all_letters s i (x ∷ xs) e zero l = (first_letter s i x xs e).0
all_letters s i (x ∷ xs) e (suc a) l = all_letters s (suc i) xs (first_letter s i x xs e).1 a (omega arith)

-- a map holds a list of letters
abbrev pub Maps : LetterMap → List ℕ → Type 0
Maps m xs = (k : ℕ) → k < 64 → letter_at m k ≡ get_or xs k 0

-- the fold that is made of a source whose table is t, where the checks pass and the map holds the list
module _ {S : Type 0} (G : Group) (t : Table G.Mean) (x : S) (m : LetterMap) (xs : List ℕ)
    (maps : Maps m xs) (none : fold_verdict t.letters xs ≡ None) where
  abbrev made : Fold S
  made = record { source = x; map = m; letters = length xs }

  counted : fold_letters made ≡ length xs
  counted = grind (arith, nat_tests)

  pub folded : Ok (folding made) ≡ judged (fold_verdict t.letters xs) (record { source = x; letters = xs })
  folded =
      ap (λ ys. Ok (record { source = x; letters = ys }))
      (ap (letters_of m) counted
      ∙ sym (fill_by_all (letter_at m) xs (length xs) 0 refl (λ k l. sym (maps k (grind (arith, nat_tests))))))
      ∙ ap (λ v. judged v (record { source = x; letters = xs })) (sym none)

  acts : (a : ℕ) → a < length xs → acts_as m t.letters a ≡ get_or xs a 0
  acts a l =
      let inside = all_letters t.letters 0 xs (grind (arith, nat_tests)) a l in
      let is = maps a (grind (arith, nat_tests)) in
      grind (arith, nat_tests)

  from_state :
      (q : ℕ) (w : List ℕ) → Word (length xs) w →
      weight_from G (fold_table t made) q w ≡ weight_from G t q (map (λ a. get_or xs a 0) w)
  from_state q [] _ = refl
  from_state q (a ∷ w) l =
      ap (λ b. scaled G (t.weight q b) (weight_from G (fold_table t made) (t.target q b) w)) (acts a l.0)
      ∙ ap (scaled G (t.weight q (get_or xs a 0))) (from_state (t.target q (get_or xs a 0)) w l.1)

  pub fold_weighs : WeighsAsImage G xs t (fold_table t made)
  fold_weighs = record { letters = counted; words = λ w l. ap (scaled G t.start_weight) (from_state t.start w l) }
