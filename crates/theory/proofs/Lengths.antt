-- Finitely many words are those below some length, since an alphabet is finite. Assumes nothing.
use Rattle.std.proofs.Common.{◌≡◌, ℕ, zero, suc, ◌+◌, ◌<◌, ◌≤◌, List, [], ◌∷◌, ◌++◌, length, map, get_or, inl, inr, refl, ap, ◌∙◌, sym, subst, arith}
use Rattle.std.specs.Prelude.{Contains}
use Rattle.std.proofs.lemmas.Bool.{cases_eq, cases_lt}
use Rattle.std.proofs.lemmas.List.{get_or-map, length-map}
use Rattle.std.proofs.lemmas.List.Elements.{Contains-append_left, Contains-append_right}
use Rattle.tables.specs.Table.{Word}
use Rattle.theory.specs.Finitely.{FinitelyMany, InfinitelyMany, AllButFinitelyMany}
use Rattle.theory.specs.Theorems.{LengthsTell}

-- each word of a list, after each letter below s
after_letters : ℕ → List (List ℕ) → List (List ℕ)
after_letters zero ws = []
after_letters (suc a) ws = map (λ w. a ∷ w) ws ++ after_letters a ws

-- all words over s letters that are shorter than n
shorter_words : ℕ → ℕ → List (List ℕ)
shorter_words s zero = []
shorter_words s (suc n) = [] ∷ after_letters s (shorter_words s n)

-- a length that no word of a list exceeds
bound : List (List ℕ) → ℕ
bound [] = 0
bound (w ∷ ws) = length w + bound ws

after_letter : (a : ℕ) (ws : List (List ℕ)) (w : List ℕ) → Contains ws w → Contains (map (λ v. a ∷ v) ws) (a ∷ w)
after_letter a ws w h = (
  h.0,
  subst (λ n. h.0 < n) (sym (length-map ws (λ v. a ∷ v))) h.1,
  get_or-map (λ v. a ∷ v) ws h.0 w (a ∷ w) h.1 ∙ ap (λ v. a ∷ v) h.2,
)

after_letters_there :
    (s a : ℕ) (ws : List (List ℕ)) (w : List ℕ) → a < s → Contains ws w → Contains (after_letters s ws) (a ∷ w)
unfolding after_letters
after_letters_there zero a ws w l h = absurd (omega arith)
after_letters_there (suc s) a ws w l h =
    let first = map (λ v. s ∷ v) ws in
    elim (cases_eq a s) [
      | inl last ↦
          Contains-append_left first (after_letters s ws) (a ∷ w)
          (subst (λ b. Contains first (b ∷ w)) (sym last) (after_letter s ws w h))
      | inr other ↦
          Contains-append_right first (after_letters s ws) (a ∷ w) (after_letters_there s a ws w (omega arith) h)
    ]

shorter_words_there : (s n : ℕ) (w : List ℕ) → Word s w → length w < n → Contains (shorter_words s n) w
unfolding shorter_words
shorter_words_there s zero w h l = absurd (omega arith)
shorter_words_there s (suc n) [] h l = (0, omega arith, refl)
shorter_words_there s (suc n) (a ∷ w) h l =
    let rest = after_letters_there s a (shorter_words s n) w h.0 (shorter_words_there s n w h.1 (omega arith)) in
    let inside : rest.0 < length (after_letters s (shorter_words s n)) = rest.1 in
    (suc rest.0, omega arith, rest.2)

bounded : (ws : List (List ℕ)) (w : List ℕ) (k : ℕ) → k < length ws → get_or ws k w ≡ w → length w ≤ bound ws
unfolding bound
bounded [] w k l e = absurd (omega arith)
bounded (v ∷ ws) w zero l e = let same : length v ≡ length w = ap length e in omega arith
bounded (v ∷ ws) w (suc k) l e = omega (arith, bounded ws w k (omega arith) e)

-- so a word that is longer is not in the list
not_there : (ws : List (List ℕ)) (w : List ℕ) → suc (bound ws) ≤ length w → Contains ws w → ⊥
not_there ws w long h = omega (arith, bounded ws w h.0 h.1 h.2)

module _ {s : ℕ} {P : List ℕ → Type 0} where
  -- all words with the property are shorter than some length
  pub all_shorter : FinitelyMany s P → (n : ℕ) × ((w : List ℕ) → Word s w → P w → length w < n)
  all_shorter few = (
    suc (bound few.list),
    λ w h p.
        let there = few.listed w h p in
        omega (arith, bounded few.list w there.0 there.1 there.2),
  )

  pub finitely_many : (n : ℕ) → ((w : List ℕ) → Word s w → P w → length w < n) → FinitelyMany s P
  finitely_many n short =
      record { list = shorter_words s n; listed = λ w h p. shorter_words_there s n w h (short w h p) }

  -- there is a word with the property of each length or more
  pub some_longer : InfinitelyMany s P → (n : ℕ) → (w : List ℕ) × Word s w × (n ≤ length w) × P w
  some_longer many n =
      let w = many.beyond (shorter_words s n) in (
        w.0,
        w.1,
        elim (cases_lt (length w.0) n) [
          | inl short ↦ absurd (w.2 (shorter_words_there s n w.0 w.1 short))
          | inr long ↦ long
        ],
        w.3,
      )

  pub infinitely_many : ((n : ℕ) → (w : List ℕ) × Word s w × (n ≤ length w) × P w) → InfinitelyMany s P
  infinitely_many long =
      record {
        beyond = λ ws. let w = long (suc (bound ws)) in (w.0, w.1, not_there ws w.0 w.2, w.3);
      }

  -- all words from some length on have the property
  pub all_longer : AllButFinitelyMany s P → (n : ℕ) × ((w : List ℕ) → Word s w → n ≤ length w → P w)
  all_longer most =
      (suc (bound most.exceptions), λ w h long. most.others w h (not_there most.exceptions w long))

  pub all_but_finitely_many : (n : ℕ) → ((w : List ℕ) → Word s w → n ≤ length w → P w) → AllButFinitelyMany s P
  all_but_finitely_many n long =
      record {
        exceptions = shorter_words s n;
        others =
            λ w h other.
            elim (cases_lt (length w) n) [
              | inl short ↦ absurd (other (shorter_words_there s n w h short))
              | inr more ↦ long w h more
            ];
      }

pub lengths_tell : (P : List ℕ → Type 0) → LengthsTell P
lengths_tell P s =
    record {
      finitely = (all_shorter, λ x. finitely_many x.0 x.1);
      infinitely = (some_longer, infinitely_many);
      all_but = (all_longer, λ x. all_but_finitely_many x.0 x.1);
    }

-- no property is that of infinitely many words and of finitely many
pub not_both : {s : ℕ} {P : List ℕ → Type 0} → InfinitelyMany s P → FinitelyMany s P → ⊥
not_both many few = let w = many.beyond few.list in w.2 (few.listed w.0 w.1 w.3)

-- a property that implies another one, perhaps of words over other letters
module _ {s r : ℕ} {P Q : List ℕ → Type 0} where
  pub finitely_fewer : ((w : List ℕ) → Word r w → Q w → Word s w × P w) → FinitelyMany s P → FinitelyMany r Q
  finitely_fewer there few =
      record {
        list = few.list;
        listed = λ w h q. let x = there w h q in few.listed w x.0 x.1;
      }

  pub infinitely_more : ((w : List ℕ) → Word s w → P w → Word r w × Q w) → InfinitelyMany s P → InfinitelyMany r Q
  infinitely_more there many =
      record {
        beyond = λ ws. let w = many.beyond ws in let x = there w.0 w.1 w.3 in (w.0, x.0, w.2, x.1);
      }

  pub all_but_fewer : ((w : List ℕ) → Word r w → Word s w × (P w → Q w)) → AllButFinitelyMany s P → AllButFinitelyMany r Q
  all_but_fewer there most =
      record {
        exceptions = most.exceptions;
        others = λ w h other. let x = there w h in x.1 (most.others w x.0 other);
      }
