-- Up to 64 letters, a byte each, in eight numbers of eight bytes. Assumes nothing.
use Rattle.std.specs.Prelude.{ℕ, ◌*◌, ◌/◌, ◌%◌, ◌^◌, cond, List, map, ◌==◌}
use Rattle.std.specs.List.{range_with_len}
use Rattle.sources.specs.declared.letters.LetterMap.{LetterMap}

-- byte k of a number, the lowest first
abbrev pub byte_of : ℕ → ℕ → ℕ
byte_of n k = n / 2 ^ (8 * k) % 256

-- the number that holds places 8 j to 8 j + 7
abbrev pub eight : LetterMap → ℕ → ℕ
eight m j =
    cond (j == 0) m.places_0
    (cond (j == 1) m.places_8
    (cond (j == 2) m.places_16
    (cond (j == 3) m.places_24
    (cond (j == 4) m.places_32
    (cond (j == 5) m.places_40
    (cond (j == 6) m.places_48 m.places_56))))))

-- the letter at place k
abbrev pub letter_at : LetterMap → ℕ → ℕ
letter_at m k = byte_of (eight m (k / 8)) (k % 8)

-- the first n letters
abbrev pub letters_of : LetterMap → ℕ → List ℕ
letters_of m n = map (letter_at m) (range_with_len 0 n)
