-- Lines that are numbered from 0, one after another. Assumes nothing.
use Rattle.std.proofs.Common.{◌≡◌, ℕ, zero, suc, ◌+◌, List, [], ◌∷◌, ◌++◌, sym, ap, ◌∙◌, subst, add-zero, zero-add, add-one, arith}
use Rattle.std.specs.List.{range_with_len, flat_map}
use Rattle.std.proofs.lemmas.List.{flat_map_more}
use Rattle.listings.specs.Text.{Put}
use Rattle.listings.proofs.Putting.{put_more}

pub range_more : (a n : ℕ) → range_with_len a (suc n) ≡ range_with_len a n ++ ((a + n) ∷ [])
range_more a zero = ap (λ j. j ∷ []) (sym (add-zero a))
range_more a (suc n) =
    ap (λ xs. a ∷ xs)
    (range_more (a + 1) n ∙ ap (λ j. range_with_len (a + 1) n ++ (j ∷ [])) (let e : a + 1 + n ≡ a + suc n = omega arith in e))

-- one line more is put after n of them
pub put_line_more :
    (f : ℕ → List ℕ) (n : ℕ) {line : List ℕ} {at next last : ℕ} {m0 m1 m2 : List ℕ} → Put (flat_map f (range_with_len 0 n)) at m0 m1 next →
    line ≡ f n → Put line next m1 m2 last → Put (flat_map f (range_with_len 0 (n + 1))) at m0 m2 last
put_line_more f n {line} {at} {next} {last} {m0} {m1} {m2} p e q =
    let lines : List ℕ = flat_map f (range_with_len 0 n) in
    let last_more : range_with_len 0 n ++ (n ∷ []) ≡ range_with_len 0 (n + 1) =
    ap (λ j. range_with_len 0 n ++ (j ∷ [])) (sym (zero-add n)) ∙ sym (range_more 0 n) ∙ ap (range_with_len 0) (sym (add-one n)) in
    let more : lines ++ line ≡ flat_map f (range_with_len 0 (n + 1)) =
    ap (λ xs. lines ++ xs) e ∙ flat_map_more f [] (range_with_len 0 n) n ∙ ap (flat_map f) last_more in
    subst (λ xs. Put xs at m0 m2 last) more (put_more p q)
