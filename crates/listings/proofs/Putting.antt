-- Text put into a memory piece by piece. Assumes nothing.
use Rattle.std.proofs.Common.{◌≡◌, ℕ, ◌+◌, List, ◌++◌, length, take, drop, sym, ap, ◌∙◌, arith, zero-add, append_assoc, length-append, length-drop}
use Rattle.std.proofs.lemmas.List.{drop-drop, take_at, drop_at, length-take-le}
use Rattle.drafts.specs.Written.{over}
use Rattle.listings.specs.Text.{Put}

-- the memory keeps its length
pub length_put : {text : List ℕ} {at : ℕ} {before after : List ℕ} {next : ℕ} → Put text at before after next → length after ≡ length before
length_put {text} {at} {before} {after} {next} p =
    let front : length (take at before) ≡ at = length-take-le at before (omega (arith, p.fits)) in
    ap length p.bytes
    ∙ length-append (take at before) (text ++ drop (at + length text) before)
    ∙ (let e : length (take at before) + length (text ++ drop (at + length text) before) ≡ length before =
    omega (arith, front, p.fits, length-append text (drop (at + length text) before), length-drop (at + length text) before) in e)

-- a text is put, and then one more after it
pub put_more :
    {xs ys : List ℕ} {at next last : ℕ} {m0 m1 m2 : List ℕ} → Put xs at m0 m1 next → Put ys next m1 m2 last →
    Put (xs ++ ys) at m0 m2 last
put_more {xs} {ys} {at} {next} {last} {m0} {m1} {m2} p q =
    let both : length (xs ++ ys) ≡ length xs + length ys = length-append xs ys in
    let front : length (take at m0) ≡ at = length-take-le at m0 (omega (arith, p.fits)) in
    let size : length (take at m0 ++ xs) ≡ next = omega (arith, front, p.next_place, length-append (take at m0) xs) in
    let rest : List ℕ = drop (at + length xs) m0 in
    let is : m1 ≡ (take at m0 ++ xs) ++ rest = p.bytes ∙ sym (append_assoc (take at m0) xs rest) in
    let taken : take next m1 ≡ take at m0 ++ xs = ap (take next) is ∙ take_at (take at m0 ++ xs) rest next size in
    let left : drop (next + length ys) m1 ≡ drop (at + length (xs ++ ys)) m0 =
    sym (drop-drop (length ys) next m1)
    ∙ ap (drop (length ys)) (ap (drop next) is ∙ drop_at (take at m0 ++ xs) rest next size)
    ∙ drop-drop (length ys) (at + length xs) m0
    ∙ ap (λ n. drop n m0) (let e : at + length xs + length ys ≡ at + length (xs ++ ys) = omega (arith, both) in e) in
    let after : List ℕ = drop (at + length (xs ++ ys)) m0 in
    record {
      fits = omega (arith, both, p.next_place, q.fits, length_put p);
      bytes =
          q.bytes
          ∙ ap (λ zs. zs ++ (ys ++ drop (next + length ys) m1)) taken
          ∙ ap (λ zs. (take at m0 ++ xs) ++ (ys ++ zs)) left
          ∙ append_assoc (take at m0) xs (ys ++ after)
          ∙ ap (λ zs. take at m0 ++ zs) (sym (append_assoc xs ys after));
      next_place = omega (arith, both, p.next_place, q.next_place);
    }

-- what is put at the front is over the memory
pub put_over : {text before after : List ℕ} {next : ℕ} → Put text 0 before after next → after ≡ over text before
put_over {text} {before} p = p.bytes ∙ ap (λ n. text ++ drop n before) (zero-add (length text))
