-- A file has one text. Assumes nothing.
use Rattle.std.proofs.Common.{◌≡◌, ℕ, zero, suc, ◌*◌, ◌/◌, ◌%◌, ◌<◌, Bool, true, false, ltb, List, [], ◌∷◌, ◌++◌, length, replicate, Ok, Err, Result, slice_get, sym, refl, ap, ◌∙◌, subst, zero-add, arith}
use Rattle.std.specs.List.{range_with_len, flat_map}
use Rattle.std.proofs.lemmas.List.{flat_map_more, length-replicate}
use Rattle.std.proofs.lemmas.Nat.{div_below, mod_below}
use Rattle.weights.specs.Check.{check_kind}
use Rattle.weights.specs.Codes.{Codes, code_for, plain_codes, check_codes, wheel_codes, beam_wheel_codes}
use Rattle.weights.specs.Group.{Group, Kind}
use Rattle.weights.specs.Plain.{plain_kind}
use Rattle.weights.specs.Wheel.{wheel_kind, beam_wheel_kind}
use Rattle.tables.specs.Book.{opened}
use Rattle.tables.specs.Sheet.{sheet_lawful}
use Rattle.tables.specs.Sketch.{Sketch, sketch_table}
use Rattle.tables.specs.Table.{Table, Lawful}
use Rattle.tables.proofs.Steps.{same_table}
use Rattle.drafts.specs.Draft.{listing, reading}
use Rattle.drafts.specs.Fault.{Blame}
use Rattle.drafts.specs.FileKind.{kind_of}
use Rattle.drafts.specs.Sketched.{draft_sketch}
use Rattle.drafts.specs.declared.kind.FileKind.{FileKind}
use Rattle.drafts.specs.declared.kind.FileKind.TheVariants.{Plain, Check, Wheel, BeamWheel}
use Rattle.drafts.proofs.Sketching.{Draws}
use Rattle.theory.specs.Hyper.{Hyper, count_below}
use Rattle.theory.specs.Runs.{Closed}
use Rattle.theory.specs.Theorems.{SameTable, agreement_length}
use Rattle.theory.proofs.Determined.{least_is_determined}
use Rattle.theory.proofs.Kept.{counts_alike}
use Rattle.theory.proofs.Minimal.{least_closed}
use Rattle.theory.proofs.Search.{kernel_not_preamble}
use Rattle.theory.proofs.Single.{hyper_is_determined}
use Rattle.minimize.specs.Compile.{Tells}
use Rattle.listings.specs.File.{book_lengths, HyperText, SketchText, KindText, TextOf, FileText}
use Rattle.listings.specs.Listing.{start_line, state_line, arc_line, start_text, states_text, arc_text, arcs_text, counts_text, listing_text}
use Rattle.listings.specs.Places.{BookPlaces}
use Rattle.listings.proofs.FileTexts.{read}
use Rattle.theory.proofs.HyperAlike.{same_turned, hyper_of_same}
use Rattle.listings.proofs.Lines.{range_more}

-- lines that are alike one by one
lines_alike :
    (f g : ℕ → List ℕ) (n : ℕ) → ((i : ℕ) → i < n → f i ≡ g i) → flat_map f (range_with_len 0 n) ≡ flat_map g (range_with_len 0 n)
lines_alike f g zero h = refl
lines_alike f g (suc n) h =
    let more : range_with_len 0 (suc n) ≡ range_with_len 0 n ++ (n ∷ []) =
    range_more 0 n ∙ ap (λ j. range_with_len 0 n ++ (j ∷ [])) (zero-add n) in
    ap (flat_map f) more
    ∙ sym (flat_map_more f [] (range_with_len 0 n) n)
    ∙ ap (λ xs. xs ++ f n) (lines_alike f g n (λ i l. h i (omega arith)))
    ∙ ap (λ xs. flat_map g (range_with_len 0 n) ++ xs) (h n (omega arith))
    ∙ flat_map_more g [] (range_with_len 0 n) n
    ∙ ap (flat_map g) (sym more)

-- flags that tell the same
tells_alike :
    (b c : Bool) (X Y X' Y' : Type 0) → (X → Y' → ⊥) → (X' → Y → ⊥) → Tells b X Y → Tells c X' Y' → b ≡ c
tells_alike true true X Y X' Y' n m x y = refl
tells_alike true false X Y X' Y' n m x y = absurd (n x y)
tells_alike false true X Y X' Y' n m x y = absurd (m y x)
tells_alike false false X Y X' Y' n m x y = refl

-- of two cases that are told by one flag
tells_both : (b : Bool) (X Y X' Y' P : Type 0) → (X → X' → P) → (Y → Y' → P) → Tells b X Y → Tells b X' Y' → P
tells_both true X Y X' Y' P f g x y = f x y
tells_both false X Y X' Y' P f g x y = g x y

module _ {W : Type 0} (K : Kind W) (k : Codes W) where
  -- the same table is listed alike
  module _ (h g : Table K.group.Mean) (e : SameTable K.group h g) where
    starts_alike : start_text K k h ≡ start_text K k g
    starts_alike =
        ap (λ q. start_line q (code_for K k h.start_weight)) e.start ∙ ap (λ w. start_line g.start (code_for K k w)) e.start_weight

    states_alike : states_text h.final h.states ≡ states_text g.final g.states
    states_alike =
        lines_alike (λ q. state_line q (h.final q)) (λ q. state_line q (g.final q)) h.states (λ q l. ap (state_line q) (e.final q l))
        ∙ ap (states_text g.final) e.states

    arc_alike : (p : ℕ) → p < h.states * h.letters → 0 < h.letters → arc_text K k h p ≡ arc_text K k g p
    arc_alike p l some =
        let s : ℕ = h.letters in
        let q : ℕ = p / s in
        let a : ℕ = p % s in
        let inside : q < h.states = div_below p s h.states some l in
        let letter : a < s = mod_below p s some in
        ap (λ r. arc_line q a r (code_for K k (h.weight q a))) (e.target q a inside letter)
        ∙ ap (λ w. arc_line q a (g.target q a) (code_for K k w)) (e.weight q a inside letter)
        ∙ ap (λ s. arc_line (p / s) (p % s) (g.target (p / s) (p % s)) (code_for K k (g.weight (p / s) (p % s)))) e.letters

    arcs_alike : 0 < h.letters → arcs_text K k h (h.states * h.letters) ≡ arcs_text K k g (g.states * g.letters)
    arcs_alike some =
        lines_alike (arc_text K k h) (arc_text K k g) (h.states * h.letters) (λ p l. arc_alike p l some)
        ∙ ap (λ n. arcs_text K k g (n * h.letters)) e.states
        ∙ ap (λ s. arcs_text K k g (g.states * s)) e.letters

    listed_alike : 0 < h.letters → (m n c a : ℕ) → listing_text K k h m n c a ≡ listing_text K k g m n c a
    listed_alike some m n c a =
        ap (λ x. counts_text m n c a ++ (x ++ (states_text h.final h.states ++ arcs_text K k h (h.states * h.letters)))) starts_alike
        ∙ ap (λ x. counts_text m n c a ++ (start_text K k g ++ (x ++ arcs_text K k h (h.states * h.letters)))) states_alike
        ∙ ap (λ x. counts_text m n c a ++ (start_text K k g ++ (states_text g.final g.states ++ x))) (arcs_alike some)

  -- a table has one text
  one_hyper_text : (t : Table K.group.Mean) (x y : List ℕ) → Lawful t → HyperText K k t x → HyperText K k t y → x ≡ y
  one_hyper_text t x y lawful u v =
      let G : Group = K.group in
      let least : SameTable G u.least v.least =
      (least_is_determined G t t u.least v.least lawful lawful u.is_least v.is_least).1 (record { letters = refl; words = λ w h. refl }) in
      let left : Closed u.least = least_closed G t u.least lawful u.is_least in
      let right : Closed v.least = least_closed G t v.least lawful v.is_least in
      let moved : Hyper G u.least v.hyper v.representative v.factor =
      hyper_of_same G v.least u.least v.hyper v.representative v.factor right left (same_turned G u.least v.least least) v.is_hyper in
      let hyper : SameTable G u.hyper v.hyper =
      (hyper_is_determined G u.least u.hyper v.hyper u.representative v.representative u.factor v.factor left u.is_hyper moved).table in
      let some : 0 < u.hyper.letters = omega (arith, u.is_hyper.letters, u.is_least.letters, lawful.some_letter) in
      let kernel : (q : ℕ) → q < u.least.states → u.kernel q ≡ v.kernel q =
      λ q l.
      tells_alike (u.kernel q) (v.kernel q) _ _ _ _
      (λ a b. kernel_not_preamble v.least q ((least.kernel q l).0 a) b)
      (λ a b. kernel_not_preamble u.least q ((least.kernel q l).1 a) b)
      (u.is_kernel q l) (v.is_kernel q (subst (λ n. q < n) least.states l)) in
      let count : count_below u.kernel u.least.states ≡ count_below v.kernel v.least.states =
      counts_alike u.kernel v.kernel u.least.states kernel ∙ ap (count_below v.kernel) least.states in
      u.is_text
      ∙ listed_alike u.hyper v.hyper hyper some u.least.states u.hyper.states (count_below u.kernel u.least.states) (agreement_length u.least.states)
      ∙ ap (λ n. listing_text K k v.hyper u.least.states u.hyper.states n (agreement_length u.least.states)) count
      ∙ ap (λ n. listing_text K k v.hyper u.least.states n (count_below v.kernel v.least.states) (agreement_length u.least.states)) hyper.states
      ∙ ap (λ n. listing_text K k v.hyper n v.hyper.states (count_below v.kernel v.least.states) (agreement_length n)) least.states
      ∙ sym v.is_text

  -- the table of a file's sketch has the sizes of a table, as the sheet of a book has that is in step with it
  sketch_lawful :
      (bs ts : List ℕ) (ws : List W) (ms : List ℕ) → BookPlaces ts ws ms → (s : Sketch W) → draft_sketch book_lengths k bs ≡ Ok s →
      Lawful (sketch_table K s)
  sketch_lawful bs ts ws ms places s e =
      let r = reading (opened ts ws ms) (listing k bs) in
      let step = subst (λ d. Draws book_lengths d r) e (read K k bs ts ws ms places) in
      subst Lawful (same_table K book_lengths s r.after step.1) (sheet_lawful K r.after)

  one_sketch_text :
      (d : Result (Sketch W) Blame) (x y : List ℕ) → ((s : Sketch W) → d ≡ Ok s → Lawful (sketch_table K s)) → SketchText K k d x →
      SketchText K k d y → x ≡ y
  one_sketch_text (Ok s) x y lawful u v = one_hyper_text (sketch_table K s) x y (lawful s refl) u v
  one_sketch_text (Err b) x y lawful u v = u ∙ sym v

  -- a file of the kind has one text, where there is an element to fill a memory with
  one_kind_text : W → (bs x y : List ℕ) → KindText K k bs x → KindText K k bs y → x ≡ y
  one_kind_text d bs x y =
      one_sketch_text (draft_sketch book_lengths k bs) x y
      (sketch_lawful bs (replicate 1017 0) (replicate 1017 d) (replicate 127 0)
      (record {
        targets_length = length-replicate {A = ℕ} 1017 0;
        weights_length = length-replicate 1017 d;
        marks_length = length-replicate {A = ℕ} 127 0;
      }))

one_text_of : (kind : FileKind) (bs x y : List ℕ) → TextOf kind bs x → TextOf kind bs y → x ≡ y
one_text_of Plain bs x y = one_kind_text plain_kind plain_codes (record {}) bs x y
one_text_of Check bs x y = one_kind_text check_kind check_codes (record { 0 = 1 }) bs x y
one_text_of Wheel bs x y = one_kind_text wheel_kind wheel_codes (record { 0 = 0 }) bs x y
one_text_of BeamWheel bs x y = one_kind_text beam_wheel_kind beam_wheel_codes (record { 0 = 0 }) bs x y

pub one_text : (bs x y : List ℕ) → FileText bs x → FileText bs y → x ≡ y
one_text bs x y =
    tells_both (ltb 16384 (length bs)) _ _ _ _ (x ≡ y) (λ u v. u ∙ sym v) (one_text_of (kind_of (slice_get bs 3)) bs x y)
