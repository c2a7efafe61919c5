-- A draft file in a memory, field by field. Assumes nothing.
use Rattle.std.proofs.Common.{◌≡◌, ℕ, zero, suc, ◌+◌, ◌*◌, ◌≤◌, List, [], ◌∷◌, ◌++◌, map, length, take, drop, sym, refl, ap, ◌∙◌, mul-zero, zero-add, mul-suc, add-one, arith}
use borrow.Rule.Slice.PartMut.{put_mid}
use Rattle.std.specs.List.{range_with_len, flat_map}
use Rattle.std.proofs.lemmas.Grind.{flat_map-append}
use Rattle.std.proofs.lemmas.List.FromFn.{map-range_with_len_more}
use Rattle.std.proofs.lemmas.List.{length-append, append_assoc, drop-drop, flat_map_more}
use Rattle.std.proofs.lemmas.Slice.{take-put_mid}
use Rattle.weights.specs.Codes.{Codes}
use Rattle.weights.specs.Group.{Kind}
use Rattle.tables.specs.Table.{Table}
use Rattle.tables.specs.declared.call.Call.{Call}
use Rattle.tables.specs.declared.call.Call.TheVariants.{Rule}
use Rattle.drafts.specs.Parts.{states_bytes, arcs_bytes}
use Rattle.drafts.specs.Written.{field_of, over, arc_count, draft_size, state_call, arc_call, start_call, draft_bytes}

-- fields of the same width, one after another
module _ (kind width : ℕ) (f : ℕ → Call ℕ) (fixed : (i : ℕ) → length (field_of kind (f i)) ≡ width) where
  abbrev fields : ℕ → List ℕ
  fields m = flat_map (field_of kind) (map f (range_with_len 0 m))

  fields_more : (m : ℕ) → fields (m + 1) ≡ fields m ++ field_of kind (f m)
  fields_more m =
      ap (flat_map (field_of kind)) (map-range_with_len_more f 0 m m (zero-add m)) ∙ sym (flat_map_more (field_of kind) [] (map f (range_with_len 0 m)) (f m))

  pub length_fields : (m : ℕ) → length (fields m) ≡ width * m
  length_fields zero = sym (mul-zero width)
  length_fields (suc m) =
      ap (λ j. length (fields j)) (sym (add-one m))
      ∙ ap length (fields_more m)
      ∙ length-append (fields m) (field_of kind (f m))
      ∙ (let e : length (fields m) + length (field_of kind (f m)) ≡ width * m + width = cc (length_fields m, fixed m) in e)
      ∙ sym (mul-suc width m)

  -- one field more is written over the n bytes after those that are written
  pub written_more :
      (n m : ℕ) (memory field : List ℕ) → width * m ≤ length memory → take (width * m) memory ≡ fields m → field ≡ field_of kind (f m) →
      take (width * (m + 1)) (put_mid (width * m) n memory field) ≡ fields (m + 1)
  written_more n m memory field room before e =
      let size : length field ≡ width = ap length e ∙ fixed m in
      let next : width * (m + 1) ≡ width * m + length field = ap (λ j. width * j) (add-one m) ∙ mul-suc width m ∙ ap (λ j. width * m + j) (sym size) in
      take-put_mid (width * m) n memory field (width * (m + 1)) next room
      ∙ ap (λ xs. xs ++ field) before
      ∙ ap (λ ys. fields m ++ ys) e
      ∙ sym (fields_more m)

module _ {W : Type 0} (K : Kind W) (k : Codes W) (t : Table K.group.Mean) where
  -- the parts of the draft file
  abbrev head : List ℕ
  head = field_of k.number (Rule t.letters)

  abbrev states : List ℕ
  states = states_bytes K k t t.states

  abbrev arcs : List ℕ
  arcs = arcs_bytes K k t (arc_count t)

  abbrev start : List ℕ
  start = field_of k.number (start_call K k t)

  parts : draft_bytes K k t ≡ head ++ (states ++ (arcs ++ start))
  parts =
      let state_calls = map (state_call K k t) (range_with_len 0 t.states) in
      let arc_calls = map (arc_call K k t) (range_with_len 0 (arc_count t)) in
      ap (λ xs. head ++ xs)
      (flat_map-append (field_of k.number) state_calls (arc_calls ++ (start_call K k t ∷ []))
      ∙ ap (λ xs. states ++ xs) (flat_map-append (field_of k.number) arc_calls (start_call K k t ∷ [])))

  pub length_draft : length (draft_bytes K k t) ≡ draft_size t
  length_draft =
      let of_states : length states ≡ 4 * t.states = length_fields k.number 4 (state_call K k t) (λ i. refl) t.states in
      let of_arcs : length arcs ≡ 10 * arc_count t = length_fields k.number 10 (arc_call K k t) (λ i. refl) (arc_count t) in
      ap length parts ∙ simp length-append (omega arith)

  -- the parts, before what the memory held after them
  pub draft_written :
      (n m : ℕ) (memory hs qs ps zs rest : List ℕ) → n ≡ 4 * t.states → m ≡ 10 * arc_count t → hs ≡ head → qs ≡ states → ps ≡ arcs →
      zs ≡ start → rest ≡ drop m (drop n (drop 5 memory)) →
      hs ++ (qs ++ (ps ++ (zs ++ drop 7 rest))) ≡ over (draft_bytes K k t) memory
  draft_written n m memory hs qs ps zs rest e f of_head of_states of_arcs of_start of_rest =
      let after : List ℕ = drop (length (draft_bytes K k t)) memory in
      let size : 5 + (n + (m + 7)) ≡ length (draft_bytes K k t) = omega (arith, length_draft) in
      let left : drop 7 rest ≡ after =
      ap (drop 7) of_rest
      ∙ drop-drop 7 m (drop n (drop 5 memory))
      ∙ drop-drop (m + 7) n (drop 5 memory)
      ∙ drop-drop (n + (m + 7)) 5 memory
      ∙ ap (λ j. drop j memory) size in
      let whole : hs ++ (qs ++ (ps ++ (zs ++ drop 7 rest))) ≡ head ++ (states ++ (arcs ++ (start ++ after))) = cc in
      whole
      ∙ ap (λ xs. head ++ (states ++ xs)) (sym (append_assoc arcs start after))
      ∙ ap (λ xs. head ++ xs) (sym (append_assoc states (arcs ++ start) after))
      ∙ ap (λ xs. xs ++ after) (sym parts)
