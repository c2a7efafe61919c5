-- The parts of a draft file as the writer fills them. Assumes nothing.
use Rattle.std.specs.Prelude.{ℕ, ◌/◌, ◌%◌, ◌<◌, List, map}
use Rattle.std.specs.List.{range_with_len, flat_map}
use Rattle.weights.specs.Codes.{Codes}
use Rattle.weights.specs.Group.{Kind}
use Rattle.tables.specs.Table.{Table}
use Rattle.drafts.specs.Written.{field_of, Named, state_call, arc_call}

module _ {W : Type 0} (K : Kind W) (k : Codes W) (t : Table K.group.Mean) where
  -- the fields of the states and of the arcs below m
  abbrev pub states_bytes : ℕ → List ℕ
  states_bytes m = flat_map (field_of k.number) (map (state_call K k t) (range_with_len 0 m))

  abbrev pub arcs_bytes : ℕ → List ℕ
  arcs_bytes m = flat_map (field_of k.number) (map (arc_call K k t) (range_with_len 0 m))

  -- the code of the weight of arc p, and of each arc below m, makes an element of that weight
  abbrev pub NamedArc : ℕ → Type 0
  NamedArc p = Named K k (t.weight (p / t.letters) (p % t.letters))

  abbrev pub NamedBelow : ℕ → Type 0
  NamedBelow m = (p : ℕ) → p < m → NamedArc p
