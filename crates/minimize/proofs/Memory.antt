-- What elements mean: one that is read, one that is written, and the others. Assumes nothing.
use Rattle.std.proofs.Common.{◌≡◌, ◌≢◌, ℕ, ◌<◌, List, length, map, get_or, set, sym, ap, ◌∙◌, arith}
use Rattle.std.proofs.lemmas.List.{get_or-set_same, get_or-set_other, get_or-map, map-set, length-map}
use Rattle.weights.specs.Group.{Kind}
use Rattle.tables.specs.Sheet.{mean_at}

module _ {W : Type 0} (K : Kind W) where
  pub mean_read : (xs : List W) (i : ℕ) (x : W) → i < length xs → K.mean (get_or xs i x) ≡ mean_at K xs i
  mean_read xs i x l = sym (get_or-map K.mean xs i x K.group.one l)

  pub mean_set_same : (xs : List W) (i : ℕ) (x : W) → i < length xs → mean_at K (set xs i x) i ≡ K.mean x
  mean_set_same xs i x l =
      ap (λ ys. get_or ys i K.group.one) (map-set K.mean xs i x)
      ∙ get_or-set_same (map K.mean xs) i (K.mean x) K.group.one (omega (arith, length-map xs K.mean))

  pub mean_set_other : (xs : List W) (i k : ℕ) (x : W) → k ≢ i → mean_at K (set xs i x) k ≡ mean_at K xs k
  mean_set_other xs i k x other =
      ap (λ ys. get_or ys k K.group.one) (map-set K.mean xs i x) ∙ get_or-set_other (map K.mean xs) i k (K.mean x) K.group.one other
