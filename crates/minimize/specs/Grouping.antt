-- Chains of rows in buckets, in which the first row equal to a row is found. Assumes nothing.
use Rattle.std.specs.Prelude.{◌≡◌, ℕ, ◌+◌, ◌*◌, ◌%◌, ◌^◌, ◌<◌, ◌≤◌, List, length, fold, bit_xor, slice_index, slice_range}
use Rattle.weights.specs.Group.{Kind}
use Rattle.tables.specs.Sheet.{mean_at}
use Rattle.minimize.specs.Group.{SameRow, Grouped}
use Rattle.minimize.specs.declared.group.Signatures.{Signatures}

-- a hash of a hash and a label; only that equal rows have equal hashes is ever used
abbrev pub mixed : ℕ → ℕ → ℕ
mixed hash label = (bit_xor hash label * 0x01000193) % 2 ^ 32

-- the bucket of a row, of b buckets
abbrev pub slot_of : {W : Type 0} → Signatures W → ℕ → ℕ → ℕ
slot_of r b q =
    fold mixed (mixed 0x811c9dc5 (slice_index r.keys.now q)) (slice_range r.labels.now (q * r.letters) (q * r.letters + r.letters)) % b

-- the slices have all places of row q
pub record HasRow {W : Type 0} (r : Signatures W) (q : ℕ) : Type 0 where
  pub key : q < length r.keys.now
  pub labels : q * r.letters + r.letters ≤ length r.labels.now
  pub elements : q * r.letters + r.letters ≤ length r.elements.now

module _ {W : Type 0} (K : Kind W) (r : Signatures W) where
  pub record SamePlaces (i j : ℕ) : Type 0 where
    pub label : slice_index r.labels.now i ≡ slice_index r.labels.now j
    pub element : mean_at K r.elements.now i ≡ mean_at K r.elements.now j

  abbrev pub same_rows : ℕ → ℕ → Type 0
  same_rows q p = SameRow K r.letters r.keys.now r.labels.now r.elements.now q p

  -- no row before row q is equal to it
  pub record IsFirst (q : ℕ) : Type 0 where
    pub none_before : (p : ℕ) → p < q → same_rows q p → ⊥

  -- row p comes before row q, is equal to it, and is the first of its kind
  pub record Leads (q p : ℕ) : Type 0 where
    pub before : p < q
    pub first : IsFirst p
    pub same : same_rows q p

  -- no row does
  pub record NoneBefore (q : ℕ) : Type 0 where
    pub none : (p : ℕ) → Leads q p → ⊥

  -- the first n rows have been given the first row of their kind
  abbrev pub grouped_rows : ℕ → List ℕ → ℕ → Type 0
  grouped_rows n firsts m = Grouped K r.letters n r.keys.now r.labels.now r.elements.now (slice_index firsts) m

-- Of the first n rows those of note are chained, bucket by bucket, from the last to the first. Link 0 ends a chain, and link p + 1
-- leads to row p.
module _ (Of_note : ℕ → Type 0) (slot : ℕ → ℕ) (n : ℕ) where
  -- row p lies in the chain of bucket k
  pub record Member (k p : ℕ) : Type 0 where
    pub below : p < n
    pub of_note : Of_note p
    pub in_bucket : slot p ≡ k

  pub record Chains (heads links : ℕ → ℕ) : Type 0 where
    pub head : (k p : ℕ) → heads k ≡ p + 1 → Member k p
    pub above : (k p : ℕ) → Member k p → p + 1 ≤ heads k
    pub link : (k p o : ℕ) → Member k p → links p ≡ o + 1 → (o < p) × Member k o
    pub skips_none : (k p o : ℕ) → Member k p → Member k o → o < p → o + 1 ≤ links p

abbrev pub chains_of : {W : Type 0} (K : Kind W) → Signatures W → ℕ → List ℕ → List ℕ → Type 0
chains_of K r n heads links =
    Chains (IsFirst K r) (slot_of r (length heads)) n (slice_index heads) (slice_index links)
