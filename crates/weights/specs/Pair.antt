-- A pair of two kinds works part by part. Assumes nothing.
use Rattle.std.specs.Prelude.{◌≡◌}
use Rattle.std.proofs.Common.{ap}
use Rattle.weights.specs.Group.{Group, Kind, Commutes}
use Rattle.weights.specs.declared.pair.Pair.{Pair}

module _ (G K : Group) where
  pub pair_path : {x y : G.Mean × K.Mean} → x.0 ≡ y.0 → x.1 ≡ y.1 → x ≡ y
  pair_path p q = λ i. (p i, q i)

  decided : (x y : G.Mean × K.Mean) → Dec (x.0 ≡ y.0) → Dec (x.1 ≡ y.1) → Dec (x ≡ y)
  decided x y (yes p) (yes q) = yes (pair_path p q)
  decided x y (yes p) (no n) = no (λ e. n (ap (λ z. z.1) e))
  decided x y (no n) (yes q) = no (λ e. n (ap (λ z. z.0) e))
  decided x y (no n) (no m) = no (λ e. n (ap (λ z. z.0) e))

  pub pair_decide : (x y : G.Mean × K.Mean) → Dec (x ≡ y)
  pair_decide x y = decided x y (G.decide x.0 y.0) (K.decide x.1 y.1)

  -- the product of two groups
  abbrev pub pair_group : Group
  pair_group = record {
    Mean = G.Mean × K.Mean;
    one = (G.one, K.one);
    mul = λ x y. (G.mul x.0 y.0, K.mul x.1 y.1);
    inv = λ x. (G.inv x.0, K.inv x.1);
    assoc = λ x y z. λ i. (G.assoc x.0 y.0 z.0 i, K.assoc x.1 y.1 z.1 i);
    one_left = λ x. λ i. (G.one_left x.0 i, K.one_left x.1 i);
    inv_left = λ x. λ i. (G.inv_left x.0 i, K.inv_left x.1 i);
    decide = pair_decide;
  }

  pub pair_commutes : Commutes G → Commutes K → Commutes pair_group
  pair_commutes g k x y = λ i. (g x.0 y.0 i, k x.1 y.1 i)

abbrev pub pair_kind : {L R : Type 0} → Kind L → Kind R → Kind (Pair L R)
pair_kind l r = record { group = pair_group l.group r.group; mean = λ p. (l.mean p.left, r.mean p.right) }
