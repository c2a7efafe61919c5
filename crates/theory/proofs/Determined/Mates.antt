-- States of two tables from which words weigh alike but for a factor. Assumes nothing.
use Rattle.std.proofs.Common.{◌≡◌, ℕ, ◌<◌, List, sym, subst, arith}
use Rattle.weights.specs.Group.{Group}
use Rattle.tables.specs.Table.{Table, Word, weight_from, WeighAlike}
use Rattle.theory.specs.Runs.{led, accepts}
use Rattle.theory.specs.Series.{Multiple, Equivalent}
use Rattle.theory.proofs.Basics.{alike_from, walked, multiple_sym, multiple_trans, multiple_later, multiple_after, multiple_accepts, starts_multiple}
use Rattle.theory.proofs.Determined.Canonical.{Canonical}

-- the weight from state q of l is a factor times that from state p of m, for every word
pub record Mates (G : Group) (l m : Table G.Mean) (q p : ℕ) : Type 0 where
  pub factor : G.Mean
  pub by : Multiple G l.letters 0 factor (weight_from G l q) (weight_from G m p)

-- two canonical tables that weigh every word alike
pub record Twins (G : Group) (l m : Table G.Mean) : Type 0 where
  pub left : Canonical G l
  pub right : Canonical G m
  pub alike : WeighAlike G l m

pub alike_turned : (G : Group) (t u : Table G.Mean) → WeighAlike G t u → WeighAlike G u t
alike_turned G t u x =
    record {
      letters = sym x.letters;
      words = λ w h. sym (x.words w (subst (λ s. Word s w) (sym x.letters) h));
    }

pub twins_turned : (G : Group) (l m : Table G.Mean) → Twins G l m → Twins G m l
twins_turned G l m x = record { left = x.right; right = x.left; alike = alike_turned G l m x.alike }

module _ (G : Group) (l m : Table G.Mean) where
  -- mates in the other order, where a word leads from mates, and the same words accepted
  pub mates_turned : (q p : ℕ) → l.letters ≡ m.letters → Mates G l m q p → Mates G m l p q
  mates_turned q p e x =
      record {
        factor = G.inv x.factor;
        by = subst (λ s. Multiple G s 0 (G.inv x.factor) (weight_from G m p) (weight_from G l q)) e (multiple_sym x.by);
      }

  pub mates_after : (q p : ℕ) (v : List ℕ) → Word l.letters v → Mates G l m q p → Mates G l m (led l q v) (led m p v)
  mates_after q p v h x =
      let k : G.Mean = G.mul (G.inv (walked G l q v)) (G.mul x.factor (walked G m p v)) in
      record {
        factor = k;
        by = multiple_later (omega arith) (multiple_after G l m q p v h x.by);
      }

  pub mates_accept : (q p : ℕ) (w : List ℕ) → Word l.letters w → Mates G l m q p → accepts l q w ≡ accepts m p w
  mates_accept q p w h x = multiple_accepts G l m q p x.by w h (omega arith)

  -- two mates of one state are equivalent
  pub mates_equivalent : (q p p' : ℕ) → l.letters ≡ m.letters → Mates G l m q p → Mates G l m q p' → Equivalent G m p p'
  mates_equivalent q p p' e x y =
      let z = mates_turned q p e x in
      let by : Multiple G m.letters 0 y.factor (weight_from G l q) (weight_from G m p') =
      subst (λ s. Multiple G s 0 y.factor (weight_from G l q) (weight_from G m p')) e y.by in
      record { factor = G.mul z.factor y.factor; by = multiple_trans z.by by }

  -- the starts of tables that weigh every word alike are mates
  pub starts_mate : WeighAlike G l m → Mates G l m l.start m.start
  starts_mate x =
      record {
        factor = G.mul (G.inv l.start_weight) m.start_weight;
        by = starts_multiple G l m 0 (alike_from G 0 l m x);
      }

-- a state of either table has no two mates
module _ (G : Group) (l m : Table G.Mean) (x : Twins G l m) where
  pub one_on_right : (q p p' : ℕ) → p < m.states → p' < m.states → Mates G l m q p → Mates G l m q p' → p ≡ p'
  one_on_right q p p' h h' y y' = x.right.apart p p' h h' (mates_equivalent G l m q p p' x.alike.letters y y')

  pub one_on_left : (q q' p : ℕ) → q < l.states → q' < l.states → Mates G l m q p → Mates G l m q' p → q ≡ q'
  one_on_left q q' p h h' y y' =
      let e : l.letters ≡ m.letters = x.alike.letters in
      x.left.apart q q' h h'
      (mates_equivalent G m l p q q' (sym e) (mates_turned G l m q p e y) (mates_turned G l m q' p e y'))
