-- What the elements of a weight kind mean: a group. Products are read left to right; that they commute is no part of it.
-- Assumes nothing.
use Rattle.std.specs.Prelude.{◌≡◌}

-- meanings with one, product and inverse, and a decision of equality
pub record Group : Type 1 where
  pub Mean : Type 0
  pub one : Mean
  pub mul : Mean → Mean → Mean
  pub inv : Mean → Mean
  pub assoc : (x y z : Mean) → mul (mul x y) z ≡ mul x (mul y z)
  pub one_left : (x : Mean) → mul one x ≡ x
  pub inv_left : (x : Mean) → mul (inv x) x ≡ one
  pub decide : (x y : Mean) → Dec (x ≡ y)

-- a kind of weights: what each element stored in memory means in a group. Several elements may mean the same.
pub record Kind (E : Type 0) : Type 1 where
  pub group : Group
  pub mean : E → group.Mean

-- the law that stands apart: the order of a product does not matter
abbrev pub Commutes : Group → Type 0
Commutes G = (x y : G.Mean) → G.mul x y ≡ G.mul y x
