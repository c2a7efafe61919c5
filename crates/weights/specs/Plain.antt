-- The plain kind: the group of one element. Assumes nothing.
use Rattle.std.specs.Prelude.{refl}
use Rattle.weights.specs.Group.{Group, Kind}
use Rattle.weights.specs.declared.plain.Plain.{Plain}

abbrev pub plain_group : Group
plain_group = record {
  Mean = Unit {0};
  one = tt;
  mul = λ x y. tt;
  inv = λ x. tt;
  assoc = λ x y z. refl;
  one_left = λ x. refl;
  inv_left = λ x. refl;
  decide = λ x y. yes refl;
}

abbrev pub plain_kind : Kind Plain
plain_kind = record { group = plain_group; mean = λ _. tt }

-- the one element
abbrev pub plain : Plain
plain = record {}
