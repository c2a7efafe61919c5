-- What two sources side by side weigh a word as. Assumes nothing; that the group commutes is a premise.
use Rattle.std.proofs.Common.{◌≡◌, ℕ, ◌+◌, ◌*◌, ◌/◌, ◌<◌, Bool, true, false, ◌&&◌, List, [], ◌∷◌, Some, None, Option, sym, refl, ap, ◌∙◌, subst, arith}
use Rattle.std.proofs.lemmas.Nat.{div-mul-add, mod-mul-add}
use Rattle.std.proofs.lemmas.Bool.Decides.{nat_tests}
use Rattle.weights.specs.Codes.{within}
use Rattle.weights.specs.Group.{Group, Commutes}
use Rattle.tables.specs.Table.{Table, Lawful, Word, scaled, weight_from, weight_of}
use Rattle.sources.specs.Both.{both_verdict, joins, product_table, chosen, both_table, multiplied, WeighsAsProduct}

module _ (G : Group) (commutes : Commutes G) where
  -- the inner factors of two products change places
  interchange : (x y z w : G.Mean) → G.mul (G.mul x y) (G.mul z w) ≡ G.mul (G.mul x z) (G.mul y w)
  interchange x y z w =
      G.assoc x y (G.mul z w)
      ∙ ap (G.mul x) (sym (G.assoc y z w) ∙ ap (λ v. G.mul v w) (commutes y z) ∙ G.assoc z y w)
      ∙ sym (G.assoc x z (G.mul y w))

  scaled_multiplied :
      (x y : G.Mean) (o p : Option G.Mean) →
      scaled G (G.mul x y) (multiplied G o p) ≡ multiplied G (scaled G x o) (scaled G y p)
  scaled_multiplied x y (Some z) (Some w) = ap Some (interchange x y z w)
  scaled_multiplied x y (Some z) None = refl
  scaled_multiplied x y None (Some w) = refl
  scaled_multiplied x y None None = refl

  ends : (b c : Bool) → within (b && c) G.one ≡ multiplied G (within b G.one) (within c G.one)
  ends true true = ap Some (sym (G.one_left G.one))
  ends true false = refl
  ends false true = refl
  ends false false = refl

  module _ (t u : Table G.Mean) (l : Lawful u) (same : t.letters ≡ u.letters) where
    from_pair :
        (q p : ℕ) → p < u.states → (w : List ℕ) → Word t.letters w →
        weight_from G (product_table G t u) (q * u.states + p) w
        ≡ multiplied G (weight_from G t q w) (weight_from G u p w)
    from_pair q p inside [] _ =
        ap (λ b. within (t.final ((q * u.states + p) / u.states) && u.final b) G.one) (mod-mul-add q u.states p inside)
        ∙ ap (λ b. within (t.final b && u.final p) G.one) (div-mul-add q u.states p inside)
        ∙ ends (t.final q) (u.final p)
    from_pair q p inside (a ∷ w) h =
        let step : ℕ → ℕ → Option G.Mean =
        λ x y. scaled G (G.mul (t.weight x a) (u.weight y a)) (weight_from G (product_table G t u) (t.target x a * u.states + u.target y a) w) in
        let next : u.target p a < u.states = l.target_inside p a inside (subst (λ s. a < s) same h.0) in
        ap (step ((q * u.states + p) / u.states)) (mod-mul-add q u.states p inside)
        ∙ ap (λ x. step x p) (div-mul-add q u.states p inside)
        ∙ ap (scaled G (G.mul (t.weight q a) (u.weight p a))) (from_pair (t.target q a) (u.target p a) next w h.1)
        ∙ scaled_multiplied (t.weight q a) (u.weight p a) (weight_from G t (t.target q a) w) (weight_from G u (u.target p a) w)

    product_words :
        (w : List ℕ) → Word t.letters w →
        weight_of G (product_table G t u) w ≡ multiplied G (weight_of G t w) (weight_of G u w)
    product_words w h =
        ap (scaled G (G.mul t.start_weight u.start_weight)) (from_pair t.start u.start l.start_inside w h)
        ∙ scaled_multiplied t.start_weight u.start_weight (weight_from G t t.start w) (weight_from G u u.start w)

  -- sources that are joined weigh as told
  pub both_weighs :
      (t u : Table G.Mean) → Lawful u → both_verdict t u ≡ None → WeighsAsProduct G t u (both_table G t u)
  both_weighs t u l none =
      let same : t.letters ≡ u.letters = grind (arith, nat_tests) in
      let joined : joins t u ≡ true = grind (arith, nat_tests) in
      subst (λ b. WeighsAsProduct G t u (chosen b (product_table G t u) t)) (sym joined)
      (record { left = refl; right = same; words = product_words t u l same })
