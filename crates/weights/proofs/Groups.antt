-- The right laws of a group, from the left ones. Assumes nothing.
use Rattle.std.proofs.Common.{◌≡◌, sym, ap, ◌∙◌}
use Rattle.weights.specs.Group.{Group}

pub inv_right : (G : Group) (x : G.Mean) → G.mul x (G.inv x) ≡ G.one
inv_right G x =
    let y = G.inv x in
    sym (G.one_left (G.mul x y))
    ∙ ap (λ z. G.mul z (G.mul x y)) (sym (G.inv_left y))
    ∙ G.assoc (G.inv y) y (G.mul x y)
    ∙ ap (G.mul (G.inv y)) (sym (G.assoc y x y) ∙ ap (λ z. G.mul z y) (G.inv_left x) ∙ G.one_left y)
    ∙ G.inv_left y

pub one_right : (G : Group) (x : G.Mean) → G.mul x G.one ≡ x
one_right G x =
    ap (G.mul x) (sym (G.inv_left x))
    ∙ sym (G.assoc x (G.inv x) x)
    ∙ ap (λ z. G.mul z x) (inv_right G x)
    ∙ G.one_left x
