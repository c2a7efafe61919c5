-- A source and its hyper table weigh every word of at least 2m - 2 letters alike, where m counts the states of the least table.
-- Assumes nothing.
use Rattle.std.proofs.Common.{◌≡◌, ℕ, suc, ◌-◌, ◌*◌, ◌<◌, ◌≤◌, List, ◌++◌, length, take, drop, sym, ap, ◌∙◌, subst, arith}
use Rattle.std.proofs.lemmas.List.{take-append-drop, length-take, length-drop}
use Rattle.weights.specs.Group.{Group}
use Rattle.tables.specs.Table.{Table, Word, scaled, weight_from, weight_of}
use Rattle.tables.proofs.Reading.{scaled_twice}
use Rattle.theory.specs.Runs.{led, Closed, Reachable}
use Rattle.theory.specs.Series.{Multiple}
use Rattle.theory.specs.Hyper.{Hyper}
use Rattle.theory.specs.Theorems.{HyperAgrees}
use Rattle.theory.proofs.Basics.{cancels_inv, scaled_moved, word_append, word_left, word_right, led_inside}
use Rattle.theory.proofs.Minimal.{least_closed, least_reachable, least_alike}
use Rattle.theory.proofs.Gap.{gap}
use Rattle.theory.proofs.HyperRun.{Followed, followed, so_far, whole_append, redirected, redirected_closed, redirected_kernel, hyper_whole, kernel_weighs}

-- l is a closed table, and h is its hyper table
module _ (G : Group) (l h : Table G.Mean) (r : ℕ → ℕ) (f : ℕ → G.Mean) (closed : Closed l) (hyper : Hyper G l h r f) where
  -- the table with its redirections
  abbrev d : Table G.Mean
  d = redirected G l h r f closed hyper

  -- the two states after u agree on long words, with the quotient of the products
  runs_agree :
      (u : List ℕ) → Word l.letters u → (c : Followed G l h r f closed hyper u) →
      Multiple G l.letters c.from (G.mul (G.inv (so_far G l u)) (so_far G d u)) (weight_from G l (led l l.start u))
      (weight_from G l (led d d.start u))
  runs_agree u o c =
      record {
        words =
            λ z k n.
            scaled_moved G (so_far G l u) (so_far G d u) (weight_from G l (led l l.start u) z) (weight_from G l (led d d.start u) z)
            (sym (whole_append G l u z) ∙ c.words z k n);
      }

  -- after at least m - 1 letters, at least m - 1 letters more are weighed alike
  long_alike :
      1 ≤ l.letters → ((q : ℕ) → q < l.states → Reachable l q) → (u z : List ℕ) → Word l.letters u → Word l.letters z →
      l.states ≤ suc (length u) → l.states ≤ suc (length z) → weight_of G l (u ++ z) ≡ weight_of G h (u ++ z)
  long_alike letter reach u z o k long rest =
      let start_inside : d.start < l.states = (redirected_closed G l h r f closed hyper).start_inside in
      let y : ℕ = led l l.start u in
      let x : ℕ = led d d.start u in
      let y_inside : y < l.states = led_inside l closed l.start u closed.start_inside o in
      let x_inside : x < l.states = led_inside d (redirected_closed G l h r f closed hyper) d.start u start_inside o in
      let c = followed G l h r f closed hyper u o in
      let a = so_far G l u in
      let b = so_far G d u in
      let m = gap G l closed letter c.from y x (G.mul (G.inv a) b) y_inside x_inside (runs_agree u o c) in
      whole_append G l u z
      ∙ ap (scaled G a) (m.words z k (omega arith))
      ∙ scaled_twice G a (G.mul (G.inv a) b) (weight_from G l x z)
      ∙ ap (λ e. scaled G e (weight_from G l x z)) (cancels_inv G a b)
      ∙ ap (scaled G b)
      (sym (kernel_weighs G l h r f closed hyper x z x_inside (redirected_kernel G l h r f closed hyper letter reach u o long) k))
      ∙ sym (whole_append G d u z)
      ∙ sym (hyper_whole G l h r f closed hyper (u ++ z) (word_append l.letters u z o k))

pub hyper_agrees : (G : Group) → HyperAgrees G
hyper_agrees G t l h r f lawful least hyper =
    record { letters = sym least.letters ∙ sym hyper.letters; words = λ w o n. agrees w (subst (λ s. Word s w) (sym least.letters) o) n }
  where
    closed : Closed l
    closed = least_closed G t l lawful least

    agrees : (w : List ℕ) → Word l.letters w → 2 * l.states - 2 ≤ length w → weight_of G t w ≡ weight_of G h w
    agrees w o n =
        let i : ℕ = l.states - 1 in
        let u = take i w in
        let z = drop i w in
        let split : u ++ z ≡ w = take-append-drop i w in
        let o' : Word l.letters (u ++ z) = subst (Word l.letters) (sym split) o in
        let letter : 1 ≤ l.letters = omega (arith, lawful.some_letter, least.letters) in
        sym ((least_alike G t l lawful least).words w o)
        ∙ subst (λ x. weight_of G l x ≡ weight_of G h x) split
        (long_alike G l h r f closed hyper letter (least_reachable G t l lawful least) u z (word_left l.letters u z o')
        (word_right l.letters u z o') (omega (arith, length-take i w)) (omega (arith, length-drop i w)))
