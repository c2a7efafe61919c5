-- A canonical table is its own least table, and a table of kernel states, no two of them almost-equivalent, its own hyper table.
-- Assumes nothing.
use Rattle.std.proofs.Common.{◌≡◌, ℕ, zero, suc, ◌<◌, true, inl, sym, refl, ap, ◌∙◌, subst, arith}
use Rattle.weights.specs.Group.{Group}
use Rattle.weights.proofs.Groups.{one_right}
use Rattle.tables.specs.Table.{Table, weight_from}
use Rattle.theory.specs.Runs.{Reachable}
use Rattle.theory.specs.Series.{Equivalent, AlmostEquivalent}
use Rattle.theory.specs.Least.{Least}
use Rattle.theory.specs.Kernel.{Kernel}
use Rattle.theory.specs.Hyper.{Hyper, count_below}
use Rattle.theory.proofs.Basics.{inv_cancels, multiple_refl, reachable_inside, almost_by_itself, almost_refl}
use Rattle.theory.proofs.Determined.Canonical.{Canonical}

pub own_least : (G : Group) (l : Table G.Mean) → Canonical G l → Least G l l
own_least G l x =
    record {
      letters = refl;
      class = λ q. q;
      class_inside = λ q r. inside q r;
      class_met = λ i m. (i, x.reached i m, refl);
      one_class = λ q p r s e. x.apart q p (inside q r) (inside p s) e;
      equivalent =
          λ q p r s e.
          subst (Equivalent G l q) e (record { factor = G.one; by = multiple_refl G l.letters 0 (weight_from G l q) });
      start = refl;
      final = λ q r. refl;
      target = λ q a r m. refl;
      weight_live =
          λ q a u v r m pu pv.
          let one : u ≡ G.one = x.pushes q u (inside q r) pu in
          let one' : v ≡ G.one = x.pushes (l.target q a) v (x.closed.target_inside q a (inside q r) m) pv in
          sym
          (ap (λ y. G.mul (G.inv y) (G.mul (l.weight q a) v)) one
          ∙ ap (λ y. G.mul (G.inv G.one) (G.mul (l.weight q a) y)) one'
          ∙ ap (G.mul (G.inv G.one)) (one_right G (l.weight q a) ∙ sym (G.one_left (l.weight q a)))
          ∙ inv_cancels G G.one (l.weight q a));
      weight_dead = λ q a r m d. x.dead_arcs q a (inside q r) m d;
      start_weight =
          record {
            live =
                λ v p.
                sym
                (ap (G.mul l.start_weight) (x.pushes l.start v x.closed.start_inside p) ∙ one_right G l.start_weight);
            dead = x.dead_start;
          };
      order = x.order;
    }
  where
    inside : (q : ℕ) → Reachable l q → q < l.states
    inside q r = reachable_inside l x.closed q r

-- where all states are kept, each keeps its number
all_counted : (n : ℕ) → count_below (λ q. true) n ≡ n
all_counted zero = refl
all_counted (suc n) = omega (arith, all_counted n)

pub own_hyper :
    (G : Group) (t : Table G.Mean) → ((q : ℕ) → q < t.states → Kernel t q) →
    ((q p : ℕ) → q < t.states → p < t.states → AlmostEquivalent G t q p → q ≡ p) → Hyper G t t (λ q. q) (λ q. G.one)
own_hyper G t kernel apart =
    record {
      representative =
          λ q l.
          record {
            inside = l;
            almost = almost_refl G t q;
            smallest =
                inl
                (record { kernel = kernel q l; smallest = λ p less e. absurd (omega (arith, apart q p l (omega arith) e)) });
          };
      factor = λ q l. record { almost = almost_by_itself G t q; one = λ c. refl };
      kept = λ q. true;
      keeps_kernel = λ q l k. refl;
      keeps_itself = λ q l e. refl;
      redirects = λ q l p other. absurd (other refl);
      states = sym (all_counted t.states);
      letters = refl;
      final = λ q l k. ap t.final (all_counted q);
      target = λ q a l m k. ap (λ p. t.target p a) (all_counted q) ∙ sym (all_counted (t.target q a));
      weight = λ q a l m k. ap (λ p. t.weight p a) (all_counted q);
      start = sym (all_counted t.start);
      start_weight = refl;
    }
