-- A hyper table of a table is one of each table that is the same. Assumes nothing.
use Rattle.std.proofs.Common.{ℕ, ◌<◌, cond, List, inl, inr, sym, ap, ◌∙◌, subst, arith}
use Rattle.weights.specs.Group.{Group}
use Rattle.tables.specs.Table.{Table, Word, scaled}
use Rattle.theory.specs.Hyper.{Hyper, count_below}
use Rattle.theory.specs.Kernel.{Preamble, CoPreamble}
use Rattle.theory.specs.Runs.{led, Closed}
use Rattle.theory.specs.Series.{AlmostBy, AlmostEquivalent}
use Rattle.theory.specs.Theorems.{SameTable}
use Rattle.theory.proofs.Lengths.{finitely_fewer, all_but_fewer}
use Rattle.theory.proofs.Basics.{led_inside}
use Rattle.theory.proofs.Equal.{led_alike, weighs_from}

-- in the other order
pub same_turned : (G : Group) (t u : Table G.Mean) → SameTable G t u → SameTable G u t
same_turned G t u e =
    let state : (q : ℕ) → q < u.states → q < t.states = λ q l. subst (λ n. q < n) (sym e.states) l in
    let letter : (a : ℕ) → a < u.letters → a < t.letters = λ a l. subst (λ n. a < n) (sym e.letters) l in
    record {
      states = sym e.states;
      letters = sym e.letters;
      start = sym e.start;
      start_weight = sym e.start_weight;
      final = λ q l. sym (e.final q (state q l));
      target = λ q a l m. sym (e.target q a (state q l) (letter a m));
      weight = λ q a l m. sym (e.weight q a (state q l) (letter a m));
      kernel = λ q l. let k = e.kernel q (state q l) in (k.1, k.0);
      co_kernel = λ q l. let k = e.co_kernel q (state q l) in (k.1, k.0);
    }

module _ (G : Group) (t u : Table G.Mean) (closed : Closed t) (e : SameTable G t u) where
  there : (w : List ℕ) → Word u.letters w → Word t.letters w
  there w h = subst (λ s. Word s w) (sym e.letters) h

  almost_by : (k : G.Mean) (q p : ℕ) → q < t.states → p < t.states → AlmostBy G t k q p → AlmostBy G u k q p
  almost_by k q p l m h =
      record {
        words =
            all_but_fewer
            (λ w word. (
              there w word,
              λ x.
                  sym (weighs_from G t u closed e q w l (there w word))
                  ∙ x
                  ∙ ap (scaled G k) (weighs_from G t u closed e p w m (there w word)),
            ))
            h.words;
      }

  almost : (q p : ℕ) → q < t.states → p < t.states → AlmostEquivalent G t q p → AlmostEquivalent G u q p
  almost q p l m h = record { factor = h.factor; by = almost_by h.factor q p l m h.by }

  preamble : (q : ℕ) → Preamble t q → Preamble u q
  preamble q h =
      record {
        words =
            finitely_fewer
            (λ w word to. (
              there w word,
              led_alike t u closed e.target t.start w closed.start_inside (there w word) ∙ ap (λ p. led u p w) e.start ∙ to,
            ))
            h.words;
      }

  co_preamble : (q : ℕ) → q < t.states → CoPreamble t q → CoPreamble u q
  co_preamble q l h =
      record {
        words =
            finitely_fewer
            (λ w word accepted. (
              there w word,
              e.final (led t q w) (led_inside t closed q w l (there w word))
                  ∙ ap u.final (led_alike t u closed e.target q w l (there w word))
                  ∙ accepted,
            ))
            h.words;
      }

module _ (G : Group) (t u h : Table G.Mean) (r : ℕ → ℕ) (f : ℕ → G.Mean) (closed : Closed t) (closed' : Closed u)
    (e : SameTable G t u) (x : Hyper G t h r f) where
  back : SameTable G u t
  back = same_turned G t u e

  state : (q : ℕ) → q < u.states → q < t.states
  state q l = subst (λ n. q < n) (sym e.states) l

  other : (q : ℕ) → q < t.states → q < u.states
  other q l = subst (λ n. q < n) e.states l

  letter : (a : ℕ) → a < u.letters → a < t.letters
  letter a l = subst (λ n. a < n) (sym e.letters) l

  almost_back : (q p : ℕ) → q < u.states → p < u.states → AlmostEquivalent G u q p → AlmostEquivalent G t q p
  almost_back = almost G u t closed' back

  pub hyper_of_same : Hyper G u h r f
  hyper_of_same =
      record {
        representative =
            λ q l.
            let y = x.representative q (state q l) in
            record {
              inside = other (r q) y.inside;
              almost = almost G t u closed e q (r q) (state q l) y.inside y.almost;
              smallest =
                  elim y.smallest [
                    | inl s ↦
                        inl
                        (record {
                          kernel = (e.kernel (r q) y.inside).0 s.kernel;
                          smallest =
                              λ p m a.
                              preamble G t u closed e p (s.smallest p m (almost_back q p l (other p (omega (arith, m, y.inside))) a));
                        })
                    | inr s ↦
                        inr
                        (record {
                          preamble =
                              λ p m a. preamble G t u closed e p (s.preamble p (state p m) (almost_back q p l m a));
                          smallest = λ p m a. s.smallest p m (almost_back q p l (other p (omega (arith, m, y.inside))) a);
                        })
                  ];
            };
        factor =
            λ q l.
            let y = x.factor q (state q l) in
            record {
              almost = almost_by G t u closed e (f q) q (r q) (state q l) (x.representative q (state q l)).inside y.almost;
              one = λ c. y.one (co_preamble G u t closed' back q l c);
            };
        kept = x.kept;
        keeps_kernel = λ q l k. x.keeps_kernel q (state q l) ((e.kernel q (state q l)).1 k);
        keeps_itself = λ q l. x.keeps_itself q (state q l);
        redirects = λ q l p. x.redirects q (state q l) (preamble G u t closed' back q p);
        states = x.states ∙ ap (count_below x.kept) e.states;
        letters = x.letters ∙ e.letters;
        final = λ q l k. x.final q (state q l) k ∙ e.final q (state q l);
        target =
            λ q a l m k.
            x.target q a (state q l) (letter a m) k
            ∙ ap (λ p. count_below x.kept (cond (x.kept p) p (r p))) (e.target q a (state q l) (letter a m));
        weight =
            λ q a l m k.
            x.weight q a (state q l) (letter a m) k
            ∙ ap (λ p. cond (x.kept p) (t.weight q a) (G.mul (t.weight q a) (f p))) (e.target q a (state q l) (letter a m))
            ∙ ap (λ w. cond (x.kept (u.target q a)) w (G.mul w (f (u.target q a)))) (e.weight q a (state q l) (letter a m));
        start = x.start ∙ ap (λ p. count_below x.kept (cond (x.kept p) p (r p))) e.start;
        start_weight =
            x.start_weight
            ∙ ap (λ p. cond (x.kept p) t.start_weight (G.mul t.start_weight (f p))) e.start
            ∙ ap (λ w. cond (x.kept u.start) w (G.mul w (f u.start))) e.start_weight;
      }
