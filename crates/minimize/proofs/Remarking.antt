-- A table whose finality is told otherwise, but the same. Assumes nothing.
use Rattle.std.proofs.Common.{◌≡◌, ℕ, ◌<◌, Bool, List, [], ◌∷◌, sym, refl, ap, ◌∙◌}
use Rattle.weights.specs.Codes.{within}
use Rattle.weights.specs.Group.{Group}
use Rattle.tables.specs.Table.{Table, Word, scaled, weight_from}
use Rattle.theory.specs.Runs.{led, accepts, Closed}
use Rattle.theory.specs.Series.{Equivalent}
use Rattle.theory.specs.Least.{Least}
use Rattle.theory.specs.Kernel.{Kernel, Preamble, CoKernel, CoPreamble}
use Rattle.theory.proofs.Lengths.{finitely_fewer, infinitely_more}
use Rattle.theory.proofs.Basics.{led_inside}
use Rattle.minimize.specs.Compile.{Tells}
use Rattle.minimize.proofs.Peeling.{told_as}

-- the table with other final states
abbrev pub remarked : {M : Type 0} → Table M → (ℕ → Bool) → Table M
remarked t f =
    record {
      states = t.states;
      letters = t.letters;
      start = t.start;
      start_weight = t.start_weight;
      final = f;
      target = t.target;
      weight = t.weight;
    }

module _ {M : Type 0} (t : Table M) (f : ℕ → Bool) where
  remarked_led : (q : ℕ) (w : List ℕ) → led (remarked t f) q w ≡ led t q w
  remarked_led q [] = refl
  remarked_led q (a ∷ w) = remarked_led (t.target q a) w

  pub remarked_closed : Closed t → Closed (remarked t f)
  remarked_closed closed = record { start_inside = closed.start_inside; target_inside = closed.target_inside }

  remarked_kernel : (q : ℕ) → Kernel t q → Kernel (remarked t f) q
  remarked_kernel q k =
      record {
        words = infinitely_more (λ w h e. (h, remarked_led t.start w ∙ e)) k.words;
      }

  remarked_preamble : (q : ℕ) → Preamble t q → Preamble (remarked t f) q
  remarked_preamble q p =
      record {
        words = finitely_fewer (λ w h e. (h, sym (remarked_led t.start w) ∙ e)) p.words;
      }

  pub remarked_told_kernel :
      (m : ℕ → Bool) → ((q : ℕ) → q < t.states → Tells (m q) (Kernel t q) (Preamble t q)) → (q : ℕ) → q < t.states →
      Tells (m q) (Kernel (remarked t f) q) (Preamble (remarked t f) q)
  remarked_told_kernel m told q l = told_as (m q) (remarked_kernel q) (remarked_preamble q) (told q l)

  -- where f says what the table says of its states
  module _ (closed : Closed t) (same : (q : ℕ) → q < t.states → f q ≡ t.final q) where
    remarked_accepts : (q : ℕ) (w : List ℕ) → q < t.states → Word t.letters w → accepts (remarked t f) q w ≡ accepts t q w
    remarked_accepts q w l h = ap f (remarked_led q w) ∙ same (led t q w) (led_inside t closed q w l h)

    remarked_co_kernel : (q : ℕ) → q < t.states → CoKernel t q → CoKernel (remarked t f) q
    remarked_co_kernel q l k =
        record {
          words = infinitely_more (λ w h e. (h, remarked_accepts q w l h ∙ e)) k.words;
        }

    remarked_co_preamble : (q : ℕ) → q < t.states → CoPreamble t q → CoPreamble (remarked t f) q
    remarked_co_preamble q l p =
        record {
          words = finitely_fewer (λ w h e. (h, sym (remarked_accepts q w l h) ∙ e)) p.words;
        }

    pub remarked_told_co_kernel :
        (m : ℕ → Bool) → ((q : ℕ) → q < t.states → Tells (m q) (CoKernel t q) (CoPreamble t q)) → (q : ℕ) → q < t.states →
        Tells (m q) (CoKernel (remarked t f) q) (CoPreamble (remarked t f) q)
    remarked_told_co_kernel m told q l = told_as (m q) (remarked_co_kernel q l) (remarked_co_preamble q l) (told q l)

-- words weigh what they did, so the same states are equivalent
module _
    (G : Group)
    (t : Table G.Mean)
    (f : ℕ → Bool)
    (closed : Closed t)
    (same : (q : ℕ) → q < t.states → f q ≡ t.final q)
  where
    remarked_weighs :
        (q : ℕ) (w : List ℕ) → q < t.states → Word t.letters w → weight_from G (remarked t f) q w ≡ weight_from G t q w
    remarked_weighs q [] l h = ap (λ b. within b G.one) (same q l)
    remarked_weighs q (a ∷ w) l h =
        ap (scaled G (t.weight q a)) (remarked_weighs (t.target q a) w (closed.target_inside q a l h.0) h.1)

    pub remarked_equivalent :
        (q p : ℕ) → q < t.states → p < t.states → Equivalent G (remarked t f) q p → Equivalent G t q p
    remarked_equivalent q p l m e =
        record {
          factor = e.factor;
          by =
              record {
                words =
                    λ w h n.
                    sym (remarked_weighs q w l h) ∙ e.by.words w h n ∙ ap (scaled G e.factor) (remarked_weighs p w m h);
              };
        }

-- it is the least table of what it was that of
pub remarked_least :
    (G : Group) (t l : Table G.Mean) (f : ℕ → Bool) → ((q : ℕ) → q < l.states → f q ≡ l.final q) → Least G t l →
    Least G t (remarked l f)
remarked_least G t l f same least =
    record {
      letters = least.letters;
      class = least.class;
      class_inside = least.class_inside;
      class_met = least.class_met;
      one_class = least.one_class;
      equivalent = least.equivalent;
      start = least.start;
      final = λ q r. same (least.class q) (least.class_inside q r) ∙ least.final q r;
      target = least.target;
      weight_live = least.weight_live;
      weight_dead = least.weight_dead;
      start_weight = least.start_weight;
      order = record { start_first = least.order.start_first; arcs = least.order.arcs };
    }
