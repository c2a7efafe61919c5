-- A table is minimized to what its least and hyper tables and their marks are. Assumes nothing.
use Rattle.std.proofs.Common.{◌≡◌, ℕ, ◌<◌, true, false, eqb, sym, refl, ◌∙◌, subst}
use Rattle.std.proofs.lemmas.Bool.{both_ways, eqb-true, eq-eqb}
use Rattle.weights.specs.Group.{Group}
use Rattle.tables.specs.Table.{Table, Lawful}
use Rattle.theory.specs.Kernel.{Kernel, Preamble, CoKernel, CoPreamble}
use Rattle.theory.specs.Least.{Least}
use Rattle.theory.specs.Hyper.{Hyper}
use Rattle.theory.proofs.Minimal.{least_closed}
use Rattle.theory.proofs.Determined.{least_is_determined}
use Rattle.theory.proofs.Single.{hyper_is_determined}
use Rattle.theory.proofs.Agreement.{hyper_agrees}
use Rattle.worked.specs.Minimized.{Minimized, MinimizedTo}
use Rattle.worked.proofs.Sink.{holds_fast, sinks, sink_kernel, other_preamble}

module _ (G : Group) (m : Minimized G) where
  -- the states that are marked kernel are, and the others are preamble
  pub record Marks : Type 0 where
    pub kernel : (q : ℕ) → q < m.least.states → m.kernel q ≡ true → Kernel m.least q
    pub preamble : (q : ℕ) → q < m.least.states → m.kernel q ≡ false → Preamble m.least q

  -- the states that are marked co-kernel are, and the others are co-preamble
  pub record CoMarks : Type 0 where
    pub co_kernel : (q : ℕ) → q < m.least.states → m.co_kernel q ≡ true → CoKernel m.least q
    pub co_preamble : (q : ℕ) → q < m.least.states → m.co_kernel q ≡ false → CoPreamble m.least q

  pub all_kernel :
      ((q : ℕ) → m.kernel q ≡ true) → ((q : ℕ) → q < m.least.states → Kernel m.least q) → Marks
  all_kernel marked each =
      record { kernel = λ q l e. each q l; preamble = λ q l e. absurd (both_ways (m.kernel q) e (marked q)) }

  pub all_co_kernel :
      ((q : ℕ) → m.co_kernel q ≡ true) → ((q : ℕ) → q < m.least.states → CoKernel m.least q) → CoMarks
  all_co_kernel marked each =
      record { co_kernel = λ q l e. each q l; co_preamble = λ q l e. absurd (both_ways (m.co_kernel q) e (marked q)) }

  pub none_co_kernel :
      ((q : ℕ) → m.co_kernel q ≡ false) → ((q : ℕ) → q < m.least.states → CoPreamble m.least q) → CoMarks
  none_co_kernel marked each =
      record { co_kernel = λ q l e. absurd (both_ways (m.co_kernel q) (marked q) e); co_preamble = λ q l e. each q l }

  -- state s is the sink of the least table: n letters lead there, and it is the state that is marked
  pub record SinkTests (s n : ℕ) : Type 0 where
    pub some_letter : 0 < m.least.letters
    pub fast : holds_fast m.least s ≡ true
    pub few : sinks m.least s n m.least.start ≡ true
    pub marks : (q : ℕ) → m.kernel q ≡ eqb q s

  pub sink_marks : (s n : ℕ) → SinkTests s n → Marks
  sink_marks s n sink =
      record {
        kernel =
            λ q l e.
            subst (Kernel m.least) (sym (eqb-true q s (sym (sink.marks q) ∙ e)))
            (sink_kernel m.least s sink.fast n sink.few sink.some_letter);
        preamble =
            λ q l e.
            other_preamble m.least s sink.fast n sink.few q
            (λ one. both_ways (m.kernel q) e (sink.marks q ∙ eq-eqb q s one));
      }

  pub minimized :
      (t : Table G.Mean) → Lawful t → Least G t m.least → Marks → CoMarks → Hyper G m.least m.hyper m.representative m.factor →
      MinimizedTo G t m
  minimized t lawful least marks co_marks hyper =
      record {
        least = least;
        only_least =
            λ l h.
            (least_is_determined G t t m.least l lawful lawful least h).1 (record { letters = refl; words = λ w h. refl });
        kernel = marks.kernel;
        preamble = marks.preamble;
        co_kernel = co_marks.co_kernel;
        co_preamble = co_marks.co_preamble;
        hyper = hyper;
        only_hyper =
            λ h r f x.
            hyper_is_determined G m.least m.hyper h m.representative r m.factor f (least_closed G t m.least lawful least) hyper x;
        agree = hyper_agrees G t m.least m.hyper m.representative m.factor lawful least hyper;
      }
