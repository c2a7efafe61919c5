-- The drafts of the wheel and of the beam wheel are correct. Assumes nothing.
use Rattle.std.proofs.Common.{◌≡◌, ℕ, true, cond, eqb, List, [], ◌∷◌, get_or, map, Ok, lit<, arith, rules}
use Rattle.weights.specs.Group.{Kind}
use Rattle.weights.specs.Wheel.{Place, wheel_place, beam_wheel_place}
use Rattle.tables.specs.Sketch.{blank, answers_of}
use Rattle.tables.specs.Table.{Lawful}
use Rattle.theory.specs.Least.{Least}
use Rattle.theory.proofs.Tests.{all_below, any_below, all_both, is_word, is_closed, closed_there, Coded, same, ratio}
use Rattle.theory.proofs.LeastTests.{is_first, is_met, differ, LeastTests, tested_least}
use Rattle.theory.proofs.HyperTests.{goes_round, settles, diverge, Witnesses, HyperTests, tested_hyper, all_co_kernel, marked_kernel, other_preamble}
use Rattle.worked.specs.Minimized.{Minimized}
use Rattle.worked.specs.Drafts.{Draft, Correct, source, wheel_draft, beam_wheel_draft}
use Rattle.worked.proofs.Answering.{all_co_kernel as marked_co_kernel, minimized}
use Rattle.worked.proofs.Quotient.{QuotientTests, tested_quotient, quotient_least, coded}

module _ {W : Type 0} {K : Kind W} (d : Draft K) where
  abbrev m : Minimized K.group
  m = d.minimized

  -- from the one kernel state letter 0 leads back, and every state leads there by two letters
  abbrev witnesses : Witnesses
  witnesses =
      record {
        kernel = m.kernel;
        before = 0 ∷ 0 ∷ [];
        round = 0 ∷ [];
        after = λ q. [];
        few = 2;
        out = 0 ∷ 0 ∷ [];
        again = 0 ∷ [];
        one = 0 ∷ 0 ∷ [];
        two = 1 ∷ 1 ∷ [];
      }

  -- the smallest word that is accepted from a state
  abbrev first : ℕ → List ℕ
  first q = cond (m.least.final q) [] (0 ∷ [])

  -- Word by q leads to state q of the least table, and the words of one letter tell its states apart. A drawn state has a class
  -- there, and a factor.
  record Tests (c : Coded K.group) (by : ℕ → List ℕ) (class : ℕ → ℕ) (factor : ℕ → K.group.Mean) : Type 0 where
    taken : answers_of d.room blank d.calls ≡ map (λ k. Ok tt) d.calls
    states : (source d).states ≡ 5
    letters : (source d).letters ≡ 2
    closed : is_closed (source d) ≡ true
    drawn : QuotientTests K.group c (source d) m.least 4 class factor
    least : LeastTests K.group c m.least m.least by first (0 ∷ []) (1 ∷ [])
    hyper : HyperTests K.group c m.least m.hyper m.representative m.factor witnesses
    co_kernel : (q : ℕ) → m.co_kernel q ≡ true

  module _ (c : Coded K.group) (by : ℕ → List ℕ) (class : ℕ → ℕ) (factor : ℕ → K.group.Mean) (x : Tests c by class factor) where
    lawful : Lawful (source d)
    lawful =
        let closed = closed_there (source d) x.closed in
        record {
          some_state = omega (arith, x.states);
          few_states = omega (arith, x.states);
          some_letter = omega (arith, x.letters);
          few_letters = omega (arith, x.letters);
          start_inside = closed.start_inside;
          target_inside = closed.target_inside;
        }

    least : Least K.group (source d) m.least
    least =
        quotient_least K.group (source d) m.least 4 class factor
        (tested_quotient K.group c (source d) m.least 4 class factor x.drawn) m.least
        (tested_least K.group c m.least m.least by first (0 ∷ []) (1 ∷ []) x.least)

    tested : Correct d
    tested =
        record {
          taken = x.taken;
          minimized =
              minimized K.group m (source d) lawful least
              (record {
                kernel = marked_kernel K.group c m.least m.hyper m.representative m.factor witnesses x.hyper;
                preamble = λ q l e. other_preamble K.group c m.least m.hyper m.representative m.factor witnesses x.hyper q e;
              })
              (marked_co_kernel K.group m x.co_kernel (all_co_kernel K.group c m.least m.hyper m.representative m.factor witnesses x.hyper))
              (tested_hyper K.group c m.least m.hyper m.representative m.factor witnesses x.hyper);
        }

-- states 1 and 2 have one class on the wheel, and each its own on the beam wheel; the factor of state 2 is 360
wheel_by : ℕ → List ℕ
wheel_by q = get_or ([] ∷ (0 ∷ []) ∷ (0 ∷ 0 ∷ []) ∷ []) q []

wheel_class : ℕ → ℕ
wheel_class q = get_or (0 ∷ 1 ∷ 1 ∷ 2 ∷ []) q 0

wheel_factor : ℕ → Place 720
wheel_factor q = wheel_place (cond (eqb q 2) 360 0)

wheel_tests : Tests wheel_draft (coded 720 (lit< tt)) wheel_by wheel_class wheel_factor
unfolding all_below any_below all_both is_word is_closed same ratio is_first is_met differ goes_round settles diverge wheel_by wheel_class wheel_factor
wheel_tests = search rules

beam_wheel_by : ℕ → List ℕ
beam_wheel_by q = get_or ([] ∷ (0 ∷ []) ∷ (1 ∷ []) ∷ (0 ∷ 0 ∷ []) ∷ []) q []

beam_wheel_factor : ℕ → Place 1440
beam_wheel_factor q = beam_wheel_place (cond (eqb q 2) 360 0)

beam_wheel_tests : Tests beam_wheel_draft (coded 1440 (lit< tt)) beam_wheel_by (λ q. q) beam_wheel_factor
unfolding all_below any_below all_both is_word is_closed same ratio is_first is_met differ goes_round settles diverge beam_wheel_by beam_wheel_factor
beam_wheel_tests = search rules

pub wheel_correct : Correct wheel_draft
wheel_correct = tested wheel_draft (coded 720 (lit< tt)) wheel_by wheel_class wheel_factor wheel_tests

pub beam_wheel_correct : Correct beam_wheel_draft
beam_wheel_correct = tested beam_wheel_draft (coded 1440 (lit< tt)) beam_wheel_by (λ q. q) beam_wheel_factor beam_wheel_tests
