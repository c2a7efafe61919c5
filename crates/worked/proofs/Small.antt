-- The drafts of a new book and of one state are correct. Assumes nothing.
use Rattle.std.proofs.Common.{◌≡◌, ℕ, ◌<◌, true, false, [], ◌∷◌, inl, sym, refl, ap, ◌∙◌, arith}
use Rattle.std.proofs.lemmas.Bool.{both_ways}
use Rattle.weights.specs.Check.{Residue, residue_of, units_257}
use Rattle.tables.specs.Table.{Table}
use Rattle.theory.specs.Runs.{Closed, Reachable, Dead}
use Rattle.theory.specs.Hyper.{Hyper}
use Rattle.theory.specs.Kernel.{CoPreamble}
use Rattle.theory.specs.Push.{Push}
use Rattle.theory.specs.Series.{Equivalent}
use Rattle.theory.proofs.Basics.{multiple_accepts}
use Rattle.theory.proofs.Determined.Canonical.{Canonical}
use Rattle.theory.proofs.Search.{final_push, push_unique, live_not_dead}
use Rattle.theory.proofs.Tests.{all_below, all_both, is_closed, closed_there}
use Rattle.worked.specs.Drafts.{Correct, source, new_book_draft, one_state_draft, off_alone}
use Rattle.worked.proofs.Answering.{sink_marks, none_co_kernel, minimized}
use Rattle.worked.proofs.Cases.{below_1, below_2, arcs_1, arcs_2}
use Rattle.worked.proofs.Dying.{dying_hyper}
use Rattle.worked.proofs.Own.{own_least}
use Rattle.worked.proofs.Part.{Part, part_least}
use Rattle.worked.proofs.Sink.{holds_fast, sinks, stays, sunk_co_preamble}

module _ (t : Table Residue) where
  -- a sink that is not final is dead, so it has no push
  sink_dead : (s : ℕ) → holds_fast t s ≡ true → t.final s ≡ false → Dead t s
  sink_dead s fast e = record { none = λ w h. ap t.final (stays t s fast w h) ∙ e }

  no_push : (s : ℕ) (x : Residue) → Dead t s → Push units_257 t s x → ⊥
  no_push s x d p =
      live_not_dead t s (record { by = p.word; is_word = p.smallest.is_word; accepted = p.smallest.accepted }) d

-- a new book: state 0 is the sink
off_fast : holds_fast (off_alone 1) 0 ≡ true
unfolding all_below holds_fast
off_fast = refl

off_closed : Closed (off_alone 1)
unfolding is_closed all_below all_both
off_closed = closed_there (off_alone 1) refl

off_dead : Dead (off_alone 1) 0
off_dead = sink_dead (off_alone 1) 0 off_fast refl

off_canonical : Canonical units_257 (off_alone 1)
off_canonical =
    record {
      closed = off_closed;
      reached = below_1 (Reachable (off_alone 1)) (record { by = []; is_word = tt; leads = refl });
      apart = λ q p l m e. omega arith;
      pushes =
          λ q x l p.
          absurd (below_1 (λ q. Push units_257 (off_alone 1) q x → ⊥) (no_push (off_alone 1) 0 x off_dead) q l p);
      dead_arcs = λ q a l m d. arcs_1 (λ q a. (off_alone 1).weight q a ≡ residue_of 1) refl q a l m;
      dead_start = λ d. refl;
      order =
          record {
            start_first = refl;
            arcs = λ q a i l m less. absurd (arcs_1 (λ q a. i < (off_alone 1).target q a → ⊥) (λ less. omega arith) q a l m less);
          };
    }

off_hyper : Hyper units_257 (off_alone 1) (off_alone 1) (λ q. 0) (λ q. residue_of 1)
unfolding all_below sinks
off_hyper =
    dying_hyper units_257 (off_alone 1) (off_alone 1) 0 0
    (record {
      inside = omega arith;
      start_inside = omega arith;
      some_letter = omega arith;
      fast = off_fast;
      few = refl;
      off = refl;
      before = refl;
      states = refl;
      letters = refl;
      final = refl;
      target = below_1 (λ a. (off_alone 1).target 0 a ≡ 0) refl;
      weight = λ a m. refl;
      start = refl;
      start_weight = refl;
    })

off_part : Part units_257 (source new_book_draft) (off_alone 1)
off_part =
    record {
      closed = off_closed;
      letters = refl;
      start = refl;
      start_weight = refl;
      final = below_1 (λ q. (off_alone 1).final q ≡ (source new_book_draft).final q) refl;
      target = arcs_1 (λ q a. (off_alone 1).target q a ≡ (source new_book_draft).target q a) refl;
      weight = arcs_1 (λ q a. (off_alone 1).weight q a ≡ (source new_book_draft).weight q a) refl;
    }

pub new_book_correct : Correct new_book_draft
unfolding sinks
new_book_correct =
    let m = new_book_draft.minimized in
    record {
      taken = refl;
      minimized =
          minimized units_257 m (source new_book_draft)
          (record {
            some_state = omega arith;
            few_states = omega arith;
            some_letter = omega arith;
            few_letters = omega arith;
            start_inside = omega arith;
            target_inside = arcs_1 (λ q a. (source new_book_draft).target q a < 1) (omega arith);
          })
          (part_least units_257 (source new_book_draft) (off_alone 1) off_part (off_alone 1) (own_least units_257 (off_alone 1) off_canonical))
          (sink_marks units_257 m 0 0 (record { some_letter = omega arith; fast = off_fast; few = refl; marks = λ q. refl }))
          (none_co_kernel units_257 m (λ q. refl)
          (below_1 (CoPreamble (off_alone 1)) (sunk_co_preamble (off_alone 1) 0 off_fast refl 0 0 refl)))
          off_hyper;
    }

-- one state: state 1 is the sink
abbrev two : Table Residue
two = one_state_draft.minimized.least

two_fast : holds_fast two 1 ≡ true
unfolding all_below holds_fast
two_fast = refl

two_closed : Closed two
unfolding is_closed all_below all_both
two_closed = closed_there two refl

two_dead : Dead two 1
two_dead = sink_dead two 1 two_fast refl

-- only state 0 accepts the empty word
two_apart : Equivalent units_257 two 0 1 → ⊥
two_apart e =
    let alike : true ≡ false = multiple_accepts units_257 two two 0 1 e.by [] tt (omega arith) in
    both_ways false refl (sym alike)

two_apart_too : Equivalent units_257 two 1 0 → ⊥
two_apart_too e =
    let alike : false ≡ true = multiple_accepts units_257 two two 1 0 e.by [] tt (omega arith) in
    both_ways false refl alike

two_canonical : Canonical units_257 two
two_canonical =
    record {
      closed = two_closed;
      reached =
          below_2 (Reachable two) (record { by = []; is_word = tt; leads = refl })
          (record { by = 0 ∷ []; is_word = (omega arith, tt); leads = refl });
      apart =
          λ q p l m.
          below_2 (λ q. Equivalent units_257 two q p → q ≡ p)
          (below_2 (λ p. Equivalent units_257 two 0 p → 0 ≡ p) (λ e. refl) (λ e. absurd (two_apart e)) p m)
          (below_2 (λ p. Equivalent units_257 two 1 p → 1 ≡ p) (λ e. absurd (two_apart_too e)) (λ e. refl) p m) q l;
      pushes =
          λ q x l.
          below_2 (λ q. Push units_257 two q x → x ≡ residue_of 1)
          (λ p. push_unique units_257 two 0 x (residue_of 1) p (final_push units_257 two 0 refl))
          (λ p. absurd (no_push two 1 x two_dead p)) q l;
      dead_arcs = λ q a l m d. arcs_2 (λ q a. two.weight q a ≡ residue_of 1) refl refl q a l m;
      dead_start = λ d. absurd (both_ways (two.final 0) (d.none [] tt) refl);
      order =
          record {
            start_first = refl;
            arcs =
                λ q a i l m less.
                inl
                (arcs_2 (λ q a. i < two.target q a → i ≡ 0) (λ less. omega arith) (λ less. omega arith) q a l m less);
          };
    }

two_hyper : Hyper units_257 two one_state_draft.minimized.hyper one_state_draft.minimized.representative one_state_draft.minimized.factor
unfolding all_below sinks
two_hyper =
    dying_hyper units_257 two one_state_draft.minimized.hyper 1 1
    (record {
      inside = omega arith;
      start_inside = omega arith;
      some_letter = omega arith;
      fast = two_fast;
      few = refl;
      off = refl;
      before = refl;
      states = refl;
      letters = refl;
      final = refl;
      target = below_1 (λ a. one_state_draft.minimized.hyper.target 0 a ≡ 0) refl;
      weight = below_1 (λ a. one_state_draft.minimized.hyper.weight 0 a ≡ two.weight 1 a) refl;
      start = refl;
      start_weight = refl;
    })

two_part : Part units_257 (source one_state_draft) two
two_part =
    record {
      closed = two_closed;
      letters = refl;
      start = refl;
      start_weight = refl;
      final = below_2 (λ q. two.final q ≡ (source one_state_draft).final q) refl refl;
      target = arcs_2 (λ q a. two.target q a ≡ (source one_state_draft).target q a) refl refl;
      weight = arcs_2 (λ q a. two.weight q a ≡ (source one_state_draft).weight q a) refl refl;
    }

pub one_state_correct : Correct one_state_draft
unfolding all_below sinks
one_state_correct =
    let m = one_state_draft.minimized in
    record {
      taken = refl;
      minimized =
          minimized units_257 m (source one_state_draft)
          (record {
            some_state = omega arith;
            few_states = omega arith;
            some_letter = omega arith;
            few_letters = omega arith;
            start_inside = omega arith;
            target_inside = arcs_2 (λ q a. (source one_state_draft).target q a < 2) (omega arith) (omega arith);
          })
          (part_least units_257 (source one_state_draft) two two_part two (own_least units_257 two two_canonical))
          (sink_marks units_257 m 1 1 (record { some_letter = omega arith; fast = two_fast; few = refl; marks = λ q. refl }))
          (none_co_kernel units_257 m (λ q. refl)
          (below_2 (CoPreamble two) (sunk_co_preamble two 1 two_fast refl 1 0 refl) (sunk_co_preamble two 1 two_fast refl 1 1 refl)))
          two_hyper;
    }
