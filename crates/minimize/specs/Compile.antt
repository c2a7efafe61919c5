-- What compiling a source comes to: the tables, lists and counts that it leaves, and what is promised of them. Assumes nothing.
use Rattle.std.specs.Prelude.{◌≡◌, ℕ, ◌+◌, ◌*◌, ◌<◌, ◌≤◌, ◌↔◌, Bool, true, false, List, cond, length, Ok, Err, Result, slice_index}
use Rattle.weights.specs.Group.{Kind}
use Rattle.weights.specs.Refusal.{told, bare}
use Rattle.weights.specs.declared.refusal.Refusal.{Refusal}
use Rattle.tables.specs.Table.{Table, Lawful, WeighAlike}
use Rattle.tables.specs.Book.{Contents, laid}
use Rattle.tables.specs.Sheet.{mean_at, sheet_table}
use Rattle.theory.specs.Runs.{Closed}
use Rattle.theory.specs.Series.{WeighAlikeFrom, AlmostWeighAlike}
use Rattle.theory.specs.Least.{Least}
use Rattle.theory.specs.Kernel.{Kernel, Preamble, CoKernel, CoPreamble}
use Rattle.theory.specs.Hyper.{Hyper, count_below}
use Rattle.theory.specs.Theorems.{LengthsTell, Minimal, SameTable, SameHyper, agreement_length}
use Rattle.minimize.specs.Lists.{ListsFollow}
use Rattle.minimize.specs.Rows.{rows_table, Laid}
use Rattle.minimize.specs.Memories.{Memories, Room, SameLengths}
use Rattle.minimize.specs.View.{view_table}
use Rattle.minimize.specs.declared.compiler.Report.{Report}

-- a mark is 1 for final, 2 for kernel and 4 for co-kernel, added up
abbrev pub mark_of : (final kernel co_kernel : Bool) → ℕ
mark_of final kernel co_kernel = cond final 1 0 + cond kernel 2 0 + cond co_kernel 4 0

-- a flag tells which of two facts holds
abbrev pub Tells : Bool → Type 0 → Type 0 → Type 0
Tells b X Y = elim b [ true ↦ X | false ↦ Y ]

-- where the least table, of s letters, and the hyper table lie, by what the report tells of their states
abbrev pub least_in : {W : Type 0} → ℕ → Memories W → Report → Contents W
least_in s m r = laid m.targets m.weights m.marks s r.least

abbrev pub hyper_in : {W : Type 0} → ℕ → Memories W → Report → Contents W
hyper_in s m r = laid m.hyper_targets m.hyper_weights m.hyper_marks s r.hyper

-- Two memories hold the same least table of s letters, place by place: count, targets and marks as numbers, and weights by what they
-- mean.
pub record SameLeast {W : Type 0} (K : Kind W) (s : ℕ) (m : Memories W) (r : Report) (n : Memories W) (p : Report) : Type 0 where
  pub count : r.least ≡ p.least
  pub targets : (k : ℕ) → k < 1 + r.least * s → slice_index m.targets k ≡ slice_index n.targets k
  pub weights : (k : ℕ) → k < 1 + r.least * s → mean_at K m.weights k ≡ mean_at K n.weights k
  pub marks : (q : ℕ) → q < r.least → slice_index m.marks q ≡ slice_index n.marks q

module _ {W : Type 0} (K : Kind W) where
  -- The memories hold what is defined for a source that means t: its least table, the hyper table, and for each state of the least
  -- table a mark, a representative and a factor; and the report tells the counts. What lies beyond these places is free, and so is
  -- the memory for work.
  pub record Compiled (t : Table K.group.Mean) (m : Memories W) (r : Report) : Type 0 where
    pub least_laid : Laid K (least_in t.letters m r)
    pub hyper_laid : Laid K (hyper_in t.letters m r)
    pub representative_room : r.least ≤ length m.representatives
    pub factor_room : r.least ≤ length m.factors
    pub least : Least K.group t (rows_table K (least_in t.letters m r))
    pub hyper :
        Hyper K.group (rows_table K (least_in t.letters m r)) (rows_table K (hyper_in t.letters m r)) (slice_index m.representatives)
        (mean_at K m.factors)
    -- which states of the least table are kernel, and which are co-kernel
    pub kernel : ℕ → Bool
    pub is_kernel :
        (q : ℕ) → q < r.least →
        Tells (kernel q) (Kernel (rows_table K (least_in t.letters m r)) q) (Preamble (rows_table K (least_in t.letters m r)) q)
    pub co_kernel : ℕ → Bool
    pub is_co_kernel :
        (q : ℕ) → q < r.least →
        Tells (co_kernel q) (CoKernel (rows_table K (least_in t.letters m r)) q) (CoPreamble (rows_table K (least_in t.letters m r)) q)
    pub marks :
        (q : ℕ) → q < r.least →
        slice_index m.marks q ≡ mark_of ((rows_table K (least_in t.letters m r)).final q) (kernel q) (co_kernel q)
    -- a kept state keeps its mark
    pub hyper_marks :
        (q : ℕ) → q < r.least → hyper.kept q ≡ true → slice_index m.hyper_marks (count_below hyper.kept q) ≡ slice_index m.marks q
    pub kernel_count : r.kernel ≡ count_below kernel r.least
    pub agreement : r.agreement ≡ agreement_length r.least

  -- What follows for a source that means t, of the tables that are left in the memories. The tables that are spoken of may have any
  -- number of states.
  pub record Promised (t : Table K.group.Mean) (m : Memories W) (r : Report) : Type 0 where
    -- the least table weighs every word as the source does, and no table that does so has fewer states; no two of its states are
    -- equivalent, and each push in it is one
    pub minimal : Minimal K.group t (rows_table K (least_in t.letters m r))
    -- no other tables, representatives and factors are the defined ones
    pub the_least : (l : Table K.group.Mean) → Least K.group t l → SameTable K.group (rows_table K (least_in t.letters m r)) l
    pub the_hyper :
        (h : Table K.group.Mean) (q : ℕ → ℕ) (f : ℕ → K.group.Mean) → Hyper K.group (rows_table K (least_in t.letters m r)) h q f →
        SameHyper K.group (rows_table K (least_in t.letters m r)) (rows_table K (hyper_in t.letters m r)) h
        (slice_index m.representatives) q (mean_at K m.factors) f
    -- source and hyper table weigh every word alike that has at least as many letters as the report tells
    pub agree : WeighAlikeFrom K.group r.agreement t (rows_table K (hyper_in t.letters m r))
    -- so they weigh all words alike but those of some list
    pub almost : AlmostWeighAlike K.group t (rows_table K (hyper_in t.letters m r))
    -- every table of the kind and the letters that weighs all words but those of some list as the source does has at least as many
    -- states as the hyper table
    pub fewest : (b : Table K.group.Mean) → Closed b → AlmostWeighAlike K.group t b → r.hyper ≤ b.states
    -- whether finitely many words pass a test, infinitely many, or all but finitely many, is told by their lengths
    pub lengths_tell : (test : List ℕ → Bool) → LengthsTell (λ w. test w ≡ true)
    -- Any other source of the kind and the letters, wherever it was compiled: the least tables that are left are equal in count,
    -- targets, weights and marks exactly where both sources weigh every word alike.
    pub canonical :
        (u : Table K.group.Mean) (n : Memories W) (p : Report) → Lawful u → u.letters ≡ t.letters → Compiled u n p →
        SameLeast K t.letters m r n p ↔ WeighAlike K.group t u
    -- Both tables can be read where they lie. A view over one means just that table. A sheet over one has the off state besides, and
    -- weighs every word alike; it can be made where the table has at most 4095 states.
    pub least_viewed : SameTable K.group (view_table K (least_in t.letters m r)) (rows_table K (least_in t.letters m r))
    pub hyper_viewed : SameTable K.group (view_table K (hyper_in t.letters m r)) (rows_table K (hyper_in t.letters m r))
    pub least_sheet : r.least ≤ 4095 → WeighAlike K.group (sheet_table K (least_in t.letters m r)) (rows_table K (least_in t.letters m r))
    pub hyper_sheet : r.hyper ≤ 4095 → WeighAlike K.group (sheet_table K (hyper_in t.letters m r)) (rows_table K (hyper_in t.letters m r))

  -- What compiling answers, by what its memories held before and hold after: where they have room, a report, and tables, lists and
  -- counts are as defined and promised; else it refuses with 6, and all is left as it was.
  pub record Finished (t : Table K.group.Mean) (before after : Memories W) (r : Report) : Type 0 where
    pub room : Room t.states t.letters before
    pub lengths : SameLengths before after
    pub compiled : Compiled t after r
    pub promised : Promised t after r
    -- what is promised of books goes with it, so that one contract has the whole: a table that is compiled may be a drawn one
    pub lists : ListsFollow K

  pub record Refused (t : Table K.group.Mean) (before after : Memories W) (e : Refusal) : Type 0 where
    pub number : told e ≡ bare 6
    pub no_room : Room t.states t.letters before → ⊥
    pub kept : after ≡ before

  abbrev pub Outcome : Table K.group.Mean → Memories W → Memories W → Result Report Refusal → Type 0
  Outcome t before after (Ok r) = Finished t before after r
  Outcome t before after (Err e) = Refused t before after e
