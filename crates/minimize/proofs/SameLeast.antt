-- Least tables in two memories, compared as tables and place by place. Assumes nothing.
use Rattle.std.proofs.Common.{◌≡◌, ℕ, zero, suc, ◌+◌, ◌*◌, ◌/◌, ◌%◌, mod-lt, ◌<◌, ◌≤◌, ◌↔◌, Bool, true, false, ◌==◌, slice_index, refl, sym, ap, ◌∙◌, subst, inl, inr, arith}
use Rattle.std.proofs.lemmas.Bool.{cases_Bool}
use Rattle.std.proofs.lemmas.Nat.{div-add-mod', div_below}
use Rattle.weights.specs.Group.{Kind}
use Rattle.tables.specs.Table.{Table}
use Rattle.tables.specs.Book.{Contents, place}
use Rattle.tables.specs.Sheet.{mean_at}
use Rattle.tables.proofs.Places.{place_inside}
use Rattle.theory.specs.Kernel.{Kernel, Preamble, CoKernel, CoPreamble}
use Rattle.theory.specs.Theorems.{SameTable}
use Rattle.theory.proofs.Search.{kernel_not_preamble, co_kernel_not_preamble}
use Rattle.minimize.specs.Rows.{rows_table}
use Rattle.minimize.specs.Memories.{Memories}
use Rattle.minimize.specs.Compile.{mark_of, Tells, least_in, SameLeast, Compiled}
use Rattle.minimize.specs.Marking.{MarkedBy}
use Rattle.minimize.specs.declared.compiler.Report.{Report}
use Rattle.minimize.proofs.Choosing.{told_true, told_false}

-- a place of n rows of s places each is the start's or that of an arc
module _ {X : Type 0} (f g : ℕ → X) (n s : ℕ) (some : 1 ≤ s) (start : f 0 ≡ g 0)
    (arcs : (q a : ℕ) → q < n → a < s → f (place s q a) ≡ g (place s q a)) where
  every_place : (k : ℕ) → k < 1 + n * s → f k ≡ g k
  every_place zero l = start
  every_place (suc k) l =
      let e : place s (k / s) (k % s) ≡ suc k = omega (arith, div-add-mod' k s) in
      subst (λ j. f j ≡ g j) e (arcs (k / s) (k % s) (div_below k s n some (omega arith)) (mod-lt k some))

-- what a mark is made of
made_kernel : (f k o : Bool) → (mark_of f k o / 2 % 2 == 1) ≡ k
made_kernel true true true = refl
made_kernel true true false = refl
made_kernel true false true = refl
made_kernel true false false = refl
made_kernel false true true = refl
made_kernel false true false = refl
made_kernel false false true = refl
made_kernel false false false = refl

made_co_kernel : (f k o : Bool) → (mark_of f k o / 4 == 1) ≡ o
made_co_kernel true true true = refl
made_co_kernel true true false = refl
made_co_kernel true false true = refl
made_co_kernel true false false = refl
made_co_kernel false true true = refl
made_co_kernel false true false = refl
made_co_kernel false false true = refl
made_co_kernel false false false = refl

-- a flag that tells which of two facts holds, where both cannot
flag : (b : Bool) (X Y : Type 0) → Tells b X Y → (X → Y → ⊥) → (b ≡ true) ↔ X
flag b X Y x apart = (
  λ on. told_true b X Y on x,
  λ is.
      elim (cases_Bool b) [
        | inl on ↦ on
        | inr off ↦ absurd (apart is (told_false b X Y off x))
      ],
)

flags_alike : (b c : Bool) → ((b ≡ true) ↔ (c ≡ true)) → b ≡ c
flags_alike true true e = refl
flags_alike true false e = sym (e.0 refl)
flags_alike false true e = e.1 refl
flags_alike false false e = refl

module _ {W : Type 0} (K : Kind W) (c : Contents W) (k o : ℕ → Bool) (marked : MarkedBy K c k o) (q : ℕ) (l : q < c.count) where
  kernel_flag : (k q ≡ true) ↔ Kernel (rows_table K c) q
  kernel_flag =
      let t = rows_table K c in
      flag (k q) (Kernel t q) (Preamble t q) (marked.is_kernel q l) (kernel_not_preamble t q)

  co_kernel_flag : (o q ≡ true) ↔ CoKernel (rows_table K c) q
  co_kernel_flag =
      let t = rows_table K c in
      flag (o q) (CoKernel t q) (CoPreamble t q) (marked.is_co_kernel q l) (co_kernel_not_preamble t q)

module _ {W : Type 0} (K : Kind W) (c d : Contents W) (k o k' o' : ℕ → Bool) (marked : MarkedBy K c k o) (marked' : MarkedBy K d k' o')
    (q : ℕ) (l : q < c.count) (i : q < d.count) where
  -- states that are kernel, co-kernel and final in both tables have one mark
  marks_same :
      Kernel (rows_table K c) q ↔ Kernel (rows_table K d) q → CoKernel (rows_table K c) q ↔ CoKernel (rows_table K d) q →
      (rows_table K c).final q ≡ (rows_table K d).final q → slice_index c.marks q ≡ slice_index d.marks q
  marks_same x y z =
      let e = kernel_flag K c k o marked q l in
      let e' = kernel_flag K d k' o' marked' q i in
      let f = co_kernel_flag K c k o marked q l in
      let f' = co_kernel_flag K d k' o' marked' q i in
      let kernel : k q ≡ k' q = flags_alike (k q) (k' q) (λ on. e'.1 (x.0 (e.0 on)), λ on. e.1 (x.1 (e'.0 on))) in
      let co_kernel : o q ≡ o' q = flags_alike (o q) (o' q) (λ on. f'.1 (y.0 (f.0 on)), λ on. f.1 (y.1 (f'.0 on))) in
      marked.marks q l
      ∙ ap (λ b. mark_of b (k q) (o q)) z
      ∙ ap (λ b. mark_of ((rows_table K d).final q) b (o q)) kernel
      ∙ ap (λ b. mark_of ((rows_table K d).final q) (k' q) b) co_kernel
      ∙ sym (marked'.marks q i)

  -- and states with one mark are so in both
  module _ (same : slice_index c.marks q ≡ slice_index d.marks q) where
    made_same : mark_of ((rows_table K c).final q) (k q) (o q) ≡ mark_of ((rows_table K d).final q) (k' q) (o' q)
    made_same = sym (marked.marks q l) ∙ same ∙ marked'.marks q i

    kernels_alike : Kernel (rows_table K c) q ↔ Kernel (rows_table K d) q
    kernels_alike =
        let e = kernel_flag K c k o marked q l in
        let e' = kernel_flag K d k' o' marked' q i in
        let one : k q ≡ k' q =
        sym (made_kernel ((rows_table K c).final q) (k q) (o q))
        ∙ ap (λ m. (m / 2 % 2 == 1)) made_same
        ∙ made_kernel ((rows_table K d).final q) (k' q) (o' q) in (
          λ x. e'.0 (sym one ∙ e.1 x),
          λ x. e.0 (one ∙ e'.1 x),
        )

    co_kernels_alike : CoKernel (rows_table K c) q ↔ CoKernel (rows_table K d) q
    co_kernels_alike =
        let f = co_kernel_flag K c k o marked q l in
        let f' = co_kernel_flag K d k' o' marked' q i in
        let one : o q ≡ o' q =
        sym (made_co_kernel ((rows_table K c).final q) (k q) (o q))
        ∙ ap (λ m. (m / 4 == 1)) made_same
        ∙ made_co_kernel ((rows_table K d).final q) (k' q) (o' q) in (
          λ x. f'.0 (sym one ∙ f.1 x),
          λ x. f.0 (one ∙ f'.1 x),
        )

module _ {W : Type 0} (K : Kind W) (t : Table K.group.Mean) (m : Memories W) (r : Report) (made : Compiled K t m r) where
  marked_least : MarkedBy K (least_in t.letters m r) made.kernel made.co_kernel
  marked_least = record { is_kernel = made.is_kernel; is_co_kernel = made.is_co_kernel; marks = made.marks }

module _ {W : Type 0} (K : Kind W) (t u : Table K.group.Mean) (m : Memories W) (r : Report) (n : Memories W) (p : Report)
    (letters : u.letters ≡ t.letters) (made : Compiled K t m r) (made' : Compiled K u n p) where
  -- tables that are the same are so place by place
  pub same_left :
      SameTable K.group (rows_table K (least_in t.letters m r)) (rows_table K (least_in u.letters n p)) → SameLeast K t.letters m r n p
  same_left same =
      let some = made.least_laid.some_letter in
      record {
        count = same.states;
        targets =
            every_place (slice_index m.targets) (slice_index n.targets) r.least t.letters some same.start
            (λ q a i j. same.target q a i j ∙ ap (λ s. slice_index n.targets (place s q a)) letters);
        weights =
            every_place (mean_at K m.weights) (mean_at K n.weights) r.least t.letters some same.start_weight
            (λ q a i j. same.weight q a i j ∙ ap (λ s. mean_at K n.weights (place s q a)) letters);
        marks =
            λ q l.
            marks_same K (least_in t.letters m r) (least_in u.letters n p) made.kernel made.co_kernel made'.kernel made'.co_kernel
            (marked_least K t m r made) (marked_least K u n p made') q l (subst (λ x. q < x) same.states l) (same.kernel q l)
            (same.co_kernel q l) (same.final q l);
      }

  -- and the other way round
  pub same_held :
      SameLeast K t.letters m r n p → SameTable K.group (rows_table K (least_in t.letters m r)) (rows_table K (least_in u.letters n p))
  same_held held =
      let c = least_in t.letters m r in
      let d = least_in u.letters n p in
      let marked = marked_least K t m r made in
      let marked' = marked_least K u n p made' in
      record {
        states = held.count;
        letters = sym letters;
        start = held.targets 0 (omega arith);
        start_weight = held.weights 0 (omega arith);
        final = λ q l. ap (λ x. (x % 2 == 1)) (held.marks q l);
        target =
            λ q a i j.
            held.targets (place t.letters q a) (place_inside t.letters q a r.least i j)
            ∙ ap (λ s. slice_index n.targets (place s q a)) (sym letters);
        weight =
            λ q a i j.
            held.weights (place t.letters q a) (place_inside t.letters q a r.least i j)
            ∙ ap (λ s. mean_at K n.weights (place s q a)) (sym letters);
        kernel =
            λ q l.
            kernels_alike K c d made.kernel made.co_kernel made'.kernel made'.co_kernel marked marked' q l
            (subst (λ x. q < x) held.count l) (held.marks q l);
        co_kernel =
            λ q l.
            co_kernels_alike K c d made.kernel made.co_kernel made'.kernel made'.co_kernel marked marked' q l
            (subst (λ x. q < x) held.count l) (held.marks q l);
      }
