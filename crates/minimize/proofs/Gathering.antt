-- Rows that move up, and the table of classes that they make. Assumes nothing.
use Rattle.std.proofs.Common.{◌≡◌, ◌≢◌, ℕ, ◌+◌, ◌*◌, ◌%◌, ◌<◌, ◌≤◌, true, eqb, List, length, set, get_or, slice_index, ◌⊎◌, inl, inr, sym, refl, ap, ◌∙◌, subst, mul-le-mul_right, arith}
use Rattle.std.proofs.lemmas.List.{length-set, get_or-set_same, get_or-set_other}
use Rattle.std.proofs.lemmas.Bool.{cases_eq, eqb-true, eq-eqb}
use Rattle.tables.specs.Table.{Table}
use Rattle.tables.specs.Book.{Contents, laid, place}
use Rattle.tables.specs.Sheet.{mean_at}
use Rattle.tables.proofs.Places.{row_before, place_before}
use Rattle.theory.specs.Runs.{Closed}
use Rattle.theory.specs.Hyper.{count_below}
use Rattle.theory.proofs.Kept.{kept_rises, numbered}
use Rattle.weights.specs.Group.{Group, Kind}
use Rattle.minimize.specs.Rows.{Laid, rows_table}
use Rattle.minimize.specs.Steps.{Gathered, leads, number}
use Rattle.minimize.specs.Gathering.{Labelled, Numbers, RowMoved, RowsMoved, MarksMoved, Moved}
use Rattle.minimize.proofs.Keeping.{kept_few}
use Rattle.minimize.proofs.Memory.{mean_read, mean_set_same, mean_set_other}

module _ (label : ℕ → ℕ) where
  pub stands : (q : ℕ) → label q ≡ q → leads label q ≡ true
  stands q e = eq-eqb (label q) q e

  pub stands_itself : (q : ℕ) → leads label q ≡ true → label q ≡ q
  stands_itself q e = eqb-true (label q) q e

  -- the number of a state that stands for its class is the count of those before it
  pub number_first : (q : ℕ) → label q ≡ q → number label q ≡ count_below (leads label) q
  number_first q e = ap (count_below (leads label)) e

  -- so it is no larger
  pub number_small : (q : ℕ) → label q ≡ q → number label q ≤ q
  number_small q e = omega (arith, number_first q e, kept_few (leads label) q)

  -- it is larger for a later one
  pub number_rises : (p q : ℕ) → label p ≡ p → label q ≡ q → p < q → number label p < number label q
  number_rises p q e e' l = omega (arith, number_first p e, number_first q e', kept_rises (leads label) p q (stands p e) l)

  -- a state has the number of its label
  pub number_label : (q : ℕ) → label (label q) ≡ label q → number label (label q) ≡ number label q
  number_label q e = ap (count_below (leads label)) e

module _ {X : Type 0} (s q k : ℕ) (f : X → X) (old : ℕ → X) where
  -- one place more has moved
  pub row_more :
      (m : ℕ) (new new' : ℕ → X) → k ≤ q → RowMoved s m q k f old new → new' (place s k m) ≡ f (new (place s q m)) →
      ((i : ℕ) → i ≢ place s k m → new' i ≡ new i) → RowMoved s (m + 1) q k f old new'
  row_more m new new' up x here other =
      record {
        here =
            λ a l.
            elim (cases_eq a m) [
              | inl e ↦ (let before : new (place s q m) ≡ old (place s q m) = x.kept (place s q m) (inr later) in
                  subst (λ b. new' (place s k b) ≡ f (old (place s q b))) (sym e) (here ∙ ap f before))
              | inr apart ↦ other (place s k a) (omega arith) ∙ x.here a (omega arith)
            ];
        kept =
            λ i l.
            let apart : i ≢ place s k m = outside i l in
            let inside : (i < place s k 0) ⊎ (place s k m ≤ i) = wider i l in
            other i apart ∙ x.kept i inside;
      }
    where
      later : place s k m ≤ place s q m
      later =
          elim (cases_eq k q) [
            | inl e ↦ omega (arith, ap (λ r. place s r m) e)
            | inr less ↦ omega (arith, row_before s k q (omega arith))
          ]

      outside : (i : ℕ) → (i < place s k 0) ⊎ (place s k (m + 1) ≤ i) → i ≢ place s k m
      outside i (inl l) = omega arith
      outside i (inr l) = omega arith

      wider : (i : ℕ) → (i < place s k 0) ⊎ (place s k (m + 1) ≤ i) → (i < place s k 0) ⊎ (place s k m ≤ i)
      wider i (inl l) = inl l
      wider i (inr l) = inr (omega arith)

-- a number that is read where a state stands for its class
pub record NumberRead (label : ℕ → ℕ) (q k : ℕ) : Type 0 where
  pub first : label q ≡ q
  pub number : k ≡ number label q
  pub small : k ≤ q

pub number_read :
    (n : ℕ) (label numbers : ℕ → ℕ) (q r : ℕ) → Numbers n label numbers → q < n → r ≡ q → label r ≡ q →
    NumberRead label q (numbers r)
number_read n label numbers q r given l e stands =
    let first : label q ≡ q = ap label (sym e) ∙ stands in
    let own : numbers r ≡ number label q = ap numbers e ∙ given q l in
    record { first = first; number = own; small = omega (arith, number_small label q first) }

-- a list of numbers in which one place is written
pub row_write :
    (s q k m : ℕ) (numbers old : ℕ → ℕ) (ts : List ℕ) (from to v : ℕ) → from ≡ place s q m → to ≡ place s k m →
    v ≡ numbers (slice_index ts from) → to < length ts → k ≤ q → RowMoved s m q k numbers old (slice_index ts) →
    RowMoved s (m + 1) q k numbers old (slice_index (set ts to v))
row_write s q k m numbers old ts from to v e e' is inside up x =
    row_more s q k numbers old m (slice_index ts) (slice_index (set ts to v)) up x
    (ap (slice_index (set ts to v)) (sym e')
    ∙ get_or-set_same ts to v 0 inside
    ∙ is
    ∙ ap (λ i. numbers (slice_index ts i)) e)
    (λ i l. let apart : i ≢ to = omega arith in get_or-set_other ts to i v 0 apart)

module _ {W : Type 0} (K : Kind W) where
  pub row_write_element :
      (s q k m : ℕ) (old : ℕ → K.group.Mean) (ws : List W) (from to : ℕ) (x : W) → from ≡ place s q m → to ≡ place s k m →
      x ≡ get_or ws from x → from < length ws → to < length ws → k ≤ q → RowMoved s m q k (λ y. y) old (mean_at K ws) →
      RowMoved s (m + 1) q k (λ y. y) old (mean_at K (set ws to x))
  row_write_element s q k m old ws from to x e e' is inside inside' up r =
      row_more s q k (λ y. y) old m (mean_at K ws) (mean_at K (set ws to x)) up r
      (ap (mean_at K (set ws to x)) (sym e') ∙ mean_set_same K ws to x inside' ∙ ap K.mean is ∙ mean_read K ws from x inside ∙ ap (mean_at K ws) e)
      (λ i l. let apart : i ≢ to = omega arith in mean_set_other K ws to i x apart)

module _ {X : Type 0} (s : ℕ) (label : ℕ → ℕ) (f : X → X) (old : ℕ → X) where
  -- the next row has moved
  pub rows_more :
      (n k : ℕ) (new new' : ℕ → X) → label n ≡ n → k ≡ number label n → RowsMoved s n label f old new →
      RowMoved s s n k f new new' → RowsMoved s (n + 1) label f old new'
  rows_more n k new new' e is x r =
      record {
        here =
            λ q a l m e'.
            elim (cases_eq q n) [
              | inl same ↦
                  (let before : new (place s n a) ≡ old (place s n a) = x.kept (place s n a) (omega arith) in
                  subst (λ p. new' (place s (number label p) a) ≡ f (old (place s p a))) (sym same)
                  (ap (λ i. new' (place s i a)) (sym is) ∙ r.here a m ∙ ap f before))
              | inr apart ↦
                  (let up : number label q < k = omega (arith, number_rises label q n e' e (omega arith)) in
                  let less : place s (number label q) a < place s k 0 = place_before s (number label q) a k 0 up m in
                  r.kept (place s (number label q) a) (inl less) ∙ x.here q a (omega arith) m e')
            ];
        kept =
            λ i l.
            let small : k ≤ n = omega (arith, number_small label n e) in
            let row : k * s + s ≤ (n + 1) * s = row_before s k (n + 1) (omega arith) in
            let next : n * s + s ≤ (n + 1) * s = row_before s n (n + 1) (omega arith) in
            r.kept i (inr (omega arith)) ∙ x.kept i (omega arith);
        start = r.kept 0 (inl (omega arith)) ∙ x.start;
      }

  -- the next row is passed over
  pub rows_pass : (n : ℕ) (new : ℕ → X) → label n ≢ n → RowsMoved s n label f old new → RowsMoved s (n + 1) label f old new
  rows_pass n new e x =
      record {
        here =
            λ q a l m e'.
            elim (cases_eq q n) [
              | inl same ↦ absurd (e (ap label (sym same) ∙ e' ∙ same))
              | inr apart ↦ x.here q a (omega arith) m e'
            ];
        kept =
            λ i l.
            let next : n * s + s ≤ (n + 1) * s = row_before s n (n + 1) (omega arith) in
            x.kept i (omega arith);
        start = x.start;
      }

module _ {X : Type 0} (label : ℕ → ℕ) (old : ℕ → X) where
  pub marks_more :
      (n k : ℕ) (new new' : ℕ → X) → label n ≡ n → k ≡ number label n → MarksMoved n label old new →
      new' k ≡ new n → ((i : ℕ) → i ≢ k → new' i ≡ new i) → MarksMoved (n + 1) label old new'
  marks_more n k new new' e is x here other =
      record {
        here =
            λ q l e'.
            elim (cases_eq q n) [
              | inl same ↦
                  subst (λ p. new' (number label p) ≡ old p) (sym same)
                  (ap new' (sym is) ∙ here ∙ x.kept n (omega arith))
              | inr apart ↦
                  (let up : number label q < k = omega (arith, number_rises label q n e' e (omega arith)) in
                  other (number label q) (omega arith) ∙ x.here q (omega arith) e')
            ];
        kept =
            λ q l.
            let small : k ≤ n = omega (arith, number_small label n e) in
            other q (omega arith) ∙ x.kept q (omega arith);
      }

  pub marks_pass : (n : ℕ) (new : ℕ → X) → label n ≢ n → MarksMoved n label old new → MarksMoved (n + 1) label old new
  marks_pass n new e x =
      record {
        here =
            λ q l e'.
            elim (cases_eq q n) [
              | inl same ↦ absurd (e (ap label (sym same) ∙ e' ∙ same))
              | inr apart ↦ x.here q (omega arith) e'
            ];
        kept = λ q l. x.kept q (omega arith);
      }

-- the mark of the next state is written
pub marks_write :
    (label : ℕ → ℕ) (old : ℕ → ℕ) (ms : List ℕ) (n k to v : ℕ) → label n ≡ n → k ≡ number label n → to ≡ k →
    v ≡ slice_index ms n → to < length ms → MarksMoved n label old (slice_index ms) →
    MarksMoved (n + 1) label old (slice_index (set ms to v))
marks_write label old ms n k to v e is at value inside x =
    marks_more label old n k (slice_index ms) (slice_index (set ms to v)) e is x
    (ap (slice_index (set ms to v)) (sym at) ∙ get_or-set_same ms to v 0 inside ∙ value)
    (λ i apart. let apart' : i ≢ to = omega arith in get_or-set_other ms to i v 0 apart')

-- numbers of classes
module _ (n : ℕ) (label : ℕ → ℕ) (x : Labelled n label) where
  -- is below the count of classes
  pub number_inside : (q : ℕ) → q < n → number label q < count_below (leads label) n
  number_inside q l =
      kept_rises (leads label) (label q) n (stands label (label q) (x.leads q l)) (x.inside q l)

  -- is that of some state that stands for its class
  pub number_met : (i : ℕ) → i < count_below (leads label) n → (q : ℕ) × (q < n) × (label q ≡ q) × (number label q ≡ i)
  number_met i l =
      let s = numbered (leads label) n i l in
      let e : label s.state ≡ s.state = stands_itself label s.state s.is_kept in
      (s.state, s.inside, e, number_first label s.state e ∙ s.number)

  -- there is a class if there is a state
  pub some_class : 1 ≤ n → 1 ≤ count_below (leads label) n
  some_class l = omega (arith, number_inside 0 (omega arith))

-- the table of classes is closed
pub gathered_closed :
    (G : Group) (t l : Table G.Mean) (label : ℕ → ℕ) → Closed t → Labelled t.states label → Gathered G t label l → Closed l
gathered_closed G t l label closed x gathered =
    record {
      start_inside = omega (arith, gathered.start, gathered.states, number_inside t.states label x t.start closed.start_inside);
      target_inside =
          λ i a m b.
          let few : i < count_below (leads label) t.states = omega (arith, gathered.states) in
          let q = number_met t.states label x i few in
          let letter : a < t.letters = omega (arith, gathered.letters) in
          let to : l.target i a ≡ number label (t.target q.0 a) =
          ap (λ j. l.target j a) (sym q.3) ∙ gathered.target q.0 a q.1 letter q.2 in
          omega (
            arith,
            to,
            gathered.states,
            number_inside t.states label x (t.target q.0 a) (closed.target_inside q.0 a q.1 letter),
          );
    }

-- rows that have moved, with the start given by number
module _
    {W : Type 0}
    (K : Kind W)
    (c : Contents W)
    (ts : List ℕ)
    (ws : List W)
    (ms : List ℕ)
    (m v : ℕ)
    (label numbers : ℕ → ℕ)
    (old : Laid K c)
    (given : Numbers c.count label numbers)
    (moved : Moved K c.letters c.count label numbers c (laid ts ws ms c.letters c.count))
    (all : m ≡ count_below (leads label) c.count)
    (first : v ≡ numbers (slice_index ts 0))
    (long : length c.targets ≡ length ts)
  where
    -- are the table of classes
    pub rows_gathered : Gathered K.group (rows_table K c) label (rows_table K (laid (set ts 0 v) ws ms c.letters m))
    rows_gathered =
        record {
          states = all;
          letters = refl;
          start =
              get_or-set_same ts 0 v 0 (omega (arith, old.target_room))
              ∙ first
              ∙ ap numbers moved.targets.start
              ∙ given (slice_index c.targets 0) old.closed.start_inside;
          start_weight = moved.weights.start;
          final = λ q l e. ap (λ b. eqb (b % 2) 1) (moved.marks.here q l e);
          target =
              λ q a l b e.
              let apart : place c.letters (number label q) a ≢ 0 = omega arith in
              get_or-set_other ts 0 (place c.letters (number label q) a) v 0 apart
              ∙ moved.targets.here q a l b e
              ∙ given (slice_index c.targets (place c.letters q a)) (old.closed.target_inside q a l b);
          weight = λ q a l b e. moved.weights.here q a l b e;
        }

    -- and have all of its places
    pub rows_laid :
        Labelled c.count label → length c.weights ≡ length ws → length c.marks ≡ length ms → Laid K (laid (set ts 0 v) ws ms c.letters m)
    rows_laid x e e' =
        let few : m ≤ c.count = omega (arith, kept_few (leads label) c.count) in
        let room : m * c.letters ≤ c.count * c.letters = mul-le-mul_right c.letters few in
        record {
          some_letter = old.some_letter;
          few_letters = old.few_letters;
          some_state = omega (arith, some_class c.count label x old.some_state);
          few_states = omega (arith, old.few_states);
          target_room = omega (arith, old.target_room, length-set ts 0 v);
          weight_room = omega (arith, old.weight_room);
          mark_room = omega (arith, old.mark_room);
          closed =
              gathered_closed K.group (rows_table K c) (rows_table K (laid (set ts 0 v) ws ms c.letters m)) label old.closed x rows_gathered;
        }
