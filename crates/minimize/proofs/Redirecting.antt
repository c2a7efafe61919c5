-- Rows that are written one by one, and the table that they come to. Assumes nothing.
use Rattle.std.proofs.Common.{◌≡◌, ℕ, ◌+◌, ◌*◌, ◌%◌, ◌<◌, ◌≤◌, ◌≢◌, Bool, true, false, eqb, List, length, get_or, set, inl, inr, sym, refl, ap, ◌∙◌, mul-le-mul_right, arith}
use Rattle.std.proofs.lemmas.Bool.{cases_eq}
use Rattle.std.proofs.lemmas.List.{get_or-set_same, get_or-set_other}
use Rattle.weights.specs.Group.{Kind}
use Rattle.tables.specs.Book.{laid, place}
use Rattle.tables.specs.Sheet.{mean_at}
use Rattle.tables.proofs.Places.{row_before, place_before}
use Rattle.theory.specs.Hyper.{count_below}
use Rattle.theory.proofs.Kept.{kept_rises, numbered}
use Rattle.minimize.specs.declared.redirect.Redirection.{Redirection}
use Rattle.minimize.specs.Rows.{Laid, rows_table}
use Rattle.minimize.specs.Slices.{laid_rows}
use Rattle.minimize.specs.Choosing.{ToKept, Redirected}
use Rattle.minimize.specs.Redirecting.{kept_of, number_in, moved_to, weighed_to, given, RowTo, RowsTo}
use Rattle.minimize.proofs.Keeping.{kept_few}
use Rattle.minimize.proofs.Memory.{mean_set_same, mean_set_other}

-- so many states below m are kept, and they are numbered
pub record Counted (kept : ℕ → Bool) (m h : ℕ) (xs : List ℕ) : Type 0 where
  pub few : h ≤ m
  pub count : h ≡ count_below kept m
  pub numbers : (q : ℕ) → q < m → get_or xs q 0 ≡ count_below kept q

module _ {W : Type 0} (d : Redirection W) where
  -- there is room for the row of each kept state
  pub row_room : (q : ℕ) → q < d.rows.count → number_in d q * d.rows.letters + d.rows.letters ≤ d.rows.count * d.rows.letters
  row_room q i = row_before d.rows.letters (number_in d q) d.rows.count (omega (arith, kept_few (kept_of d) q))

  moved_inside : ToKept d.rows.count d.kernel.now d.representatives.now → (q : ℕ) → q < d.rows.count → moved_to d q < d.rows.count
  moved_inside t q i = grind (arith, t)

  moved_kept : ToKept d.rows.count d.kernel.now d.representatives.now → (q : ℕ) → q < d.rows.count → kept_of d (moved_to d q) ≡ true
  moved_kept t q i = grind (arith, t)

  -- where something leads is a number of the new table
  moved_number :
      ToKept d.rows.count d.kernel.now d.representatives.now → (q : ℕ) → q < d.rows.count →
      number_in d (moved_to d q) < number_in d d.rows.count
  moved_number t q i = kept_rises (kept_of d) (moved_to d q) d.rows.count (moved_kept t q i) (moved_inside t q i)

module _ {W : Type 0} (K : Kind W) (d : Redirection W) where
  -- one more arc of a row
  pub row_more :
      (q i b at x : ℕ) (w : W) (old_ts ts : List ℕ) (old_ws ws : List W) → at ≡ place d.rows.letters i b → at < length ts →
      at < length ws → x ≡ number_in d (moved_to d ((given K d).target q b)) →
      K.mean w ≡ weighed_to K d ((given K d).target q b) ((given K d).weight q b) → RowTo K d q i b old_ts ts old_ws ws →
      RowTo K d q i (b + 1) old_ts (set ts at x) old_ws (set ws at w)
  row_more q i b at x w old_ts ts old_ws ws e l m to by row =
      record {
        arcs =
            λ a j.
            elim (cases_eq a b) [
              | inl same ↦
                  (let here : place d.rows.letters i a ≡ at = omega arith in
                  record { target = grind (arith, get_or-set_same); weight = grind (arith, mean_set_same) })
              | inr other ↦
                  (let k : ℕ = place d.rows.letters i a in
                  let elsewhere : k ≢ at = omega arith in
                  let arc = row.arcs a (omega arith) in
                  record {
                    target = get_or-set_other ts at k x 0 elsewhere ∙ arc.target;
                    weight = mean_set_other K ws at k w elsewhere ∙ arc.weight;
                  })
            ];
        targets_before = λ k j. grind (arith, get_or-set_other);
        weights_before = λ k j. grind (arith, mean_set_other);
      }

  -- one more row
  pub rows_more :
      (m : ℕ) (ts new_ts : List ℕ) (ws new_ws : List W) (ms : List ℕ) (at x : ℕ) → kept_of d m ≡ true → at ≡ number_in d m →
      at < length ms → x ≡ get_or d.rows.marks.now m 0 → RowTo K d m (number_in d m) d.rows.letters ts new_ts ws new_ws →
      RowsTo K d m ts ws ms → RowsTo K d (m + 1) new_ts new_ws (set ms at x)
  rows_more m ts new_ts ws new_ws ms at x kept e l value row rows =
      record {
        start = grind arith;
        start_weight = grind arith;
        arcs =
            λ q a i j k.
            elim (cases_eq q m) [
              | inl same ↦ grind arith
              | inr other ↦
                  (let less : number_in d q < number_in d m = kept_rises (kept_of d) q m k (omega arith) in
                  let before = place_before d.rows.letters (number_in d q) a (number_in d m) 0 less j in
                  record { target = grind arith; weight = grind arith })
            ];
        marks =
            λ q i k.
            elim (cases_eq q m) [
              | inl same ↦ grind (arith, get_or-set_same)
              | inr other ↦ grind (arith, get_or-set_other, kept_rises)
            ];
      }

  -- a state that is not kept has no row
  pub rows_stay :
      (m : ℕ) (ts : List ℕ) (ws : List W) (ms : List ℕ) → kept_of d m ≡ false → RowsTo K d m ts ws ms → RowsTo K d (m + 1) ts ws ms
  rows_stay m ts ws ms dropped rows =
      record {
        start = rows.start;
        start_weight = rows.start_weight;
        arcs = λ q a i j k. rows.arcs q a (grind arith) j k;
        marks = λ q i k. rows.marks q (grind arith) k;
      }

-- the table that is written
module _ {W : Type 0} (K : Kind W) {d : Redirection W} (h : ℕ) (ts : List ℕ) (ws : List W) (ms : List ℕ) where
  pub laid_rows_to :
      RowsTo K d d.rows.count ts ws ms → h ≡ number_in d d.rows.count → Laid K (laid_rows d.rows) →
      ToKept d.rows.count d.kernel.now d.representatives.now → 1 + d.rows.count * d.rows.letters ≤ length ts →
      1 + d.rows.count * d.rows.letters ≤ length ws → d.rows.count ≤ length ms → Laid K (laid ts ws ms d.rows.letters h)
  laid_rows_to rows count old kept target_room weight_room mark_room =
      let few : h ≤ d.rows.count = omega (arith, kept_few (kept_of d) d.rows.count) in
      let places : h * d.rows.letters ≤ d.rows.count * d.rows.letters = mul-le-mul_right d.rows.letters few in
      let start : get_or ts 0 0 < h = omega (arith, rows.start, moved_number d kept (given K d).start old.closed.start_inside) in
      record {
        some_letter = old.some_letter;
        few_letters = old.few_letters;
        some_state = omega arith;
        few_states = omega (arith, old.few_states);
        target_room = omega arith;
        weight_room = omega arith;
        mark_room = omega arith;
        closed =
            record {
              start_inside = start;
              target_inside =
                  λ i a l m.
                  let n = numbered (kept_of d) d.rows.count i (omega arith) in
                  let arc = rows.arcs n.state a n.inside m n.is_kept in
                  let less = moved_number d kept ((given K d).target n.state a) (old.closed.target_inside n.state a n.inside m) in
                  let to : get_or ts (place d.rows.letters i a) 0 ≡ number_in d (moved_to d ((given K d).target n.state a)) =
                  ap (λ j. get_or ts (place d.rows.letters j a) 0) (sym n.number) ∙ arc.target in
                  omega arith;
            };
      }

  pub redirected_rows :
      RowsTo K d d.rows.count ts ws ms → h ≡ number_in d d.rows.count →
      Redirected K.group (given K d) (rows_table K (laid ts ws ms d.rows.letters h)) (kept_of d) (λ q. get_or d.representatives.now q 0)
      (mean_at K d.factors.now)
  redirected_rows rows count =
      record {
        states = count;
        letters = refl;
        final = λ q i k. ap (λ m. eqb (m % 2) 1) (rows.marks q i k);
        target = λ q a i j k. (rows.arcs q a i j k).target;
        weight = λ q a i j k. (rows.arcs q a i j k).weight;
        start = rows.start;
        start_weight = rows.start_weight;
      }
