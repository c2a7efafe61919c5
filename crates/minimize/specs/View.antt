-- The table that a view means: what three slices hold in the layout of a book, without an off state. Assumes nothing.
use Rattle.std.specs.Prelude.{ℕ, ◌-◌, ◌%◌, min, max, ◌==◌, slice_index}
use Rattle.std.proofs.Common.{arith}
use Rattle.weights.specs.Group.{Kind}
use Rattle.tables.specs.Table.{Table, Lawful}
use Rattle.tables.specs.Book.{Contents, laid, place}
use Rattle.tables.specs.Sheet.{width, entry_at, mean_at}
use Rattle.minimize.specs.declared.view.TableView.{TableView}

-- what a view holds
abbrev pub viewed : {W : Type 0} → TableView W → Contents W
viewed v = laid v.targets.now v.weights.now v.marks.now v.letters v.count

-- The states, 1 to 4096, read so that any contents mean a lawful table. So are the letters, as in a sheet.
abbrev pub height : {W : Type 0} → Contents W → ℕ
height c = max 1 (min c.count 4096)

-- where a place leads: to the last state if it leads to none of the table, or does not exist
abbrev pub seen_to : {W : Type 0} → Contents W → ℕ → ℕ
seen_to c k = min (entry_at c k) (height c - 1)

-- the view's table: only the lowest bit of a mark counts, and a place that does not exist weighs one
abbrev pub view_table : {W : Type 0} (K : Kind W) → Contents W → Table K.group.Mean
view_table K c =
    record {
      states = height c;
      letters = width c;
      start = seen_to c 0;
      start_weight = mean_at K c.weights 0;
      final = λ q. (slice_index c.marks q % 2 == 1);
      target = λ q a. seen_to c (place (width c) q a);
      weight = λ q a. mean_at K c.weights (place (width c) q a);
    }

-- the table is lawful, whatever the contents are
pub view_lawful : {W : Type 0} (K : Kind W) (c : Contents W) → Lawful (view_table K c)
view_lawful K c =
    record {
      some_state = omega arith;
      few_states = omega arith;
      some_letter = omega arith;
      few_letters = omega arith;
      start_inside = omega arith;
      target_inside = λ q a _ _. omega arith;
    }
