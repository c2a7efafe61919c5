-- The table that three slices hold in the layout of a book, all of whose states are drawn. Assumes nothing.
use Rattle.std.specs.Prelude.{◌+◌, ◌*◌, ◌%◌, ◌≤◌, length, ◌==◌, slice_index}
use Rattle.weights.specs.Group.{Kind}
use Rattle.tables.specs.Table.{Table}
use Rattle.tables.specs.Book.{Contents, place}
use Rattle.tables.specs.Sheet.{mean_at}
use Rattle.theory.specs.Runs.{Closed}

-- the table: place 0 is the start, place 1 + q * letters + a is arc (q, a), and the lowest bit of a mark says that a state is final
abbrev pub rows_table : {W : Type 0} (K : Kind W) → Contents W → Table K.group.Mean
rows_table K c =
    record {
      states = c.count;
      letters = c.letters;
      start = slice_index c.targets 0;
      start_weight = mean_at K c.weights 0;
      final = λ q. (slice_index c.marks q % 2 == 1);
      target = λ q a. slice_index c.targets (place c.letters q a);
      weight = λ q a. mean_at K c.weights (place c.letters q a);
    }

-- the slices have all places of the table, and its start and arcs lead to states of its own
pub record Laid {W : Type 0} (K : Kind W) (c : Contents W) : Type 0 where
  pub some_letter : 1 ≤ c.letters
  pub few_letters : c.letters ≤ 64
  pub some_state : 1 ≤ c.count
  pub few_states : c.count ≤ 4096
  pub target_room : 1 + c.count * c.letters ≤ length c.targets
  pub weight_room : 1 + c.count * c.letters ≤ length c.weights
  pub mark_room : c.count ≤ length c.marks
  pub closed : Closed (rows_table K c)
