-- The tables that a listing has room for. Assumes nothing.
use Rattle.std.specs.Prelude.{◌+◌, ◌*◌, ◌≤◌, length}
use Rattle.tables.specs.Book.{Contents, laid}
use Rattle.listings.specs.declared.write.Rows.{Rows}

-- three slices have all places of a table of at most 64 letters, 128 states and 1,080 arcs
pub record Listable {W : Type 0} (c : Contents W) : Type 0 where
  pub some_letter : 1 ≤ c.letters
  pub few_letters : c.letters ≤ 64
  pub few_states : c.count ≤ 128
  pub few_places : 1 + c.count * c.letters ≤ 1081
  pub target_room : 1 + c.count * c.letters ≤ length c.targets
  pub weight_room : 1 + c.count * c.letters ≤ length c.weights
  pub mark_room : c.count ≤ length c.marks

abbrev pub laid_rows : {W : Type 0} → Rows W → Contents W
laid_rows r = laid r.targets.now r.weights.now r.marks.now r.letters r.states
