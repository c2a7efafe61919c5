-- How calls change the size that refusals go by. Assumes nothing.
use Rattle.std.specs.Prelude.{◌+◌, cond}
use Rattle.tables.specs.Call.{Size, may_rule, has_room}
use Rattle.tables.specs.Sketch.{Lengths}
use Rattle.tables.specs.declared.call.Call.{Call}
use Rattle.tables.specs.declared.call.Call.TheVariants.{Rule, State, Arc, Start}
use Rattle.tables.specs.declared.size.DrawnSize.{DrawnSize}

-- the size of a book of these letters and states over memories of these lengths
abbrev pub size_over : Lengths → DrawnSize → Size
size_over n d =
    record { targets = n.targets; weights = n.weights; marks = n.marks; letters = d.letters; count = d.states }

-- the size that a call leaves, taken or refused: only the calls `rule` and `state` change it
abbrev pub size_left : {W : Type 0} → Size → Call W → Size
size_left z (Rule s) =
    cond (may_rule z s) (record { targets = z.targets; weights = z.weights; marks = z.marks; letters = s; count = z.count }) z
size_left z (State f) =
    cond (has_room z) (record { targets = z.targets; weights = z.weights; marks = z.marks; letters = z.letters; count = z.count + 1 }) z
size_left z (Arc q a r w) = z
size_left z (Start q w) = z
