-- The slices that a step reads. Assumes nothing.
use Rattle.tables.specs.Book.{Contents, laid}
use Rattle.minimize.specs.declared.rows.Rows.{Rows}

abbrev pub laid_rows : {W : Type 0} → Rows W → Contents W
laid_rows r = laid r.targets.now r.weights.now r.marks.now r.letters r.count
