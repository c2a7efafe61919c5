use Rattle.std.proofs.Common.{refl, arith}
use Rattle.minimize.specs.Rows.{rows_table}
use Rattle.listings.specs.Rows.{laid_rows}
use Rattle.listings.specs.Listing.{arc_text}
use Rattle.listings.proofs.Lines.{put_line_more}
use Rattle.listings.proofs.write.put_arcs.Goals as goal

pub loop-arc-preserved : goal.loop-arc-preserved
loop-arc-preserved g c =
    let t = rows_table g.W.Weight.kind (laid_rows c.args.rows.now) in
    let p = c.loop-arc.arc in (
      put_line_more (arc_text g.W.Weight.kind g.W.Coded.codes t) p c.loop-arc.invariant.0 refl c.put_arc_at-next.ensures.put,
      omega arith,
    )
