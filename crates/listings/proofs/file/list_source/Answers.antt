use Rattle.std.proofs.Common.{ℕ, List, ap, arith}
use Rattle.tables.specs.Book.{laid}
use Rattle.minimize.specs.Memories.{memories}
use Rattle.minimize.specs.Rows.{rows_table}
use Rattle.listings.specs.Listing.{listing_text}
use Rattle.listings.proofs.FileTexts.{finished, compiled_text}
use Rattle.listings.proofs.file.list_source.Goals as goal

pub returns : goal.returns
returns g c =
    let K = g.W.Weight.kind in
    let k = g.W.Coded.codes in
    let a = c.args in
    let t = g.S.Source.table a.source.now K in
    let n = c.compile-compiled.new in
    let r = c.unwrap-report.result in
    let before =
    memories a.targets.now a.weights.now a.marks.now a.hyper_targets.now a.hyper_weights.now a.hyper_marks.now a.representatives.now
    a.factors.now a.numbers.now a.elements.now in
    let after =
    memories n.least.0 n.least.1.0 n.least.1.1.0 n.hyper.0 n.hyper.1.0 n.hyper.1.1.0 n.states.0 n.states.1.0 n.work.0 n.work.1.0 in
    let done = finished K t before after c.compile-compiled.result r c.compile-compiled.ensures c.unwrap-report.ensures in
    let listed : ℕ → List ℕ =
    λ s. listing_text K k (rows_table K (laid n.hyper.0 n.hyper.1.0 n.hyper.1.1.0 s r.hyper)) r.least r.hyper r.kernel r.agreement in
    record {
      text = listed c.letters.result;
      fact = compiled_text K k t after r (listed c.letters.result) done.compiled (ap listed c.letters.ensures);
      bytes = c.write_listing.ensures.bytes;
      size = c.write_listing.ensures.length;
      fits = omega (arith, c.write_listing.ensures.fits, c.requires.room);
    }
