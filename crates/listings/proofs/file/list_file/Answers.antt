use Rattle.std.proofs.Common.{◌≡◌, true, ltb, length, slice_get, ap}
use Rattle.std.proofs.lemmas.Bool.{lt-ltb}
use Rattle.drafts.specs.FileKind.{kind_of}
use Rattle.listings.specs.File.{FileText, TextOf, refused_text}
use Rattle.listings.proofs.FileTexts.{put_lists, tells_true}
use Rattle.listings.proofs.file.list_file.Goals as goal

pub returns-then-bytes-gt-FILE_SIZE : goal.returns-then-bytes-gt-FILE_SIZE
returns-then-bytes-gt-FILE_SIZE c =
    let bs = c.args.bytes.now in
    let long : ltb 16384 (length bs) ≡ true = lt-ltb 16384 (length bs) c.if-bytes-gt-FILE_SIZE.true in
    put_lists (FileText bs) (refused_text c.number.result 16384) c.args.out.now c.put_refused.new.out c.put_refused.result
    (tells_true (ltb 16384 (length bs)) (refused_text c.number.result 16384 ≡ refused_text 6 16384)
    (TextOf (kind_of (slice_get bs 3)) bs (refused_text c.number.result 16384)) long (ap (λ n. refused_text n 16384) c.number.ensures))
    c.put_refused.ensures
