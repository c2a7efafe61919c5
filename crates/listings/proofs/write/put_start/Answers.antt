use Rattle.std.proofs.Common.{◌≡◌, ◌<◌, length, subst, slice_index, ◌∙◌, ap, sym, arith}
use Rattle.std.proofs.lemmas.List.{get_or-map}
use Rattle.weights.specs.Codes.{code_for}
use Rattle.tables.specs.Sheet.{mean_at}
use Rattle.listings.specs.Text.{Put}
use Rattle.listings.specs.Listing.{start_line}
use Rattle.listings.proofs.Putting.{put_more}
use Rattle.listings.proofs.write.put_start.Goals as goal

pub returns-clause-put : goal.returns-clause-put
returns-clause-put g c =
    let K = g.W.Weight.kind in
    let k = g.W.Coded.codes in
    let ws = c.args.rows.now.weights.now in
    let start = slice_index c.args.rows.now.targets.now 0 in
    let some : 0 < length ws = omega arith in
    let code : c.code_of-code.result ≡ code_for K k (mean_at K ws 0) =
    c.code_of-code.ensures.code ∙ ap (code_for K k) (sym (get_or-map K.mean ws 0 c.index-rows-0.result K.group.one some)) in
    subst (λ n. Put (start_line start n) c.args.at c.args.out.now c.put_line.new.out c.put_line.result) code
    (put_more c.put_field-next.ensures.put c.put_line.ensures.put)
