use Rattle.std.proofs.Common.{◌≡◌, ◌+◌, ◌-◌, length, take, drop, replicate, sym, ap, ◌∙◌, arith, rules}
use Rattle.std.proofs.lemmas.Slice.{put_mid-paste}
use Rattle.tables.specs.Book.{unset}
use Rattle.tables.proofs.Places.{cleared-paste}
use Rattle.tables.proofs.memory.clear.Goals as goal

pub returns : goal.returns
returns c =
    let xs = c.args.targets.now in
    let from = c.args.from in
    let n = c.args.count in
    let size : n ≡ from + n - from = omega arith in
    let inner : length (take (from + n - from) (drop from xs)) ≡ n = search rules in
    put_mid-paste from (from + n - from) xs c.fill.new.self (replicate n unset) n
    (c.fill.ensures.after (λ y e. search rules) ∙ ap (λ m. replicate m unset) inner) size (search rules)
    ∙ sym (cleared-paste xs from n c.requires)
