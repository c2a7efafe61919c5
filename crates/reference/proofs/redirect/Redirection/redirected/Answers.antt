use Rattle.std.proofs.Common.{sym, subst}
use Rattle.std.specs.List.{Contains}
use Rattle.reference.proofs.redirect.Redirection.redirected.Goals as goal

pub unwrap-requires : goal.unwrap-requires
unwrap-requires g c =
    let r = c.index-representative.result.now in
    c.number-2.ensures.kept
    (subst (Contains c.args.self.now.kept.items) (sym c.index-representative.ensures) (c.requires.stand c.args.arc.target r c.requires.inside))
