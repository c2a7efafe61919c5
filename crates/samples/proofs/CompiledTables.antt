-- Views over the two tables that compiling left weigh words as they should. Assumes nothing.
use Rattle.std.proofs.Common.{◌≡◌, ℕ, Ok, sym, ap, ◌∙◌, subst}
use Rattle.weights.specs.Group.{Group, Kind}
use Rattle.tables.specs.Book.{Contents}
use Rattle.tables.specs.Table.{Table, Word, WeighAlike}
use Rattle.theory.specs.Series.{WeighAlikeFrom}
use Rattle.theory.proofs.Basics.{lawful_closed}
use Rattle.theory.proofs.Determined.{alike_twice}
use Rattle.theory.proofs.Equal.{same_weighs_alike}
use Rattle.minimize.specs.Compile.{least_in, hyper_in, Outcome}
use Rattle.minimize.specs.Memories.{Memories}
use Rattle.minimize.specs.Rows.{rows_table}
use Rattle.minimize.specs.View.{view_table, view_lawful}
use Rattle.minimize.specs.declared.compiler.Report.{Report}

module _ {W : Type 0} (K : Kind W) (t : Table K.group.Mean) (before after : Memories W) (r : Report) (done : Outcome K t before after (Ok r)) where
  -- the least table, of s letters, weighs every word as the source does
  pub least_alike : (s : ℕ) (c : Contents W) → s ≡ t.letters → c ≡ least_in s after r → WeighAlike K.group (view_table K c) t
  least_alike s c letters holds =
      let G : Group = K.group in
      let d = least_in t.letters after r in
      let v = view_table K d in
      let l = rows_table K d in
      let read : WeighAlike G v l = same_weighs_alike G v l (lawful_closed v (view_lawful K d)) done.promised.least_viewed in
      subst (λ x. WeighAlike G (view_table K x) t) (sym (holds ∙ ap (λ n. least_in n after r) letters))
      (alike_twice G v l t read done.promised.minimal.alike)

  -- the hyper table weighs every word so that has the agreement length or more
  pub hyper_agrees :
      (s : ℕ) (c : Contents W) → s ≡ t.letters → c ≡ hyper_in s after r → WeighAlikeFrom K.group r.agreement t (view_table K c)
  hyper_agrees s c letters holds =
      let G : Group = K.group in
      let d = hyper_in t.letters after r in
      let v = view_table K d in
      let h = rows_table K d in
      let read : WeighAlike G v h = same_weighs_alike G v h (lawful_closed v (view_lawful K d)) done.promised.hyper_viewed in
      let agree : WeighAlikeFrom G r.agreement t h = done.promised.agree in
      let alike : t.letters ≡ v.letters = agree.letters ∙ sym read.letters in
      subst (λ x. WeighAlikeFrom G r.agreement t (view_table K x)) (sym (holds ∙ ap (λ n. hyper_in n after r) letters))
      (record {
        letters = alike;
        words = λ w word long. agree.words w word long ∙ sym (read.words w (subst (λ n. Word n w) alike word));
      })
