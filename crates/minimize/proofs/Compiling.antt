-- What compiling writes, and what follows. Assumes nothing.
use Rattle.std.proofs.Common.{◌≡◌, ℕ, zero, suc, ◌+◌, ◌*◌, ◌%◌, ◌<◌, ◌≤◌, true, cond, List, ◌==◌, slice_index, refl, sym, subst, arith}
use Rattle.weights.specs.Group.{Group, Kind}
use Rattle.tables.specs.Table.{Table, Lawful}
use Rattle.tables.specs.Book.{Contents}
use Rattle.tables.specs.Sheet.{mean_at}
use Rattle.theory.specs.Series.{WeighAlikeFrom}
use Rattle.theory.specs.Least.{Least}
use Rattle.theory.specs.Hyper.{count_below}
use Rattle.theory.proofs.Lengths.{lengths_tell}
use Rattle.theory.proofs.Basics.{almost_alike}
use Rattle.theory.proofs.Minimal.{least_closed, least_is_minimal}
use Rattle.theory.proofs.Determined.{least_is_determined}
use Rattle.theory.proofs.Single.{hyper_is_determined}
use Rattle.theory.proofs.Agreement.{hyper_agrees}
use Rattle.theory.proofs.Fewest.{hyper_is_smallest}
use Rattle.tables.proofs.Drawing.{drawn_answers, drawn_table}
use Rattle.minimize.specs.Lists.{ListsFollow}
use Rattle.minimize.specs.Rows.{rows_table}
use Rattle.minimize.specs.Steps.{Marked, AlmostClasses, has_mark}
use Rattle.minimize.specs.Choosing.{Choices, is_kept, Redirected}
use Rattle.minimize.specs.Memories.{Memories}
use Rattle.minimize.specs.Compile.{mark_of, least_in, hyper_in, Compiled, Promised}
use Rattle.minimize.specs.Marking.{Written}
use Rattle.minimize.specs.declared.compiler.Report.{Report}
use Rattle.minimize.proofs.HyperTable.{hyper_table}
use Rattle.minimize.proofs.SameLeast.{same_left, same_held}
use Rattle.minimize.proofs.Viewing.{view_same, sheet_alike}

-- a mark that is added up is made of flags
flag_of : (v x : ℕ) → x ≤ 1 → cond {A = ℕ} (x == 1) v 0 ≡ v * x
flag_of v zero small = omega arith
flag_of v (suc zero) small = omega arith
flag_of v (suc (suc x)) small = absurd (omega arith)

mark_made :
    (m final k o : ℕ) → m ≡ final % 2 + 2 * k + 4 * o → k ≤ 1 → o ≤ 1 → m ≡ mark_of (m % 2 == 1) (k == 1) (o == 1)
mark_made m final k o e k_small o_small =
    let parity : m % 2 ≤ 1 = omega arith in
    omega (arith, flag_of 1 (m % 2) parity, flag_of 2 k k_small, flag_of 4 o o_small)

-- marked, labelled, chosen and redirected, a least table becomes its hyper table
pub written :
    {W : Type 0} (K : Kind W) (t : Table K.group.Mean) (l h : Contents W) (old kernel co_kernel labels representatives : List ℕ)
    (label_factors factors : List W) (k : ℕ) → Least K.group t (rows_table K l) →
    Marked K.group (rows_table K l) (has_mark kernel) (has_mark co_kernel) →
    ((q : ℕ) → q < l.count →
    slice_index l.marks q ≡ slice_index old q % 2 + 2 * slice_index kernel q + 4 * slice_index co_kernel q) →
    ((q : ℕ) → q < l.count → slice_index kernel q ≤ 1) → ((q : ℕ) → q < l.count → slice_index co_kernel q ≤ 1) →
    AlmostClasses K.group (rows_table K l) (slice_index labels) (mean_at K label_factors) →
    Choices K l.count labels label_factors kernel co_kernel representatives factors →
    Redirected K.group (rows_table K l) (rows_table K h) (is_kept kernel representatives) (slice_index representatives)
    (mean_at K factors) →
    ((q : ℕ) → q < l.count → is_kept kernel representatives q ≡ true →
    slice_index h.marks (count_below (is_kept kernel representatives) q) ≡ slice_index l.marks q) →
    k ≡ count_below (has_mark kernel) l.count → Written K t l h representatives factors k
unfolding hyper_table
written K t l h old kernel co_kernel labels representatives label_factors factors k least marked added kernel_small
    co_kernel_small almost choices redirected copied counted =
    record {
      least = least;
      hyper =
          hyper_table K (rows_table K l) (rows_table K h) labels label_factors kernel co_kernel representatives factors marked
          almost choices redirected;
      kernel = has_mark kernel;
      co_kernel = has_mark co_kernel;
      marked =
          record {
            is_kernel = marked.kernel;
            is_co_kernel = marked.co_kernel;
            marks =
                λ q i.
                mark_made (slice_index l.marks q) (slice_index old q) (slice_index kernel q) (slice_index co_kernel q) (added q i)
                (kernel_small q i) (co_kernel_small q i);
          };
      copied = copied;
      kernel_count = counted;
    }

-- what holds of the tables that are left
pub promised :
    {W : Type 0} (K : Kind W) (t : Table K.group.Mean) (m : Memories W) (r : Report) → Lawful t → Compiled K t m r → Promised K t m r
promised K t m r lawful made =
    let G : Group = K.group in
    let l = rows_table K (least_in t.letters m r) in
    let h = rows_table K (hyper_in t.letters m r) in
    let s = slice_index m.representatives in
    let f = mean_at K m.factors in
    let agree : WeighAlikeFrom G r.agreement t h =
    subst (λ n. WeighAlikeFrom G n t h) (sym made.agreement) (hyper_agrees G t l h s f lawful made.least made.hyper) in
    record {
      minimal = least_is_minimal G t l lawful made.least;
      the_least =
          λ k least.
          (least_is_determined G t t l k lawful lawful made.least least).1
          (record { letters = refl; words = λ w o. refl });
      the_hyper =
          λ k z g hyper.
          hyper_is_determined G l h k s z f g (least_closed G t l lawful made.least) made.hyper hyper;
      agree = agree;
      almost = almost_alike G r.agreement t h agree;
      fewest =
          λ b closed alike.
          hyper_is_smallest G t l h b s f lawful made.least made.hyper closed alike;
      lengths_tell = λ test. lengths_tell (λ w. test w ≡ true);
      canonical =
          λ u n p lawful' letters made'.
          let k = rows_table K (least_in u.letters n p) in
          let same = least_is_determined G t u l k lawful lawful' made.least made'.least in (
            λ held. same.0 (same_held K t u m r n p letters made made' held),
            λ alike. same_left K t u m r n p letters made made' (same.1 alike),
          );
      least_viewed = view_same K (least_in t.letters m r) made.least_laid;
      hyper_viewed = view_same K (hyper_in t.letters m r) made.hyper_laid;
      least_sheet = sheet_alike K (least_in t.letters m r) made.least_laid;
      hyper_sheet = sheet_alike K (hyper_in t.letters m r) made.hyper_laid;
    }

-- every list of calls follows its sketch
pub lists_follow : {W : Type 0} (K : Kind W) → ListsFollow K
lists_follow K ts ws ms ks = record { answers = drawn_answers ts ws ms ks; table = drawn_table ts ws ms ks K }
