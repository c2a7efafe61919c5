-- The file of the merging draft is listed as the text. Assumes nothing.
use Rattle.std.proofs.Common.{◌≡◌, ◌%◌, ℕ, refl, sym, ap, lit<, arith, rules}
use Rattle.std.proofs.lemmas.Bool.{cond-true}
use Rattle.std.proofs.lemmas.Fmt.{decimal_digit}
use Rattle.weights.specs.Check.{check_kind, is_unit, number_of, number_unit, residue_of}
use Rattle.weights.specs.Codes.{check_codes, code_for}
use Rattle.weights.specs.Numbers.{chosen_path}
use Rattle.weights.specs.Residues.{number_stored}
use Rattle.weights.specs.declared.check.Check.{Check}
use Rattle.weights.proofs.Coding.{code_for_mean}
use Rattle.theory.specs.Kernel.{Kernel, Preamble}
use Rattle.minimize.specs.Compile.{Tells}
use Rattle.listings.specs.Listing.{listing_text}
use Rattle.listings.specs.File.{HyperText, FileText}
use Rattle.worked.specs.Drafts.{merging_draft, source, check, file, text}
use Rattle.worked.proofs.Cases.{below_4}
use Rattle.worked.proofs.Forks.{merging_correct}

-- the code of a check number is the number
check_code : (x : Check) → code_for check_kind check_codes (residue_of x.0) ≡ number_of x.0
check_code x =
    code_for_mean check_kind check_codes (search rules)
    (λ x.
    let n : ℕ = number_of x.0 in
    (record { 0 = n % 256 }, cond-true (is_unit n) _ _ (number_unit x.0), chosen_path _ _ (number_stored (n % 256) n refl (number_unit x.0))))
    (λ x y e. ap (λ z. z.at) e) x (omega arith)

merging_listing : listing_text check_kind check_codes merging_draft.minimized.hyper 4 3 1 6 ≡ text
merging_listing =
    simp (
      check_code (check 1),
      check_code (check 2),
      check_code (check 3),
      check_code (check 5),
      check_code (check 7),
      decimal_digit 0 (lit< tt),
      decimal_digit 1 (lit< tt),
      decimal_digit 2 (lit< tt),
      decimal_digit 3 (lit< tt),
      decimal_digit 4 (lit< tt),
      decimal_digit 5 (lit< tt),
      decimal_digit 6 (lit< tt),
      decimal_digit 7 (lit< tt),
    )

merging_text : HyperText check_kind check_codes (source merging_draft) text
merging_text =
    let m = merging_draft.minimized in
    let x = merging_correct.minimized in
    record {
      least = m.least;
      is_least = x.least;
      hyper = m.hyper;
      representative = m.representative;
      factor = m.factor;
      is_hyper = x.hyper;
      kernel = m.kernel;
      is_kernel =
          below_4 (λ q. Tells (m.kernel q) (Kernel m.least q) (Preamble m.least q)) (x.preamble 0 (omega arith) refl)
          (x.preamble 1 (omega arith) refl) (x.preamble 2 (omega arith) refl) (x.kernel 3 (omega arith) refl);
      is_text = sym merging_listing;
    }

-- the sketch of the file is that of the calls, since it has room for more
pub merging_listed : FileText file text
merging_listed = merging_text
