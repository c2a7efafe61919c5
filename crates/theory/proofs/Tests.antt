-- Finite facts of tables, decided by tests that compute. Assumes nothing.
use Rattle.std.proofs.Common.{◌≡◌, ℕ, zero, suc, ◌<◌, Bool, true, false, not, ◌&&◌, ◌||◌, ltb, eqb, List, [], ◌∷◌, inl, inr, refl, ap, ◌∙◌}
use Rattle.std.proofs.lemmas.Bool.{and_parts, or_cases, both_ways, not-true, ltb-true, eqb-true, eq-eqb}
use Rattle.std.proofs.lemmas.Bool.Decides.{Decides-below_and, Decides-below_or}
use Rattle.weights.specs.Group.{Group}
use Rattle.tables.specs.Table.{Table, Word}
use Rattle.theory.specs.Runs.{Closed}
use Rattle.theory.proofs.Basics.{walked, mul_inv_back}

-- a test passes at each number below n, or at one of them
unfoldable pub all_below : (ℕ → Bool) → ℕ → Bool
all_below p zero = true
all_below p (suc n) = p n && all_below p n

unfoldable pub any_below : (ℕ → Bool) → ℕ → Bool
any_below p zero = false
any_below p (suc n) = p n || any_below p n

-- or at all of two numbers, below n and below m
unfoldable pub all_both : (ℕ → ℕ → Bool) → ℕ → ℕ → Bool
all_both p n m = all_below (λ i. all_below (p i) m) n

-- then it passes there
pub at_each : (p : ℕ → Bool) (n : ℕ) → all_below p n ≡ true → (k : ℕ) → k < n → p k ≡ true
unfolding all_below
at_each p n = (Decides-below_and p (λ k. p k ≡ true) (all_below p) (λ k. ((λ e. e), (λ e. e))) refl (λ _. refl) n).0

pub at_some : (p : ℕ → Bool) (n : ℕ) → any_below p n ≡ true → (k : ℕ) × (k < n) × (p k ≡ true)
unfolding any_below
at_some p n = (Decides-below_or p (λ k. p k ≡ true) (any_below p) (λ k. ((λ e. e), (λ e. e))) refl (λ _. refl) n).0

pub at_both : (p : ℕ → ℕ → Bool) (n m : ℕ) → all_both p n m ≡ true → (i j : ℕ) → i < n → j < m → p i j ≡ true
unfolding all_both
at_both p n m e i j l k = at_each (p i) m (at_each (λ i. all_below (p i) m) n e i l) j k

-- a test on a condition, and one of two
pub given : (b c : Bool) → (not b || c) ≡ true → b ≡ true → c ≡ true
given b c e h = elim (or_cases _ _ e) [ inl other ↦ absurd (both_ways b (not-true b other) h) | inr holds ↦ holds ]

pub either : (b c : Bool) → (b || c) ≡ true → c ≡ false → b ≡ true
either b c e h = elim (or_cases _ _ e) [ inl holds ↦ holds | inr other ↦ absurd (both_ways c h other) ]

-- whether a list is a word, and start and arcs stay inside a table
unfoldable pub is_word : ℕ → List ℕ → Bool
is_word s [] = true
is_word s (a ∷ w) = ltb a s && is_word s w

pub word_there : (s : ℕ) (w : List ℕ) → is_word s w ≡ true → Word s w
unfolding is_word
word_there s [] e = tt
word_there s (a ∷ w) e = let h = and_parts _ _ e in (ltb-true _ _ h.0, word_there s w h.1)

unfoldable pub is_closed : {M : Type 0} → Table M → Bool
is_closed t = ltb t.start t.states && all_both (λ q a. ltb (t.target q a) t.states) t.states t.letters

pub closed_there : {M : Type 0} (t : Table M) → is_closed t ≡ true → Closed t
unfolding is_closed
closed_there t e =
    let h = and_parts _ _ e in
    record {
      start_inside = ltb-true _ _ h.0;
      target_inside = λ q a l m. ltb-true _ _ (at_both (λ q a. ltb (t.target q a) t.states) t.states t.letters h.1 q a l m);
    }

-- weights as numbers
pub record Coded (G : Group) : Type 0 where
  pub number : G.Mean → ℕ
  pub injective : (x y : G.Mean) → number x ≡ number y → x ≡ y

module _ (G : Group) (c : Coded G) where
  -- whether two weights are equal
  unfoldable pub same : G.Mean → G.Mean → Bool
  same x y = eqb (c.number x) (c.number y)

  pub same_there : (x y : G.Mean) → same x y ≡ true → x ≡ y
  unfolding same
  same_there x y e = c.injective x y (eqb-true _ _ e)

  pub same_true : (x y : G.Mean) → x ≡ y → same x y ≡ true
  unfolding same
  same_true x y e = eq-eqb (c.number x) (c.number y) (ap c.number e)

-- by what factor a word weighs more from state q than from state p
unfoldable pub ratio : (G : Group) (t : Table G.Mean) → ℕ → ℕ → List ℕ → G.Mean
ratio G t q p w = G.mul (walked G t q w) (G.inv (walked G t p w))

-- where the factor of a word is known, it is that
pub ratio_told :
    (G : Group) (t : Table G.Mean) (q p : ℕ) (k : G.Mean) (w : List ℕ) → walked G t q w ≡ G.mul k (walked G t p w) →
    ratio G t q p w ≡ k
unfolding ratio
ratio_told G t q p k w e =
    ap (λ x. G.mul x (G.inv (walked G t p w))) e ∙ mul_inv_back G k (walked G t p w)
