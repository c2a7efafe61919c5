-- What holds of each of the first few numbers. Assumes nothing.
use Rattle.std.proofs.Common.{ℕ, zero, suc, ◌<◌, arith}

pub below_1 : (P : ℕ → Type 0) → P 0 → (q : ℕ) → q < 1 → P q
below_1 P a zero l = a
below_1 P a (suc q) l = absurd (omega arith)

pub below_2 : (P : ℕ → Type 0) → P 0 → P 1 → (q : ℕ) → q < 2 → P q
below_2 P a b zero l = a
below_2 P a b (suc zero) l = b
below_2 P a b (suc (suc q)) l = absurd (omega arith)

pub below_4 : (P : ℕ → Type 0) → P 0 → P 1 → P 2 → P 3 → (q : ℕ) → q < 4 → P q
below_4 P a b c d zero l = a
below_4 P a b c d (suc zero) l = b
below_4 P a b c d (suc (suc zero)) l = c
below_4 P a b c d (suc (suc (suc zero))) l = d
below_4 P a b c d (suc (suc (suc (suc q)))) l = absurd (omega arith)

-- and of each of the first few numbers with each of a second few
pub arcs_1 : (P : ℕ → ℕ → Type 0) → P 0 0 → (q a : ℕ) → q < 1 → a < 1 → P q a
arcs_1 P x q a l m = below_1 (λ q. P q a) (below_1 (P 0) x a m) q l

pub arcs_2 : (P : ℕ → ℕ → Type 0) → P 0 0 → P 1 0 → (q a : ℕ) → q < 2 → a < 1 → P q a
arcs_2 P x y q a l m = below_2 (λ q. P q a) (below_1 (P 0) x a m) (below_1 (P 1) y a m) q l
