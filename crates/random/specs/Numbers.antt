-- The generator SplitMix64. Assumes nothing.
use Rattle.std.specs.Prelude.{ℕ, ◌+◌, ◌-◌, ◌*◌, ◌/◌, ◌%◌, ◌^◌, max, bit_xor}

-- numbers of 64 bits
abbrev pub wrapped : ℕ → ℕ
wrapped n = n % 2 ^ 64

-- a number mixed with its higher bits, and multiplied
abbrev pub stirred : ℕ → ℕ → ℕ → ℕ
stirred n bits by = wrapped (bit_xor n (n / 2 ^ bits) * by)

-- a number for a number, which looks random
abbrev pub mixed_up : ℕ → ℕ
mixed_up n =
    let stir = stirred (stirred n 30 0xbf58476d1ce4e5b9) 27 0x94d049bb133111eb in
    bit_xor stir (stir / 2 ^ 31)

-- the state after a state
abbrev pub next_state : ℕ → ℕ
next_state s = wrapped (s + 0x9e3779b97f4a7c15)

-- the number from low to below high that the state after s gives, or low where there is none
abbrev pub number_between : ℕ → ℕ → ℕ → ℕ
number_between s low high = low + mixed_up (next_state s) % max 1 (high - low)
