-- Exponentials and logarithms of lesser precision, by polynomials.
use Rattle.std.specs.Prelude.{ℕ, zero, suc, ◌+◌, ◌-◌, ◌*◌, ◌/◌, ◌^◌, ℤ, pos, negsuc, ◌+ℤ◌, ◌-ℤ◌, ◌*ℤ◌, int_lt, unsigned_abs, if◌then◌else◌}
use Rattle.std.specs.Int.{int_shr, int_gap, int_rem_euclid}
use Rattle.fixed_log.specs.Logarithm.{highest_bit}

-- a step of Horner's rule: t times n / 2^15, and c
abbrev pub horner : ℕ → ℕ → ℕ → ℕ
horner n t c = n * t / 2 ^ 15 + c

-- 2^14 times 2 to the power of n / 2^14, nearly: a polynomial of the fourth degree
unfoldable pub exp_fraction : ℕ → ℕ
exp_fraction n = horner n (horner n (horner n (horner n 3548 6817) 15823) 22708) 16384

-- m times 2^(k - 14), rounded
unfoldable pub exp_scaled : ℤ → ℕ → ℕ
exp_scaled k m =
    if int_lt k (pos 14) then (m + 2 ^ (int_gap k (pos 14) - 1)) / 2 ^ int_gap k (pos 14)
    else m * 2 ^ int_gap (pos 14) k

-- 2 to the power of a number of scale 2^10, rounded
unfoldable pub bexp32_q10 : ℤ → ℕ
bexp32_q10 z = exp_scaled (int_shr z 10) (exp_fraction (unsigned_abs (int_rem_euclid z (pos 1024)) * 16))

-- the same of signed numbers
abbrev pub horner_signed : ℤ → ℤ → ℤ → ℤ
horner_signed n t c = int_shr (n *ℤ t) 15 +ℤ c

-- 2^14 times log2(3/4 + n / 2^16), nearly: a polynomial of the fourth degree
unfoldable pub log_fraction : ℤ → ℤ
log_fraction n =
    horner_signed n (horner_signed n (horner_signed n (horner_signed n (negsuc 1401) (pos 2546)) (negsuc 5215)) (pos 15745)) (negsuc 6796)

-- how many bits w has
abbrev pub bit_length : ℕ → ℕ
bit_length w = highest_bit w + 1

-- w shifted to 16 bits, less 3/4 of 2^16
abbrev pub centred : ℕ → ℤ
centred w = pos (w * 2 ^ 15 / 2 ^ highest_bit w) -ℤ pos 49152

-- the base-2 logarithm of w, of scale 2^11: of a positive w, and -1 for 0
abbrev pub positive_log_q11 : ℕ → ℤ
positive_log_q11 w = pos (bit_length w * 2 ^ 11) +ℤ int_shr (log_fraction (centred w)) 3

unfoldable pub blog32_q11 : ℕ → ℤ
blog32_q11 zero = negsuc 0
blog32_q11 (suc m) = positive_log_q11 (suc m)
