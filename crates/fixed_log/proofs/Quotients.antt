-- Quotients in order.
use Rattle.std.proofs.Common.{◌≡◌, ℕ, ◌+◌, ◌-◌, ◌*◌, ◌/◌, ◌%◌, ◌<◌, ◌≤◌, arith}
use Rattle.std.proofs.Math.Nat.{div-mul-le_self, mul-le-mul_left, div-add-mod'}
use Rattle.std.proofs.lemmas.Nat.{le-div, div_below, mod_below}

pub div_mono : (a b m : ℕ) → 0 < m → a ≤ b → a / m ≤ b / m
div_mono a b m p h = le-div (a / m) b m p (omega (arith, div-mul-le_self a m))

-- a quotient grows by no more than the number does
pub div_grows : (a d m : ℕ) → 0 < m → (a + d) / m ≤ a / m + d
div_grows a d m p =
    let split = div-add-mod' a m in
    let rest : a % m < m = mod_below a m p in
    let wide : d * 1 ≤ d * m = mul-le-mul_left d p in
    let below : (a + d) / m < a / m + d + 1 = div_below (a + d) m (a / m + d + 1) p (omega arith) in
    omega arith

-- what is left of a number less its quotient grows with the number
pub less_quotient : (a b m : ℕ) → 0 < m → a ≤ b → a - a / m ≤ b - b / m
less_quotient a b m p h =
    let grown : (a + (b - a)) / m ≤ a / m + (b - a) = div_grows a (b - a) m p in
    let same : a + (b - a) ≡ b = omega arith in
    let bound : b / m ≤ a / m + (b - a) = rw same at grown in
    omega (arith, div-mul-le_self a m)
