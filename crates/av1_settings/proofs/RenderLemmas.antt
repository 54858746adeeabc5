-- Rounding by adding half the divisor.
use Rattle.std.proofs.Common.{◌≡◌, ℕ, ◌+◌, ◌*◌, ◌/◌, ap, ◌∙◌, arith}
use Rattle.std.proofs.Math.Nat.{div-div-eq-div-mul}
use Rattle.av1_settings.specs.Render.{rounded_quotient}

pub rounded_by_half : (dividend divisor : ℕ) → (dividend + divisor / 2) / divisor ≡ rounded_quotient dividend divisor
rounded_by_half dividend divisor =
    let half : dividend + divisor / 2 ≡ (2 * dividend + divisor) / 2 = omega arith in
    ap (λ n. n / divisor) half ∙ div-div-eq-div-mul (2 * dividend + divisor) 2 divisor
