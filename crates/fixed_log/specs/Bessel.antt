-- A second-order Bessel low-pass filter, 3 / (s^2 + 3 s + 3), as the bilinear transform makes it digital, with its state.
-- In the comments w is the warped frequency tan(pi / delay).
use Rattle.std.specs.Prelude.{ℕ, ◌+◌, ◌-◌, ◌*◌, ◌/◌, ◌^◌, min, max, List, [], ◌∷◌, slice_index, ℤ, pos, ◌+ℤ◌, ◌-ℤ◌, ◌*ℤ◌, unsigned_abs, FitsSigned}
use Rattle.std.specs.Int.{int_shr, saturate_signed, w32}

-- entry i is tan(i * pi / 36), of scale 2^12, rounded
abbrev pub tangents : List ℕ
tangents = 0 ∷ 358 ∷ 722 ∷ 1098 ∷ 1491 ∷ 1910 ∷ 2365 ∷ 2868 ∷ 3437 ∷ 4096 ∷ 4881 ∷ 5850 ∷ 7094 ∷ 8784 ∷ 11254 ∷ 15286 ∷ 23230 ∷ 46817 ∷ []

unfoldable pub tangent : ℕ → ℕ
tangent i = slice_index tangents i

-- 36 over the delay, of scale 2^24: the place in the table of the tangent of pi over the delay
abbrev pub table_place : ℕ → ℕ
table_place delay = 2 ^ 24 / delay * 36

-- the tangent that lies rest / 2^24 of the way from entry i to the next
unfoldable pub interpolated : ℕ → ℕ → ℕ
interpolated i rest = (tangent i * 2 ^ 32 + (tangent (i + 1) - tangent i) * 2 ^ 8 * rest) / 2 ^ 32

-- the warped frequency, of scale 2^12, at least 1
unfoldable pub warp : ℕ → ℕ
warp delay =
    let i = min (table_place delay / 2 ^ 24) 16 in
    max 1 (interpolated i (table_place delay - i * 2 ^ 24))

-- 3 w^2, of scale 2^24
abbrev pub squared : ℕ → ℕ
squared w = 3 * w * w

-- 1 + 3 w + 3 w^2, of scale 2^15
unfoldable pub divisor : ℕ → ℕ
divisor w = ((4096 + 3 * w) * 2 ^ 12 + squared w + 256) / 2 ^ 9

-- the gain 3 w^2 / (1 + 3 w + 3 w^2), of scale 2^32
unfoldable pub gain : ℕ → ℕ
gain w = squared w * 2 ^ 23 / divisor w

-- 1 / (3 w^2), of scale 2^24
unfoldable pub inverse : ℕ → ℕ
inverse w = 2 ^ 48 / squared w

-- the feedback of the last answer and of the one before, of scale 2^56: 2 A (I - 1) and 1 - 4 A less that, for the gain A and the inverse I
unfoldable pub feedback_1 : ℕ → ℤ
feedback_1 w = pos (2 * gain w) *ℤ (pos (inverse w) -ℤ pos (2 ^ 24))

unfoldable pub feedback_2 : ℕ → ℤ
feedback_2 w = (pos (2 ^ 56) -ℤ pos (4 * gain w * 2 ^ 24)) -ℤ feedback_1 w

-- from the scale 2^56 to 2^24
abbrev pub rounded : ℤ → ℤ
rounded z = int_shr (z +ℤ pos (2 ^ 31)) 32

-- the filter: its coefficients, of scale 2^24, and the last two inputs and answers
pub record Follower : Type 0 where
  pub c0 : ℤ
  pub c1 : ℤ
  pub g : ℤ
  pub x0 : ℤ
  pub x1 : ℤ
  pub y0 : ℤ
  pub y1 : ℤ

-- the coefficients of a delay, with the state as it is
abbrev pub with_delay : ℤ → Follower → Follower
with_delay delay f =
    let w = warp (unsigned_abs delay) in
    record f { c0 = rounded (feedback_1 w); c1 = rounded (feedback_2 w); g = pos ((gain w + 128) / 2 ^ 8) }

-- the state that a constant input leaves
abbrev pub with_value : ℤ → Follower → Follower
with_value value f = record f { x0 = value; x1 = value; y0 = value; y1 = value }

abbrev pub follower : ℤ → ℤ → Follower
follower delay value = with_value value (with_delay delay (record { c0 = pos 0; c1 = pos 0; g = pos 0; x0 = pos 0; x1 = pos 0; y0 = pos 0; y1 = pos 0 }))

-- the inputs with the weights 1, 2 and 1, and the answers fed back
abbrev pub inputs : ℤ → Follower → ℤ
inputs x f = (x +ℤ pos 2 *ℤ f.x0) +ℤ f.x1

abbrev pub weighted : ℤ → Follower → ℤ
weighted x f = ((inputs x f *ℤ f.g +ℤ f.y0 *ℤ f.c0) +ℤ f.y1 *ℤ f.c1) +ℤ pos (2 ^ 23)

-- the answer to an input
abbrev pub filtered : ℤ → Follower → ℤ
filtered x f = saturate_signed w32 (int_shr (weighted x f) 24)

-- the filter after an input
abbrev pub updated : ℤ → Follower → Follower
updated x f = record f { x0 = x; x1 = f.x0; y0 = filtered x f; y1 = f.y0 }

-- the coefficients, inputs and answers fit their types
pub record FitsTypes (f : Follower) : Type 0 where
  pub c0 : FitsSigned w32 f.c0
  pub c1 : FitsSigned w32 f.c1
  pub g : FitsSigned w32 f.g
  pub x0 : FitsSigned w32 f.x0
  pub x1 : FitsSigned w32 f.x1
  pub y0 : FitsSigned w32 f.y0
  pub y1 : FitsSigned w32 f.y1
