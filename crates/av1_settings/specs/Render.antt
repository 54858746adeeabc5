-- The size that a picture is to be shown at.
use Rattle.std.specs.Prelude.{ℕ, ◌+◌, ◌-◌, ◌*◌, ◌/◌, ◌^◌, min, nat_lt, if◌then◌else◌}
use Rattle.av1_settings.specs.declared.encoder.EncoderConfig.{EncoderConfig}

-- the whole number nearest to a quotient, halves going up
abbrev pub rounded_quotient : ℕ → ℕ → ℕ
rounded_quotient dividend divisor = (2 * dividend + divisor) / (2 * divisor)

-- a length scaled by num over den, at most the greatest usize
unfoldable pub scaled : ℕ → ℕ → ℕ → ℕ
scaled len num den = min (rounded_quotient (len * num) den) (2 ^ 64 - 1)

-- samples that aren't square widen the picture, or make it higher
abbrev pub render_size : EncoderConfig → ℕ × ℕ
render_size enc =
    let num = enc.sample_aspect_ratio.num in
    let den = enc.sample_aspect_ratio.den in
    if nat_lt den num then (scaled enc.width num den, enc.height) else (enc.width, scaled enc.height den num)
