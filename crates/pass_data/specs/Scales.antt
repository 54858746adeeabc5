-- The scales of frames ahead.
use Rattle.std.specs.Prelude.{Option, Some, None, ℤ, pos, ◌+ℤ◌, ◌-ℤ◌, ◌*ℤ◌, int_lt, if◌then◌else◌}
use Rattle.std.specs.Int.{saturate_signed, w64}
use Rattle.fixed_log.specs.Conversion.{q57, q24_to_q57, bexp_q24}
use Rattle.fixed_log.specs.Logarithm.{blog64}

-- the mean scale of a subtype: frames that aren't counted have the scale that its filter answered last
abbrev pub mean_scale : ℤ → ℤ → ℤ → ℤ → ℤ
mean_scale sum count nframes last =
    saturate_signed w64
    (blog64 (saturate_signed w64 (sum +ℤ bexp_q24 last *ℤ (nframes -ℤ count)))
    -ℤ blog64 nframes -ℤ q57 (pos 24))

-- a subtype without frames takes one bit
abbrev pub scale_ahead : ℤ → ℤ → ℤ → ℤ → ℤ → ℤ
scale_ahead log_npixels sum count nframes last =
    if int_lt (pos 0) nframes then mean_scale sum count nframes last
    else saturate_signed w64 (pos 0 -ℤ log_npixels)

-- the frame that is coded has the scale of its metrics, or the one that its subtype's filter answered last
abbrev pub current_by : Option ℤ → ℤ → ℤ
current_by None last = q24_to_q57 last
current_by (Some log_scale) last = q24_to_q57 log_scale
