-- What a frame shows of its subtype.
use Rattle.std.specs.Prelude.{ℕ, ◌-◌, ◌^◌, nat_lt, Bool, ◌&&◌, ◌||◌, ℤ, pos, ◌+ℤ◌, ◌-ℤ◌, int_lt, int_le, if◌then◌else◌}
use Rattle.std.specs.Int.{int_min, saturate_signed, w64}
use Rattle.std.specs.Ordering.{int_eq}
use Rattle.fixed_log.specs.Conversion.{q57, q57_to_q24, q24_to_q57}
use Rattle.fixed_log.specs.Exponential.{bexp64}
use Rattle.fixed_log.specs.Logarithm.{blog64}
use Rattle.fixed_log.specs.Bessel.{with_delay, with_value, updated, filtered}
use Rattle.rate_model.specs.Subtype.{SubtypeRate}
use Rattle.rate_model.specs.Search.{power_log}

-- a frame: its bits, its subtype, 4 for the show of a coded frame, whether it is shown, the quantiser that it aimed at, and whether it was
-- coded as a trial only
pub record Entry : Type 0 where
  pub bits : ℤ
  pub subtype : ℕ
  pub shown : Bool
  pub log_target : ℤ
  pub trial : Bool

abbrev pub entry : ℤ → ℕ → Bool → ℤ → Bool → Entry
entry bits subtype shown log_target trial =
    record { bits = bits; subtype = subtype; shown = shown; log_target = log_target; trial = trial }

-- counts stop at their last value
abbrev pub grown : ℤ → ℤ → ℤ
grown last n = int_min (n +ℤ pos 1) last

abbrev pub LAST_I32 : ℤ
LAST_I32 = pos (2 ^ 31 - 1)

-- the frame's bits at quantiser 1 for each pixel, as a logarithm, at most 16; power is the logarithm by which its quantiser made them fall
abbrev pub scale_of : ℤ → ℤ → ℤ → ℤ
scale_of log_npixels bits power = saturate_signed w64 (int_min (blog64 bits -ℤ log_npixels +ℤ power) (q57 (pos 16)))

-- the bits that were to be expected
abbrev pub estimate_of : ℤ → ℤ → ℤ → ℤ
estimate_of log_npixels log_scale power = bexp64 (saturate_signed w64 (log_scale +ℤ log_npixels -ℤ power))

-- the first frame and a trial set the scale
abbrev pub with_scale : ℤ → SubtypeRate → SubtypeRate
with_scale scale s = record s { log_scale = scale; filter = with_value (q57_to_q24 scale) s.filter }

-- each frame past the delay lets it grow by 1, up to a target; key frames keep theirs
abbrev pub has_delay_to_grow : ℕ → ℤ → SubtypeRate → Bool
has_delay_to_grow subtype delay_target s = nat_lt 0 subtype && (int_lt s.delay delay_target && int_le s.delay s.frames)

abbrev pub with_longer_delay : SubtypeRate → SubtypeRate
with_longer_delay s = record s { delay = s.delay +ℤ pos 1; filter = with_delay (s.delay +ℤ pos 1) s.filter }

abbrev pub with_grown_delay : ℕ → ℤ → SubtypeRate → SubtypeRate
with_grown_delay subtype delay_target s =
    if has_delay_to_grow subtype delay_target s then with_longer_delay s else s

abbrev pub following : ℤ → SubtypeRate → SubtypeRate
following scale s = record s { log_scale = q24_to_q57 (filtered (q57_to_q24 scale) s.filter); filter = updated (q57_to_q24 scale) s.filter }

-- the subtype with the scale of a frame
unfoldable pub measured : ℕ → ℤ → Bool → ℤ → SubtypeRate → SubtypeRate
measured subtype delay_target trial scale s =
    if trial || int_eq s.frames (pos 0) then with_scale scale s else following scale (with_grown_delay subtype delay_target s)

abbrev pub counted : Bool → SubtypeRate → SubtypeRate
counted trial s = if trial then s else record s { frames = grown LAST_I32 s.frames }

-- what the subtype is after a frame; one without bits shows nothing of its scale
unfoldable pub subtype_after : ℤ → ℤ → Entry → SubtypeRate → SubtypeRate
subtype_after log_npixels delay_target e s =
    counted e.trial
    (if int_lt (pos 0) e.bits
    then measured e.subtype delay_target e.trial (scale_of log_npixels e.bits (power_log e.log_target s.exponent)) s else s)
