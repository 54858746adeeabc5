-- What the scripted mean scales answer, and what they tell of the frames that they keep.
use Rattle.std.specs.Prelude.{ℕ, ◌+◌, ℤ, pos, ◌==◌, List, [], map, reverse, Option, Some, unwrap_or}
use Rattle.std.specs.List.{find}
use Rattle.std.specs.Option.{option_map}
use Rattle.session_core.specs.Told.{Scaled, ScalesTold}
use Rattle.scripted.specs.declared.scales.Measured.{Measured}
use Rattle.scripted.specs.declared.scales.ScriptedScales.{ScriptedScales}

-- the mean scale that is set for a frame, if one is: the last of its
abbrev pub set_scale : List (ℕ × ℤ) → ℕ → Option ℤ
set_scale scales frame = option_map (λ scale. scale.1) (find (λ scale. scale.0 == frame) (reverse scales))

-- the mean scale of a frame: the one that is set for it, else 0
abbrev pub scale_at : List (ℕ × ℤ) → ℕ → ℤ
scale_at scales frame = unwrap_or (set_scale scales frame) (pos 0)

-- the same, by values that speak of frame 0 by this number, and of those that follow by the numbers that follow
abbrev pub scale_from : ℕ → List (ℕ × ℤ) → ℕ → ℤ
scale_from first scales frame = scale_at scales (first + frame)

abbrev pub told_measured : Measured → Scaled ℕ
told_measured measured = record {
  number = measured.number;
  picture = measured.picture.value;
  answer = measured.answer;
}

abbrev pub measured_by : ScriptedScales → Option (List (Scaled ℕ))
measured_by scales = Some (map told_measured scales.log)

abbrev pub scales_told : ScriptedScales → ScalesTold ℕ
scales_told scales =
    record { frames = measured_by scales; answers = Some (scale_from scales.first scales.scales) }

-- what mean scales with these values tell first: no frame, and for each number its value
abbrev pub scaled_first : List (ℕ × ℤ) → ScalesTold ℕ
scaled_first scales = record { frames = Some []; answers = Some (scale_at scales) }

-- the same, by values that speak of frame 0 by this number
abbrev pub scaled_first_from : ℕ → List (ℕ × ℤ) → ScalesTold ℕ
scaled_first_from first scales = record { frames = Some []; answers = Some (scale_from first scales) }
