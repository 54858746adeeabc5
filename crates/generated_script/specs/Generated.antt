-- The script that a seed makes.
use Rattle.std.specs.Prelude.{ℕ, pos, ◌+◌, ◌/◌, ◌%◌, ◌==◌, ◌&&◌, nat_le, Bool, List, [], ◌∷◌, ◌++◌, filter, map, replicate, None}
use Rattle.std.specs.List.{enumerate_from}
use Rattle.script_lines.specs.declared.line.Action.TheVariants.{Send, Flush, Receive}
use Rattle.script_lines.specs.declared.line.ScriptCall.{ScriptCall}
use Rattle.script_lines.specs.declared.line.ScriptCall.TheVariants.{Act}
use Rattle.script_lines.specs.declared.script.Script.{Script}
use Rattle.script_lines.specs.declared.setting.Setting.{Setting}
use Rattle.script_lines.specs.declared.setting.Setting.TheVariants.{Size, KeyInterval, Lookahead, Bitrate}
use Rattle.generated_script.specs.declared.script.TheConstants.{FRAMES, RECEIVES, CUT_DIVISOR, LEAST_BYTES, BYTES_RANGE, BYTES_DIVISOR}
use Rattle.generated_script.specs.Numbers.{numbers_after}

-- frames of 64 by 64, key frames 12 to 60 apart, a lookahead of 10, and 60,000 bits a second
abbrev pub the_settings : List Setting
the_settings = Size 64 64 ∷ KeyInterval 12 60 ∷ Lookahead 10 ∷ Bitrate (pos 60_000) ∷ []

-- a frame and its random number: whether the scene is cut there, but never at frame 0
abbrev pub is_cut : ℕ × ℕ → Bool
is_cut frame = nat_le 1 frame.0 && frame.1 % CUT_DIVISOR == 0

-- the frames at which the scene is cut
abbrev pub cuts_of : List (ℕ × ℕ) → List ℕ
cuts_of frames = map (λ frame. frame.0) (filter is_cut frames)

-- each frame with its bytes, 20 to 219
abbrev pub byte_counts_of : List (ℕ × ℕ) → List (ℕ × ℕ)
byte_counts_of frames =
    map (λ frame. (frame.0, LEAST_BYTES + frame.1 / BYTES_DIVISOR % BYTES_RANGE)) frames

-- all frames are sent, then a flush, then the receives
abbrev pub calls_of : ℕ → ℕ → List ScriptCall
calls_of frames receives =
    replicate frames (Act Send) ++ Act Flush ∷ [] ++ replicate receives (Act Receive)

-- the script of a seed, with so many frames and receives
unfoldable pub script_with : ℕ → ℕ → ℕ → Script
script_with frames receives seed =
    let numbered = enumerate_from 0 (numbers_after seed frames) in
    record {
      settings = the_settings;
      summary = None;
      cuts = cuts_of numbered;
      byte_counts = byte_counts_of numbered;
      faults = [];
      scales = [];
      prints = [];
      calls = calls_of frames receives;
    }

-- the script of a seed
abbrev pub generated : ℕ → Script
generated seed = script_with FRAMES RECEIVES seed
