-- What was read of the bytes of frames' metrics, however they came.
use Rattle.std.specs.Prelude.{◌≡◌, ℕ, suc, ◌<◌, List, [], ◌∷◌, ◌++◌, length, take, drop, true, None, is_some, ℤ}
use Rattle.pass_stats.specs.Metric.{Metric}
use Rattle.pass_stats.specs.declared.metrics.RCFrameMetrics.{RCFrameMetrics}
use Rattle.pass_data.specs.Given.{Given, coded}
use Rattle.pass_data.specs.Pieces.{given_bytes}

-- the bytes stand for these metrics, one after the other, and at their end for a part of further ones
abbrev pub ArePackets : List ℕ → List RCFrameMetrics → List ℕ → Type 0
ArePackets bytes [] rest = (bytes ≡ rest) × (length rest < 8)
ArePackets bytes (m ∷ ms) rest = Metric (take 8 bytes) m × ArePackets (drop 8 bytes) ms rest

-- a piece of bytes is given, at a delay and after so many commands; or a frame is coded
pub data Event : Type 0 where
  Piece : ℤ → ℤ → List ℕ → Event
  Frame : Event

abbrev pub given_after : List Event → Given → Given
given_after [] g = g
given_after (Piece delay commands bytes ∷ es) g =
    given_after es (given_bytes delay commands bytes g).given
given_after (Frame ∷ es) g = given_after es (coded g)

-- the bytes that were taken, joined
abbrev pub joined : List Event → Given → List ℕ
joined [] g = []
joined (Piece delay commands bytes ∷ es) g =
    take (given_bytes delay commands bytes g).taken bytes
    ++ joined es (given_bytes delay commands bytes g).given
joined (Frame ∷ es) g = joined es (coded g)

abbrev pub frames_coded : List Event → ℕ
frames_coded [] = 0
frames_coded (Piece delay commands bytes ∷ es) = frames_coded es
frames_coded (Frame ∷ es) = suc (frames_coded es)

-- nothing is refused, and no frame is coded whose metrics aren't held
abbrev pub AllTaken : List Event → Given → Type 0
AllTaken [] g = Unit {0}
AllTaken (Piece delay commands bytes ∷ es) g =
    ((given_bytes delay commands bytes g).refused ≡ None)
    × AllTaken es (given_bytes delay commands bytes g).given
AllTaken (Frame ∷ es) g = (0 < length g.window.held) × AllTaken es (coded g)

-- metrics are read into a window: there is a summary
pub record Reads (g : Given) : Type 0 where
  pub header : is_some g.header ≡ true
  pub finite : g.is_finite ≡ true
  pub unfinished : length g.bytes < 8

-- the metrics of the joined bytes were accepted, and are held but for those of the frames that were coded
pub record HasRead (bytes : List ℕ) (frames : ℕ) (old new : Given) : Type 0 where
  pub accepted : List RCFrameMetrics
  pub packets : ArePackets bytes accepted new.bytes
  pub held : new.window.held ≡ drop frames (old.window.held ++ accepted)
