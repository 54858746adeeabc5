-- What a second pass was given: the summary, and the metrics of frames.
use Rattle.std.specs.Prelude.{ℕ, ◌^◌, ◌<◌, ◌≤◌, ◌==◌, nat_lt, nat_le, Bool, ◌&&◌, List, [], length, slice_get, Option, Some, None, is_some, IfSome, Result, Ok, Err, ℤ, pos, ◌-ℤ◌, ◌≤ℤ◌, int_le, IsFalse, if◌then◌else◌}
use Rattle.std.specs.Int.{int_min, int_max}
use Rattle.pass_stats.specs.Bytes.{i32_at, u32_at}
use Rattle.pass_stats.specs.Grammar.{any_zero, frame_total}
use Rattle.pass_stats.specs.Metric.{subtype_at}
use Rattle.pass_stats.specs.Summary.{first_met, counts_at, exponents_at, sums_at}
use Rattle.pass_stats.specs.declared.error.Why.{Why}
use Rattle.pass_stats.specs.declared.metrics.RCFrameMetrics.{RCFrameMetrics}
use Rattle.metrics_window.specs.declared.tally.Tally.{Tally}
use Rattle.metrics_window.specs.Tallies.{all_frames, shown_of, less}
use Rattle.metrics_window.specs.Window.{Window, with_taken, without_first}
use Rattle.pass_data.specs.declared.given.Header.{Header}
use Rattle.pass_data.specs.declared.error.PassDataError.{PassDataError}
use Rattle.pass_data.specs.declared.error.PassDataError.TheVariants.{Corrupted, BadPacket, TooManyFrames, NotNeeded, WrongSize}

pub record Given : Type 0 where
  -- the bytes of a summary, or of metrics, that isn't whole yet
  pub bytes : List ℕ
  pub header : Option Header
  -- what the summary counts, less the frames that were coded; its shown count is that of the temporal units
  pub left : Tally
  -- a finite buffer holds the metrics of frames ahead in a window; a buffer of the whole file holds those of the next frame alone
  pub is_finite : Bool
  pub window : Window
  pub next : Option RCFrameMetrics

-- 68 bytes make a summary, and 8 bytes a frame's metrics
abbrev pub goal_by : Bool → ℕ
goal_by has_header = if has_header then 8 else 68

abbrev pub goal : Given → ℕ
goal g = goal_by (is_some g.header)

abbrev pub IsHeader : Header → Type 0
IsHeader h = (pos 1 ≤ℤ h.ntus) × IsFalse (any_zero h.exp)

-- what the code keeps
pub record IsGiven (held : List ℕ) (summary : Option Header) (metrics : Option RCFrameMetrics) : Type 0 where
  pub unfinished : length held < goal_by (is_some summary)
  pub header : IfSome summary IsHeader
  pub next : IfSome metrics (λ m. m.fti ≤ 4)

-- ---- the next frame's metrics

abbrev pub current : Given → Option RCFrameMetrics
current g = if g.is_finite then slice_get g.window.held 0 else g.next

abbrev pub without_metrics : RCFrameMetrics → Given → Given
without_metrics m g =
    record g { left = less m g.left; window = without_first g.window; next = None }

-- the frame is coded
abbrev pub coded_by : Option RCFrameMetrics → Given → Given
coded_by None g = g
coded_by (Some m) g = without_metrics m g

unfoldable pub coded : Given → Given
coded g = coded_by (current g) g

-- ---- how many frames' metrics are needed, where the reservoir is evened out over `delay` temporal units, and after so many commands

-- a window looks so many temporal units ahead, but not past the summary's frames
abbrev pub needed_in_window : ℤ → Header → Given → ℤ
needed_in_window delay h g =
    let units = int_min delay h.ntus -ℤ shown_of g.window.held in
    let frames = all_frames g.left -ℤ pos (length g.window.held) in
    int_max (int_min units frames) (pos 0)

abbrev pub needed_by_header : ℤ → ℤ → Header → Given → ℤ
needed_by_header delay commands h g =
    if int_le h.total commands then pos 0
    else (if g.is_finite then needed_in_window delay h g
    else (if is_some g.next then pos 0 else pos 1))

abbrev pub needed_by : Option Header → ℤ → ℤ → Given → ℤ
needed_by None delay commands g = pos 0
needed_by (Some h) delay commands g = needed_by_header delay commands h g

unfoldable pub needed : ℤ → ℤ → Given → ℤ
needed delay commands g = needed_by g.header delay commands g

-- the next frame's metrics are there
abbrev pub has_next : ℤ → Given → Bool
has_next needed g =
    if g.is_finite then (int_le needed (pos 0) && nat_lt 0 (length g.window.held)) else is_some g.next

-- ---- what is taken, and what is refused

pub record Outcome : Type 0 where
  pub given : Given
  pub refused : Option PassDataError

abbrev pub taken : Given → Outcome
taken g = record { given = g; refused = None }

abbrev pub refused : PassDataError → Given → Outcome
refused e g = record { given = g; refused = Some e }

abbrev pub into_window : RCFrameMetrics → Given → Outcome
into_window m g =
    if nat_le g.window.capacity (length g.window.held) then refused TooManyFrames g
    else taken (record g { window = with_taken m g.window })

abbrev pub with_metrics : RCFrameMetrics → Given → Outcome
with_metrics m g = if g.is_finite then into_window m g else taken (record g { next = Some m })

-- the metrics that 8 bytes stand for
abbrev pub metrics_at : List ℕ → RCFrameMetrics
metrics_at bytes =
    record {
      log_scale_q24 = i32_at bytes 4;
      fti = subtype_at bytes;
      show_frame = nat_le (2 ^ 31) (u32_at bytes 0);
    }

abbrev pub bad_packet : List ℕ → PassDataError
bad_packet bytes = BadPacket (record { value = subtype_at bytes })

abbrev pub with_packet_bytes : List ℕ → Given → Outcome
with_packet_bytes bytes g =
    if nat_lt 4 (subtype_at bytes) then refused (bad_packet bytes) g
    else with_metrics (metrics_at bytes) g

-- no bytes are kept that came before a summary
abbrev pub with_values : ℤ → List ℤ → List ℕ → List ℤ → ℤ → Given → Given
with_values ntus nframes exp scale_sum total g = record g {
  bytes = [];
  header = Some (record { ntus = ntus; total = total; exp = exp });
  left = record { counts = nframes; sums = scale_sum; shown = ntus };
}

abbrev pub refusal_by : Option Why → Option PassDataError
refusal_by None = None
refusal_by (Some why) = Some (Corrupted why)

abbrev pub with_summary_by : Option Why → List ℕ → Given → Outcome
with_summary_by (Some why) bytes g = refused (Corrupted why) g
with_summary_by None bytes g =
    taken
    (with_values (i32_at bytes 8) (counts_at bytes) (exponents_at bytes) (sums_at bytes)
    (frame_total (counts_at bytes)) g)

abbrev pub with_summary_bytes : List ℕ → Given → Outcome
with_summary_bytes bytes g = with_summary_by (first_met bytes) bytes g

-- a whole packet that is given by itself; bytes of an unfinished one stay
unfoldable pub sent : Bool → List ℕ → Given → Outcome
sent is_needed bytes g =
    if length bytes == 8 then
    (if nat_lt 4 (subtype_at bytes) then refused (bad_packet bytes) g
    else (if is_needed then with_metrics (metrics_at bytes) g else refused NotNeeded g))
    else refused (WrongSize (length bytes)) g

-- what a call answers
abbrev pub verdict : Option PassDataError → Result (Unit {0}) PassDataError
verdict None = Ok tt
verdict (Some e) = Err e
