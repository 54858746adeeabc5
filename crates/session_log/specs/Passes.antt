-- What the two passes of a session hand on, beside its log, and the rate state that both make.
use Rattle.std.specs.Prelude.{ℕ, Bool, true, false, not, ◌&&◌, if◌then◌else◌, List, [], map, None, ℤ, pos, int_lt}
use Rattle.av1_settings.specs.declared.encoder.EncoderConfig.{EncoderConfig}
use Rattle.pass_stats.specs.declared.summary.RCSummary.{RCSummary}
use Rattle.pass_data.specs.Emitted.{Emitted, with_waiting}
use Rattle.pass_data.specs.Given.{Given, Outcome, coded, sent}
use Rattle.quantizers.specs.Tables.{Tables}
use Rattle.ratecontrol.specs.declared.guess.Guess.{Guess}
use Rattle.ratecontrol.specs.Kept.{kept}
use Rattle.ratecontrol.specs.Passes.{frames_needed, in_second, set_up_by, with_summary}
use Rattle.ratecontrol.specs.Rate.{Rate}
use Rattle.ratecontrol.specs.Select.{select}
use Rattle.ratecontrol.specs.Start.{nothing_emitted, nothing_given}
use Rattle.ratecontrol.specs.Update.{frame_data}
use Rattle.session_log.specs.declared.entry.LogEntry.{LogEntry}
use Rattle.session_log.specs.Readings.{measured, settings_of, start_of}

-- which passes are on, the base of the first, what the second was given, and what the first emitted
pub record Passes : Type 0 where
  pub first : Bool
  pub second : Bool
  pub first_base : ℤ
  pub given : Given
  pub emitted : Emitted

-- one pass by itself
abbrev pub no_passes : Passes
no_passes = record {
  first = false;
  second = false;
  first_base = pos 0;
  given = nothing_given;
  emitted = nothing_emitted;
}

abbrev pub with_passes : Passes → Rate → Rate
with_passes passes rate = record rate {
  first = passes.first;
  second = passes.second;
  first_base = passes.first_base;
  given = passes.given;
  emitted = passes.emitted;
}

abbrev pub passes_of : Rate → Passes
passes_of rate = record {
  first = rate.first;
  second = rate.second;
  first_base = rate.first_base;
  given = rate.given;
  emitted = rate.emitted;
}

-- ---- the state

-- the start of a session, set up by its summary if it has one
abbrev pub started : EncoderConfig → Passes → Rate
started enc passes =
    with_passes no_passes (set_up_by passes.given.header (with_passes passes (start_of enc)))

-- the state behind a log: by counts, sums, each subtype's own entries, the reservoir's ledger, and the passes
abbrev pub rate_at : EncoderConfig → Passes → List LogEntry → Rate
rate_at enc passes log = with_passes passes (kept (started enc passes) (map measured log))

-- ---- how the passes move

-- under a bitrate a first pass has an entry's data to be taken, a try's too, and in a second pass a frame that is coded for
-- good uses its metrics up
abbrev pub passes_after : EncoderConfig → Passes → List LogEntry → LogEntry → Passes
passes_after enc passes log entry =
    if int_lt (pos 0) enc.bitrate then record passes {
      given = if passes.second && not entry.trial then coded passes.given else passes.given;
      emitted =
          if passes.first
          then with_waiting (frame_data (measured entry) (rate_at enc passes log)) passes.emitted
          else passes.emitted;
    }
    else passes

-- a first pass begins with the base of a key frame at the start, by this guess and this input with which its GOP starts
abbrev pub first_begun : EncoderConfig → Tables → Passes → (ℤ → Guess) → ℕ → Passes
first_begun enc tables passes guess gop_start = record passes {
  first = true;
  first_base = (select (rate_at enc passes []) (settings_of enc) tables guess gop_start 0 None (pos 0)).log_base_q;
}

-- a second pass begins with a summary
abbrev pub second_begun : EncoderConfig → Passes → RCSummary → Passes
second_begun enc passes summary = passes_of (with_summary summary (in_second (rate_at enc passes [])))

-- a packet is sent
abbrev pub packet_sent : EncoderConfig → Passes → List LogEntry → List ℕ → Outcome
packet_sent enc passes log bytes =
    sent (int_lt (pos 0) (frames_needed (rate_at enc passes log))) bytes passes.given
