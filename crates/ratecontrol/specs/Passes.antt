-- The calls of both passes.
use Rattle.std.specs.Prelude.{◌≡◌, ℕ, ◌+◌, ◌-◌, ◌*◌, ◌^◌, not, Bool, true, ◌&&◌, ◌||◌, ◌⊎◌, List, [], ◌∷◌, length, slice_index, Option, Some, None, is_some, IsSome, IsFalse, IsTrue, Result, Ok, Err, ℤ, pos, ◌+ℤ◌, ◌*ℤ◌, ◌≤ℤ◌, int_lt, if◌then◌else◌, unsigned_abs}
use Rattle.std.specs.Option.{unwrap_or}
use Rattle.std.specs.Int.{int_min}
use Rattle.std.specs.Ordering.{int_eq}
use Rattle.pass_stats.specs.Grammar.{any_negative, frame_total, key_frames}
use Rattle.pass_stats.specs.Summary.{Spells}
use Rattle.pass_stats.specs.declared.metrics.RCFrameMetrics.{RCFrameMetrics}
use Rattle.pass_stats.specs.declared.summary.RCSummary.{RCSummary}
use Rattle.pass_data.specs.declared.error.PassDataError.{PassDataError}
use Rattle.pass_data.specs.declared.error.PassDataError.TheVariants.{OutOfMemory}
use Rattle.pass_data.specs.declared.given.Header.{Header}
use Rattle.pass_data.specs.Emitted.{with_frame_emitted, summed_up}
use Rattle.pass_data.specs.Given.{Given, needed, has_next, with_values}
use Rattle.pass_data.specs.Pieces.{given_bytes, answer}
use Rattle.rate_model.specs.Subtype.{SubtypeRate, subtype_at}
use Rattle.reservoir.specs.Levels.{reservoir_most, reservoir_target}
use Rattle.ratecontrol.specs.Rate.{Rate}

-- the frames that were coded, and the shows of coded frames
abbrev pub commands : Rate → ℤ
commands rate = rate.coded +ℤ rate.shown_again

abbrev pub is_controlled : Rate → Bool
is_controlled rate = int_lt (pos 0) rate.bitrate

-- ---- the passes

abbrev pub in_first : Option ℤ → Rate → Rate
in_first base rate = record rate { first = true; first_base = unwrap_or base rate.first_base }

-- where a delay is set, a window has room for two frames of each of its temporal units, and for 8 more
abbrev pub room_for : ℤ → ℕ
room_for delay = unsigned_abs (pos 2 *ℤ delay +ℤ pos 8)

abbrev pub with_buffer : Option ℤ → Given → Given
with_buffer None given = given
with_buffer (Some delay) given =
    record given { is_finite = true; window = record { held = []; capacity = room_for delay } }

abbrev pub in_second : Rate → Rate
in_second rate =
    if rate.second then rate
    else record rate { second = true; given = with_buffer rate.set_delay rate.given }

-- want of memory: only where the window isn't taken yet, and then nothing changes
pub record WantsMemory (old new : Rate) : Type 0 where
  pub single_or_first : IsFalse old.second
  pub window : IsSome old.set_delay
  pub same : new ≡ old

-- ---- the second pass

abbrev pub frames_needed : Rate → ℤ
frames_needed rate =
    if rate.second && is_controlled rate
    then needed rate.reservoir_delay (commands rate) rate.given else pos 0

-- the last frame's data was taken, and the next frame's is there
abbrev pub is_ready : Rate → Bool
is_ready rate =
    not (rate.first && is_some rate.emitted.waiting)
    && (not rate.second || has_next (frames_needed rate) rate.given)

abbrev pub with_exponent : List ℕ → List SubtypeRate → ℕ → SubtypeRate
with_exponent exp subtypes j = record (subtype_at subtypes j) { exponent = slice_index exp j }

abbrev pub with_exponents : List ℕ → List SubtypeRate → List SubtypeRate
with_exponents exp subtypes =
    with_exponent exp subtypes 0 ∷ with_exponent exp subtypes 1 ∷ with_exponent exp subtypes 2
    ∷ with_exponent exp subtypes 3 ∷ []

-- a whole file's reservoir is evened out over all of it
abbrev pub over_the_file : Header → Rate → Rate
over_the_file h rate = record rate {
  reservoir_delay = h.ntus;
  most = reservoir_most rate.bits_per_tu h.ntus;
  target = reservoir_target (reservoir_most rate.bits_per_tu h.ntus);
  reservoir = reservoir_target (reservoir_most rate.bits_per_tu h.ntus);
}

abbrev pub over_the_window : Header → Rate → Rate
over_the_window h rate = record rate { reservoir_delay = int_min rate.reservoir_delay h.ntus }

abbrev pub with_levels : Header → Rate → Rate
with_levels h rate = if rate.given.is_finite then over_the_window h rate else over_the_file h rate

unfoldable pub set_up : Header → Rate → Rate
set_up h rate = record (with_levels h rate) { subtypes = with_exponents h.exp rate.subtypes }

abbrev pub set_up_by : Option Header → Rate → Rate
set_up_by None rate = rate
set_up_by (Some h) rate = set_up h rate

-- what was given has changed; a header that wasn't there before sets the state up
abbrev pub with_given : Given → Rate → Rate
with_given g rate =
    set_up_by (if is_some rate.given.header then None else g.header) (record rate { given = g })

abbrev pub with_summary : RCSummary → Rate → Rate
with_summary s rate =
    let g = with_values s.ntus s.nframes s.exp s.scale_sum s.total rate.given in
    set_up_by g.header (record rate { given = g })

-- ---- bytes

-- bytes can be given before anything is coded, and where there is a summary
abbrev pub is_open : Rate → Bool
is_open rate = is_controlled rate && (is_some rate.given.header || int_eq (commands rate) (pos 0))

-- how many bytes are wanted: a summary with the first frames' metrics, or what is missing of the metrics that are needed
abbrev pub bytes_wanted : Rate → ℕ
bytes_wanted rate =
    if is_some rate.given.header
    then unsigned_abs (frames_needed rate) * 8 - length rate.given.bytes
    else 68 + 8 * (if rate.given.is_finite then unsigned_abs rate.reservoir_delay else 1)

pub record Answered : Type 0 where
  pub rate : Rate
  pub answer : Result ℕ PassDataError

abbrev pub given_in : List ℕ → Rate → Answered
given_in bytes rate =
    let p = given_bytes rate.reservoir_delay (commands rate) bytes rate.given in
    record { rate = with_given p.given rate; answer = answer p }

-- both turn the pass, but not where nothing can be given
abbrev pub asked : Rate → Answered
asked rate =
    if is_open rate
    then record { rate = in_second rate; answer = Ok (bytes_wanted (in_second rate)) }
    else record { rate = rate; answer = Ok 0 }

abbrev pub taken_in : List ℕ → Rate → Answered
taken_in bytes rate =
    if is_open rate then given_in bytes (in_second rate) else record { rate = rate; answer = Ok 0 }

-- want of memory, which comes only where a pass may begin
pub record RunsOut (old new : Rate) : Type 0 where
  pub open_yet : IsTrue (is_open old)
  pub wants : WantsMemory old new

abbrev pub IsAnswered : Answered → Rate → Rate → Result ℕ PassDataError → Type 0
IsAnswered a old new result =
    ((new ≡ a.rate) × (result ≡ a.answer)) ⊎ (RunsOut old new × (result ≡ Err OutOfMemory))

-- ---- the first pass

-- a frame's data is given until as many commands were coded as a summary can count
abbrev pub can_emit : Rate → Bool
can_emit rate = int_lt (commands rate) (pos (2 ^ 31 - 1))

abbrev pub frame_emitted : Rate → Option RCFrameMetrics
frame_emitted rate = if can_emit rate then rate.emitted.waiting else None

abbrev pub after_frame_emitted : Rate → Rate
after_frame_emitted rate =
    record rate { emitted = if can_emit rate then with_frame_emitted rate.emitted else rate.emitted }

-- the counts and exponents of a summary
abbrev pub counts_coded : Rate → List ℤ
counts_coded rate =
    (subtype_at rate.subtypes 0).frames ∷ (subtype_at rate.subtypes 1).frames
    ∷ (subtype_at rate.subtypes 2).frames ∷ (subtype_at rate.subtypes 3).frames ∷ rate.shows ∷ []

abbrev pub exponents_of : Rate → List ℕ
exponents_of rate =
    (subtype_at rate.subtypes 0).exponent ∷ (subtype_at rate.subtypes 1).exponent
    ∷ (subtype_at rate.subtypes 2).exponent ∷ (subtype_at rate.subtypes 3).exponent ∷ []

abbrev pub after_summary : Rate → Rate
after_summary rate = record rate { emitted = summed_up rate.emitted }

abbrev pub IsSummaryOf : Rate → List ℕ → Type 0
IsSummaryOf rate bytes =
    Spells bytes rate.emitted.tus (counts_coded rate) (exponents_of rate) rate.emitted.sums

-- where the temporal units and the counts may be those of a summary
pub record HasCounts (tus : ℤ) (counts : List ℤ) : Type 0 where
  pub some_tu : pos 1 ≤ℤ tus
  pub no_negative_count : IsFalse (any_negative counts)
  pub total_fits : frame_total counts ≤ℤ pos 0x7fff_ffff
  pub enough_frames : tus ≤ℤ frame_total counts
  pub some_key_frame : pos 1 ≤ℤ key_frames counts

abbrev pub IsReadBack : Rate → RCSummary → Type 0
IsReadBack rate s =
    (s.ntus ≡ rate.emitted.tus) × (s.nframes ≡ counts_coded rate)
    × (s.exp ≡ exponents_of rate) × (s.scale_sum ≡ rate.emitted.sums)

-- what is given out: the frame's data that waits, or, at the end, the summary, once
abbrev pub gives_frame : Rate → Bool
gives_frame rate = is_controlled rate && is_some rate.emitted.waiting

abbrev pub gives_summary : Bool → Rate → Bool
gives_summary done rate =
    is_controlled rate
    && (not (is_some rate.emitted.waiting) && (done && not rate.emitted.is_summed_up))

abbrev pub given_out : Bool → Rate → Rate
given_out done rate =
    if gives_frame rate then after_frame_emitted rate
    else (if gives_summary done rate then after_summary rate else rate)
