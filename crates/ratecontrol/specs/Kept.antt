-- What a session keeps after the entries of its log, in one record.
use Rattle.std.specs.Prelude.{◌≡◌, ℕ, ◌*◌, ◌<◌, ◌≤◌, ◌^◌, ◌==◌, Bool, true, false, ◌&&◌, List, [], ◌∷◌, filter, length, pos, ◌≤ℤ◌, int_lt, if◌then◌else◌}
use Rattle.std.specs.List.{All}
use Rattle.rate_model.specs.Measure.{Entry}
use Rattle.rate_model.specs.Subtype.{SubtypeRate, subtype_at}
use Rattle.ratecontrol.specs.Rate.{Rate}
use Rattle.ratecontrol.specs.Update.{frame_data, with_frame_data}
use Rattle.ratecontrol.specs.Log.{is_real, is_of, reservoir_after_all, bias_after_all, coded_after_all, shown_again_after_all, shows_after_all, subtype_after_all}

abbrev pub subtypes_after_all : Rate → List Entry → List SubtypeRate
subtypes_after_all start entries =
    subtype_after_all start 0 entries ∷ subtype_after_all start 1 entries
    ∷ subtype_after_all start 2 entries ∷ subtype_after_all start 3 entries ∷ []

-- the start, but for the reservoir by its ledger, the bias as a sum, the counts of the list, and each subtype after its own frames
abbrev pub with_log : Rate → List Entry → Rate
with_log start entries = record start {
  reservoir = reservoir_after_all start entries;
  bias = bias_after_all start entries;
  coded = coded_after_all start entries;
  shown_again = shown_again_after_all start entries;
  shows = shows_after_all start entries;
  subtypes = subtypes_after_all start entries;
}

-- without a bitrate nothing is kept
unfoldable pub kept : Rate → List Entry → Rate
kept start entries = if int_lt (pos 0) start.bitrate then with_log start entries else start

-- the frames of a subtype that were coded for good
abbrev pub real_of : ℕ → List Entry → List Entry
real_of subtype entries = filter is_real (filter (is_of subtype) entries)

-- a trial is due under a bitrate, as long as there are none
abbrev pub is_trial_due : Rate → ℕ → List Entry → Bool
is_trial_due start subtype entries = int_lt (pos 0) start.bitrate && (length (real_of subtype entries) == 0)

-- ---- what the passes hand on, beside it

-- a state with the passes of another one
abbrev pub with_passes_of : Rate → Rate → Rate
with_passes_of passes rate = record rate {
  first = passes.first;
  second = passes.second;
  first_base = passes.first_base;
  given = passes.given;
  emitted = passes.emitted;
}

-- the passes after an entry, where this state was kept before it: without a bitrate they stay
abbrev pub handed_on : Entry → Rate → Rate → Rate
handed_on e rate passes =
    if int_lt (pos 0) rate.bitrate then with_frame_data (frame_data e rate) e.trial passes else passes

-- ---- what a session brings

-- one pass in which nothing is coded yet, over a reservoir of at most 2^78 bits
pub record IsSessionStart (start : Rate) : Type 0 where
  pub not_first : start.first ≡ false
  pub not_second : start.second ≡ false
  pub bits_per_tu : pos 0 ≤ℤ start.bits_per_tu
  pub holds : pos 0 ≤ℤ start.reservoir
  pub full : start.reservoir ≤ℤ start.most
  pub most : start.most ≤ℤ pos (2 ^ 78)
  pub bias : start.bias ≡ pos 0
  pub coded : start.coded ≡ pos 0
  pub shown_again : start.shown_again ≡ pos 0
  pub shows : start.shows ≡ pos 0
  pub four : length start.subtypes ≡ 4
  pub frames : (subtype : ℕ) → (subtype_at start.subtypes subtype).frames ≡ pos 0

-- a coded frame has at most 2^48 bytes; a show of a coded frame takes 24 bits, is shown and never a trial; a trial has bits
pub record IsSessionEntry (e : Entry) : Type 0 where
  pub least : pos 0 ≤ℤ e.bits
  pub most : e.bits ≤ℤ pos (8 * 2 ^ 48)
  pub subtype : e.subtype ≤ 4
  pub show : e.subtype ≡ 4 → (e.bits ≡ pos 24) × (e.shown ≡ true) × (e.trial ≡ false)
  pub trial : e.trial ≡ true → (e.subtype < 4) × (pos 1 ≤ℤ e.bits)

pub record IsSessionLog (entries : List Entry) : Type 0 where
  pub few : length entries ≤ 2 ^ 33
  pub all : All IsSessionEntry entries
