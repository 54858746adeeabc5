-- What is kept after a list of frames, each part as a function of the list.
use Rattle.std.specs.Prelude.{◌≡◌, ℕ, ◌+◌, ◌*◌, ◌≤◌, ◌^◌, ◌==◌, nat_lt, Bool, true, not, ◌&&◌, List, [], ◌∷◌, ◌++◌, filter, map, length, ℤ, pos, ◌+ℤ◌, ◌-ℤ◌, ◌≤ℤ◌, int_lt, if◌then◌else◌}
use Rattle.std.specs.List.{fold}
use Rattle.std.specs.Int.{int_min}
use Rattle.fixed_log.specs.Within.{IsWithin}
use Rattle.rate_model.specs.Subtype.{SubtypeRate, subtype_at}
use Rattle.ratecontrol.specs.Rate.{Rate}
use Rattle.ratecontrol.specs.Ledger.{total, ledger}
use Rattle.rate_model.specs.Measure.{Entry, subtype_after, LAST_I32}
use Rattle.reservoir.specs.Moves.{FAR, LAST_COUNT}
use Rattle.ratecontrol.specs.Update.{update, expected, SHOW_BITS}

-- the state after the frames, one after the other
abbrev pub after_all : Rate → List Entry → Rate
after_all rate entries = fold (λ r e. update e r) rate entries

-- the frames that were coded, or shown again, for good
abbrev pub is_real : Entry → Bool
is_real e = not e.trial

abbrev pub is_of : ℕ → Entry → Bool
is_of subtype e = e.subtype == subtype

-- a subtype after the frames: only its own tell
abbrev pub subtype_after_all : Rate → ℕ → List Entry → SubtypeRate
subtype_after_all rate subtype entries =
    fold (λ s e. subtype_after rate.log_npixels rate.delay_target e s) (subtype_at rate.subtypes subtype) (filter (is_of subtype) entries)

-- by how much a frame changes the reservoir
abbrev pub change : ℤ → Entry → ℤ
change bits_per_tu e = (if e.shown then bits_per_tu else pos 0) -ℤ e.bits

-- the reservoir after the frames
abbrev pub reservoir_after_all : Rate → List Entry → ℤ
reservoir_after_all rate entries = ledger rate.reservoir rate.most (map (change rate.bits_per_tu) (filter is_real entries))

-- a frame as a session has it: its bits are not negative and fit their type, and no show of a coded frame is a trial
pub record IsFrame (e : Entry) : Type 0 where
  pub bits : pos 0 ≤ℤ e.bits
  pub short : e.bits ≤ℤ pos (2 ^ 63)
  pub trial : e.trial ≡ true → nat_lt e.subtype 4 ≡ true

abbrev pub AllFrames : List Entry → Type 0
AllFrames [] = Unit {0}
AllFrames (e ∷ es) = IsFrame e × AllFrames es

-- the bits of the frames that aren't trials
abbrev pub spent : List Entry → ℤ
spent [] = pos 0
spent (e ∷ es) = (if e.trial then pos 0 else e.bits) +ℤ spent es

-- the state is controlled, and the frames don't take its reservoir further below 0 than it can get
pub record HasRoom (rate : Rate) (entries : List Entry) : Type 0 where
  pub controlled : int_lt (pos 0) rate.bitrate ≡ true
  pub bits_per_tu : pos 0 ≤ℤ rate.bits_per_tu
  pub full : rate.reservoir ≤ℤ rate.most
  pub most : rate.most ≤ℤ pos FAR
  pub room : spent entries ≤ℤ (rate.reservoir +ℤ pos FAR)

-- ---- counts, and the bias

-- a frame counts as coded where it is no show and no trial, and has bits
abbrev pub is_coded : Entry → Bool
is_coded e = nat_lt e.subtype 4 && (not e.trial && int_lt (pos 0) e.bits)

abbrev pub coded_after_all : Rate → List Entry → ℤ
coded_after_all rate entries = int_min (rate.coded +ℤ pos (length (filter is_coded entries))) LAST_COUNT

-- how many frames of a subtype are kept as coded: trials aside, all of them
abbrev pub frames_after_all : Rate → ℕ → List Entry → ℤ
frames_after_all rate subtype entries =
    int_min ((subtype_at rate.subtypes subtype).frames +ℤ pos (length (filter is_real (filter (is_of subtype) entries)))) LAST_I32

-- the shows of coded frames
abbrev pub is_show : Entry → Bool
is_show e = not (nat_lt e.subtype 4)

abbrev pub shown_again_after_all : Rate → List Entry → ℤ
shown_again_after_all rate entries = int_min (rate.shown_again +ℤ pos (length (filter is_show entries))) LAST_COUNT

abbrev pub shows_after_all : Rate → List Entry → ℤ
shows_after_all rate entries = int_min (rate.shows +ℤ pos (length (filter is_show entries))) LAST_I32

-- what was to be expected of a frame, from the frames of its own subtype before it
abbrev pub estimate_after_all : Rate → List Entry → Entry → ℤ
estimate_after_all rate before e =
    if nat_lt e.subtype 4 then expected rate.log_npixels (subtype_after_all rate e.subtype before) e else pos SHOW_BITS

-- by how much the estimates of the real frames were above their bits
abbrev pub bias_changes : Rate → List Entry → List Entry → List ℤ
bias_changes rate before [] = []
bias_changes rate before (e ∷ es) =
    if e.trial then bias_changes rate (before ++ e ∷ []) es
    else (estimate_after_all rate before e -ℤ e.bits) ∷ bias_changes rate (before ++ e ∷ []) es

abbrev pub bias_after_all : Rate → List Entry → ℤ
bias_after_all rate entries = rate.bias +ℤ total (bias_changes rate [] entries)

-- the bias stays nearer to 0 than it can get, whatever the frames are: there are few enough of them
pub record HasBiasRoom (rate : Rate) (entries : List Entry) : Type 0 where
  pub span : ℕ
  pub within : IsWithin span rate.bias
  pub room : span + 2 ^ 63 * length entries ≤ FAR
