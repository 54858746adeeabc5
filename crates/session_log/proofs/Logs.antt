-- What rate control keeps along a session's log.
use Rattle.std.proofs.Common.{◌≡◌, ℕ, ◌+◌, ◌*◌, ◌<◌, ◌≤◌, ◌^◌, Bool, true, false, cond, ◌&&◌, ◌==◌, List, [], ◌∷◌, ◌++◌, map, length, get_or, length-append, refl, ap, sym, subst, ◌∙◌, arith, int_lt, is_some, not, Option, Some, None, ℤ, pos, ◌≤ℤ◌}
use Rattle.std.specs.List.{filter}
use Rattle.std.specs.Option.{option_or}
use Rattle.std.specs.Ordering.{int_eq}
use Rattle.std.proofs.Math.Seq.{get_or-append_seam}
use Rattle.std.proofs.lemmas.Int.{ints}
use Rattle.std.proofs.lemmas.List.{length-map, map-append}
use Rattle.std.proofs.lemmas.List.Elements.{All-map, filter-append}
use Rattle.std.proofs.lemmas.List.Sums.{fold-append}
use Rattle.av1_settings.specs.Checks.{IsValid}
use Rattle.av1_settings.specs.Settings.{interval_of}
use Rattle.av1_settings.specs.declared.encoder.EncoderConfig.{EncoderConfig}
use Rattle.av1_settings.specs.declared.frame_type.FrameType.{FrameType}
use Rattle.av1_settings.specs.declared.frame_type.FrameType.TheVariants.{KEY, INTER, INTRA_ONLY, SWITCH}
use Rattle.pyramid.specs.Display.{shows}
use Rattle.pyramid.specs.Known.{is_coding}
use Rattle.pyramid.specs.Subtypes.{frame_subtype, subtype_of}
use Rattle.pyramid.specs.declared.command.Command.{Command}
use Rattle.pyramid.specs.declared.command.Command.TheVariants.{Code, Show}
use Rattle.quantizers.specs.Tables.{Tables}
use Rattle.quantizers.specs.declared.parameters.QuantizerParameters.{QuantizerParameters}
use Rattle.quantizers.specs.declared.settings.QSettings.{QSettings}
use Rattle.rate_model.specs.Measure.{Entry, entry}
use Rattle.rate_model.specs.Subtype.{subtype_at}
use Rattle.ratecontrol.specs.Kept.{handed_on, kept, is_trial_due as is_due, real_of, with_log, with_passes_of, IsSessionStart, IsSessionEntry, IsSessionLog}
use Rattle.ratecontrol.specs.Passes.{over_the_file, over_the_window, set_up, set_up_by, with_exponents}
use Rattle.ratecontrol.specs.Log.{is_real, reservoir_after_all}
use Rattle.ratecontrol.specs.Rate.{Rate}
use Rattle.ratecontrol.specs.Select.{select}
use Rattle.ratecontrol.specs.Start.{nothing_given, start}
use Rattle.ratecontrol.specs.Update.{frame_data, update, with_frame_data}
use Rattle.pass_data.specs.Emitted.{with_waiting}
use Rattle.pass_data.specs.Given.{Given, coded}
use Rattle.pass_data.specs.declared.given.Header.{Header}
use Rattle.ratecontrol.specs.declared.guess.Guess.{Guess}
use Rattle.ratecontrol.proofs.GivenLaws.{coded_stays}
use Rattle.ratecontrol.proofs.KeptLaws.{IsFresh, frame_entry, show_entry, kept_bitrate, kept_most, kept_next, kept_of_fresh, kept_reservoir, passes_apart, session_starts, set_up_fresh, set_up_starts, trial_is_due_from}
use Rattle.session_log.specs.declared.entry.LogEntry.{LogEntry}
use Rattle.session_log.specs.Keeps.{HasSize, IsCodedForGood, IsLog, Keeps, RateKept}
use Rattle.session_log.specs.Passes.{Passes, no_passes, passes_after, rate_at, started, with_passes}
use Rattle.session_log.specs.Readings.{base_of, greatest_index, measured, settings_of, start_of, target_of}
use Rattle.session_log.specs.Selection.{is_trial_due, reservoir_after, selection}

-- ---- subtypes

level_below : (refresh : ℕ) → cond (refresh == 16) 2 (cond (refresh == 32) 3 1) < 4
level_below refresh = elim (refresh == 16) as (λ b. cond b 2 (cond (refresh == 32) 3 1) < 4) [
  | true ↦ omega arith
  | false ↦ elim (refresh == 32) as (λ b. cond b 3 1 < 4) [ true ↦ omega arith | false ↦ omega arith ]
]

frame_below : (kind : FrameType) (refresh : ℕ) → frame_subtype kind refresh < 4
frame_below KEY refresh = omega arith
frame_below INTER refresh = level_below refresh
frame_below INTRA_ONLY refresh = level_below refresh
frame_below SWITCH refresh = level_below refresh

coding_below : (command : Command) → is_coding command ≡ true → subtype_of command < 4
coding_below (Code frame kind refs refresh shown) coding = frame_below kind refresh
coding_below (Show slot) coding = absurd (cc)

-- ---- entries, and logs

show_of_three : (size : ℕ) (trial : Bool) (log_target : ℤ) → size ≡ 3 → trial ≡ false → IsSessionEntry (entry (pos (8 * size)) 4 true log_target trial)
show_of_three size trial log_target three real = rw (three, real) (show_entry log_target)

frame_of_size : (size subtype : ℕ) (shown : Bool) (log_target : ℤ) (trial : Bool) → subtype < 4 → 1 ≤ size → size < 2 ^ 48
    → IsSessionEntry (entry (pos (8 * size)) subtype shown log_target trial)
frame_of_size size subtype shown log_target trial below some most =
    frame_entry (pos (8 * size)) subtype shown log_target trial below (omega (arith, ints)) (omega (arith, ints))

sized_entry : (command : Command) (e : LogEntry) → HasSize command e
    → IsSessionEntry (entry (pos (8 * length e.bytes)) (subtype_of command) (shows command) (target_of e) e.trial)
sized_entry (Code frame kind refs refresh shown) e size =
    frame_of_size (length e.bytes) (frame_subtype kind refresh) shown (target_of e) e.trial (frame_below kind refresh) size.0 size.1
sized_entry (Show slot) e size = show_of_three (length e.bytes) e.trial (target_of e) size.0 size.1

measured_log : (log : List LogEntry) → IsLog log → IsSessionLog (map measured log)
measured_log log is =
    let same = length-map log measured in
    let few = is.few in
    record {
      few = omega arith;
      all = All-map IsSessionEntry measured log (λ k d below. sized_entry (get_or log k d).command (get_or log k d) (is.sized k d below));
    }

short : (command : Command) (e : LogEntry) → HasSize command e → length e.bytes < 2 ^ 48
short (Code frame kind refs refresh shown) e size = size.1
short (Show slot) e size =
    let three = size.0 in
    omega arith

pub last_is_short : (log : List LogEntry) (e : LogEntry) → IsLog (log ++ e ∷ []) → length e.bytes < 2 ^ 48
last_is_short log e is =
    let longer : length (log ++ e ∷ []) ≡ length log + 1 = length-append log (e ∷ []) in
    short e.command e (subst (λ (x : LogEntry). HasSize x.command x) (get_or-append_seam log e [] e) (is.sized (length log) e (omega arith)))

-- ---- the start, with what was given

-- a summary, and the kind of the buffer, are all that it takes of the passes
abbrev plain : Option Header → Bool → Rate → Rate
plain header finite s = with_passes no_passes (set_up_by header (record s { given = record nothing_given { is_finite = finite } }))

plain_levels : (b : Bool) (h : Header) (p : Passes) (s : Rate)
    → with_passes no_passes (record (cond b (over_the_window h (with_passes p s)) (over_the_file h (with_passes p s))) { subtypes = with_exponents h.exp s.subtypes })
    ≡ with_passes no_passes (record (cond b (over_the_window h (record s { given = record nothing_given { is_finite = b } }))
    (over_the_file h (record s { given = record nothing_given { is_finite = b } }))) { subtypes = with_exponents h.exp s.subtypes })
plain_levels true h p s = refl
plain_levels false h p s = refl

set_up_plain : (header : Option Header) (p : Passes) (s : Rate) → with_passes no_passes (set_up_by header (with_passes p s)) ≡ plain header p.given.is_finite s
unfolding set_up
set_up_plain None p s = refl
set_up_plain (Some h) p s = plain_levels p.given.is_finite h p s

started_plain : (enc : EncoderConfig) (p : Passes) → started enc p ≡ plain p.given.header p.given.is_finite (start_of enc)
started_plain enc p = set_up_plain p.given.header p (start_of enc)

pub same_start : (enc : EncoderConfig) (p q : Passes) → q.given.header ≡ p.given.header → q.given.is_finite ≡ p.given.is_finite → started enc q ≡ started enc p
same_start enc p q header finite =
    started_plain enc q
    ∙ (ap (λ (o : Option Header). plain o q.given.is_finite (start_of enc)) header
    ∙ (ap (λ b. plain p.given.header b (start_of enc)) finite ∙ sym (started_plain enc p)))

pub bare_start : (enc : EncoderConfig) (p : Passes) → p.given.header ≡ None → started enc p ≡ with_passes no_passes (start_of enc)
bare_start enc p bare = started_plain enc p ∙ ap (λ (o : Option Header). plain o p.given.is_finite (start_of enc)) bare

starts : (enc : EncoderConfig) → IsValid enc → IsSessionStart (start_of enc)
starts enc valid =
    session_starts (pos enc.width) (pos enc.height) (pos enc.time_base.den) (pos enc.time_base.num) enc.bitrate
    (greatest_index enc) enc.min_quantizer (pos (interval_of enc.max_key_frame_interval)) enc.reservoir_frame_delay valid.delay

pub starts_fresh : (enc : EncoderConfig) (p : Passes) → IsValid enc → IsFresh (started enc p)
starts_fresh enc p valid =
    set_up_fresh p.given.header (with_passes p (start_of enc)) (with_passes no_passes (start_of enc)) (start_of enc) (starts enc valid)

starts_whole : (enc : EncoderConfig) (p : Passes) → IsValid enc → pos 1 ≤ℤ (started enc p).most → (started enc p).most ≤ℤ pos (2 ^ 78) → IsSessionStart (started enc p)
starts_whole enc p valid low high =
    set_up_starts p.given.header (with_passes p (start_of enc)) (with_passes no_passes (start_of enc)) (start_of enc) (starts enc valid) refl refl
    (omega (arith, ints)) high

start_bitrate : (enc : EncoderConfig) → (start_of enc).bitrate ≡ enc.bitrate
unfolding start
start_bitrate enc = refl

levels_bitrate : (b : Bool) (h : Header) (r : Rate) → (cond b (over_the_window h r) (over_the_file h r)).bitrate ≡ r.bitrate
levels_bitrate true h r = refl
levels_bitrate false h r = refl

set_up_bitrate : (header : Option Header) (r : Rate) → (set_up_by header r).bitrate ≡ r.bitrate
unfolding set_up
set_up_bitrate None r = refl
set_up_bitrate (Some h) r = levels_bitrate r.given.is_finite h r

pub started_bitrate : (enc : EncoderConfig) (p : Passes) → (started enc p).bitrate ≡ enc.bitrate
started_bitrate enc p = set_up_bitrate p.given.header (with_passes p (start_of enc)) ∙ start_bitrate enc

-- ---- what is kept

start_alone : (enc : EncoderConfig) → with_passes no_passes (start_of enc) ≡ start_of enc
unfolding start
start_alone enc = refl

kept_alone : (enc : EncoderConfig) (es : List Entry) → with_passes no_passes (kept (start_of enc) es) ≡ kept (start_of enc) es
unfolding kept start
kept_alone enc es = elim (int_lt (pos 0) enc.bitrate) as (λ b. with_passes no_passes (cond b (with_log (start_of enc) es) (start_of enc)) ≡ cond b (with_log (start_of enc) es) (start_of enc)) [
  | true ↦ refl
  | false ↦ refl
]

not_empty : (es : List Entry) (e : Entry) → (es ++ e ∷ []) ≡ [] → ⊥
not_empty es e none =
    let longer : length (es ++ e ∷ []) ≡ length es + 1 = length-append es (e ∷ []) in
    let zero_length : length (es ++ e ∷ []) ≡ 0 = ap (λ (xs : List Entry). length xs) none in
    omega arith

kept_at_start : (enc : EncoderConfig) (tables : Tables) → IsValid enc
    → Keeps enc tables no_passes [] (record { state = start_of enc; settings = settings_of enc; tables = tables; bitrate = enc.bitrate; base = None })
kept_at_start enc tables valid = record {
  valid = valid;
  header = λ some. absurd (cc);
  state = sym (ap (λ (r : Rate). with_passes no_passes r) (kept_of_fresh (started enc no_passes) (starts_fresh enc no_passes valid)) ∙ start_alone enc);
  settings = refl;
  tables = refl;
  bitrate = refl;
  base = refl;
}

given_after : (b : Bool) (g : Given) → ((cond b (coded g) g).header ≡ g.header) × ((cond b (coded g) g).is_finite ≡ g.is_finite)
given_after true g = coded_stays g
given_after false g = (refl, refl)

abbrev moved : Passes → LogEntry → Rate → Passes
moved passes e before = record passes {
  given = cond (passes.second && not e.trial) (coded passes.given) passes.given;
  emitted = cond passes.first (with_waiting (frame_data (measured e) before) passes.emitted) passes.emitted;
}

-- the summary, the buffer and the passes that are on
abbrev SameKind : Passes → Passes → Type 0
SameKind old new = (new.given.header ≡ old.given.header) × (new.given.is_finite ≡ old.given.is_finite) × (new.second ≡ old.second)

moved_kind : (b : Bool) (passes : Passes) (e : LogEntry) (before : Rate) → SameKind passes (cond b (moved passes e before) passes)
moved_kind true passes e before =
    let same = given_after (passes.second && not e.trial) passes.given in
    (same.0, same.1, refl)
moved_kind false passes e before = (refl, refl, refl)

after_kind : (enc : EncoderConfig) (passes : Passes) (log : List LogEntry) (e : LogEntry) → SameKind passes (passes_after enc passes log e)
after_kind enc passes log e = moved_kind (int_lt (pos 0) enc.bitrate) passes e (rate_at enc passes log)

handed_by : (b : Bool) (passes : Passes) (e : LogEntry) (k s new : Rate)
    → with_passes_of (cond b (with_frame_data (frame_data (measured e) k) e.trial (with_passes passes s)) (with_passes passes s)) new
    ≡ with_passes (cond b (moved passes e (with_passes passes k)) passes) new
handed_by true passes e k s new = refl
handed_by false passes e k s new = refl

handed_after : (enc : EncoderConfig) (passes : Passes) (log : List LogEntry) (e : LogEntry) (new : Rate)
    → with_passes_of (handed_on (measured e) (kept (started enc passes) (map measured log)) (with_passes passes (start_of enc))) new
    ≡ with_passes (passes_after enc passes log e) new
handed_after enc passes log e new =
    let k = kept (started enc passes) (map measured log) in
    let p = with_passes passes (start_of enc) in
    ap (λ z. with_passes_of (cond (int_lt (pos 0) z) (with_frame_data (frame_data (measured e) k) e.trial p) p) new)
    (kept_bitrate (started enc passes) (map measured log) ∙ started_bitrate enc passes)
    ∙ handed_by (int_lt (pos 0) enc.bitrate) passes e k (start_of enc) new

state_next : (enc : EncoderConfig) (passes : Passes) (log : List LogEntry) (e : LogEntry) → IsSessionStart (started enc passes) → IsLog (log ++ e ∷ [])
    → update (measured e) (rate_at enc passes log) ≡ rate_at enc (passes_after enc passes log e) (log ++ e ∷ [])
state_next enc passes log e begun is =
    let s = started enc passes in
    let k = kept s (map measured log) in
    let after = passes_after enc passes log e in
    let kind = after_kind enc passes log e in
    let longer : map measured (log ++ e ∷ []) ≡ map measured log ++ measured e ∷ [] = map-append measured log (e ∷ []) in
    passes_apart (measured e) (with_passes passes (start_of enc)) k
    ∙ (handed_after enc passes log e (update (measured e) k)
    ∙ (ap (λ (r : Rate). with_passes after r)
    (kept_next s (map measured log) (measured e) begun (subst (λ (es : List Entry). IsSessionLog es) longer (measured_log (log ++ e ∷ []) is)))
    ∙ (ap (λ (es : List Entry). with_passes after (kept s es)) (sym longer)
    ∙ ap (λ (r : Rate). with_passes after (kept r (map measured (log ++ e ∷ [])))) (sym (same_start enc passes after kind.0 kind.1)))))

begun_before : (enc : EncoderConfig) (tables : Tables) (passes : Passes) (log : List LogEntry) (r : RateKept) → Keeps enc tables passes log r
    → pos 1 ≤ℤ r.state.most → r.state.most ≤ℤ pos (2 ^ 78) → IsSessionStart (started enc passes)
begun_before enc tables passes log r keeps low high =
    let is : r.state.most ≡ (started enc passes).most = ap (λ (s : Rate). s.most) keeps.state ∙ kept_most (started enc passes) (map measured log) in
    starts_whole enc passes keeps.valid (subst (λ z. pos 1 ≤ℤ z) is low) (subst (λ z. z ≤ℤ pos (2 ^ 78)) is high)

kept_next_entry : (enc : EncoderConfig) (tables : Tables) (passes : Passes) (log : List LogEntry) (e : LogEntry) (r : RateKept) → Keeps enc tables passes log r
    → IsLog (log ++ e ∷ []) → pos 1 ≤ℤ r.state.most → r.state.most ≤ℤ pos (2 ^ 78)
    → Keeps enc tables (passes_after enc passes log e) (log ++ e ∷ []) (record r { state = update (measured e) r.state; base = option_or (base_of e) r.base })
kept_next_entry enc tables passes log e r keeps is low high =
    let kind = after_kind enc passes log e in
    record {
      valid = keeps.valid;
      header = λ some. kind.2 ∙ keeps.header (ap is_some (sym kind.0) ∙ some);
      state = ap (λ (s : Rate). update (measured e) s) keeps.state ∙ state_next enc passes log e (begun_before enc tables passes log r keeps low high) is;
      settings = keeps.settings;
      tables = keeps.tables;
      bitrate = keeps.bitrate;
      base = ap (λ (b : Option ℤ). option_or (base_of e) b) keeps.base
          ∙ sym (fold-append (λ (b : Option ℤ) (x : LogEntry). option_or (base_of x) b) None log (e ∷ []));
    }

-- ---- what is told of it

due_after : (enc : EncoderConfig) (tables : Tables) (passes : Passes) (log : List LogEntry) (r : RateKept) (subtype : ℕ) → Keeps enc tables passes log r → subtype < 4
    → (int_lt (pos 0) r.state.bitrate && int_eq (subtype_at r.state.subtypes subtype).frames (pos 0)) ≡ is_due (start_of enc) subtype (map measured log)
due_after enc tables passes log r subtype keeps below =
    let fresh = starts_fresh enc passes keeps.valid in
    ap (λ (s : Rate). int_lt (pos 0) s.bitrate && int_eq (subtype_at s.subtypes subtype).frames (pos 0)) keeps.state
    ∙ (trial_is_due_from (started enc passes) subtype (map measured log) below (fresh.frames subtype)
    ∙ ap (λ z. int_lt (pos 0) z && (length (real_of subtype (map measured log)) == 0)) (started_bitrate enc passes ∙ sym (start_bitrate enc)))

some_where : (b : Bool) (x y : ℤ) → (b ≡ true → x ≡ y) → cond b (Some x) None ≡ cond b (Some y) None
some_where true x y same = ap (λ z. Some z) (same refl)
some_where false x y same = refl

reservoir_of : (enc : EncoderConfig) (passes : Passes) (log : List LogEntry)
    → cond (int_lt (pos 0) enc.bitrate) (Some (rate_at enc passes log).reservoir) None ≡ reservoir_after enc passes log
reservoir_of enc passes log =
    some_where (int_lt (pos 0) enc.bitrate) (rate_at enc passes log).reservoir (reservoir_after_all (started enc passes) (map measured log))
    (λ on. kept_reservoir (started enc passes) (map measured log) (ap (λ z. int_lt (pos 0) z) (started_bitrate enc passes) ∙ on))

pub held_after : (enc : EncoderConfig) (tables : Tables) (passes : Passes) (log : List LogEntry) (r : RateKept) → Keeps enc tables passes log r
    → cond (int_lt (pos 0) r.bitrate) (Some r.state.reservoir) None ≡ reservoir_after enc passes log
held_after enc tables passes log r keeps =
    ap (λ (s : Rate). cond (int_lt (pos 0) r.bitrate) (Some s.reservoir) None) keeps.state
    ∙ (ap (λ z. cond (int_lt (pos 0) z) (Some (rate_at enc passes log).reservoir) None) keeps.bitrate ∙ reservoir_of enc passes log)

-- ---- what callers know of it

-- in one pass nothing is handed on
pub no_passes_after : (enc : EncoderConfig) (log : List LogEntry) (e : LogEntry) → passes_after enc no_passes log e ≡ no_passes
no_passes_after enc log e = elim (int_lt (pos 0) enc.bitrate) as (λ b. cond b (moved no_passes e (rate_at enc no_passes log)) no_passes ≡ no_passes) [
  | true ↦ refl
  | false ↦ refl
]

-- the state in one pass is what is kept of the log
pub one_pass : (enc : EncoderConfig) (log : List LogEntry) → rate_at enc no_passes log ≡ kept (start_of enc) (map measured log)
one_pass enc log =
    ap (λ (s : Rate). with_passes no_passes (kept s (map measured log))) (start_alone enc) ∙ kept_alone enc (map measured log)

pub nothing_is_good : IsCodedForGood []
nothing_is_good none = refl

-- behind what was coded for good
pub good_behind : (log : List LogEntry) (e : LogEntry) → e.trial ≡ false → IsCodedForGood (log ++ e ∷ [])
good_behind log e real none =
    let longer : map measured (log ++ e ∷ []) ≡ map measured log ++ measured e ∷ [] = map-append measured log (e ∷ []) in
    let split : filter is_real (map measured (log ++ e ∷ [])) ≡ filter is_real (map measured log) ++ filter is_real (measured e ∷ []) =
    ap (λ (es : List Entry). filter is_real es) longer ∙ filter-append is_real (map measured log) (measured e ∷ []) in
    let last : filter is_real (measured e ∷ []) ≡ measured e ∷ [] = ap (λ b. cond (not b) (measured e ∷ []) []) real in
    absurd (not_empty (filter is_real (map measured log)) (measured e) (ap (λ (es : List Entry). filter is_real (map measured log) ++ es) (sym last) ∙ (sym split ∙ none)))

-- ---- the forms that the calls need

pub kept_from : (enc : EncoderConfig) (tables : Tables) (state : Rate) (settings : QSettings) (r : RateKept) → IsValid enc
    → r ≡ (record { state = state; settings = settings; tables = tables; bitrate = enc.bitrate; base = None }) → state ≡ start_of enc → settings ≡ settings_of enc
    → Keeps enc tables no_passes [] r
kept_from enc tables state settings r valid is begun set = rw (is, begun, set) (kept_at_start enc tables valid)

pub kept_by : (enc : EncoderConfig) (tables : Tables) (passes : Passes) (log : List LogEntry) (e : LogEntry) (r taken followed : RateKept) → Keeps enc tables passes log r
    → IsLog (log ++ e ∷ []) → pos 1 ≤ℤ r.state.most → r.state.most ≤ℤ pos (2 ^ 78)
    → taken ≡ (record r { state = update (measured e) r.state }) → followed ≡ (record taken { base = option_or (base_of e) taken.base })
    → Keeps enc tables (passes_after enc passes log e) (log ++ e ∷ []) followed
kept_by enc tables passes log e r taken followed keeps is low high first second =
    rw (second, first) (kept_next_entry enc tables passes log e r keeps is low high)

pub due_of_command : (enc : EncoderConfig) (tables : Tables) (passes : Passes) (log : List LogEntry) (r : RateKept) (command : Command) (subtype : ℕ) → Keeps enc tables passes log r
    → is_coding command ≡ true → subtype ≡ subtype_of command
    → (int_lt (pos 0) r.state.bitrate && int_eq (subtype_at r.state.subtypes subtype).frames (pos 0)) ≡ is_trial_due enc log command
due_of_command enc tables passes log r command subtype keeps coding is =
    rw (is, coding) (due_after enc tables passes log r (subtype_of command) keeps (coding_below command coding))

pub selection_after : (enc : EncoderConfig) (tables : Tables) (passes : Passes) (log : List LogEntry) (guess : ℤ → Guess) (gop_start : ℕ) (command : Command) (mean_scale seen : ℤ)
    (r : RateKept) (subtype : ℕ) (q : QuantizerParameters) → Keeps enc tables passes log r → subtype ≡ subtype_of command → seen ≡ mean_scale
    → q ≡ select r.state r.settings r.tables guess gop_start subtype r.base seen → q ≡ selection enc tables passes log guess gop_start command mean_scale
unfolding selection
selection_after enc tables passes log guess gop_start command mean_scale seen r subtype q keeps is same chosen =
    chosen ∙ rw (keeps.state, keeps.settings, keeps.tables, keeps.base, is, same) refl

pub measured_by : (bits log_target seen_bits seen_target : ℤ) (subtype : ℕ) (shown : Bool) (e : LogEntry) (old new : Rate)
    → new ≡ update (entry bits subtype shown log_target e.trial) old → bits ≡ seen_bits → log_target ≡ seen_target
    → seen_bits ≡ pos (8 * length e.bytes) → seen_target ≡ target_of e → subtype ≡ subtype_of e.command → shown ≡ shows e.command
    → new ≡ update (measured e) old
measured_by bits log_target seen_bits seen_target subtype shown e old new is a b p q r s = is ∙ rw (a, b, p, q, r, s) refl

pub begun_by : (enc : EncoderConfig) (state : Rate) (width height num den bitrate interval : ℤ) (greatest : Option ℕ)
    → state ≡ start width height num den bitrate greatest enc.min_quantizer interval enc.reservoir_frame_delay
    → width ≡ pos enc.width → height ≡ pos enc.height → num ≡ pos enc.time_base.den → den ≡ pos enc.time_base.num → bitrate ≡ enc.bitrate
    → interval ≡ pos (interval_of enc.max_key_frame_interval) → greatest ≡ greatest_index enc → state ≡ start_of enc
begun_by enc state width height num den bitrate interval greatest is p q r s t u v = is ∙ rw (p, q, r, s, t, u, v) refl
