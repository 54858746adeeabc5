-- A session that hasn't begun stands well.
use Rattle.std.proofs.Common.{◌≡◌, ℕ, zero, suc, ◌≤◌, Bool, true, false, cond, ◌||◌, IfSome, IsTrue, IsFalse, List, [], ◌∷◌, length, Option, Some, None, is_some, ℤ, pos, negsuc, ◌-ℤ◌, ◌*ℤ◌, ◌≤ℤ◌, ◌^◌, int_lt, refl, sym, ap, ◌∙◌, subst, arith}
use Rattle.std.specs.Int.{int_min, int_max, int_shr, is_negative}
use Rattle.std.proofs.lemmas.Int.{clamps, ints}
use Rattle.std.proofs.lemmas.List.Elements.{All-nil}
use Rattle.av1_settings.proofs.CheckLemmas.{bitrate_of_accepted, none_append, valid_of_accepted}
use Rattle.av1_settings.specs.Checks.{IsValid, asks_passes, pixel_refusal, pixel_rows, refusal_of, rows_of}
use Rattle.av1_settings.specs.Settings.{interval_of}
use Rattle.av1_settings.specs.declared.config.Config.{Config}
use Rattle.av1_settings.specs.declared.encoder.EncoderConfig.{EncoderConfig}
use Rattle.av1_settings.specs.declared.level.LevelTables.{LevelTables}
use Rattle.av1_settings.specs.declared.rate_control.RateControlConfig.{RateControlConfig}
use Rattle.metrics_window.specs.Tallies.{all_frames, number_at}
use Rattle.metrics_window.specs.Window.{AllKnown}
use Rattle.pass_data.specs.Emitted.{Emitted}
use Rattle.pass_data.specs.Given.{Given, with_values}
use Rattle.pass_data.specs.declared.given.Header.{Header}
use Rattle.pass_stats.specs.Grammar.{any_negative, frame_total}
use Rattle.pass_stats.specs.declared.metrics.RCFrameMetrics.{RCFrameMetrics}
use Rattle.pass_stats.specs.declared.summary.RCSummary.{RCSummary}
use Rattle.quantizers.specs.Tables.{Tables}
use Rattle.ratecontrol.specs.Passes.{in_second, over_the_file, over_the_window, set_up, set_up_by, with_buffer}
use Rattle.ratecontrol.specs.Rate.{Rate}
use Rattle.ratecontrol.specs.Start.{nothing_emitted, nothing_given, start}
use Rattle.reservoir.specs.Levels.{reservoir_delay_of}
use Rattle.session_log.specs.Passes.{Passes, passes_of, rate_at, second_begun, started, with_passes}
use Rattle.session_log.specs.Readings.{start_of}
use Rattle.session_core.specs.Contexts.{Session, fresh}
use Rattle.session_core.specs.PassTurns.{first_of, passes_begun}
use Rattle.session_channels.specs.Drives.{IsNew}
use Rattle.session_channels.specs.Wells.{IsLeft, IsPaid, IsWell}

-- ---- the counts of a summary

not-negative : (z : ℤ) → IsFalse (is_negative z) → pos 0 ≤ℤ z
not-negative (pos n) is = omega (arith, ints)
not-negative (negsuc n) is = absurd (cc)

neither : (a b : Bool) → IsFalse (a || b) → IsFalse a × IsFalse b
neither true b is = absurd (cc)
neither false b is = (refl, is)

none-negative : (counts : List ℤ) → IsFalse (any_negative counts) → (subtype : ℕ) → pos 0 ≤ℤ number_at counts subtype
none-negative [] none subtype = omega (arith, ints)
none-negative (z ∷ counts) none zero = not-negative z (neither (is_negative z) (any_negative counts) none).0
none-negative (z ∷ counts) none (suc subtype) = none-negative counts (neither (is_negative z) (any_negative counts) none).1 subtype

five-sum : (counts : List ℤ) → length counts ≡ 5 → all_frames (record { counts = counts; sums = []; shown = pos 0 }) ≡ frame_total counts
five-sum (a ∷ b ∷ c ∷ d ∷ e ∷ []) five = omega (arith, ints)
five-sum counts five = absurd (omega arith)

five-most : (counts : List ℤ) → length counts ≡ 5 → IsFalse (any_negative counts) → (subtype : ℕ) → number_at counts subtype ≤ℤ frame_total counts
five-most (a ∷ b ∷ c ∷ d ∷ e ∷ []) five none subtype =
    let counts : List ℤ = a ∷ b ∷ c ∷ d ∷ e ∷ [] in
    by_place subtype (none-negative counts none 0) (none-negative counts none 1) (none-negative counts none 2) (none-negative counts none 3) (none-negative counts none 4)
  where
    by_place : (k : ℕ) → pos 0 ≤ℤ a → pos 0 ≤ℤ b → pos 0 ≤ℤ c → pos 0 ≤ℤ d → pos 0 ≤ℤ e → number_at (a ∷ b ∷ c ∷ d ∷ e ∷ []) k ≤ℤ frame_total (a ∷ b ∷ c ∷ d ∷ e ∷ [])
    by_place zero p q r s t = omega (arith, ints)
    by_place (suc zero) p q r s t = omega (arith, ints)
    by_place (suc (suc zero)) p q r s t = omega (arith, ints)
    by_place (suc (suc (suc zero))) p q r s t = omega (arith, ints)
    by_place (suc (suc (suc (suc zero)))) p q r s t = omega (arith, ints)
    by_place (suc (suc (suc (suc (suc k))))) p q r s t = omega (arith, ints)
five-most counts five none subtype = absurd (omega arith)

-- ---- a second pass that begins

levels-passes : (finite : Bool) (h : Header) (r : Rate) → passes_of (cond finite (over_the_window h r) (over_the_file h r)) ≡ passes_of r
levels-passes true h r = refl
levels-passes false h r = refl

set_up-passes : (h : Header) (r : Rate) → passes_of (set_up h r) ≡ passes_of r
unfolding set_up
set_up-passes h r = levels-passes r.given.is_finite h r

-- the buffer of a second pass holds nothing at its start
record IsEmpty (given : Given) : Type 0 where
  pub held : given.window.held ≡ []
  pub next : given.next ≡ None

buffer-empty : (delay : Option ℤ) → IsEmpty (with_buffer delay nothing_given)
buffer-empty None = record { held = refl; next = refl }
buffer-empty (Some delay) = record { held = refl; next = refl }

-- what stands of passes that begin
record AreBegun (first : Bool) (summary : Option RCSummary) (passes : Passes) : Type 0 where
  pub first_is : passes.first ≡ first
  pub second_is : passes.second ≡ is_some passes.given.header
  pub summary_is : is_some passes.given.header ≡ is_some summary
  pub unemitted : passes.emitted ≡ nothing_emitted
  pub units : IfSome passes.given.header (λ h. pos 1 ≤ℤ h.ntus)
  pub left : IfSome passes.given.header (IsLeft passes.given 0)

-- a summary's counts are all left
summary-left : (s : RCSummary) (given : Given) → length s.nframes ≡ 5 → IsEmpty given →
    IsLeft (with_values s.ntus s.nframes s.exp s.scale_sum s.total given) 0 (record { ntus = s.ntus; total = s.total; exp = s.exp })
summary-left s given five empty =
    let grammar = s.grammar in
    let units = grammar.some_tu in
    let enough = grammar.enough_frames in
    let most = grammar.total_fits in
    let sums : all_frames (record { counts = s.nframes; sums = s.scale_sum; shown = s.ntus }) ≡ s.total = five-sum s.nframes five ∙ sym grammar.total_is in
    record {
      behind = omega (arith, ints);
      total = most;
      units = units;
      left = omega (arith, ints);
      held = subst (λ (l : List RCFrameMetrics). pos (length l) ≤ℤ all_frames (record { counts = s.nframes; sums = s.scale_sum; shown = s.ntus })) (sym empty.held) (omega (arith, ints));
      next = subst (λ (o : Option RCFrameMetrics). is_some o ≡ true → pos 0 ≤ℤ (s.total -ℤ pos 1)) (sym empty.next) (λ is. absurd (cc));
      counts = five;
      low = λ subtype. let h = none-negative s.nframes grammar.no_negative_count subtype in omega (arith, ints);
      high = λ subtype. let h = five-most s.nframes five grammar.no_negative_count subtype in let t = grammar.total_is in omega (arith, ints);
      known = subst AllKnown (sym empty.held) tt;
      known_next = subst (λ (o : Option RCFrameMetrics). IfSome o (λ one. one.fti ≤ 4)) (sym empty.next) tt;
    }

-- passes of a session that hasn't begun, without a summary
abbrev alone : Bool → ℤ → Passes
alone first base = record { first = first; second = false; first_base = base; given = nothing_given; emitted = nothing_emitted }

second-begun : (enc : EncoderConfig) (first : Bool) (base : ℤ) (s : RCSummary) → length s.nframes ≡ 5 → AreBegun first (Some s) (second_begun enc (alone first base) s)
second-begun enc first base s five =
    let buffer = with_buffer (rate_at enc (alone first base) []).set_delay nothing_given in
    let given = with_values s.ntus s.nframes s.exp s.scale_sum s.total buffer in
    let header : Header = record { ntus = s.ntus; total = s.total; exp = s.exp } in
    subst (λ (p : Passes). AreBegun first (Some s) p)
    (sym (set_up-passes header (record (in_second (rate_at enc (alone first base) [])) { given = given })))
    (record {
      first_is = refl;
      second_is = refl;
      summary_is = refl;
      unemitted = refl;
      units = s.grammar.some_tu;
      left = summary-left s buffer five (buffer-empty (rate_at enc (alone first base) []).set_delay);
    })

begun : (enc : EncoderConfig) (tables : Tables) (control : RateControlConfig) → IfSome control.summary (λ s. length s.nframes ≡ 5) →
    AreBegun control.emit_data control.summary (passes_begun enc tables control)
begun enc tables control five = by_summary control.summary control.emit_data five
  where
    by_summary : (summary : Option RCSummary) (emits : Bool) → IfSome summary (λ s. length s.nframes ≡ 5) →
        AreBegun emits summary (elim summary [ None ↦ first_of enc tables emits | Some s ↦ second_begun enc (first_of enc tables emits) s ])
    by_summary None true five = record { first_is = refl; second_is = refl; summary_is = refl; unemitted = refl; units = tt; left = tt }
    by_summary None false five = record { first_is = refl; second_is = refl; summary_is = refl; unemitted = refl; units = tt; left = tt }
    by_summary (Some s) true five = second-begun enc true (first_of enc tables true).first_base s five
    by_summary (Some s) false five = second-begun enc false (pos 0) s five

-- ---- the delay

levels-delay : (finite : Bool) (h : Header) (r : Rate) → pos 1 ≤ℤ r.reservoir_delay → pos 1 ≤ℤ h.ntus →
    pos 1 ≤ℤ (cond finite (over_the_window h r) (over_the_file h r)).reservoir_delay
levels-delay true h r delay units = omega (arith, ints, clamps)
levels-delay false h r delay units = units

set_up-delay : (header : Option Header) (r : Rate) → pos 1 ≤ℤ r.reservoir_delay → IfSome header (λ h. pos 1 ≤ℤ h.ntus) → pos 1 ≤ℤ (set_up_by header r).reservoir_delay
unfolding set_up
set_up-delay None r delay units = delay
set_up-delay (Some h) r delay units = levels-delay r.given.is_finite h r delay units

some-delay : (delay : Option ℤ) (interval : ℤ) → IfSome delay (λ d. (pos 12 ≤ℤ d) × (d ≤ℤ pos (2 ^ 17))) → pos 1 ≤ℤ reservoir_delay_of delay interval
some-delay None interval within = longer (int_shr (pos 3 *ℤ interval) 1)
  where
    longer : (x : ℤ) → pos 1 ≤ℤ int_max (int_min x (pos 240)) (pos 12)
    longer x = omega (arith, ints, clamps)
some-delay (Some d) interval within = let low = within.0 in omega (arith, ints)

start-delay : (enc : EncoderConfig) → IsValid enc → pos 1 ≤ℤ (start_of enc).reservoir_delay
unfolding start
start-delay enc valid = some-delay enc.reservoir_frame_delay (pos (interval_of enc.max_key_frame_interval)) valid.delay

started-delay : (enc : EncoderConfig) (passes : Passes) → IsValid enc → IfSome passes.given.header (λ h. pos 1 ≤ℤ h.ntus) → pos 1 ≤ℤ (started enc passes).reservoir_delay
started-delay enc passes valid units = set_up-delay passes.given.header (with_passes passes (start_of enc)) (start-delay enc valid) units

-- ---- the bitrate

accepted : (bits : ℕ) (levels : LevelTables) (config : Config) → pixel_refusal bits levels config ≡ None → refusal_of levels config ≡ None
unfolding pixel_refusal refusal_of
accepted bits levels config none = (none_append (rows_of levels config) (pixel_rows bits config.enc) none).0

is-controlled : (levels : LevelTables) (config : Config) → refusal_of levels config ≡ None → IsTrue (asks_passes config) → IsTrue (int_lt (pos 0) config.enc.bitrate)
is-controlled levels config none asks = let some = bitrate_of_accepted levels config none asks in grind (arith, ints)

either : (a b : Bool) → b ≡ true → IsTrue (a || b)
either true b is = refl
either false b is = is

-- ---- the whole

fresh-well : {T O D S C : Type 0} (bits : ℕ) (levels : LevelTables) (config : Config) (tables : Tables) (d : D) (s : S) (c : C) →
    pixel_refusal bits levels config ≡ None → IfSome config.rate_control.summary (λ one. length one.nframes ≡ 5) →
    IsWell {T = T} {O = O} config.rate_control.emit_data (pos 0) (fresh config.enc tables (passes_begun config.enc tables config.rate_control) d s c)
fresh-well bits levels config tables d s c valid five =
    let begins = begun config.enc tables config.rate_control five in
    let none = accepted bits levels config valid in
    record {
      unfailed = refl;
      within = omega arith;
      counted = refl;
      real = refl;
      untried = All-nil _;
      bytes = All-nil _;
      passes = record {
        first = begins.first_is;
        second = begins.second_is;
        controlled = λ emits. is-controlled levels config none (subst (λ b. IsTrue (b || is_some config.rate_control.summary)) (sym emits) refl);
        counted = λ second. is-controlled levels config none
            (either config.rate_control.emit_data (is_some config.rate_control.summary) (sym begins.summary_is ∙ (sym begins.second_is ∙ second)));
        delay = started-delay config.enc (passes_begun config.enc tables config.rate_control) (valid_of_accepted levels config none) begins.units;
        left = begins.left;
      };
    }

module _ {T O D S C : Type 0} (session : Session T O D S C) (second first : Bool) (new : IsNew session second first) where
  abbrev opened : Session T O D S C
  opened = fresh new.config.enc session.tables (passes_begun new.config.enc session.tables new.config.rate_control) session.detector session.scales session.coder

  begins : AreBegun new.config.rate_control.emit_data new.config.rate_control.summary (passes_begun new.config.enc session.tables new.config.rate_control)
  begins = begun new.config.enc session.tables new.config.rate_control new.counts

  pub new-well : IsWell first (pos 0) session
  new-well =
      subst (λ (s : Session T O D S C). IsWell first (pos 0) s) (sym new.opens)
      (subst (λ b. IsWell b (pos 0) opened) new.emits
      (fresh-well new.bits new.levels new.config session.tables session.detector session.scales session.coder new.valid new.counts))

  opened-paid : IsPaid first opened
  opened-paid = record {
    few = λ handing. omega arith;
    waits = λ handing. ap (λ (e : Emitted). is_some e.waiting) begins.unemitted;
  }

  pub new-paid : IsPaid first session
  new-paid = subst (λ (s : Session T O D S C). IsPaid first s) (sym new.opens) opened-paid

  pub new-unflushed : session.moment.flushed ≡ false
  new-unflushed = ap (λ (s : Session T O D S C). s.moment.flushed) new.opens

  pub new-accepted : session.moment.accepted ≡ 0
  new-accepted = ap (λ (s : Session T O D S C). s.moment.accepted) new.opens

  pub new-packets : session.moment.packets ≡ 0
  new-packets = ap (λ (s : Session T O D S C). s.moment.packets) new.opens

  pub new-commands : session.moment.commands ≡ 0
  new-commands = ap (λ (s : Session T O D S C). s.moment.commands) new.opens

  pub new-second : session.passes.second ≡ second
  new-second = ap (λ (s : Session T O D S C). s.passes.second) new.opens ∙ (begins.second_is ∙ (begins.summary_is ∙ new.summary))

  pub new-emitted : session.passes.emitted ≡ nothing_emitted
  new-emitted = ap (λ (s : Session T O D S C). s.passes.emitted) new.opens ∙ begins.unemitted
