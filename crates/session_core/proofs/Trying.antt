-- A receive that codes: what is tried, and the command for good behind it.
use Rattle.std.proofs.Common.{◌≡◌, ℕ, ◌+◌, ◌*◌, ◌≤◌, ◌<◌, ◌^◌, Bool, true, false, not, cond, List, [], ◌∷◌, ◌++◌, map, filter, take, drop, length, All, IfOk, OnOk, MatchBool, Result, Ok, Err, Some, None, ℤ, pos, refl, sym, ap, ap₂, ◌∙◌, subst, append-nil, append_assoc, add-zero, arith}
use Rattle.std.specs.List.{flat_map, slice_get}
use Rattle.std.proofs.lemmas.Bool.{and_parts, cond-false}
use Rattle.std.proofs.lemmas.List.{length-append}
use Rattle.std.proofs.lemmas.List.Concat.{flat_map-append}
use Rattle.std.proofs.lemmas.List.Elements.{All-cons, All-head, All-nil, All-push, All-tail, All-weaker, filter-append}
use Rattle.coding_base.proofs.FaultLemmas.{rose-after}
use Rattle.av1_frame.specs.declared.frame.Frame.{Frame}
use Rattle.av1_settings.specs.declared.encoder.EncoderConfig.{EncoderConfig}
use Rattle.pyramid.specs.declared.command.Command.{Command}
use Rattle.pyramid.specs.Known.{is_coding}
use Rattle.quantizers.specs.Tables.{Tables}
use Rattle.session_log.specs.Passes.{Passes, passes_after, passes_of}
use Rattle.session_log.specs.Keeps.{IsCodedForGood, IsLog, IsSized, Keeps, RateKept}
use Rattle.session_log.specs.Selection.{is_trial_due, reservoir_after}
use Rattle.session_log.specs.declared.entry.LogEntry.{LogEntry}
use Rattle.session_core.specs.declared.call.Call.TheVariants.{Receive}
use Rattle.session_core.specs.declared.coded.Coded.{Coded}
use Rattle.session_core.specs.declared.fault.SessionFault.{SessionFault}
use Rattle.session_core.specs.declared.fault.SessionFault.TheVariants.{Coder, OutOfMemory, PassData}
use Rattle.session_core.specs.declared.state.SessionState.{SessionState}
use Rattle.session_core.specs.declared.transcript.Decision.{Decision}
use Rattle.session_core.specs.declared.transcript.Reply.{Reply}
use Rattle.session_core.specs.declared.transcript.Reply.TheVariants.{Sent, Flushed, Packet as GivesPacket, Status}
use Rattle.session_core.specs.declared.transcript.Turn.{Turn}
use Rattle.session_core.specs.Moments.{Moment, known_at, plan_at}
use Rattle.session_core.specs.Questions.{last_key}
use Rattle.session_core.specs.Quantisers.{AreSelected, IsQuantised, passes_behind, quantisers_at}
use Rattle.session_core.specs.Scales.{AreScaled, IsScaled, frame_of, frames_of, picture_at, scale_list, scales_of}
use Rattle.session_core.specs.States.{moment_of, CanCode, FailsCoding, IsAdvanced, IsCoded, IsCodedTurn, IsKept, IsRated, IsRatedBehind, IsScheduled, IsTried}
use Rattle.session_core.specs.Steps.{Fails}
use Rattle.session_core.specs.Taken.{IsTaken, handed_at, packet_of}
use Rattle.session_core.specs.Told.{CoderTold, Counts, DetectorTold, FailsBehind, Handed, IsCoderLater, ScalesTold, heard}
use Rattle.session_core.specs.Turns.{AreTrials, BeginTrials, CodesNext, IsTrial, after_receive, held_back, noted_all, real_entries}
use Rattle.session_log.proofs.Logs.{good_behind}
use Rattle.session_core.proofs.Passing.{behind-nothing, behind-push, keeps-own}
use Rattle.session_core.proofs.Scheduling.{is-kept, kept-last_key, kept-schedule, received-scheduled}
use Rattle.session_core.proofs.StateLemmas.{taken-tried}
use Rattle.session_core.proofs.Telling.{ahead-nothing, counts-fault, counts-none, counts-then, taken-none, taken-then}

-- ---- what is tried

-- nothing, or the command once
pub data Tries (command : Command) (trials : List LogEntry) : Type 0 where
  NoTry : trials ≡ [] → Tries command trials
  OneTry : (trial : LogEntry) → trials ≡ trial ∷ [] → trial.trial ≡ true → is_coding command ≡ true → Tries command trials

pub tries-of : {T O : Type 0} (enc : EncoderConfig) (m : Moment T O) (command : Command) (trials : List LogEntry) → AreTrials enc m command trials → Tries command trials
tries-of enc m command trials are = by_due (is_trial_due enc m.log command) refl are
  where
    by_due : (due : Bool) → is_trial_due enc m.log command ≡ due → MatchBool due (IsTrial command trials) (trials ≡ []) → Tries command trials
    by_due true e is = OneTry is.trial is.one is.tried (and_parts (is_coding command) _ e).0
    by_due false e none = NoTry none

pub tries-few : (command : Command) (trials : List LogEntry) → Tries command trials → length trials ≤ 1
tries-few command trials (NoTry none) = subst (λ (l : List LogEntry). length l ≤ 1) (sym none) (omega arith)
tries-few command trials (OneTry trial one tried coding) = subst (λ (l : List LogEntry). length l ≤ 1) (sym one) (omega arith)

abbrev pub IsMarked : LogEntry → Type 0
IsMarked trial = trial.trial ≡ true

pub tries-marked : (command : Command) (trials : List LogEntry) → Tries command trials → All IsMarked trials
tries-marked command trials (NoTry none) = subst (All IsMarked) (sym none) (All-nil IsMarked)
tries-marked command trials (OneTry trial one tried coding) = subst (All IsMarked) (sym one) (All-cons IsMarked trial [] tried (All-nil IsMarked))

-- they have the mean scale of the command's frame
pub tries-scales : (command : Command) (trials : List LogEntry) (scale : ℤ) → Tries command trials → All (λ trial. trial.mean_scale ≡ scale) trials →
    map (λ trial. trial.mean_scale) trials ≡ take (length trials) (scale_list command scale)
tries-scales command trials scale (NoTry none) alike = rw none refl
tries-scales command trials scale (OneTry trial one tried coding) alike =
    let same : trial.mean_scale ≡ scale =
    All-head (λ (trial : LogEntry). trial.mean_scale ≡ scale) trial [] (subst (All (λ (trial : LogEntry). trial.mean_scale ≡ scale)) one alike) in
    rw (one, coding, same) refl

pub tries-alike : (command : Command) (trials : List LogEntry) (scale own : ℤ) → Tries command trials → All (λ trial. trial.mean_scale ≡ scale) trials →
    own ≡ cond (is_coding command) scale (pos 0) → All (λ trial. trial.mean_scale ≡ own) trials
tries-alike command trials scale own (NoTry none) alike is = subst (All (λ (trial : LogEntry). trial.mean_scale ≡ own)) (sym none) (All-nil (λ (trial : LogEntry). trial.mean_scale ≡ own))
tries-alike command trials scale own (OneTry trial one tried coding) alike is =
    let here : own ≡ scale = is ∙ ap (λ (b : Bool). cond b scale (pos 0)) coding in
    All-weaker (λ (trial : LogEntry). trial.mean_scale ≡ scale) (λ (trial : LogEntry). trial.mean_scale ≡ own) (λ trial e. e ∙ sym here) trials alike

pub trials-none : {T O : Type 0} (enc : EncoderConfig) (m : Moment T O) (command : Command) → is_trial_due enc m.log command ≡ false → AreTrials enc m command []
trials-none enc m command e = subst (λ (b : Bool). MatchBool b (IsTrial command []) (◌≡◌ {A = List LogEntry} [] [])) (sym e) refl

pub trials-one : {T O : Type 0} (enc : EncoderConfig) (m : Moment T O) (command : Command) (trial : LogEntry) → is_trial_due enc m.log command ≡ true →
    trial.command ≡ command → trial.trial ≡ true → AreTrials enc m command (trial ∷ [])
trials-one enc m command trial e same tried =
    subst (λ (b : Bool). MatchBool b (IsTrial command (trial ∷ [])) (trial ∷ [] ≡ [])) (sym e) (record { trial = trial; one = refl; same = same; tried = tried })

-- a part of it is nothing, whatever is due
pub begin-none : {T O : Type 0} (enc : EncoderConfig) (m : Moment T O) (command : Command) → BeginTrials enc m command []
begin-none enc m command = by_due (is_trial_due enc m.log command) refl
  where
    made : LogEntry
    made = record { command = command; trial = true; bytes = []; quant = None; mean_scale = pos 0 }

    by_due : (due : Bool) → is_trial_due enc m.log command ≡ due → BeginTrials enc m command []
    by_due true e = (made ∷ [], trials-one enc m command made e refl refl)
    by_due false e = ([], trials-none enc m command e)

pub tried-nothing : {T O : Type 0} (enc : EncoderConfig) (tables : Tables) (passes : Passes) (m : Moment T O) (command : Command) (scale : ℤ) (told : CoderTold T) →
    is_trial_due enc m.log command ≡ false → IsTried enc tables passes m command scale [] told told
tried-nothing enc tables passes m command scale told e = record {
  tried = trials-none enc m command e;
  selected = tt;
  alike = All-nil (λ (trial : LogEntry). trial.mean_scale ≡ scale);
  taken = taken-none told;
  counted = counts-none told.fails_after;
}

pub tried-once : {T O : Type 0} (enc : EncoderConfig) (tables : Tables) (passes : Passes) (m : Moment T O) (command : Command) (scale : ℤ) (coded : Coded T) (told now : CoderTold T) →
    m.packets + length m.waiting ≡ m.accepted → CanCode m command → is_trial_due enc m.log command ≡ true →
    coded.entry.command ≡ command → coded.entry.trial ≡ true → coded.entry.mean_scale ≡ cond (is_coding command) scale (pos 0) →
    coded.entry.quant ≡ quantisers_at enc tables passes m m.log coded.entry → IsCoded m told now coded → now.gives ≡ told.gives →
    IsTried enc tables passes m command scale (coded.entry ∷ []) told now
tried-once {T} {O} enc tables passes m command scale coded told now waits can e same tried scaled quant is gives = record {
  tried = trials-one enc m command coded.entry e same tried;
  selected = (quant, tt);
  alike = All-cons (λ (trial : LogEntry). trial.mean_scale ≡ scale) coded.entry []
      (scaled ∙ ap (λ (b : Bool). cond b scale (pos 0)) (and_parts (is_coding command) _ e).0) (All-nil (λ (trial : LogEntry). trial.mean_scale ≡ scale));
  taken = subst (λ (jobs : List (Handed T)). IsTaken {T = T} {O = O} jobs (coded.entry ∷ []) [] told now) (sym (append-nil (handed_at m coded.entry)))
      (taken-tried m coded told now waits (subst (CanCode m) (sym same) can) tried is gives);
  counted = is.counted;
}

-- ---- rate control

pub rated-none : {T O : Type 0} (enc : EncoderConfig) (m : Moment T O) (rate : RateKept) → IsRated enc m rate → IsRatedBehind enc rate.tables m [] rate
rated-none enc m rate rated = record {
  keeps = subst (λ (log : List LogEntry). Keeps enc rate.tables (passes_of rate.state) log rate) (sym (append-nil m.log)) rated.keeps;
  few = rated.few;
  sized = subst (All IsSized) (sym (append-nil m.log)) rated.sized;
}

-- one entry more is a log
pub next-log : {T O : Type 0} (enc : EncoderConfig) (tables : Tables) (m : Moment T O) (entries : List LogEntry) (entry : LogEntry) (rate : RateKept) →
    IsRatedBehind enc tables m entries rate → length entries ≤ 1 → m.commands + 2 ≤ 2 ^ 32 → IsSized entry → IsLog ((m.log ++ entries) ++ entry ∷ [])
next-log enc tables m entries entry rate rated short room sized =
    let few = rated.few in
    record {
      few = omega (arith, length-append (m.log ++ entries) (entry ∷ []), length-append m.log entries, few, short, room);
      sized = All-push IsSized (m.log ++ entries) entry rated.sized sized;
    }

pub rated-next : {T O : Type 0} (enc : EncoderConfig) (tables : Tables) (passes : Passes) (m : Moment T O) (entries : List LogEntry) (entry : LogEntry) (rate then : RateKept) →
    IsRatedBehind enc tables m entries rate → IsSized entry → Keeps enc tables passes ((m.log ++ entries) ++ entry ∷ []) then → IsRatedBehind enc tables m (entries ++ entry ∷ []) then
rated-next enc tables passes m entries entry rate then rated sized keeps = record {
  keeps = subst (λ (log : List LogEntry). Keeps enc tables (passes_of then.state) log then) (append_assoc m.log entries (entry ∷ []))
      (keeps-own enc tables passes ((m.log ++ entries) ++ entry ∷ []) then keeps);
  few = rated.few;
  sized = subst (All IsSized) (append_assoc m.log entries (entry ∷ [])) (All-push IsSized (m.log ++ entries) entry rated.sized sized);
}

-- ---- the entry for good

pub real-behind : (trials : List LogEntry) (entry : LogEntry) → All IsMarked trials → entry.trial ≡ false → real_entries (trials ++ entry ∷ []) ≡ entry ∷ []
real-behind trials entry marked real =
    filter-append (λ (one : LogEntry). not one.trial) trials (entry ∷ [])
    ∙ ap₂ (λ (a b : List LogEntry). a ++ b) (no_real trials marked) (ap (λ (t : Bool). cond (not t) (entry ∷ []) []) real)
  where
    no_real : (trials : List LogEntry) → All IsMarked trials → real_entries trials ≡ []
    no_real [] marked = refl
    no_real (trial ∷ trials) marked =
        ap (λ (t : Bool). cond (not t) (trial ∷ real_entries trials) (real_entries trials)) (All-head IsMarked trial trials marked)
        ∙ no_real trials (All-tail IsMarked trial trials marked)

-- the moment after an entry, with the tries before it
pub after-tries : {T O : Type 0} (m after : Moment T O) (trials : List LogEntry) (entry : LogEntry) (reply : Reply T O) → All IsMarked trials → entry.trial ≡ false →
    (record after { log = m.log ++ entry ∷ [] }) ≡ after_receive m (entry ∷ []) reply →
    (record after { log = m.log ++ (trials ++ entry ∷ []) }) ≡ after_receive m (trials ++ entry ∷ []) reply
after-tries {T} {O} m after trials entry reply marked real is = ap with_log is ∙ joined reply
  where
    with_log : Moment T O → Moment T O
    with_log = λ moment. record moment { log = m.log ++ (trials ++ entry ∷ []) }

    reals : real_entries (entry ∷ []) ≡ real_entries (trials ++ entry ∷ [])
    reals = ap (λ (t : Bool). cond (not t) (entry ∷ []) []) real ∙ sym (real-behind trials entry marked real)

    shown : List LogEntry → Moment T O
    shown = λ l. record m {
      commands = m.commands + length l;
      packets = m.packets + 1;
      waiting = drop 1 m.waiting;
      pending = [];
      log = m.log ++ (trials ++ entry ∷ []);
    }

    hidden : List LogEntry → Moment T O
    hidden = λ l. record m {
      commands = m.commands + length l;
      waiting = noted_all m.packets m.waiting l;
      pending = m.pending ++ flat_map (λ (entry : LogEntry). entry.bytes) l;
      log = m.log ++ (trials ++ entry ∷ []);
    }

    joined : (reply : Reply T O) → with_log (after_receive m (entry ∷ []) reply) ≡ after_receive m (trials ++ entry ∷ []) reply
    joined (GivesPacket packet) = ap shown reals
    joined (Sent number) = ap hidden reals
    joined Flushed = ap hidden reals
    joined (Status status) = ap hidden reals

-- ---- a receive

module _ {T O : Type 0} (enc : EncoderConfig) (tables : Tables) (passes tried after : Passes) (m : Moment T O) (command : Command) (scale : ℤ) (trials : List LogEntry) (turn : Turn T O) (told between now : CoderTold T)
    (tries : IsTried enc tables passes m command scale trials told between) (moved : tried ≡ passes_behind enc passes m.log trials)
    (coded : IsCodedTurn enc tables tried after m command scale trials turn between now) where
  did : Tries command trials
  did = tries-of enc m command trials tries.tried

  pub turn-next : slice_get (plan_at enc m) m.commands ≡ Some command → CodesNext enc m turn
  turn-next planned = record {
    trials = trials;
    entry = coded.entry;
    log = coded.log;
    command = planned ∙ ap Some (sym coded.command_of);
    tried = subst (λ (c : Command). AreTrials enc m c trials) (sym coded.command_of) tries.tried;
    real = coded.real;
    alike = tries-alike command trials scale coded.entry.mean_scale did tries.alike coded.scale_of;
    unscaled = λ off. coded.scale_of ∙ cond-false (is_coding command) scale (pos 0) (ap is_coding (sym coded.command_of) ∙ off);
    reply = coded.reply;
  }

  pub turn-real : real_entries turn.log ≡ coded.entry ∷ []
  turn-real = ap real_entries coded.log ∙ real-behind trials coded.entry (tries-marked command trials did) coded.real

  pub turn-short : length turn.log ≤ 2
  turn-short = omega (arith, tries-few command trials did, ap (λ (l : List LogEntry). length l) coded.log, length-append trials (coded.entry ∷ []))

  pub turn-passes : after ≡ passes_behind enc passes m.log turn.log
  turn-passes =
      coded.moved ∙ ap (λ (p : Passes). passes_after enc p (m.log ++ trials) coded.entry) moved
      ∙ behind-push enc passes m.log trials coded.entry
      ∙ ap (passes_behind enc passes m.log) (sym coded.log)

  pub turn-quantised : IsQuantised enc tables passes m turn
  turn-quantised = record {
    selected = subst (λ (log : List LogEntry). AreSelected enc tables passes m m.log log) (sym coded.log)
        (push passes m.log trials tries.selected
        (subst (λ (p : Passes). coded.entry.quant ≡ quantisers_at enc tables p m (m.log ++ trials) coded.entry) moved coded.quant));
    reservoir = coded.reservoir ∙ ap (λ (p : Passes). reservoir_after enc p (m.log ++ turn.log)) turn-passes;
  }
    where
      push : (p : Passes) (before entries : List LogEntry) → AreSelected enc tables p m before entries →
          coded.entry.quant ≡ quantisers_at enc tables (passes_behind enc p before entries) m (before ++ entries) coded.entry →
          AreSelected enc tables p m before (entries ++ coded.entry ∷ [])
      push p before [] selected quant = (subst (λ (log : List LogEntry). coded.entry.quant ≡ quantisers_at enc tables p m log coded.entry) (append-nil before) quant, tt)
      push p before (one ∷ entries) selected quant = (
        selected.0,
        push (passes_after enc p before one) (before ++ one ∷ []) entries selected.1
            (subst (λ (log : List LogEntry). coded.entry.quant
            ≡ quantisers_at enc tables (passes_behind enc (passes_after enc p before one) (before ++ one ∷ []) entries) m log coded.entry)
            (sym (append_assoc before (one ∷ []) entries)) quant),
      )

  -- behind the turn the last entry is for good
  pub turn-good : IsCodedForGood (m.log ++ turn.log)
  turn-good =
      subst (λ (log : List LogEntry). IsCodedForGood log) (append_assoc m.log trials (coded.entry ∷ []) ∙ ap (λ (log : List LogEntry). m.log ++ log) (sym coded.log))
      (good_behind (m.log ++ trials) coded.entry coded.real)

  pub turn-taken : IsTaken (flat_map (handed_at m) turn.log) turn.log (packet_of turn.reply) told now
  turn-taken =
      subst (λ (log : List LogEntry). IsTaken (flat_map (handed_at m) log) log (packet_of turn.reply) told now) (sym coded.log)
      (subst (λ (jobs : List (Handed T)). IsTaken jobs (trials ++ coded.entry ∷ []) (packet_of turn.reply) told now) (sym handed)
      (taken-then told between now (flat_map (handed_at m) trials) (handed_at m coded.entry) trials (coded.entry ∷ []) [] (packet_of turn.reply) tries.taken coded.taken))
    where
      handed : flat_map (handed_at m) (trials ++ coded.entry ∷ []) ≡ flat_map (handed_at m) trials ++ handed_at m coded.entry
      handed = flat_map-append (handed_at m) trials (coded.entry ∷ [])
          ∙ ap (λ (jobs : List (Handed T)). flat_map (handed_at m) trials ++ jobs) (append-nil (handed_at m coded.entry))

  pub turn-counted : Counts told.fails_after now.fails_after (length turn.log)
  turn-counted =
      subst (λ (n : ℕ). Counts told.fails_after now.fails_after n)
      (sym (ap (λ (l : List LogEntry). length l) coded.log ∙ length-append trials (coded.entry ∷ [])))
      (counts-then told.fails_after between.fails_after now.fails_after (length trials) 1 tries.counted coded.counted)

  pub turn-scaled : (scales then : ScalesTold T) → AreScaled (frame_of (picture_at m) command) (scale_list command scale) scales then → IsScaled m turn.log scales then
  turn-scaled scales then scaled =
      subst (λ (frames : List (ℕ × Frame T)). AreScaled frames (scales_of turn.log) scales then) (sym frames)
      (subst (λ (values : List ℤ). AreScaled (frame_of (picture_at m) command) values scales then) (sym values) scaled)
    where
      frames : frames_of (picture_at m) turn.log ≡ frame_of (picture_at m) command
      frames = ap (flat_map (λ (entry : LogEntry). frame_of (picture_at m) entry.command)) turn-real
          ∙ append-nil (frame_of (picture_at m) coded.entry.command)
          ∙ ap (frame_of (picture_at m)) coded.command_of

      one : (b : Bool) → map (λ (entry : LogEntry). entry.mean_scale) (cond b (coded.entry ∷ []) []) ≡ cond b (coded.entry.mean_scale ∷ []) []
      one true = refl
      one false = refl

      kept : (b : Bool) (value : ℤ) → value ≡ cond b scale (pos 0) → cond b (value ∷ []) [] ≡ cond b (scale ∷ []) []
      kept true value e = ap (λ (v : ℤ). v ∷ []) e
      kept false value e = refl

      values : scales_of turn.log ≡ scale_list command scale
      values = ap (λ (log : List LogEntry). map (λ (entry : LogEntry). entry.mean_scale) (filter (λ (entry : LogEntry). is_coding entry.command) log)) turn-real
          ∙ one (is_coding coded.entry.command)
          ∙ ap (λ (c : Command). cond (is_coding c) (coded.entry.mean_scale ∷ []) []) coded.command_of
          ∙ kept (is_coding command) coded.entry.mean_scale coded.scale_of

-- ---- what is kept

received-decisions : {T O : Type 0} (m : Moment T O) (log : List LogEntry) (reply : Reply T O) → (after_receive m log reply).decisions ≡ m.decisions
received-decisions m log (GivesPacket packet) = refl
received-decisions m log (Sent number) = refl
received-decisions m log Flushed = refl
received-decisions m log (Status status) = refl

received-log : {T O : Type 0} (m : Moment T O) (log : List LogEntry) (reply : Reply T O) → (after_receive m log reply).log ≡ m.log ++ log
received-log m log (GivesPacket packet) = refl
received-log m log (Sent number) = refl
received-log m log Flushed = refl
received-log m log (Status status) = refl

received-count : {T O : Type 0} (m : Moment T O) (log : List LogEntry) (reply : Reply T O) → (after_receive m log reply).commands ≡ m.commands + length (real_entries log)
received-count m log (GivesPacket packet) = refl
received-count m log (Sent number) = refl
received-count m log Flushed = refl
received-count m log (Status status) = refl

received-rated : {T O : Type 0} (enc : EncoderConfig) (m : Moment T O) (log : List LogEntry) (reply : Reply T O) (tables : Tables) (rate : RateKept) →
    length (real_entries log) ≡ 1 → length log ≤ 2 → IsCodedForGood (m.log ++ log) → IsRatedBehind enc tables m log rate → rate.tables ≡ tables → IsRated enc (after_receive m log reply) rate
received-rated {T} {O} enc m log reply tables rate one short good rated same = record {
  keeps = subst (λ (t : Tables). Keeps enc t (passes_of rate.state) (after_receive m log reply).log rate) (sym same)
      (subst (λ (l : List LogEntry). Keeps enc tables (passes_of rate.state) l rate) (sym (received-log m log reply)) rated.keeps);
  few = few (length (after_receive m log reply).log) (length m.log) (length log) (after_receive m log reply).commands m.commands (length (real_entries log))
      (ap (λ (l : List LogEntry). length l) (received-log m log reply) ∙ length-append m.log log) (received-count m log reply) rated.few short one;
  sized = subst (All IsSized) (sym (received-log m log reply)) rated.sized;
  good = subst (λ (l : List LogEntry). IsCodedForGood l) (sym (received-log m log reply)) good;
}
  where
    few : (all old new after before real : ℕ) → all ≡ old + new → after ≡ before + real → old ≤ before * 2 → new ≤ 2 → real ≡ 1 → all ≤ after * 2
    few all old new after before real a b c d e = omega (arith, a, b, c, d, e)

kept-received : {T O : Type 0} (enc : EncoderConfig) (passes tried then_passes : Passes) (before after : SessionState T O) (command : Command) (scale : ℤ) (trials : List LogEntry) (turn : Turn T O) (told between now : CoderTold T) →
    IsTried enc before.rate.tables passes (moment_of before) command scale trials told between → tried ≡ passes_behind enc passes (moment_of before).log trials →
    IsCodedTurn enc before.rate.tables tried then_passes (moment_of before) command scale trials turn between now → IsKept enc before →
    after.last_key ≡ before.last_key → moment_of after ≡ after_receive (moment_of before) turn.log turn.reply → IsAdvanced before.schedule after.schedule →
    before.commands < length (known_at enc (moment_of before)) → IsRatedBehind enc before.rate.tables (moment_of before) turn.log after.rate →
    after.rate.tables ≡ before.rate.tables → IsKept enc after
kept-received {T} {O} enc passes tried then_passes before after command scale trials turn told between now tries moved coded kept last leads advanced there rated same =
    is-kept enc after
    (last ∙ kept-last_key enc before kept ∙ ap (λ (d : List Decision). last_key d (length d + 1)) (sym decided))
    (subst (λ (moment : Moment T O). IsScheduled enc moment after.schedule) (sym leads)
    (received-scheduled enc (moment_of before) turn.log turn.reply after.schedule one (advanced _ _ _ _ _ _ there (kept-schedule enc before kept))))
    (subst (λ (moment : Moment T O). IsRated enc moment after.rate) (sym leads)
    (received-rated enc (moment_of before) turn.log turn.reply before.rate.tables after.rate one
    (turn-short enc before.rate.tables passes tried then_passes (moment_of before) command scale trials turn told between now tries moved coded)
    (turn-good enc before.rate.tables passes tried then_passes (moment_of before) command scale trials turn told between now tries moved coded) rated same))
  where
    decided : after.decisions.items ≡ before.decisions.items
    decided = ap (λ (moment : Moment T O). moment.decisions) leads ∙ received-decisions (moment_of before) turn.log turn.reply

    one : length (real_entries turn.log) ≡ 1
    one = ap (λ (l : List LogEntry). length l) (turn-real enc before.rate.tables passes tried then_passes (moment_of before) command scale trials turn told between now tries moved coded)

-- where the command was answered
pub kept-answered : {T O E : Type 0} (enc : EncoderConfig) (passes tried then_passes : Passes) (before after : SessionState T O) (command : Command) (scale : ℤ) (trials : List LogEntry) (result : Result (Turn T O) E) (told between now : CoderTold T) →
    IsTried enc before.rate.tables passes (moment_of before) command scale trials told between → tried ≡ passes_behind enc passes (moment_of before).log trials →
    IfOk result (λ turn. IsCodedTurn enc before.rate.tables tried then_passes (moment_of before) command scale trials turn between now) → IsKept enc before →
    after.last_key ≡ before.last_key → IfOk result (λ turn. moment_of after ≡ after_receive (moment_of before) turn.log turn.reply) →
    OnOk result (IsAdvanced before.schedule after.schedule) → before.commands < length (known_at enc (moment_of before)) →
    IfOk result (λ turn. IsRatedBehind enc before.rate.tables (moment_of before) turn.log after.rate) →
    after.rate.tables ≡ before.rate.tables → OnOk result (IsKept enc after)
kept-answered enc passes tried then_passes before after command scale trials (Ok turn) told between now tries moved coded kept last leads advanced there rated same =
    kept-received enc passes tried then_passes before after command scale trials turn told between now tries moved coded kept last leads advanced there rated same
kept-answered enc passes tried then_passes before after command scale trials (Err error) told between now tries moved coded kept last leads advanced there rated same = tt

-- ---- a call that codes nothing

pub quiet-quantised : {T O : Type 0} (enc : EncoderConfig) (tables : Tables) (passes : Passes) (m : Moment T O) (turn : Turn T O) → turn.log ≡ [] → turn.reservoir ≡ reservoir_after enc passes m.log →
    IsQuantised enc tables passes m turn
quiet-quantised enc tables passes m turn none held = record {
  selected = subst (λ (log : List LogEntry). AreSelected enc tables passes m m.log log) (sym none) tt;
  reservoir = held ∙ ap₂ (reservoir_after enc) (sym (behind-nothing enc passes m.log turn.log none)) (sym (ap (λ (log : List LogEntry). m.log ++ log) none ∙ append-nil m.log));
}

-- ---- a call of the coder that fails

pub coding-fails : {T O : Type 0} (enc : EncoderConfig) (tables : Tables) (passes : Passes) (m : Moment T O) (command : Command) (trials : List LogEntry) (values : List ℤ)
    (told between now : CoderTold T) (detector : DetectorTold T) (scales then : ScalesTold T) (fault : SessionFault) →
    held_back enc m ≡ None → slice_get (plan_at enc m) m.commands ≡ Some command → BeginTrials enc m command trials → AreSelected enc tables passes m m.log trials →
    AreScaled (frame_of (picture_at m) command) values scales then → map (λ trial. trial.mean_scale) trials ≡ take (length trials) values →
    IsTaken {T = T} {O = O} (flat_map (handed_at m) trials) trials [] told between → Counts told.fails_after between.fails_after (length trials) →
    IsCoderLater told between → now.gives ≡ between.gives → FailsCoding m.commands between now fault →
    Fails enc tables passes Receive m (heard told detector scales) (heard now detector then) fault
coding-fails {T} {O} enc tables passes m command trials values told between now detector scales then (Coder number) due next begin selected scaled alike taken counted later same fails = (
  refl,
  record {
    command = command;
    trials = trials;
    scales = values;
    due = record {
      due = due;
      next = sym fails.0;
      command_of = ap (slice_get (plan_at enc m)) fails.0 ∙ next;
    };
    tried = begin;
    selected = selected;
    scaled = scaled;
    alike = alike;
    taken = subst (λ (jobs : List (Handed T)). IsTaken {T = T} {O = O} jobs trials [] told now) (append-nil (flat_map (handed_at m) trials))
        (subst (λ (entries : List LogEntry). IsTaken {T = T} {O = O} (flat_map (handed_at m) trials ++ []) entries [] told now) (append-nil trials)
        (taken-then told between now (flat_map (handed_at m) trials) [] trials [] [] [] taken none));
    reached = subst (λ (n : ℕ). FailsBehind told.fails_after n) (add-zero (length trials)) (counts-fault told.fails_after between.fails_after (length trials) 0 counted fails.2);
    rose = rose-after told.faults between.faults now.faults later.faults fails.3;
    unasked = refl;
  },
)
  where
    none : IsTaken {T = T} {O = O} [] [] [] between now
    none = record {
      taken = [];
      calls = fails.1;
      handed = refl;
      bytes = refl;
      recs = refl;
      stats = refl;
      ahead = ahead-nothing between;
      gives = same;
    }
coding-fails enc tables passes m command trials values told between now detector scales then OutOfMemory due next begin selected scaled alike taken counted later same fails = tt
coding-fails enc tables passes m command trials values told between now detector scales then (PassData refusal) due next begin selected scaled alike taken counted later same fails = absurd fails
