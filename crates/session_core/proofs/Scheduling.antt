-- The schedule that a session keeps: what its calls do to it, and what a receive reads from it.
use Rattle.std.proofs.Common.{◌≡◌, ℕ, zero, suc, ◌+◌, ◌*◌, ◌≤◌, ◌<◌, ◌^◌, ◌/◌, Bool, true, false, not, ◌&&◌, eqb, leb, ltb, drop, List, [], ◌∷◌, ◌++◌, map, length, All, Option, Some, None, refl, sym, ap, ◌∙◌, subst, append-nil, append_assoc, zero-le, arith}
use Rattle.std.specs.List.{slice_get, count_by}
use Rattle.std.proofs.lemmas.Bool.{cond-false, ne_eqb}
use Rattle.std.proofs.lemmas.Bool.Decides.{leb_tells}
use Rattle.std.proofs.lemmas.List.{nil_from_length, length-append}
use Rattle.std.proofs.lemmas.List.Elements.{All-nil}
use Rattle.std.proofs.lemmas.Option.{slice_get_within}
use Rattle.av1_settings.specs.declared.encoder.EncoderConfig.{EncoderConfig}
use Rattle.av1_settings.specs.declared.speed.SceneDetectionSpeed.{SceneDetectionSpeed}
use Rattle.av1_settings.specs.Settings.{interval_of}
use Rattle.pyramid.specs.declared.command.Command.{Command}
use Rattle.pyramid.specs.declared.schedule.Schedule.{Schedule}
use Rattle.pyramid.specs.Known.{is_coding}
use Rattle.pyramid.specs.Numbers.{Numbers}
use Rattle.pyramid.specs.Schedules.{IsSchedule}
use Rattle.pyramid.specs.Settings.{numbers_of}
use Rattle.session_core.specs.declared.state.SessionState.{SessionState}
use Rattle.session_core.specs.declared.transcript.Decision.{Decision}
use Rattle.http_server.specs.declared.log.Log.{Log}
use Rattle.quantizers.specs.Tables.{Tables}
use Rattle.session_log.specs.Passes.{Passes, passes_of}
use Rattle.session_log.specs.Keeps.{IsCodedForGood, IsSized, Keeps, RateKept}
use Rattle.session_log.specs.declared.entry.LogEntry.{LogEntry}
use Rattle.session_log.proofs.Logs.{nothing_is_good}
use Rattle.session_core.specs.declared.transcript.Reply.{Reply}
use Rattle.session_core.specs.declared.transcript.Reply.TheVariants.{Sent, Flushed, Packet as GivesPacket, Status}
use Rattle.session_core.specs.Decisions.{decided_count, key_positions, keys_of}
use Rattle.session_core.specs.Moments.{Moment, known_at, opening, plan_at}
use Rattle.session_core.specs.Questions.{last_key}
use Rattle.session_core.specs.States.{moment_of, Decided, IsKept, IsRated, IsScheduled, KeepsLastKey, TakesKeys}
use Rattle.session_core.specs.Told.{Asked}
use Rattle.session_core.specs.Turns.{after_receive, frame_limit, needs_more_data, real_entries}
use Rattle.session_core.proofs.Decided.{keys-append, slice_get-front}
use Rattle.session_core.proofs.Passing.{keeps-own}
use Rattle.session_core.proofs.PlanAt.{plan-of, known-begins, known-within}

-- ---- what is kept

pub kept-last_key : {T O : Type 0} (enc : EncoderConfig) (state : SessionState T O) → IsKept enc state → KeepsLastKey state
unfolding IsKept
kept-last_key enc state kept = kept.0

pub kept-schedule : {T O : Type 0} (enc : EncoderConfig) (state : SessionState T O) → IsKept enc state → IsScheduled enc (moment_of state) state.schedule
unfolding IsKept
kept-schedule enc state kept = kept.1

pub kept-rated : {T O : Type 0} (enc : EncoderConfig) (state : SessionState T O) → IsKept enc state → IsRated enc (moment_of state) state.rate
unfolding IsKept
kept-rated enc state kept = kept.2

pub is-kept : {T O : Type 0} (enc : EncoderConfig) (state : SessionState T O) → KeepsLastKey state → IsScheduled enc (moment_of state) state.schedule →
    IsRated enc (moment_of state) state.rate → IsKept enc state
unfolding IsKept
is-kept enc state last schedule rated = (last, schedule, rated)

-- rate control stays that of a moment whose log and whose commands stay
pub still-rated : {T O : Type 0} (enc : EncoderConfig) (before after : SessionState T O) → IsRated enc (moment_of before) before.rate →
    after.log ≡ before.log → after.commands ≡ before.commands → after.rate ≡ before.rate → IsRated enc (moment_of after) after.rate
still-rated {T} {O} enc before after rated same_log same_commands same_rate = rw same_rate (record {
  keeps = subst (λ (log : List LogEntry). Keeps enc before.rate.tables (passes_of before.rate.state) log before.rate) (sym logged) rated.keeps;
  few = rw (logged, same_commands) rated.few;
  sized = subst (λ (log : List LogEntry). All IsSized log) (sym logged) rated.sized;
  good = subst (λ (log : List LogEntry). IsCodedForGood log) (sym logged) rated.good;
})
  where
    logged : (moment_of after).log ≡ (moment_of before).log
    logged = ap (λ (log : Log LogEntry Unit). map (λ (pair : LogEntry × Unit). pair.0) log.items) same_log

-- before the first frame
pub kept-opening : {T O : Type 0} (enc : EncoderConfig) (state : SessionState T O) → state.accepted ≡ 0 → state.flushed ≡ false → state.commands ≡ 0 → state.decisions.items ≡ [] →
    state.last_key ≡ 0 → IsSchedule (numbers_of enc) (interval_of enc.max_key_frame_interval) 0 false [] 0 state.schedule →
    state.log.items ≡ [] → Keeps enc state.rate.tables (passes_of state.rate.state) [] state.rate → IsKept enc state
kept-opening {T} {O} enc state accepted flushed commands decisions last schedule none keeps = is-kept enc state kept_last scheduled rated
  where
    kept_last : KeepsLastKey state
    kept_last = last ∙ ap (λ (d : List Decision). last_key d (length d + 1)) (sym decisions)

    scheduled : IsScheduled enc (moment_of state) state.schedule
    scheduled = rw (accepted, flushed, commands) schedule

    empty : (moment_of state).log ≡ []
    empty = ap (map (λ (pair : LogEntry × Unit). pair.0)) none

    rated : IsRated enc (moment_of state) state.rate
    rated = record {
      keeps = subst (λ (log : List LogEntry). Keeps enc state.rate.tables (passes_of state.rate.state) log state.rate) (sym empty) keeps;
      few = subst (λ (log : List LogEntry). length log ≤ state.commands * 2) (sym empty) zero-le;
      sized = subst (λ (log : List LogEntry). All IsSized log) (sym empty) (All-nil IsSized);
      good = subst (λ (log : List LogEntry). IsCodedForGood log) (sym empty) nothing_is_good;
    }

-- where only rate control changes, and stays that of the log
pub kept-rate : {T O : Type 0} (enc : EncoderConfig) (state : SessionState T O) (rate : RateKept) → IsKept enc state →
    Keeps enc rate.tables (passes_of rate.state) (moment_of state).log rate → IsKept enc (record state { rate = rate })
kept-rate enc state rate kept keeps = is-kept enc (record state { rate = rate }) (kept-last_key enc state kept) (kept-schedule enc state kept) (record {
  keeps = keeps;
  few = (kept-rated enc state kept).few;
  sized = (kept-rated enc state kept).sized;
  good = (kept-rated enc state kept).good;
})

pub kept-moved : {T O : Type 0} (enc : EncoderConfig) (state : SessionState T O) (passes : Passes) (rate : RateKept) → IsKept enc state → rate.tables ≡ state.rate.tables →
    Keeps enc state.rate.tables passes (moment_of state).log rate → IsKept enc (record state { rate = rate })
kept-moved enc state passes rate kept same keeps =
    kept-rate enc state rate kept (subst (λ (t : Tables). Keeps enc t (passes_of rate.state) (moment_of state).log rate) (sym same)
    (keeps-own enc state.rate.tables passes (moment_of state).log rate keeps))

-- ---- keys

pub takes-none : (from : ℕ) (schedule : Schedule) → TakesKeys from [] schedule schedule
takes-none from schedule = λ numbers interval frames keys commands open_yet is.
    subst (λ (l : List ℕ). IsSchedule numbers interval frames false l commands schedule) (sym (append-nil keys)) is

-- keys, and later ones
pub takes-then : (from further : ℕ) (new more : List ℕ) (before between after : Schedule) → from ≤ further →
    TakesKeys from new before between → TakesKeys further more between after → TakesKeys from (new ++ more) before after
takes-then from further new more before between after later first second = λ numbers interval frames keys commands open_yet is.
    subst (λ (l : List ℕ). IsSchedule numbers interval frames false l commands after) (append_assoc keys new more)
    (second numbers interval frames (keys ++ new) commands (omega (arith, open_yet)) (first numbers interval frames keys commands open_yet is))

-- the keys of a count that isn't zero
pub keys-of-some : (accepted : ℕ) (decisions : List Decision) → 0 < accepted → keys_of accepted decisions ≡ 0 ∷ key_positions decisions
keys-of-some accepted decisions some = cond-false (eqb accepted 0) [] (0 ∷ key_positions decisions) (ne_eqb accepted 0 (λ e. omega arith))

keys-of-joined : (accepted : ℕ) (decisions made : List Decision) → (accepted ≡ 0 → made ≡ []) →
    keys_of accepted decisions ++ key_positions made ≡ keys_of accepted (decisions ++ made)
keys-of-joined zero decisions made none = ap key_positions (none refl)
keys-of-joined (suc accepted) decisions made none =
    ap (λ (l : List ℕ). l ++ key_positions made) (keys-of-some (suc accepted) decisions (omega arith))
    ∙ ap (λ (l : List ℕ). 0 ∷ l) (sym (keys-append decisions made))
    ∙ sym (keys-of-some (suc accepted) (decisions ++ made) (omega arith))

-- the decisions that are made are taken in, where `frames` are accepted by the schedule
decided-schedule : (numbers : Numbers) (interval frames accepted commands : ℕ) (decisions made : List Decision) (before after : Schedule) →
    length decisions ≡ decided_count numbers frames false → (accepted ≡ 0 → made ≡ []) →
    TakesKeys (length decisions + 1) (key_positions made) before after →
    IsSchedule numbers interval frames false (keys_of accepted decisions) commands before →
    IsSchedule numbers interval frames false (keys_of accepted (decisions ++ made)) commands after
decided-schedule numbers interval frames accepted commands decisions made before after decided none takes is =
    subst (λ (l : List ℕ). IsSchedule numbers interval frames false l commands after) (keys-of-joined accepted decisions made none)
    (takes numbers interval frames (keys_of accepted decisions) commands (omega (arith, decided)) is)

-- the first frame is a key, and any other frame changes no key before it is decided
pub first-scheduled : (numbers : Numbers) (interval accepted commands : ℕ) (decisions : List Decision) (before after : Schedule) →
    accepted ≡ 0 → length decisions ≡ 0 → TakesKeys 0 (0 ∷ []) before after →
    IsSchedule numbers interval accepted false (keys_of accepted decisions) commands before →
    IsSchedule numbers interval accepted false (keys_of (accepted + 1) decisions) commands after
first-scheduled numbers interval zero commands decisions before after first none takes is =
    subst (λ (d : List Decision). IsSchedule numbers interval 0 false (keys_of 1 d) commands after) (sym (nil_from_length decisions none))
    (takes numbers interval 0 [] commands (omega arith) is)
first-scheduled numbers interval (suc accepted) commands decisions before after first none takes is = absurd (omega (arith, first))

pub further-scheduled : (numbers : Numbers) (interval accepted commands : ℕ) (decisions : List Decision) (schedule : Schedule) → 0 < accepted →
    IsSchedule numbers interval accepted false (keys_of accepted decisions) commands schedule →
    IsSchedule numbers interval accepted false (keys_of (accepted + 1) decisions) commands schedule
further-scheduled numbers interval accepted commands decisions schedule some is =
    subst (λ (l : List ℕ). IsSchedule numbers interval accepted false l commands schedule)
    (keys-of-some accepted decisions some ∙ sym (keys-of-some (accepted + 1) decisions (omega arith))) is

-- nothing is decided of no frames
none-made : (decisions made : List Decision) (last : ℕ) → length (decisions ++ made) ≡ last → last ≡ 0 → made ≡ []
none-made decisions made last size none = nil_from_length made (omega (arith, size, none, length-append decisions made))

-- after the positions of a send or a flush are decided, the schedule having `frames` yet
module _ {T O : Type 0} (enc : EncoderConfig) (mode : SceneDetectionSpeed) (before after : SessionState T O) (told told_after : Option (List (Asked T))) (answers : Option (ℕ → Bool)) (last frames : ℕ)
    (is : Decided mode before after told told_after answers last) (decided : length before.decisions.items ≡ decided_count (numbers_of enc) frames false)
    (none : before.accepted ≡ 0 → last ≡ 0)
    (was : IsSchedule (numbers_of enc) (interval_of enc.max_key_frame_interval) frames false (keys_of before.accepted before.decisions.items) before.commands before.schedule) where
  abbrev Follows : ℕ → Bool → Schedule → Type 0
  Follows frames flushed schedule =
      IsSchedule (numbers_of enc) (interval_of enc.max_key_frame_interval) frames flushed (keys_of after.accepted after.decisions.items) after.commands schedule

  keys-taken : Follows frames false after.schedule
  keys-taken =
      subst (λ (n : ℕ). IsSchedule (numbers_of enc) (interval_of enc.max_key_frame_interval) frames false (keys_of n after.decisions.items) after.commands after.schedule)
      (sym (ap (λ (s : SessionState T O). s.accepted) is.others))
      (subst (λ (n : ℕ). IsSchedule (numbers_of enc) (interval_of enc.max_key_frame_interval) frames false (keys_of before.accepted after.decisions.items) n after.schedule)
      (sym (ap (λ (s : SessionState T O). s.commands) is.others))
      (subst (λ (d : List Decision). IsSchedule (numbers_of enc) (interval_of enc.max_key_frame_interval) frames false (keys_of before.accepted d) before.commands after.schedule)
      (sym is.decisions)
      (decided-schedule (numbers_of enc) (interval_of enc.max_key_frame_interval) frames before.accepted before.commands before.decisions.items is.made before.schedule after.schedule
      decided (λ e. none-made before.decisions.items is.made last (ap (λ (l : List Decision). length l) (sym is.decisions) ∙ is.count) (none e)) is.schedule was)))

  same-accepted : after.accepted ≡ before.accepted
  same-accepted = ap (λ (s : SessionState T O). s.accepted) is.others

  same-flushed : after.flushed ≡ before.flushed
  same-flushed = ap (λ (s : SessionState T O). s.flushed) is.others

  -- the schedule goes on to all frames that are accepted
  pub sent-scheduled : (extended : Schedule) → before.flushed ≡ false → frames ≤ before.accepted →
      ((numbers : Numbers) (interval old : ℕ) (keys : List ℕ) (commands : ℕ) → old ≤ after.accepted →
      IsSchedule numbers interval old false keys commands after.schedule → IsSchedule numbers interval after.accepted false keys commands extended) →
      IsScheduled enc (moment_of after) extended
  sent-scheduled extended open_yet more extends =
      subst (λ (b : Bool). Follows after.accepted b extended) (sym (same-flushed ∙ open_yet))
      (extends (numbers_of enc) (interval_of enc.max_key_frame_interval) frames (keys_of after.accepted after.decisions.items) after.commands
      (omega (arith, more, same-accepted)) keys-taken)

  pub flushed-scheduled : (closed : Schedule) → before.flushed ≡ true → frames ≤ before.accepted →
      ((numbers : Numbers) (interval old : ℕ) (keys : List ℕ) (commands : ℕ) → old ≤ after.accepted →
      IsSchedule numbers interval old false keys commands after.schedule → IsSchedule numbers interval after.accepted true keys commands closed) →
      IsScheduled enc (moment_of after) closed
  flushed-scheduled closed ended more closes =
      subst (λ (b : Bool). Follows after.accepted b closed) (sym (same-flushed ∙ ended))
      (closes (numbers_of enc) (interval_of enc.max_key_frame_interval) frames (keys_of after.accepted after.decisions.items) after.commands
      (omega (arith, more, same-accepted)) keys-taken)

-- ---- what a receive reads

module _ {T O : Type 0} (enc : EncoderConfig) (moment : Moment T O) where
  -- the next command is there, and is the plan's
  pub next-there : (next : Option Command) → next ≡ slice_get (known_at enc moment) moment.commands → moment.commands < length (known_at enc moment) →
      next ≡ None → ⊥
  next-there next is there none = missing (known_at enc moment) moment.commands there (sym is ∙ none)
    where
      missing : (commands : List Command) (k : ℕ) → k < length commands → slice_get commands k ≡ None → ⊥
      missing [] k within e = omega (arith, within)
      missing (command ∷ commands) zero within e = cc
      missing (command ∷ commands) (suc k) within e = missing commands k (omega (arith, within)) e

  pub next-planned : (next : Option Command) (command : Command) → next ≡ slice_get (known_at enc moment) moment.commands → next ≡ Some command →
      slice_get (plan_at enc moment) moment.commands ≡ Some command
  next-planned next command is some =
      let known_here : slice_get (known_at enc moment) moment.commands ≡ Some command = sym is ∙ some in
      let begins = known-begins enc moment in
      ap (λ (l : List Command). slice_get l moment.commands) begins.1
      ∙ slice_get-front (known_at enc moment) begins.0 moment.commands (slice_get_within (known_at enc moment) moment.commands command known_here)
      ∙ known_here

  -- as many commands as a plan has can be counted
  pub commands-fit : moment.accepted ≤ frame_limit → moment.commands < length (known_at enc moment) → moment.commands + 2 ≤ 2 ^ 32
  commands-fit few there = fits moment.commands (length (known_at enc moment)) (length (plan_at enc moment)) moment.accepted few there (known-within enc moment) (plan-of enc moment).size
    where
      fits : (k known whole frames : ℕ) → frames ≤ frame_limit → k < known → known ≤ whole → whole ≤ frames + frames / 2 → k + 2 ≤ 2 ^ 32
      fits k known whole frames a b c d = omega (arith, a, b, c, d)

-- the lookahead wants more frames where so many coded ones are known
pub wants-more : {T O : Type 0} (enc : EncoderConfig) (moment : Moment T O) (count : ℕ) → moment.flushed ≡ false →
    count ≡ count_by is_coding (drop moment.commands (known_at enc moment)) → leb count enc.speed_settings.rdo_lookahead_frames ≡ needs_more_data enc moment
wants-more enc moment count open_yet is =
    below count enc.speed_settings.rdo_lookahead_frames
    ∙ ap (λ (n : ℕ). ltb n (enc.speed_settings.rdo_lookahead_frames + 1)) is
    ∙ sym (ap (λ (b : Bool). not b && ltb (count_by is_coding (drop moment.commands (known_at enc moment))) (enc.speed_settings.rdo_lookahead_frames + 1)) open_yet)
  where
    below : (a b : ℕ) → leb a b ≡ ltb a (b + 1)
    below a b = grind (arith, leb_tells)

-- a receive that codes a command moves on by one
pub received-scheduled : {T O : Type 0} (enc : EncoderConfig) (moment : Moment T O) (log : List LogEntry) (reply : Reply T O) (schedule : Schedule) → length (real_entries log) ≡ 1 →
    IsSchedule (numbers_of enc) (interval_of enc.max_key_frame_interval) moment.accepted moment.flushed (keys_of moment.accepted moment.decisions) (moment.commands + 1) schedule →
    IsScheduled enc (after_receive moment log reply) schedule
received-scheduled {T} {O} enc moment log reply schedule one is = by_reply reply
  where
    counted : IsSchedule (numbers_of enc) (interval_of enc.max_key_frame_interval) moment.accepted moment.flushed (keys_of moment.accepted moment.decisions)
        (moment.commands + length (real_entries log)) schedule
    counted =
        subst (λ (n : ℕ). IsSchedule (numbers_of enc) (interval_of enc.max_key_frame_interval) moment.accepted moment.flushed (keys_of moment.accepted moment.decisions)
        (moment.commands + n) schedule) (sym one) is

    by_reply : (reply : Reply T O) → IsScheduled enc (after_receive moment log reply) schedule
    by_reply (GivesPacket packet) = counted
    by_reply (Sent number) = counted
    by_reply Flushed = counted
    by_reply (Status status) = counted

-- before the first frame the schedule is that of no frames
pub scheduled-opening : {T O : Type 0} (enc : EncoderConfig) (state : SessionState T O) → IsKept enc state → moment_of state ≡ opening →
    IsScheduled {T = Unit {0}} {O = Unit {0}} enc opening state.schedule
scheduled-opening {T} {O} enc state kept opens = subst (λ (m : Moment T O). IsScheduled enc m state.schedule) opens (kept-schedule enc state kept)

-- rate control is that of no entries then
pub keeps-opening : {T O : Type 0} (enc : EncoderConfig) (state : SessionState T O) → IsKept enc state → moment_of state ≡ opening →
    Keeps enc state.rate.tables (passes_of state.rate.state) [] state.rate
keeps-opening {T} {O} enc state kept opens =
    subst (λ (log : List LogEntry). Keeps enc state.rate.tables (passes_of state.rate.state) log state.rate) (ap (λ (m : Moment T O). m.log) opens) (kept-rated enc state kept).keeps

-- where only rate control changes before the first frame
pub kept-begun : {T O : Type 0} (enc : EncoderConfig) (state : SessionState T O) (passes : Passes) (rate : RateKept) → IsKept enc state → moment_of state ≡ opening →
    rate.tables ≡ state.rate.tables → Keeps enc state.rate.tables passes [] rate → IsKept enc (record state { rate = rate })
kept-begun {T} {O} enc state passes rate kept opens same keeps =
    kept-moved enc state passes rate kept same
    (subst (λ (log : List LogEntry). Keeps enc state.rate.tables passes log rate) (sym (ap (λ (m : Moment T O). m.log) opens)) keeps)
