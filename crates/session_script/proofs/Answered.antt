-- What a run comes to, by its cases.
use Rattle.std.proofs.Common.{◌≡◌, ℕ, ◌+◌, ◌<◌, ◌≤◌, ◌↔◌, ◌⊎◌, inl, inr, true, false, IsTrue, ltb, IfSome, MatchOption, List, length, Option, None, Some, is_some, option_and_then, Result, Ok, Err, refl, sym, subst, ◌∙◌, arith}
use Rattle.std.specs.Option.{option_map}
use Rattle.std.proofs.lemmas.Bool.Decides.{nat_tests}
use Rattle.std.proofs.lemmas.Bool.{le-ltb}
use Rattle.av1_settings.specs.Defaults.{default_rate_control}
use Rattle.av1_settings.specs.declared.invalid.InvalidConfig.{InvalidConfig}
use Rattle.av1_settings.specs.declared.rate_control.RateControlConfig.{RateControlConfig}
use Rattle.av1_settings.specs.Invalid.{number_of}
use Rattle.byte_streams.specs.Streams.{IsTooLong, ReadsAll, TakesAtMost}
use Rattle.script_lines.specs.declared.script.Script.{Script}
use Rattle.script_lines.specs.Grammar.{IsRateControl, summary_refusal}
use Rattle.pass_stats.specs.Summary.{first_met}
use Rattle.pass_stats.specs.declared.error.Why.{Why}
use Rattle.pass_stats.proofs.SummaryFacts.{first_met-Summary}
use Rattle.session_core.specs.Told.{Heard}
use Rattle.session_script.specs.declared.outcome.Account.{Account}
use Rattle.session_script.specs.declared.outcome.Account.TheVariants.{Turns, Passes, Packets}
use Rattle.session_script.specs.declared.outcome.Outcome.{Outcome}
use Rattle.session_script.specs.declared.outcome.Outcome.TheVariants.{WrongWords, Unreadable, TooLong, BadLine, RefusedPassData, Refused, CoderFault, JobFault, Done, Unwritten, OutOfMemory}
use Rattle.session_script.specs.declared.run.TheConstants.{MOST_BYTES}
use Rattle.session_script.specs.Causes.{GivesData, HasRefusedPacket, HasRefusedSummary, IsCarriedOut, IsDue, IsJobStopped, IsRefused, IsStopped, NamesFault, refusal_for, script_for, status_behind}
use Rattle.session_script.specs.Outcomes.{EndsEarly, HasFault, IsAccountOf, IsDueFor, IsOfKind, IsRun, IsScriptOutcome, IsSourceOutcome, IsStatus, IsTaskOutcome, IsTold, IsToldOutcome, IsWritten, Span, cut_short, status_of}
use Rattle.session_script.specs.declared.words.Task.{Task}
use Rattle.session_script.specs.declared.words.Task.TheVariants.{Run, FirstPass, SecondPass, Generate, Gops}
use Rattle.session_script.specs.Words.{reads_script}
use Rattle.session_script.proofs.Giving.{gives}
use Rattle.session_script.proofs.JobFaults.{job_faults, some_faults}

-- ---- a source that was read

reads_some : (limit : ℕ) (left after : Option (List ℕ)) (bytes : List ℕ) (P : List ℕ → Type 0) →
    ReadsAll limit left after (λ all. all ≡ bytes) → P bytes → ReadsAll limit left after P
reads_some limit None after bytes P read holds = tt
reads_some limit (Some all) after bytes P read holds = (read.0, read.1, subst P (sym read.2) holds)

pub read_outcome : (source : Span) (heard : Heard ℕ) (task : Task) (bytes : List ℕ) (outcome : Outcome) →
    ReadsAll MOST_BYTES source.known source.known_after (λ all. all ≡ bytes) →
    IsScriptOutcome heard task (script_for task bytes) outcome → IsSourceOutcome source heard task outcome
read_outcome source heard task bytes WrongWords read h = h
read_outcome source heard task bytes (Unwritten account) read h = h
read_outcome source heard task bytes Unreadable read h = absurd h
read_outcome source heard task bytes TooLong read h = absurd h
read_outcome source heard task bytes OutOfMemory read h = tt
read_outcome source heard task bytes outcome read h =
    reads_some MOST_BYTES source.known source.known_after bytes
    (λ all. IsScriptOutcome heard task (script_for task all) outcome) read h

-- ---- causes

cause_same : (source : Span) (heard : Heard ℕ) (task : Task) (outcome : Outcome) →
    IsTaskOutcome source heard task outcome → IsToldOutcome source heard task outcome
cause_same source heard Run (Unwritten account) h = absurd h
cause_same source heard FirstPass (Unwritten account) h = absurd h
cause_same source heard SecondPass (Unwritten account) h = absurd h
cause_same source heard (Gops workers) (Unwritten account) h = absurd h
cause_same source heard (Generate seed) (Unwritten account) h = absurd h.0
cause_same source heard task outcome h = h

cause_cut : (source : Span) (heard : Heard ℕ) (task : Task) (outcome : Outcome) →
    IsTaskOutcome source heard task outcome → IsToldOutcome source heard task (cut_short outcome)
cause_cut source heard Run (Unwritten account) h = absurd h
cause_cut source heard FirstPass (Unwritten account) h = absurd h
cause_cut source heard SecondPass (Unwritten account) h = absurd h
cause_cut source heard (Gops workers) (Unwritten account) h = absurd h
cause_cut source heard (Generate seed) (Unwritten account) h = absurd h.0
cause_cut source heard task outcome h = h

cause_none : (source : Span) (heard : Heard ℕ) (task : Task) (outcome : Outcome) →
    IsTaskOutcome source heard task outcome → IsTaskOutcome source heard task OutOfMemory
cause_none source heard (Generate seed) outcome h = (tt, h.1)
cause_none source heard Run outcome h = tt
cause_none source heard FirstPass outcome h = tt
cause_none source heard SecondPass outcome h = tt
cause_none source heard (Gops workers) outcome h = tt

never_wrong : (source : Span) (heard : Heard ℕ) (task : Task) → IsToldOutcome source heard task WrongWords → ⊥
never_wrong source heard (Generate seed) h = h.0
never_wrong source heard Run h = h
never_wrong source heard FirstPass h = h
never_wrong source heard SecondPass h = h
never_wrong source heard (Gops workers) h = h

runs_by : (asked : Option Task) (source : Span) (heard : Heard ℕ) (task : Task) (outcome : Outcome) → asked ≡ Some task →
    IsToldOutcome source heard task outcome → (status_of outcome ≡ 2) ↔ (asked ≡ None)
runs_by asked source heard task WrongWords is h = absurd (never_wrong source heard task h)
runs_by asked source heard task outcome is h = (λ e. absurd (omega arith), λ no. cc)

generates_by : (source sink : Span) (heard : Heard ℕ) (seed : ℕ) (outcome : Outcome) →
    IsToldOutcome source heard (Generate seed) outcome → IsWritten sink outcome →
    (status_of outcome ≡ 0) ⊎ (status_of outcome ≡ 9) ⊎ ((status_of outcome ≡ 6) × HasFault sink)
generates_by source sink heard seed (Done account) h writes = inl refl
generates_by source sink heard seed OutOfMemory h writes = inr (inl refl)
generates_by source sink heard seed (Unwritten account) h writes = inr (inr (refl, writes.unwritten refl))
generates_by source sink heard seed outcome h writes = absurd h.0

-- ---- the status that a script asks for

accepted : (summary : Option (List ℕ)) (control : RateControlConfig) → IsRateControl summary control → option_and_then first_met summary ≡ None
accepted None control is = refl
accepted (Some bytes) control is = first_met-Summary bytes is.0 is.1

due_by : (task : Task) (script : Script) (control : RateControlConfig) (status : ℕ) → IsRateControl script.summary control →
    status ≡ status_behind (refusal_for task script control) → IsDue task (Ok script) status
due_by task script control status is e = rw (accepted script.summary control is) (control, is, e)

behind_none : (refusal : Option InvalidConfig) → refusal ≡ None → 0 ≡ status_behind refusal
behind_none refusal none = rw none

behind_some : (refusal : Option InvalidConfig) (number : ℕ) → option_map number_of refusal ≡ Some number → 4 ≡ status_behind refusal
behind_some None number e = cc
behind_some (Some refusal) number e = refl

some_due : (why : Option Why) (P : Type 0) → IsTrue (is_some why) → MatchOption why P (λ w. ◌≡◌ {A = ℕ} 10 10)
some_due None P some = let never : false ≡ true = some in cc
some_due (Some why) P some = refl

summary_due : (task : Task) (script : Result Script ℕ) (number : ℕ) → HasRefusedSummary number script → IsDue task script 10
summary_due task (Ok script) number e = some_due (summary_refusal script) _ e.1
summary_due task (Err line) number e = absurd e

refused_due : (task : Task) (script : Result Script ℕ) (number : ℕ) → IsRefused task number script → IsDue task script 4
refused_due task (Ok script) number e = due_by task script e.0 4 e.1 (behind_some (refusal_for task script e.0) number e.2)
refused_due task (Err line) number e = absurd e

valid_due : (task : Task) (script : Script) → script.summary ≡ None → refusal_for task script default_rate_control ≡ None →
    IsDue task (Ok script) 0
valid_due task script one_pass valid =
    due_by task script default_rate_control 0 (rw one_pass refl) (behind_none (refusal_for task script default_rate_control) valid)

done_due : (heard : Heard ℕ) (task : Task) (account : Account) (script : Result Script ℕ) → IsCarriedOut heard task account script →
    IsDue task script 0
done_due heard Run (Turns transcript options) (Ok script) e = valid_due Run script e.0.valid.one_pass e.0.valid.valid
done_due heard FirstPass (Passes transcript options) (Ok script) e =
    due_by FirstPass script e.0.control 0 e.0.valid.summary (behind_none (refusal_for FirstPass script e.0.control) e.0.valid.valid)
done_due heard SecondPass (Passes transcript options) (Ok script) e =
    due_by SecondPass script e.0.control 0 e.0.valid.summary (behind_none (refusal_for SecondPass script e.0.control) e.0.valid.valid)
done_due heard (Gops workers) (Packets packets) (Ok script) e = valid_due (Gops workers) script e.valid.one_pass e.valid.valid
done_due heard task account script e = absurd e

stopped_due : (heard : Heard ℕ) (task : Task) (command : ℕ) (script : Result Script ℕ) → IsStopped heard task command script →
    IsDue task script 0 × NamesFault script
stopped_due heard Run command (Ok script) e =
    (valid_due Run script e.valid.one_pass e.valid.valid, some_faults script.faults _ e.fails.stopped.reached)
stopped_due heard FirstPass command (Ok script) e = (
  due_by FirstPass script e.control 0 e.valid.summary (behind_none (refusal_for FirstPass script e.control) e.valid.valid),
  some_faults script.faults _ e.fails.stopped.reached,
)
stopped_due heard SecondPass command (Ok script) e = (
  due_by SecondPass script e.control 0 e.valid.summary (behind_none (refusal_for SecondPass script e.control) e.valid.valid),
  some_faults script.faults _ e.fails.stopped.reached,
)
stopped_due heard task command script e = absurd e

job_due : (task : Task) (job command : ℕ) (script : Result Script ℕ) → IsJobStopped task job command script →
    IsDue task script 0 × NamesFault script
job_due (Gops workers) job command (Ok script) e =
    (valid_due (Gops workers) script e.valid.one_pass e.valid.valid, job_faults script job command e)
job_due task job command script e = absurd e

packet_due : (heard : Heard ℕ) (task : Task) (number : ℕ) (script : Result Script ℕ) → HasRefusedPacket heard task number script →
    IsDue task script 0 × GivesData script
packet_due heard FirstPass number (Ok script) e = (
  due_by FirstPass script e.control 0 e.valid.summary (behind_none (refusal_for FirstPass script e.control) e.valid.valid),
  gives true script e.calls e.valid.asked e.refused.done e.refused.message e.refused.at_give,
)
packet_due heard SecondPass number (Ok script) e = (
  due_by SecondPass script e.control 0 e.valid.summary (behind_none (refusal_for SecondPass script e.control) e.valid.valid),
  gives false script e.calls e.valid.asked e.refused.done e.refused.message e.refused.at_give,
)
packet_due heard task number script e = absurd e

-- ---- the status for a source's bytes

due_long : (task : Task) (bytes : List ℕ) → MOST_BYTES < length bytes → IsDueFor task bytes 7
due_long task bytes more = let yes : ltb MOST_BYTES (length bytes) ≡ true = grind (arith, nat_tests) in rw yes refl

due_within : (task : Task) (bytes : List ℕ) (status : ℕ) → length bytes ≤ MOST_BYTES → IsDue task (script_for task bytes) status →
    IsDueFor task bytes status
due_within task bytes status fits due = rw (le-ltb MOST_BYTES (length bytes) fits) due

module _ (sink : Span) (task : Task) where
  abbrev Exact : Option (List ℕ) → ℕ → Type 0
  Exact left status = IfSome left (λ bytes. IsStatus sink task bytes status)

  nine : (left : Option (List ℕ)) → Exact left 9
  nine None = tt
  nine (Some bytes) = inl refl

  seven : (left after : Option (List ℕ)) → IsTooLong MOST_BYTES left after → Exact left 7
  seven None after h = tt
  seven (Some bytes) None h = absurd h
  seven (Some bytes) (Some rest) h = inr (inl (due_long task bytes h.0))

  due : (P : Result Script ℕ → Type 0) (status : ℕ) (left after : Option (List ℕ)) →
      ReadsAll MOST_BYTES left after (λ bytes. P (script_for task bytes)) →
      ((script : Result Script ℕ) → P script → IsDue task script status) → Exact left status
  due P status None after h asks = tt
  due P status (Some bytes) after h asks = inr (inl (due_within task bytes status h.1 (asks (script_for task bytes) h.2)))

  early : (P : Result Script ℕ → Type 0) (status : ℕ) (left after : Option (List ℕ)) →
      ReadsAll MOST_BYTES left after (λ bytes. P (script_for task bytes)) →
      ((script : Result Script ℕ) → P script → IsDue task script 0 × EndsEarly sink script status) → Exact left status
  early P status None after h ends = tt
  early P status (Some bytes) after h ends =
      let both = ends (script_for task bytes) h.2 in
      inr (inr (due_within task bytes 0 h.1 both.0, both.1))

  ten_by : (heard : Heard ℕ) (number : ℕ) (bytes : List ℕ) → length bytes ≤ MOST_BYTES →
      HasRefusedSummary number (script_for task bytes) ⊎ HasRefusedPacket heard task number (script_for task bytes) →
      IsStatus sink task bytes 10
  ten_by heard number bytes fits (inl refused) =
      inr (inl (due_within task bytes 10 fits (summary_due task (script_for task bytes) number refused)))
  ten_by heard number bytes fits (inr refused) =
      let both = packet_due heard task number (script_for task bytes) refused in
      inr (inr (due_within task bytes 0 fits both.0, inr (inr (refl, both.1))))

  ten : (heard : Heard ℕ) (number : ℕ) (left after : Option (List ℕ)) →
      ReadsAll MOST_BYTES left after (λ bytes. HasRefusedSummary number (script_for task bytes) ⊎ HasRefusedPacket heard task number (script_for task bytes)) →
      Exact left 10
  ten heard number None after h = tt
  ten heard number (Some bytes) after h = ten_by heard number bytes h.1 h.2

  exact_by : (source : Span) (heard : Heard ℕ) (outcome : Outcome) →
      IsSourceOutcome source heard task outcome → ¬ HasFault source → Exact source.known (status_of outcome)
  exact_by source heard WrongWords h none = absurd h
  exact_by source heard (Unwritten account) h none = absurd h
  exact_by source heard Unreadable h none = absurd (none h)
  exact_by source heard TooLong h none = seven source.known source.known_after h
  exact_by source heard (BadLine line) h none =
      due (λ script. script ≡ Err line) 3 source.known source.known_after h (λ script e. rw e refl)
  exact_by source heard (RefusedPassData number) h none = ten heard number source.known source.known_after h
  exact_by source heard (Refused number) h none =
      due (IsRefused task number) 4 source.known source.known_after h (λ script e. refused_due task script number e)
  exact_by source heard (CoderFault command) h none =
      early (IsStopped heard task command) 8 source.known source.known_after h
      (λ script e. let both = stopped_due heard task command script e in (both.0, inr (inl (refl, both.1))))
  exact_by source heard (JobFault job command) h none =
      early (IsJobStopped task job command) 8 source.known source.known_after h
      (λ script e. let both = job_due task job command script e in (both.0, inr (inl (refl, both.1))))
  exact_by source heard (Done account) h none =
      due (IsCarriedOut heard task account) 0 source.known source.known_after h (λ script e. done_due heard task account script e)
  exact_by source heard OutOfMemory h none = nine source.known

  exact_cut : (source : Span) (heard : Heard ℕ) (account : Account) →
      IsSourceOutcome source heard task (Done account) → HasFault sink → Exact source.known 6
  exact_cut source heard account h failed =
      early (IsCarriedOut heard task account) 6 source.known source.known_after h
      (λ script e. (done_due heard task account script e, inl (refl, failed)))

exact_told : (sink : Span) (task : Task) (source : Span) (heard : Heard ℕ) (outcome : Outcome) → IsTrue (reads_script task) →
    IsToldOutcome source heard task outcome → IsWritten sink outcome → ¬ HasFault source →
    IfSome source.known (λ bytes. IsStatus sink task bytes (status_of outcome))
exact_told sink (Generate seed) source heard outcome reads h writes none = let never : false ≡ true = reads in cc
exact_told sink Run source heard (Unwritten account) reads h writes none = exact_cut sink Run source heard account h (writes.unwritten refl)
exact_told sink Run source heard outcome reads h writes none = exact_by sink Run source heard outcome h none
exact_told sink FirstPass source heard (Unwritten account) reads h writes none =
    exact_cut sink FirstPass source heard account h (writes.unwritten refl)
exact_told sink FirstPass source heard outcome reads h writes none = exact_by sink FirstPass source heard outcome h none
exact_told sink SecondPass source heard (Unwritten account) reads h writes none =
    exact_cut sink SecondPass source heard account h (writes.unwritten refl)
exact_told sink SecondPass source heard outcome reads h writes none = exact_by sink SecondPass source heard outcome h none
exact_told sink (Gops workers) source heard (Unwritten account) reads h writes none =
    exact_cut sink (Gops workers) source heard account h (writes.unwritten refl)
exact_told sink (Gops workers) source heard outcome reads h writes none = exact_by sink (Gops workers) source heard outcome h none

-- ---- the kind of what was done

kind_done : (heard : Heard ℕ) (task : Task) (account : Account) (script : Result Script ℕ) → IsCarriedOut heard task account script →
    IsAccountOf task account
kind_done heard Run (Turns transcript options) (Ok script) h = record { one = refl; two = refl }
kind_done heard FirstPass (Passes transcript options) (Ok script) h = record { one = refl; two = refl }
kind_done heard SecondPass (Passes transcript options) (Ok script) h = record { one = refl; two = refl }
kind_done heard (Gops workers) (Packets packets) (Ok script) h = record { one = refl; two = refl }
kind_done heard task account script h = absurd h

kind_stopped : (heard : Heard ℕ) (task : Task) (command : ℕ) (script : Result Script ℕ) → IsStopped heard task command script →
    IsOfKind task (CoderFault command)
kind_stopped heard Run command (Ok script) h = refl
kind_stopped heard FirstPass command (Ok script) h = refl
kind_stopped heard SecondPass command (Ok script) h = refl
kind_stopped heard task command script h = absurd h

kind_job : (task : Task) (job command : ℕ) (script : Result Script ℕ) → IsJobStopped task job command script →
    IsOfKind task (JobFault job command)
kind_job (Gops workers) job command (Ok script) h = refl
kind_job task job command script h = absurd h

pub kind_in : (heard : Heard ℕ) (task : Task) (script : Result Script ℕ) (outcome : Outcome) → IsScriptOutcome heard task script outcome →
    IsOfKind task outcome
kind_in heard task script (Done account) h = kind_done heard task account script h
kind_in heard task script (Unwritten account) h = absurd h
kind_in heard task script (CoderFault command) h = kind_stopped heard task command script h
kind_in heard task script (JobFault job command) h = kind_job task job command script h
kind_in heard task script outcome h = tt

kind_cut : (task : Task) (outcome : Outcome) → IsOfKind task outcome → IsOfKind task (cut_short outcome)
kind_cut task (Done account) h = h
kind_cut task outcome h = h

kind_told : (task : Task) (before after : Outcome) → IsOfKind task before → IsTold before after → IsOfKind task after
kind_told task before after h (inl e) = subst (IsOfKind task) (sym e) h
kind_told task before after h (inr (inl e)) = subst (IsOfKind task) (sym e) tt
kind_told task before after h (inr (inr e)) = subst (IsOfKind task) (sym e) (kind_cut task before h)

-- ---- the run

some_same : (one other : Task) → Some one ≡ Some other → one ≡ other
some_same one other e = cc

module _ (asked : Option Task) (source sink : Span) (heard : Heard ℕ) where
  exact_for : (task : Task) (outcome : Outcome) → asked ≡ Some task → IsToldOutcome source heard task outcome →
      IsWritten sink outcome → (named : Task) → asked ≡ Some named → IsTrue (reads_script named) → ¬ HasFault source →
      IfSome source.known (λ bytes. IsStatus sink named bytes (status_of outcome))
  exact_for task outcome is h writes named other reads none =
      let same : task ≡ named = some_same task named (sym is ∙ other) in
      exact_told sink named source heard outcome reads (subst (λ (task : Task). IsToldOutcome source heard task outcome) same h) writes none

  generates_for : (task : Task) (outcome : Outcome) → asked ≡ Some task → IsToldOutcome source heard task outcome →
      IsWritten sink outcome → (seed : ℕ) → asked ≡ Some (Generate seed) →
      (status_of outcome ≡ 0) ⊎ (status_of outcome ≡ 9) ⊎ ((status_of outcome ≡ 6) × HasFault sink)
  generates_for task outcome is h writes seed other =
      let same : task ≡ Generate seed = some_same task (Generate seed) (sym is ∙ other) in
      generates_by source sink heard seed outcome (subst (λ (task : Task). IsToldOutcome source heard task outcome) same h) writes

  kind_for : (task : Task) (outcome : Outcome) → asked ≡ Some task → IsOfKind task outcome →
      (named : Task) → asked ≡ Some named → IsOfKind named outcome
  kind_for task outcome is h named other =
      subst (λ (task : Task). IsOfKind task outcome) (some_same task named (sym is ∙ other)) h

  module _ (task : Task) (is : asked ≡ Some task)
      (reads : TakesAtMost (MOST_BYTES + 1) source.known source.known_after) (later : source.faults ≤ source.faults_after) where
    run_by : (outcome : Outcome) → IsToldOutcome source heard task outcome → IsOfKind task outcome →
        IsWritten sink outcome → IsRun asked source sink heard outcome
    run_by outcome cause kind writes = record {
      runs = runs_by asked source heard task outcome is cause;
      cause = rw is cause;
      kind = kind_for task outcome is kind;
      exact = exact_for task outcome is cause writes;
      generates = generates_for task outcome is cause writes;
      reads = reads;
      reads_later = later;
      writes = writes;
    }

    told_cause : (before after : Outcome) → IsTaskOutcome source heard task before → IsTold before after →
        IsToldOutcome source heard task after
    told_cause before after h (inl e) =
        subst (IsToldOutcome source heard task) (sym e) (cause_same source heard task before h)
    told_cause before after h (inr (inl e)) =
        subst (IsToldOutcome source heard task) (sym e) (cause_none source heard task before h)
    told_cause before after h (inr (inr e)) =
        subst (IsToldOutcome source heard task) (sym e) (cause_cut source heard task before h)

    pub told_run : (before after : Outcome) → IsTaskOutcome source heard task before → IsOfKind task before →
        IsTold before after → IsWritten sink after → IsRun asked source sink heard after
    told_run before after h kind told writes =
        run_by after (told_cause before after h told) (kind_told task before after kind told) writes
