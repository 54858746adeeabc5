-- The outcomes of a run: the status, the text and the report of each, and when it comes.
use Rattle.std.specs.Prelude.{◌≡◌, ⊤, ℕ, ◌+◌, ◌≤◌, ◌⊎◌, ◌↔◌, Bool, true, false, IsTrue, nat_lt, List, [], ◌∷◌, ◌++◌, length, Option, None, Some, is_some, option_and_then, IfSome, MatchBool, MatchOption, Result, Err, codes, decimal}
use Rattle.std.specs.Io.KnownBytes.{Appends, Keeps}
use Rattle.coding_base.specs.Faults.{Rose}
use Rattle.byte_streams.specs.Streams.{GrowsByPart, IsTooLong, ReadsAll, TakesAtMost}
use Rattle.script_lines.specs.declared.script.Script.{Script}
use Rattle.session_core.specs.declared.pass_transcript.PassTranscript.{PassTranscript}
use Rattle.session_core.specs.declared.transcript.Transcript.{Transcript}
use Rattle.session_core.specs.Told.{Heard}
use Rattle.session_text.specs.PacketLines.{packet_lines}
use Rattle.session_text.specs.PassLines.{pass_report}
use Rattle.session_text.specs.ReportLines.{report}
use Rattle.session_text.specs.SummaryLines.{summary}
use Rattle.session_script.specs.declared.outcome.Account.{Account}
use Rattle.session_script.specs.declared.outcome.Account.TheVariants.{Turns, Summary, Passes, Packets}
use Rattle.session_script.specs.declared.outcome.Outcome.{Outcome}
use Rattle.session_script.specs.declared.outcome.Outcome.TheVariants.{WrongWords, Unreadable, TooLong, BadLine, RefusedPassData, Refused, CoderFault, JobFault, Done, Unwritten, OutOfMemory}
use Rattle.session_script.specs.declared.outcome.Report.{Report}
use Rattle.session_script.specs.declared.run.TheConstants.{MOST_BYTES}
use Rattle.session_script.specs.declared.words.Task.{Task}
use Rattle.session_script.specs.declared.words.Task.TheVariants.{Generate}
use Rattle.session_script.specs.Causes.{GivesData, HasRefusedPacket, HasRefusedSummary, IsCarriedOut, IsDue, IsGenerated, IsJobStopped, IsRefused, IsStopped, NamesFault, script_for}
use Rattle.session_script.specs.Words.{has_jobs, has_one_pass, has_two_passes, reads_script}

-- ---- what an outcome answers

abbrev pub status_of : Outcome → ℕ
status_of (Done account) = 0
status_of WrongWords = 2
status_of (BadLine line) = 3
status_of (Refused number) = 4
status_of Unreadable = 5
status_of (Unwritten account) = 6
status_of TooLong = 7
status_of (CoderFault command) = 8
status_of (JobFault job command) = 8
status_of OutOfMemory = 9
status_of (RefusedPassData number) = 10

abbrev pub line_of : Outcome → Option ℕ
line_of (BadLine line) = Some line
line_of outcome = None

abbrev pub config_of : Outcome → Option ℕ
config_of (Refused number) = Some number
config_of outcome = None

abbrev pub command_of : Outcome → Option ℕ
command_of (CoderFault command) = Some command
command_of (JobFault job command) = Some command
command_of outcome = None

-- a session in one pass has a transcript, and one in two passes has one of its own; jobs have none
abbrev pub session_in : Account → Option (Transcript ℕ ℕ)
session_in (Turns transcript options) = Some transcript
session_in (Summary transcript) = Some transcript
session_in account = None

abbrev pub passes_in : Account → Option (PassTranscript ℕ ℕ)
passes_in (Passes transcript options) = Some transcript
passes_in account = None

-- there is one at the statuses 0 and 6 alone
abbrev pub account_of : Outcome → Option Account
account_of (Done account) = Some account
account_of (Unwritten account) = Some account
account_of outcome = None

abbrev pub transcript_of : Outcome → Option (Transcript ℕ ℕ)
transcript_of outcome = option_and_then session_in (account_of outcome)

abbrev pub pass_of : Outcome → Option (PassTranscript ℕ ℕ)
pass_of outcome = option_and_then passes_in (account_of outcome)

abbrev pub report_of : Outcome → Report
report_of outcome = record {
  status = status_of outcome;
  line = line_of outcome;
  config = config_of outcome;
  command = command_of outcome;
  transcript = transcript_of outcome;
  pass = pass_of outcome;
}

-- the turns of a session as text: each with its lines, or all summed up; or the packets of jobs, each with its line
abbrev pub text_in : Account → List ℕ
text_in (Turns transcript options) = report options transcript.turns
text_in (Summary transcript) = summary transcript.turns
text_in (Passes transcript options) = pass_report options transcript.turns
text_in (Packets packets) = packet_lines packets

-- the text of an outcome; of some there is none
abbrev pub text_of : Outcome → List ℕ
text_of (Done account) = text_in account
text_of (Unwritten account) = text_in account
text_of (BadLine line) = codes "script line " ++ (decimal line ++ 10 ∷ [])
text_of (RefusedPassData number) = codes "pass data " ++ (decimal number ++ 10 ∷ [])
text_of (Refused number) = codes "invalid config " ++ (decimal number ++ 10 ∷ [])
text_of (CoderFault command) = codes "coder fault " ++ (decimal command ++ 10 ∷ [])
text_of (JobFault job command) =
    codes "coder fault " ++ (decimal job ++ (codes " " ++ (decimal command ++ 10 ∷ [])))
text_of outcome = []

-- there is a transcript of one pass, or of two, exactly where a task has one
pub record IsAccountOf (task : Task) (account : Account) : Type 0 where
  pub one : is_some (session_in account) ≡ has_one_pass task
  pub two : is_some (passes_in account) ≡ has_two_passes task

-- what was done is of the kind of the task, and so is a fault: of a job, or of a session
abbrev pub IsOfKind : Task → Outcome → Type 0
IsOfKind task (Done account) = IsAccountOf task account
IsOfKind task (Unwritten account) = IsAccountOf task account
IsOfKind task (CoderFault command) = has_jobs task ≡ false
IsOfKind task (JobFault job command) = has_jobs task ≡ true
IsOfKind task outcome = ⊤

-- the outcome where the sink failed while the text was written
abbrev pub cut_short : Outcome → Outcome
cut_short (Done account) = Unwritten account
cut_short outcome = outcome

-- the turns of a session in one pass, summed up
abbrev pub sums : Account → Account
sums (Turns transcript options) = Summary transcript
sums account = account

-- the outcome where they are summed up
abbrev pub summed_up : Outcome → Outcome
summed_up (Done account) = Done (sums account)
summed_up outcome = outcome

abbrev pub is_silent : Outcome → Bool
is_silent WrongWords = true
is_silent Unreadable = true
is_silent TooLong = true
is_silent OutOfMemory = true
is_silent outcome = false

-- ---- when an outcome comes

-- a source or a sink before and after: the bytes that it tells, and how often it failed
pub record Span : Type 0 where
  pub known : Option (List ℕ)
  pub known_after : Option (List ℕ)
  pub faults : ℕ
  pub faults_after : ℕ

abbrev pub span : {S : Type 0} → (S → Option (List ℕ)) → (S → ℕ) → S → S → Span
span told faults_of before after = record {
  known = told before;
  known_after = told after;
  faults = faults_of before;
  faults_after = faults_of after;
}

abbrev pub HasFault : Span → Type 0
HasFault stream = Rose stream.faults stream.faults_after

-- a source was left alone
abbrev pub IsUnread : Span → Type 0
IsUnread source = (source.known_after ≡ source.known) × (source.faults_after ≡ source.faults)

-- the source was read to its end, and what its bytes are as the script of a word meets this
abbrev pub ReadsScript : Span → Task → (Result Script ℕ → Type 0) → Type 0
ReadsScript source task P =
    ReadsAll MOST_BYTES source.known source.known_after (λ bytes. P (script_for task bytes))

-- what bytes came to as the script of a word
abbrev pub IsScriptOutcome : Heard ℕ → Task → Result Script ℕ → Outcome → Type 0
IsScriptOutcome heard task script (BadLine line) = script ≡ Err line
IsScriptOutcome heard task script (RefusedPassData number) =
    HasRefusedSummary number script ⊎ HasRefusedPacket heard task number script
IsScriptOutcome heard task script (Refused number) = IsRefused task number script
IsScriptOutcome heard task script (CoderFault command) = IsStopped heard task command script
IsScriptOutcome heard task script (JobFault job command) = IsJobStopped task job command script
IsScriptOutcome heard task script (Done account) = IsCarriedOut heard task account script
IsScriptOutcome heard task script OutOfMemory = ⊤
IsScriptOutcome heard task script outcome = ⊥

-- what a source came to, before a text was written
abbrev pub IsSourceOutcome : Span → Heard ℕ → Task → Outcome → Type 0
IsSourceOutcome source heard task Unreadable = HasFault source
IsSourceOutcome source heard task TooLong = IsTooLong MOST_BYTES source.known source.known_after
IsSourceOutcome source heard task OutOfMemory = ⊤
IsSourceOutcome source heard task WrongWords = ⊥
IsSourceOutcome source heard task (Unwritten account) = ⊥
IsSourceOutcome source heard task outcome =
    ReadsScript source task (λ script. IsScriptOutcome heard task script outcome)

-- what a seed came to, before a text was written
abbrev pub IsSeedOutcome : Heard ℕ → ℕ → Outcome → Type 0
IsSeedOutcome heard seed (Done account) = IsGenerated heard account seed
IsSeedOutcome heard seed OutOfMemory = ⊤
IsSeedOutcome heard seed outcome = ⊥

-- what a task came to, before a text was written; a seed's reads no source
abbrev pub IsTaskOutcome : Span → Heard ℕ → Task → Outcome → Type 0
IsTaskOutcome source heard (Generate seed) outcome = IsSeedOutcome heard seed outcome × IsUnread source
IsTaskOutcome source heard task outcome = IsSourceOutcome source heard task outcome

-- the same where its text is written: what comes before is as if the sink hadn't failed
abbrev pub IsToldOutcome : Span → Heard ℕ → Task → Outcome → Type 0
IsToldOutcome source heard task (Unwritten account) = IsTaskOutcome source heard task (Done account)
IsToldOutcome source heard task outcome = IsTaskOutcome source heard task outcome

-- each outcome comes only so, where this task was asked for, if one was
abbrev pub IsOutcome : Option Task → Span → Heard ℕ → Outcome → Type 0
IsOutcome asked source heard outcome =
    MatchOption asked (outcome ≡ WrongWords) (λ task. IsToldOutcome source heard task outcome)

-- the status for a source's bytes, where neither coder nor sink fails, and no pass data is refused that the script gives
abbrev pub IsDueFor : Task → List ℕ → ℕ → Type 0
IsDueFor task bytes status =
    MatchBool (nat_lt MOST_BYTES (length bytes)) (status ≡ 7) (IsDue task (script_for task bytes) status)

-- what comes in place of status 0: the sink failed while the report was written; or the coder failed, at a call that the script
-- names; or pass data was refused that the script gives
abbrev pub EndsEarly : Span → Result Script ℕ → ℕ → Type 0
EndsEarly sink script status =
    ((status ≡ 6) × HasFault sink) ⊎ ((status ≡ 8) × NamesFault script) ⊎ ((status ≡ 10) × GivesData script)

-- memory ran out; or the status is the one that the bytes ask for; or it is another in place of 0
abbrev pub IsStatus : Span → Task → List ℕ → ℕ → Type 0
IsStatus sink task bytes status =
    (status ≡ 9) ⊎ IsDueFor task bytes status
    ⊎ (IsDueFor task bytes 0 × EndsEarly sink (script_for task bytes) status)

-- what a sink was given for an outcome
pub record IsWritten (sink : Span) (outcome : Outcome) : Type 0 where
  -- the text or a front of it, and the whole text where the sink didn't fail
  pub part : GrowsByPart sink.known sink.known_after (text_of outcome)
  pub whole : ¬ HasFault sink → Appends sink.known sink.known_after (text_of outcome)
  -- after status 0 the report is whole, and status 6 is the sink's fault
  pub done : status_of outcome ≡ 0 → Appends sink.known sink.known_after (text_of outcome)
  pub unwritten : status_of outcome ≡ 6 → HasFault sink
  -- without a text nothing is written
  pub silent : IsTrue (is_silent outcome) →
      Keeps sink.known sink.known_after × (sink.faults_after ≡ sink.faults)
  pub later : sink.faults ≤ sink.faults_after

-- an outcome after its text was written: the same; or memory ran out for the text; or the sink failed
abbrev pub IsTold : Outcome → Outcome → Type 0
IsTold outcome told = (told ≡ outcome) ⊎ (told ≡ OutOfMemory) ⊎ (told ≡ cut_short outcome)

-- a run of the program over a source and a sink, where its words ask for this task, if they ask for one: what the coder, the
-- detector and the mean scales of its session tell afterwards, if it is a single one, and what it came to
pub record IsRun
    (asked : Option Task) (source sink : Span) (heard : Heard ℕ) (outcome : Outcome)
    : Type 0 where
  -- the words alone decide whether there is a run
  pub runs : (status_of outcome ≡ 2) ↔ (asked ≡ None)
  -- each outcome comes only where its cause is
  pub cause : IsOutcome asked source heard outcome
  -- what it comes to is a session in one pass or in two, or jobs, as the task is
  pub kind : (task : Task) → asked ≡ Some task → IsOfKind task outcome
  -- where the source doesn't fail, its bytes decide the status
  pub exact : (task : Task) → asked ≡ Some task → IsTrue (reads_script task) → ¬ HasFault source →
      IfSome source.known (λ bytes. IsStatus sink task bytes (status_of outcome))
  -- a seed's script is carried out; or memory ran out, or the sink failed while the text was written
  pub generates : (seed : ℕ) → asked ≡ Some (Generate seed) →
      (status_of outcome ≡ 0) ⊎ (status_of outcome ≡ 9) ⊎ ((status_of outcome ≡ 6) × HasFault sink)
  -- what is read, and written
  pub reads : TakesAtMost (MOST_BYTES + 1) source.known source.known_after
  pub reads_later : source.faults ≤ source.faults_after
  pub writes : IsWritten sink outcome

-- what the program answers: the report of a run with a coder, a detector and mean scales of its own
pub record IsAnswer (asked : Option Task) (source sink : Span) (answer : Report) : Type 0 where
  pub outcome : Outcome
  pub heard : Heard ℕ
  pub is : answer ≡ report_of outcome
  pub run : IsRun asked source sink heard outcome
