-- What bytes are as the script of a word, and what may come of it: `run` is a session in one pass, `pass1` one that asks for pass
-- data, `pass2` one that doesn't ask, but may be given some, and `gops` is a session for each job.
use Rattle.std.specs.Prelude.{◌≡◌, ◌≢◌, ℕ, true, false, not, IsTrue, if◌then◌else◌, List, [], Option, Some, is_some, MatchOption, Result, Ok, Err}
use Rattle.std.specs.List.{list_all}
use Rattle.std.specs.Option.{option_map}
use Rattle.av1_settings.specs.declared.invalid.InvalidConfig.{InvalidConfig}
use Rattle.av1_settings.specs.declared.rate_control.RateControlConfig.{RateControlConfig}
use Rattle.av1_settings.specs.Invalid.{number_of}
use Rattle.generated_script.specs.Generated.{generated}
use Rattle.script_lines.specs.declared.script.Script.{Script}
use Rattle.script_lines.specs.Grammar.{IsRateControl, is_act, script_of, summary_refusal}
use Rattle.session_core.specs.Told.{Heard}
use Rattle.session_script.specs.declared.outcome.Account.{Account}
use Rattle.session_script.specs.declared.outcome.Account.TheVariants.{Turns, Summary, Passes, Packets}
use Rattle.session_script.specs.declared.run.TheConstants.{CORRUPTED}
use Rattle.session_script.specs.declared.words.Task.{Task}
use Rattle.session_script.specs.declared.words.Task.TheVariants.{Run, FirstPass, SecondPass, Gops}
use Rattle.session_script.specs.Carried.{CarriesOut, StopsAt, options_of, script_refusal}
use Rattle.session_script.specs.Jobs.{JobStops, JobsCarryOut}
use Rattle.session_script.specs.Passes.{PassesCarryOut, PassesRefuse, PassesStopAt, pass_refusal}
use Rattle.session_script.specs.Words.{dialect_of}

-- what bytes are as the script of a word
abbrev pub script_for : Task → List ℕ → Result Script ℕ
script_for task bytes = script_of (dialect_of task) bytes

-- why its configuration is refused, with this rate control
abbrev pub refusal_for : Task → Script → RateControlConfig → Option InvalidConfig
refusal_for FirstPass script control = pass_refusal true script control
refusal_for SecondPass script control = pass_refusal false script control
refusal_for task script control = script_refusal script control

-- ---- what may come of a script

-- a session carried it out, and its turns are told with its print options; or the sessions of its jobs did
abbrev pub IsCarriedOut : Heard ℕ → Task → Account → Result Script ℕ → Type 0
IsCarriedOut heard Run (Turns transcript options) (Ok script) =
    CarriesOut heard script transcript × (options ≡ options_of script)
IsCarriedOut heard FirstPass (Passes transcript options) (Ok script) =
    PassesCarryOut heard true script transcript × (options ≡ options_of script)
IsCarriedOut heard SecondPass (Passes transcript options) (Ok script) =
    PassesCarryOut heard false script transcript × (options ≡ options_of script)
IsCarriedOut heard (Gops workers) (Packets packets) (Ok script) = JobsCarryOut script packets
IsCarriedOut heard task account script = ⊥

-- its coder failed at the command of this number
abbrev pub IsStopped : Heard ℕ → Task → ℕ → Result Script ℕ → Type 0
IsStopped heard Run command (Ok script) = StopsAt heard script command
IsStopped heard FirstPass command (Ok script) = PassesStopAt heard true script command
IsStopped heard SecondPass command (Ok script) = PassesStopAt heard false script command
IsStopped heard task command script = ⊥

-- the coder of this job failed at the command of this number
abbrev pub IsJobStopped : Task → ℕ → ℕ → Result Script ℕ → Type 0
IsJobStopped (Gops workers) job command (Ok script) = JobStops script job command
IsJobStopped task job command script = ⊥

-- the summary is refused, by the error of this number
abbrev pub HasRefusedSummary : ℕ → Result Script ℕ → Type 0
HasRefusedSummary number (Ok script) = (number ≡ CORRUPTED) × IsTrue (is_some (summary_refusal script))
HasRefusedSummary number (Err line) = ⊥

-- pass data that it gives is refused, by the error of this number
abbrev pub HasRefusedPacket : Heard ℕ → Task → ℕ → Result Script ℕ → Type 0
HasRefusedPacket heard FirstPass number (Ok script) = PassesRefuse heard true script number
HasRefusedPacket heard SecondPass number (Ok script) = PassesRefuse heard false script number
HasRefusedPacket heard task number script = ⊥

-- the configuration is refused, by the refusal of this number
abbrev pub IsRefused : Task → ℕ → Result Script ℕ → Type 0
IsRefused task number (Ok script) =
    (control : RateControlConfig) × IsRateControl script.summary control
    × (option_map number_of (refusal_for task script control) ≡ Some number)
IsRefused task number (Err line) = ⊥

-- a script names a call that its coder is to fail
abbrev pub NamesFault : Result Script ℕ → Type 0
NamesFault (Ok script) = script.faults ≢ []
NamesFault (Err line) = ⊥

-- a script gives pass data
abbrev pub GivesData : Result Script ℕ → Type 0
GivesData (Ok script) = IsTrue (not (list_all is_act script.calls))
GivesData (Err line) = ⊥

-- ---- the status that a script asks for

-- 4 where the configuration is refused, else 0
abbrev pub status_behind : Option InvalidConfig → ℕ
status_behind refusal = if is_some refusal then 4 else 0

-- the status where neither coder nor sink fails, and no pass data is refused that the script gives
abbrev pub IsDue : Task → Result Script ℕ → ℕ → Type 0
IsDue task (Ok script) status =
    MatchOption (summary_refusal script)
    ((control : RateControlConfig) × IsRateControl script.summary control
    × (status ≡ status_behind (refusal_for task script control)))
    (λ why. status ≡ 10)
IsDue task (Err line) status = status ≡ 3

-- ---- of a seed

-- a session carried out the script that the seed makes, and is summed up
abbrev pub IsGenerated : Heard ℕ → Account → ℕ → Type 0
IsGenerated heard (Summary transcript) seed = CarriesOut heard (generated seed) transcript
IsGenerated heard account seed = ⊥
