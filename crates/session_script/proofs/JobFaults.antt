-- A coder fails only where the script has calls that are to fail.
use Rattle.std.proofs.Common.{◌≡◌, ◌≢◌, ℕ, List, [], ◌∷◌, ◌++◌, length, min, Option, None, Some, subst}
use Rattle.std.specs.List.{reduce}
use Rattle.std.specs.Prelude.{⊤, IsSomeAnd, MatchOption, slice_get}
use Rattle.std.proofs.lemmas.Slice.Zip.{AllZip-right}
use Rattle.gop_board.specs.declared.job.Job.{Job}
use Rattle.gop_board.specs.declared.job_result.JobResult.{JobResult}
use Rattle.gop_board.specs.declared.job_result.JobResult.TheVariants.{Fault}
use Rattle.gop_board.specs.JobSessions.{IsSession}
use Rattle.script_lines.specs.declared.script.Script.{Script}
use Rattle.script_lines.specs.SettingLines.{encoder_of}
use Rattle.scripted.specs.declared.coder.ScriptedCoder.{ScriptedCoder}
use Rattle.scripted.specs.CoderLog.{coder_told}
use Rattle.scripted.specs.ScriptedTables.{scripted_tables}
use Rattle.session_core.specs.Sessions.{entries_of}
use Rattle.session_core.specs.Told.{FailsBehind}
use Rattle.session_script.specs.Jobs.{JobStops, told_ahead}

-- a script whose least fault number was reached has fault numbers
pub some_faults : (faults : List ℕ) (count : ℕ) → FailsBehind (Some (reduce min faults)) count → faults ≢ []
some_faults [] count reached = absurd reached
some_faults (fault ∷ faults) count reached = λ e. cc

behind : (faults : List ℕ) (fails : Option (Option ℕ)) (count : ℕ) → fails ≡ Some (reduce min faults) → FailsBehind fails count → faults ≢ []
behind faults fails count is reached =
    some_faults faults count (subst (λ (fails : Option (Option ℕ)). FailsBehind fails count) is reached)

module _ (script : Script) where
  -- which results are a job's
  abbrev IsResult : Job ℕ → JobResult ℕ ScriptedCoder → Type 0
  IsResult = IsSession (encoder_of script.settings) scripted_tables (told_ahead script) coder_told

  met_faults : (job : Job ℕ) (command : ℕ) (coder : ScriptedCoder) → IsResult job (Fault command coder) → script.faults ≢ []
  met_faults job command coder met =
      let stopped = met.session.fails.stopped in
      behind script.faults met.before.coder.fails_after (length (entries_of met.session.fails.turns ++ met.session.fails.trials)) met.fresh.coder.fails_after stopped.reached

  found_faults : (found : Option (Job ℕ)) (command : ℕ) (coder : ScriptedCoder) → IsSomeAnd found (λ job. IsResult job (Fault command coder)) →
      script.faults ≢ []
  found_faults None command coder is = absurd is
  found_faults (Some job) command coder is = met_faults job command coder is

  pub job_faults : (job command : ℕ) → JobStops script job command → script.faults ≢ []
  job_faults job command stops =
      let least = stops.fault.fault in
      let Given : Option (JobResult ℕ ScriptedCoder) → Type 0 =
      λ found. MatchOption found ⊤ (λ result. IsSomeAnd (slice_get stops.fault.jobs job) (λ one. IsResult one result)) in
      let given : Given (slice_get least.results job) = AllZip-right IsResult stops.fault.jobs least.results least.each job in
      found_faults (slice_get stops.fault.jobs job) command stops.coder (subst Given least.fault given)
