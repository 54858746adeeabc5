-- The exit status of the program.
use Rattle.std.specs.Prelude.{◌≡◌, ℕ, ◌⊎◌, List, String}
use Rattle.std.specs.declared.alloc.Global.{Global}
use Rattle.std.specs.Io.KnownBytes.{Appends}
use Rattle.byte_streams.specs.Streams.{GrowsByPart}
use Rattle.session_script.specs.declared.outcome.Report.{Report}
use Rattle.session_script.specs.Outcomes.{HasFault, IsAnswer, Span}
use Rattle.session_script.specs.Words.{task_of}

-- a text was printed, whole at status 0, or the sink failed
pub record Prints (sink : Span) (text : List ℕ) (status : ℕ) : Type 0 where
  pub known : (status ≡ 0) ⊎ (status ≡ 6)
  pub part : GrowsByPart sink.known sink.known_after text
  pub whole : status ≡ 0 → Appends sink.known sink.known_after text
  pub unwritten : status ≡ 6 → HasFault sink

-- the status is that of an answer
abbrev pub IsAnswered : List (String Global) → Span → Span → ℕ → Type 0
IsAnswered words source sink status =
    (answer : Report) × (status ≡ answer.status) × IsAnswer (task_of words) source sink answer
