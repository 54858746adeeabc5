-- The packets of a job are the same, where its maker tells what its coder gives and its mean scales.
use Rattle.std.proofs.Common.{◌≡◌, ℕ, false, List, [], map, All, ℤ, Option, None, Some, refl, sym, ap, ◌∙◌, subst}
use Rattle.std.specs.Prelude.{⊤, IfSome, IsSome}
use Rattle.std.proofs.lemmas.Bool.{false≢true}
use Rattle.av1_frame.specs.declared.frame.Frame.{Frame}
use Rattle.av1_settings.specs.declared.encoder.EncoderConfig.{EncoderConfig}
use Rattle.quantizers.specs.Tables.{Tables}
use Rattle.session_core.specs.declared.call.Call.{Call}
use Rattle.session_core.specs.declared.packet.Packet.{Packet}
use Rattle.session_core.specs.Questions.{AreAnswered}
use Rattle.session_core.specs.Sessions.{moment_after}
use Rattle.session_core.specs.Told.{DetectorTold, Gave, Handed, Heard, Told}
use Rattle.gop_board.specs.JobCalls.{job_settings}
use Rattle.gop_board.specs.JobLaws.{seen}
use Rattle.gop_board.specs.JobSessions.{AreSessionPackets, GavePackets, IsFresh}
use Rattle.gop_board.specs.Makers.{MakerTold}
use Rattle.gop_board.proofs.SameCalls.{SameCalls, Unkeyed, job-calls-same, unkeyed-run}
use Rattle.gop_board.proofs.SameRuns.{Tells, runs-same}

module _ {T : Type 0} (enc : EncoderConfig) (tables : Tables) (ahead : MakerTold T) (pictures : List (Frame T)) where
  tells-of : (next : List (Told T) → Handed T → Gave T) (at : ℕ → ℤ) (before : Heard T) → IsFresh ahead before → ahead.gives ≡ Some next → ahead.answers ≡ Some at →
      Tells (job_settings enc) tables next at [] before
  tells-of next at before fresh gives answers = record { calls = coder.0; gives = coder.1; answers = scales }
    where
      coder : (before.coder.calls ≡ Some []) × (before.coder.gives ≡ Some next)
      coder = subst (λ (g : Option (List (Told T) → Handed T → Gave T)). IfSome g (λ next. (before.coder.calls ≡ Some []) × (before.coder.gives ≡ Some next))) gives fresh.coder.gives

      scales : before.scales.answers ≡ Some at
      scales = subst (λ (a : Option (ℕ → ℤ)). IfSome a (λ at. before.scales.answers ≡ Some at)) answers fresh.scales.answers

  -- no key is decided in a job's session
  unkeyed-of : (before after : Heard T) (packets : List (Packet T ⊤)) (others : List (Call T ⊤)) → IsFresh ahead before → (a : AreSessionPackets enc tables pictures before after packets) →
      SameCalls a.calls others → Unkeyed (moment_after (job_settings enc) a.transcript.decisions a.calls a.transcript.turns).decisions
  unkeyed-of before after packets others fresh a same =
      subst Unkeyed a.run.played.decided (unkeyed-run a.calls others a.transcript.turns a.transcript.decisions same a.run.played.keys answered)
    where
      answered : All (λ decision. decision.forced ≡ false → decision.key ≡ false) a.transcript.decisions
      answered = subst (λ (d : DetectorTold T). AreAnswered d.answers a.transcript.decisions) fresh.detector a.run.played.asked.ahead

  told-same : (next : List (Told T) → Handed T → Gave T) (at : ℕ → ℤ) (one other : List (Packet T ⊤)) → ahead.gives ≡ Some next → ahead.answers ≡ Some at →
      GavePackets enc tables ahead pictures one → GavePackets enc tables ahead pictures other → map seen one ≡ map seen other
  told-same next at one other gives answers a b =
      let same = job-calls-same enc pictures a.session.calls b.session.calls a.session.calls_are b.session.calls_are in
      let back = job-calls-same enc pictures b.session.calls a.session.calls b.session.calls_are a.session.calls_are in
      ap (map seen) a.session.packets_are
      ∙ runs-same (job_settings enc) tables next at a.session.calls b.session.calls a.session.transcript.turns b.session.transcript.turns _ _ _ [] _ _ _ _ same
      (tells-of next at a.before a.fresh gives answers) (tells-of next at b.before b.fresh gives answers)
      (unkeyed-of a.before a.after one b.session.calls a.fresh a.session same) (unkeyed-of b.before b.after other a.session.calls b.fresh b.session back)
      a.session.steps b.session.steps
      ∙ sym (ap (map seen) b.session.packets_are)

  pub jobs-same : (one other : List (Packet T ⊤)) → IsSome ahead.gives → IsSome ahead.answers →
      GavePackets enc tables ahead pictures one → GavePackets enc tables ahead pictures other → map seen one ≡ map seen other
  jobs-same one other gives answers a b = by_told ahead.gives ahead.answers refl refl gives answers
    where
      by_told : (g : Option (List (Told T) → Handed T → Gave T)) (s : Option (ℕ → ℤ)) → ahead.gives ≡ g → ahead.answers ≡ s → IsSome g → IsSome s → map seen one ≡ map seen other
      by_told None s is too some known = absurd (false≢true some)
      by_told (Some next) None is too some known = absurd (false≢true known)
      by_told (Some next) (Some at) is too some known = told-same next at one other is too a b
