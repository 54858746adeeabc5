-- What a context keeps, so that each of its calls is answered as the reply table says.
use Rattle.std.specs.Prelude.{◌≡◌, List, Option, None}
use Rattle.av1_settings.specs.declared.encoder.EncoderConfig.{EncoderConfig}
use Rattle.av1_settings.specs.Checks.{IsValid}
use Rattle.session_core.specs.declared.call.Call.{Call}
use Rattle.session_core.specs.declared.fault.SessionFault.{SessionFault}
use Rattle.session_core.specs.declared.state.SessionState.{SessionState}
use Rattle.session_core.specs.declared.transcript.Turn.{Turn}
use Rattle.session_core.specs.Moments.{Moment}
use Rattle.session_core.specs.Sessions.{AreTurns, moment_after}
use Rattle.session_core.specs.States.{moment_of, IsKept}

-- these calls lead to a moment, each answered as the reply table says
pub record Leads {T O : Type 0} (enc : EncoderConfig) (calls : List (Call T O)) (turns : List (Turn T O)) (moment : Moment T O) : Type 0 where
  pub answered : AreTurns enc moment.decisions calls turns
  pub leads : moment ≡ moment_after enc moment.decisions calls turns

-- some calls do
abbrev pub IsReached : {T O : Type 0} → EncoderConfig → Moment T O → Type 0
IsReached {T} {O} enc moment = (calls : List (Call T O)) × (turns : List (Turn T O)) × Leads enc calls turns moment

-- valid settings, and, unless the session has failed, a moment that calls lead to, with what is kept beside it
pub record IsHeld {T O : Type 0} (enc : EncoderConfig) (state : SessionState T O) (failure : Option SessionFault) : Type 0 where
  pub valid : IsValid enc
  pub reached : failure ≡ None → IsReached enc (moment_of state)
  pub kept : failure ≡ None → IsKept enc state
