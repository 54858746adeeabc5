-- What the calls of a context do that hand pass data over.
use Rattle.arrayvec.specs.ArrayVec.{ArrayVec}
use Rattle.std.specs.Prelude.{◌≡◌, ◌⊎◌, ℕ, if◌then◌else◌, MatchOption, IsFalse, IsSome, IsTrue, List, Option, None, Some, Result, Ok, Err, unsigned_abs}
use Rattle.std.specs.Option.{option_map}
use Rattle.av1_settings.specs.declared.status.EncoderStatus.{EncoderStatus}
use Rattle.av1_settings.specs.declared.status.EncoderStatus.TheVariants.{Failure, OutOfMemory as NoMemory}
use Rattle.pass_data.specs.declared.error.PassDataError.{PassDataError}
use Rattle.pass_data.specs.declared.error.PassDataError.TheVariants.{OutOfMemory as NoWindow}
use Rattle.pass_data.specs.declared.rc_data.RcData.{RcData}
use Rattle.pass_data.specs.declared.rc_data.RcData.TheVariants.{Frame as OfFrame, Summary as OfSummary}
use Rattle.ratecontrol.specs.Passes.{Answered, frames_needed, given_out, is_open}
use Rattle.ratecontrol.specs.Rate.{Rate}
use Rattle.session_log.specs.Passes.{packet_sent, passes_of}
use Rattle.session_core.specs.declared.fault.SessionFault.{SessionFault}
use Rattle.session_core.specs.declared.fault.SessionFault.TheVariants.{OutOfMemory, PassData}
use Rattle.session_core.specs.Contexts.{Session, at_of, status_of}
use Rattle.session_core.specs.PassTurns.{IsPassData, is_done, rate_of}

-- the state of a session's rate control
abbrev pub rate_in : {T O D S C : Type 0} → Session T O D S C → Rate
rate_in session = rate_of session.enc (at_of session)

-- only what its passes hand on changes
abbrev pub with_rate : {T O D S C : Type 0} → Rate → Session T O D S C → Session T O D S C
with_rate rate session = record session { passes = passes_of rate }

-- a session that has failed answers Failure, and nothing changes
abbrev pub OrFails : {T O D S C A : Type 0} → Session T O D S C → Session T O D S C → Result A EncoderStatus → Type 0 → Type 0
OrFails before after result Answers =
    MatchOption before.failure Answers (λ fault. (result ≡ Err Failure) × (after ≡ before))

-- the cause that is kept of refused pass data
abbrev pub fault_of : PassDataError → SessionFault
fault_of NoWindow = OutOfMemory
fault_of refusal = PassData refusal

-- ---- bytes of a summary and of frames' metrics

-- so many are wanted, or were taken; or they are refused, and the session fails
abbrev pub IsCounted : {T O D S C : Type 0} → Answered → Session T O D S C → Session T O D S C → Result ℕ EncoderStatus → Type 0
IsCounted a before after result =
    elim a.answer [
      | Ok count ↦ (result ≡ Ok count) × (after ≡ with_rate a.rate before)
      | Err refusal ↦
          (result ≡ Err (status_of (fault_of refusal)))
          × (after ≡ record (with_rate a.rate before) { failure = Some (fault_of refusal) })
    ]

-- memory ran out for a window of metrics, which is taken where a second pass begins under a reservoir's delay
pub record LacksWindow {T O D S C : Type 0} (before after : Session T O D S C) (result : Result ℕ EncoderStatus) : Type 0 where
  pub open_yet : IsTrue (is_open (rate_in before))
  pub begins : IsFalse before.passes.second
  pub window : IsSome (rate_in before).set_delay
  pub status : result ≡ Err NoMemory
  pub kept : after ≡ record before { failure = Some OutOfMemory }

abbrev pub IsBytesCall : {T O D S C : Type 0} → (Rate → Answered) → Session T O D S C → Session T O D S C → Result ℕ EncoderStatus → Type 0
IsBytesCall asks before after result =
    OrFails before after result
    (IsCounted (asks (rate_in before)) before after result ⊎ LacksWindow before after result)

-- ---- a frame's metrics

abbrev pub IsGiven : {T O D S C : Type 0} → List ℕ → Session T O D S C → Session T O D S C → Result (Unit {0}) EncoderStatus → Type 0
IsGiven message before after result =
    OrFails before after result
    (let outcome = packet_sent before.enc before.passes before.moment.log message in
    let given = record before { passes = record before.passes { given = outcome.given } } in
    elim outcome.refused [
      | None ↦ (result ≡ Ok tt) × (after ≡ given)
      | Some refusal ↦ (result ≡ Err Failure) × (after ≡ record given { failure = Some (PassData refusal) })
    ])

-- of so many frames metrics are wanted; of none once all is done, and in a session that has failed
abbrev pub required_of : {T O D S C : Type 0} → Session T O D S C → ℕ
required_of session =
    elim session.failure [
      | None ↦ if is_done session.moment then 0 else unsigned_abs (frames_needed (rate_in session))
      | Some fault ↦ 0
    ]

-- ---- what a first pass hands on

-- it is taken; a session that has failed has nothing
abbrev pub IsTakeCall : {T O D S C : Type 0} → Session T O D S C → Session T O D S C → Option RcData → Type 0
IsTakeCall before after message =
    MatchOption before.failure
    (IsPassData (is_done before.moment) (rate_in before) message
    × (after ≡ with_rate (given_out (is_done before.moment) (rate_in before)) before))
    (λ fault. (message ≡ None) × (after ≡ before))

abbrev pub bytes_in : RcData → ArrayVec ℕ
bytes_in (OfSummary bytes) = bytes
bytes_in (OfFrame bytes) = bytes

-- the same as bytes alone
abbrev pub IsOutCall : {T O D S C : Type 0} → Session T O D S C → Session T O D S C → Option (ArrayVec ℕ) → Type 0
IsOutCall before after bytes =
    (message : Option RcData) × IsTakeCall before after message × (bytes ≡ option_map bytes_in message)
