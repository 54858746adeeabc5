-- A message that was taken is given.
use denote.Enum.Declared.{tag_of}
use Rattle.std.proofs.Common.{◌≡◌, List, ℕ, arith, Option, Some, None, Result, Ok, Err, refl, ap, sym, ◌∙◌, subst}
use Rattle.av1_settings.specs.declared.status.EncoderStatus.{EncoderStatus}
use Rattle.av1_settings.specs.declared.status.EncoderStatus.TheVariants.{Failure}
use Rattle.session_core.specs.PassCalls.{IsGiven}
use Rattle.pass_data.specs.declared.error.PassDataError.{PassDataError}
use Rattle.session_core.specs.contracts.fault.SessionFault.{the_type}
use Rattle.session_core.specs.declared.fault.SessionFault.{SessionFault}
use Rattle.session_core.specs.declared.fault.SessionFault.TheVariants.{PassData}
use Rattle.session_channels.proofs.Given.{paid-given, refused-given, refused_so, room-given, summary-given, well-given, went-given}
use Rattle.session_channels.proofs.coding.give.Goals.{in_default-failure-via-in-Some+in_default, in_default-failure-via-in_default}
use Rattle.session_channels.proofs.coding.give.Goals as goal

-- a refusal is the fault of number 1
refusal-number : {f : SessionFault} {why : PassDataError} {kept : Option SessionFault} → Some f ≡ kept → kept ≡ Some (PassData why) → tag_of the_type f ≡ 1
refusal-number {f} {why} has is =
    let same : PassData why ≡ f = cc in
    subst (λ (x : SessionFault). tag_of the_type x ≡ 1) same refl

pub unreachable-requires : goal.unreachable-requires
unreachable-requires g c =
    let why = refused_so c.as_slice.result.now c.args.inner.now c.rc_send_pass_data.new.self c.rc_send_pass_data.result c.in-Err.field-0 c.requires.well.unfailed c.rc_send_pass_data.ensures c.in-Err.is in
    let is : c.failure.result ≡ Some (PassData why.0) = c.failure.ensures ∙ why.2 in
    elim c.in_default-failure.branch [
      | in_default-failure-via-in-Some+in_default w ↦ (let number = refusal-number w.in_default-failure.ensures why.2 in absurd (omega arith))
      | in_default-failure-via-in_default w ↦ (let none : None ≡ Some (PassData why.0) = sym w.in_default-failure.is ∙ is in absurd (cc))
    ]

pub returns-in_default-clause-drove : goal.returns-in_default-clause-drove
returns-in_default-clause-drove g c = λ hand is_open.
    summary-given (record { coder = g.C.FrameCoder.told; detector = g.D.Detector.told; scales = g.S.MeanScale.told }) c.args.handing hand c.args.inner.now c.args.inner.now c.args.message is_open
    c.requires.known c.requires.needed c.in_default.field-0 c.in_default.is

pub returns-in-Ok-clause-drove : goal.returns-in-Ok-clause-drove
returns-in-Ok-clause-drove g c = λ hand is_open.
    went-given (record { coder = g.C.FrameCoder.told; detector = g.D.Detector.told; scales = g.S.MeanScale.told }) c.args.handing hand c.args.inner.now c.rc_send_pass_data.new.self c.args.message is_open
    c.requires.known c.requires.needed c.in-Frame.metrics c.in-Frame.is
    (subst (λ (l : List ℕ). IsGiven l c.args.inner.now c.rc_send_pass_data.new.self (Ok tt)) c.as_slice.ensures.value
    (subst (λ (r : Result (Unit {0}) EncoderStatus). IsGiven c.as_slice.result.now c.args.inner.now c.rc_send_pass_data.new.self r) c.in-Ok.is c.rc_send_pass_data.ensures))

pub returns-in-Ok-clause-well : goal.returns-in-Ok-clause-well
returns-in-Ok-clause-well g c =
    well-given c.as_slice.result.now c.args.inner.now c.rc_send_pass_data.new.self c.rc_send_pass_data.result c.args.handing c.args.coded c.rc_send_pass_data.ensures c.in-Ok.is c.requires.well c.requires.needed

pub returns-in-Ok-clause-paid : goal.returns-in-Ok-clause-paid
returns-in-Ok-clause-paid g c =
    paid-given c.as_slice.result.now c.args.inner.now c.rc_send_pass_data.new.self c.rc_send_pass_data.result c.args.handing c.args.coded c.rc_send_pass_data.ensures c.in-Ok.is c.requires.well c.requires.needed c.requires.paid

pub returns-in-Ok-clause-smaller : goal.returns-in-Ok-clause-smaller
returns-in-Ok-clause-smaller g c =
    room-given c.as_slice.result.now c.args.inner.now c.rc_send_pass_data.new.self c.rc_send_pass_data.result c.args.handing c.args.coded c.rc_send_pass_data.ensures c.in-Ok.is c.requires.well c.requires.needed

pub returns-in-Some-PassData-clause-drove : goal.returns-in-Some-PassData-clause-drove
returns-in-Some-PassData-clause-drove g c = λ hand is_open.
    let why = refused_so c.as_slice.result.now c.args.inner.now c.rc_send_pass_data.new.self c.rc_send_pass_data.result c.in-Err.field-0 c.requires.well.unfailed c.rc_send_pass_data.ensures c.in-Err.is in
    refused-given (record { coder = g.C.FrameCoder.told; detector = g.D.Detector.told; scales = g.S.MeanScale.told }) c.args.handing hand c.args.inner.now c.rc_send_pass_data.new.self c.args.message is_open
    c.requires.known c.requires.needed c.in-Frame.metrics c.in-Some-PassData.refusal c.in-Frame.is
    (subst (λ (l : List ℕ). IsGiven l c.args.inner.now c.rc_send_pass_data.new.self (Err Failure)) c.as_slice.ensures.value
    (subst (λ (r : Result (Unit {0}) EncoderStatus). IsGiven c.as_slice.result.now c.args.inner.now c.rc_send_pass_data.new.self r) why.1 c.rc_send_pass_data.ensures))
    (sym c.failure.ensures ∙ (c.in-Some-PassData.is ∙ ap (λ (f : SessionFault). Some f) c.in-Some-PassData.field-0-is))
