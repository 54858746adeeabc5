-- A receive, and the put of the packet that it gives.
use denote.Enum.Declared.{tag_of}
use Rattle.std.proofs.Common.{◌≡◌, ℕ, arith, refl, w32, Option, Some, None, Err, sym, ap, ◌∙◌, subst}
use Rattle.std.proofs.lemmas.Int.{to_z-of_z}
use Rattle.av1_settings.specs.declared.status.EncoderStatus.{EncoderStatus}
use Rattle.session_core.specs.contracts.fault.SessionFault.{the_type}
use Rattle.session_core.specs.declared.fault.SessionFault.{SessionFault}
use Rattle.session_core.specs.declared.fault.SessionFault.TheVariants.{Coder}
use Rattle.session_core.specs.Told.{heard}
use Rattle.session_channels.proofs.Receiving.{Calls, coder-kept, others, stopped-coder, received-counted, received-dry, received-owed, received-same, received-smaller, stopped-dry, stopped-memory, stopped-put, went-none-received, went-received}
use Rattle.session_channels.proofs.coding.receive.Goals.{in_default-failure-via-in-Some+in_default, in_default-failure-via-in_default}
use Rattle.session_channels.proofs.coding.receive.Goals as goal

-- a fault of the coder is that of number 0
coder-number : {f : SessionFault} {failure : Option SessionFault} {number : ℕ} → Some f ≡ failure → failure ≡ Some (Coder number) →
    tag_of the_type f ≡ 0
coder-number {f} {failure} {number} is kept =
    let same : Coder number ≡ f = cc in
    subst (λ (x : SessionFault). tag_of the_type x ≡ 0) same refl

pub unreachable-requires : goal.unreachable-requires
unreachable-requires g c =
    let kept = coder-kept c.args.inner.now c.receive_packet.new.self _ _ c.requires.well.unfailed c.requires.known
    (subst (λ (s : EncoderStatus). Calls c.args.inner.now c.receive_packet.new.self
    (heard (g.C.FrameCoder.told c.args.inner.now.coder) (g.D.Detector.told c.args.inner.now.detector) (g.S.MeanScale.told c.args.inner.now.scales))
    (heard (g.C.FrameCoder.told c.receive_packet.new.self.coder) (g.D.Detector.told c.receive_packet.new.self.detector) (g.S.MeanScale.told c.receive_packet.new.self.scales))
    (Err s)) c.in-Failure.is c.in-Err.ensures.call) in
    let is : c.failure.result ≡ Some (Coder kept.0) = c.failure.ensures ∙ kept.1 in
    elim c.in_default-failure.branch [
      | in_default-failure-via-in-Some+in_default w ↦ (let number = coder-number w.in_default-failure.ensures kept.1 in absurd (omega arith))
      | in_default-failure-via-in_default w ↦ (let none : None ≡ Some (Coder kept.0) = sym w.in_default-failure.is ∙ is in absurd (cc))
    ]

pub unreachable-requires-in_default : goal.unreachable-requires-in_default
unreachable-requires-in_default g c =
    others c.args.inner.now c.receive_packet.new.self _ _ c.in-Err.status c.requires.well.unfailed c.requires.known c.in-Err.ensures.call
    c.in_default.not-Encoded c.in_default.not-NotReady c.in_default.not-OutOfMemory c.in_default.not-Failure

pub returns-in-Ok-put-clause-drove : goal.returns-in-Ok-put-clause-drove
returns-in-Ok-put-clause-drove g c = λ hand is_open.
    went-received (record { coder = g.C.FrameCoder.told; detector = g.D.Detector.told; scales = g.S.MeanScale.told }) c.args.handing
    g.P.Put.contents g.P.Put.queue hand c.args.inner.now c.receive_packet.new.self is_open c.requires.known c.requires.fed
    c.args.packets.now c.put.new.queue (Some c.in-Ok.packet) c.in-Ok.ensures.call c.in-Ok-put.ensures.put

pub returns-in-Err-put-clause-drove : goal.returns-in-Err-put-clause-drove
returns-in-Err-put-clause-drove g c = λ hand is_open.
    stopped-put (record { coder = g.C.FrameCoder.told; detector = g.D.Detector.told; scales = g.S.MeanScale.told }) c.args.handing
    g.P.Put.contents g.P.Put.queue hand c.args.inner.now c.receive_packet.new.self is_open c.requires.known c.requires.fed
    c.args.packets.now c.put.new.queue c.in-Ok.packet c.in-Err-put.fault c.in-Ok.ensures.call c.in-Err-put.ensures.refused

pub returns-in-Encoded-clause-drove : goal.returns-in-Encoded-clause-drove
returns-in-Encoded-clause-drove g c = λ hand is_open.
    went-none-received (record { coder = g.C.FrameCoder.told; detector = g.D.Detector.told; scales = g.S.MeanScale.told }) c.args.handing
    g.P.Put.contents g.P.Put.queue hand c.args.inner.now c.receive_packet.new.self is_open c.requires.known c.requires.fed
    c.args.packets.now
    (subst (λ (s : EncoderStatus). Calls c.args.inner.now c.receive_packet.new.self
    (heard (g.C.FrameCoder.told c.args.inner.now.coder) (g.D.Detector.told c.args.inner.now.detector) (g.S.MeanScale.told c.args.inner.now.scales))
    (heard (g.C.FrameCoder.told c.receive_packet.new.self.coder) (g.D.Detector.told c.receive_packet.new.self.detector) (g.S.MeanScale.told c.receive_packet.new.self.scales))
    (Err s)) c.in-Encoded.is c.in-Err.ensures.call)

pub returns-in-OutOfMemory-clause-drove : goal.returns-in-OutOfMemory-clause-drove
returns-in-OutOfMemory-clause-drove g c = λ hand is_open.
    stopped-memory (record { coder = g.C.FrameCoder.told; detector = g.D.Detector.told; scales = g.S.MeanScale.told }) c.args.handing
    g.P.Put.contents g.P.Put.queue hand c.args.inner.now c.receive_packet.new.self is_open c.requires.known c.requires.fed c.args.packets.now

pub returns-in-Some-Coder-clause-drove : goal.returns-in-Some-Coder-clause-drove
returns-in-Some-Coder-clause-drove g c = λ hand is_open.
    stopped-coder (record { coder = g.C.FrameCoder.told; detector = g.D.Detector.told; scales = g.S.MeanScale.told }) c.args.handing
    g.P.Put.contents g.P.Put.queue hand c.args.inner.now c.receive_packet.new.self is_open c.requires.known c.requires.fed
    c.args.packets.now c.in-Some-Coder.command c.requires.well.unfailed c.requires.well.real
    (subst (λ (s : EncoderStatus). Calls c.args.inner.now c.receive_packet.new.self
    (heard (g.C.FrameCoder.told c.args.inner.now.coder) (g.D.Detector.told c.args.inner.now.detector) (g.S.MeanScale.told c.args.inner.now.scales))
    (heard (g.C.FrameCoder.told c.receive_packet.new.self.coder) (g.D.Detector.told c.receive_packet.new.self.detector) (g.S.MeanScale.told c.receive_packet.new.self.scales))
    (Err s)) c.in-Failure.is c.in-Err.ensures.call)
    (sym c.failure.ensures ∙ c.in-Some-Coder.is ∙ ap Some c.in-Some-Coder.field-0-is)

pub returns-in-NotReady-clause-drove : goal.returns-in-NotReady-clause-drove
returns-in-NotReady-clause-drove g c = λ hand is_open.
    rw (to_z-of_z w32 c.args.coded c.ranges.coded)
    (stopped-dry (record { coder = g.C.FrameCoder.told; detector = g.D.Detector.told; scales = g.S.MeanScale.told }) c.args.handing
    g.P.Put.contents g.P.Put.queue hand c.args.inner.now c.receive_packet.new.self is_open c.requires.known c.requires.fed
    c.args.packets.now c.args.coded
    (received-dry c.args.handing c.args.coded (record { hand = hand; session = c.args.inner.now }) c.receive_packet.new.self _ _ c.requires.well c.requires.paid
    (record { coding = is_open; known = c.requires.known; fed = c.requires.fed })
    (subst (λ (s : EncoderStatus). Calls c.args.inner.now c.receive_packet.new.self
    (heard (g.C.FrameCoder.told c.args.inner.now.coder) (g.D.Detector.told c.args.inner.now.detector) (g.S.MeanScale.told c.args.inner.now.scales))
    (heard (g.C.FrameCoder.told c.receive_packet.new.self.coder) (g.D.Detector.told c.receive_packet.new.self.detector) (g.S.MeanScale.told c.receive_packet.new.self.scales))
    (Err s)) c.in-NotReady.is c.in-Err.ensures.call)))

pub returns-in-Ok-put-clause-same : goal.returns-in-Ok-put-clause-same
returns-in-Ok-put-clause-same g c =
    received-same (Some c.in-Ok.packet) c.args.inner.now c.receive_packet.new.self _ _ c.requires.known c.in-Ok.ensures.call

pub returns-in-Ok-put-clause-smaller : goal.returns-in-Ok-put-clause-smaller
returns-in-Ok-put-clause-smaller g c =
    received-smaller (Some c.in-Ok.packet) c.args.inner.now c.receive_packet.new.self _ _ c.requires.known c.in-Ok.ensures.call

pub returns-in-Ok-put-clause-owed : goal.returns-in-Ok-put-clause-owed
returns-in-Ok-put-clause-owed g c =
    received-owed (Some c.in-Ok.packet) c.args.inner.now c.receive_packet.new.self _ _ c.requires.known c.in-Ok.ensures.call c.args.handing c.args.coded c.requires.well c.requires.paid

pub returns-in-Encoded-clause-same : goal.returns-in-Encoded-clause-same
returns-in-Encoded-clause-same g c =
    received-same None c.args.inner.now c.receive_packet.new.self _ _ c.requires.known
    (subst (λ (s : EncoderStatus). Calls c.args.inner.now c.receive_packet.new.self
    (heard (g.C.FrameCoder.told c.args.inner.now.coder) (g.D.Detector.told c.args.inner.now.detector) (g.S.MeanScale.told c.args.inner.now.scales))
    (heard (g.C.FrameCoder.told c.receive_packet.new.self.coder) (g.D.Detector.told c.receive_packet.new.self.detector) (g.S.MeanScale.told c.receive_packet.new.self.scales))
    (Err s)) c.in-Encoded.is c.in-Err.ensures.call)

pub returns-in-Encoded-clause-smaller : goal.returns-in-Encoded-clause-smaller
returns-in-Encoded-clause-smaller g c =
    received-smaller None c.args.inner.now c.receive_packet.new.self _ _ c.requires.known
    (subst (λ (s : EncoderStatus). Calls c.args.inner.now c.receive_packet.new.self
    (heard (g.C.FrameCoder.told c.args.inner.now.coder) (g.D.Detector.told c.args.inner.now.detector) (g.S.MeanScale.told c.args.inner.now.scales))
    (heard (g.C.FrameCoder.told c.receive_packet.new.self.coder) (g.D.Detector.told c.receive_packet.new.self.detector) (g.S.MeanScale.told c.receive_packet.new.self.scales))
    (Err s)) c.in-Encoded.is c.in-Err.ensures.call)

pub returns-in-Encoded-clause-owed : goal.returns-in-Encoded-clause-owed
returns-in-Encoded-clause-owed g c =
    received-owed None c.args.inner.now c.receive_packet.new.self _ _ c.requires.known
    (subst (λ (s : EncoderStatus). Calls c.args.inner.now c.receive_packet.new.self
    (heard (g.C.FrameCoder.told c.args.inner.now.coder) (g.D.Detector.told c.args.inner.now.detector) (g.S.MeanScale.told c.args.inner.now.scales))
    (heard (g.C.FrameCoder.told c.receive_packet.new.self.coder) (g.D.Detector.told c.receive_packet.new.self.detector) (g.S.MeanScale.told c.receive_packet.new.self.scales))
    (Err s)) c.in-Encoded.is c.in-Err.ensures.call)
    c.args.handing c.args.coded c.requires.well c.requires.paid

pub returns-in-Ok-put-clause-well : goal.returns-in-Ok-put-clause-well
returns-in-Ok-put-clause-well g c =
    received-counted (Some c.in-Ok.packet) c.args.inner.now c.receive_packet.new.self _ _ c.requires.known c.in-Ok.ensures.call
    c.args.handing c.args.coded c.saturating_add.result c.requires.well c.receive_packet.ensures.bytes c.ranges.coded c.saturating_add.ensures

pub returns-in-Encoded-clause-well : goal.returns-in-Encoded-clause-well
returns-in-Encoded-clause-well g c =
    received-counted None c.args.inner.now c.receive_packet.new.self _ _ c.requires.known
    (subst (λ (s : EncoderStatus). Calls c.args.inner.now c.receive_packet.new.self
    (heard (g.C.FrameCoder.told c.args.inner.now.coder) (g.D.Detector.told c.args.inner.now.detector) (g.S.MeanScale.told c.args.inner.now.scales))
    (heard (g.C.FrameCoder.told c.receive_packet.new.self.coder) (g.D.Detector.told c.receive_packet.new.self.detector) (g.S.MeanScale.told c.receive_packet.new.self.scales))
    (Err s)) c.in-Encoded.is c.in-Err.ensures.call)
    c.args.handing c.args.coded c.saturating_add-in-Encoded.result c.requires.well c.receive_packet.ensures.bytes c.ranges.coded c.saturating_add-in-Encoded.ensures
