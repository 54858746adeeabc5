-- Pass data is handed on.
use Rattle.session_channels.proofs.HandedOn.{hand-drove, hand-nothing, on-ok, taken-paid, taken-well}
use Rattle.session_channels.proofs.coding.hand_on.Goals as goal

pub returns-in-Some-clause-drove : goal.returns-in-Some-clause-drove
returns-in-Some-clause-drove g c = λ hand.
    hand-drove g.U.Put.contents g.U.Put.queue (record { coder = g.C.FrameCoder.told; detector = g.D.Detector.told; scales = g.S.MeanScale.told }) hand
    c.args.inner.now c.rc_receive_pass_data.new.self c.args.handing c.in-Some.message c.args.pass_out.now c.put.new.queue c.put.result
    c.if-not-handing.false c.in-Some.ensures c.put.ensures.put c.put.ensures.refused

pub returns-in-Some-clause-well : goal.returns-in-Some-clause-well
returns-in-Some-clause-well g c =
    on-ok c.put.result
    (taken-well c.args.inner.now c.args.handing c.args.coded c.rc_receive_pass_data.new.self c.rc_receive_pass_data.result c.requires.well c.rc_receive_pass_data.ensures)

pub returns-in-Some-clause-paid : goal.returns-in-Some-clause-paid
returns-in-Some-clause-paid g c =
    on-ok c.put.result
    (taken-paid c.args.inner.now c.args.handing c.args.coded c.rc_receive_pass_data.new.self c.rc_receive_pass_data.result c.requires.well c.requires.owed c.rc_receive_pass_data.ensures)

pub returns-in-None-clause-drove : goal.returns-in-None-clause-drove
returns-in-None-clause-drove g c = λ hand.
    hand-nothing g.U.Put.contents g.U.Put.queue (record { coder = g.C.FrameCoder.told; detector = g.D.Detector.told; scales = g.S.MeanScale.told }) hand
    c.args.inner.now c.rc_receive_pass_data.new.self c.args.handing c.args.pass_out.now c.if-not-handing.false c.in-None.ensures

pub returns-in-None-clause-well : goal.returns-in-None-clause-well
returns-in-None-clause-well g c =
    taken-well c.args.inner.now c.args.handing c.args.coded c.rc_receive_pass_data.new.self c.rc_receive_pass_data.result c.requires.well c.rc_receive_pass_data.ensures

pub returns-in-None-clause-paid : goal.returns-in-None-clause-paid
returns-in-None-clause-paid g c =
    taken-paid c.args.inner.now c.args.handing c.args.coded c.rc_receive_pass_data.new.self c.rc_receive_pass_data.result c.requires.well c.requires.owed c.rc_receive_pass_data.ensures
