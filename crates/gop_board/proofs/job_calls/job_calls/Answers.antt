use Rattle.std.proofs.Common.{◌≡◌, ◌-◌, ℕ, true, length, arith, ap, ◌∙◌, sym, subst}
use Rattle.std.proofs.lemmas.List.{length-map}
use Rattle.gop_board.specs.JobCalls.{done_before}
use Rattle.gop_board.specs.JobSchedules.{IsJobSchedule}
use Rattle.gop_board.proofs.Sending.{sent-all, sent-frame, sent-none, sent-one}
use Rattle.gop_board.proofs.job_calls.job_calls.Goals as goal

pub loop-number-init : goal.loop-number-init
loop-number-init g c =
    sent-none _ _ _ c.new-schedule.result _ _ _ c.new-calls.ensures.items c.new.ensures c.key_frame_interval.ensures.value c.new-schedule.ensures
    c.in_ok-note_key.ensures.noted

pub loop-number-preserved : goal.loop-number-preserved
loop-number-preserved g c =
    sent-one _ _ _ _ _ _ _ _ _ c.loop-number.invariant
    (sent-frame _ _ _ c.in_ok-try_clone.field-0 c.index-frames-number.result c.as_slice-frames.ensures c.loop-number-test.true c.in_ok-try_clone.ensures c.index-frames-number.is)
    c.in_ok-add_receives.ensures.calls c.in_ok-push.ensures.items
    (c.in_ok-extend.ensures.extended _ _ _ _ _ (omega arith) c.in_ok-add_receives.ensures.after)

pub add_last_receives-requires : goal.add_last_receives-requires
add_last_receives-requires g c =
    let end : c.loop-number.number ≡ length c.as_slice-frames.result.now = omega arith in
    record {
      before = subst (λ (n : ℕ). IsJobSchedule c.args.enc.now (length c.as_slice-frames.result.now) true (done_before c.args.enc.now (n - 1)) c.close.new.self) end
          (c.in_ok-close.ensures.closed _ _ _ _ _ (omega arith) c.loop-number.invariant.scheduled);
    }

pub returns : goal.returns
returns g c =
    let end : c.loop-number.number ≡ length c.as_slice-frames.result.now = omega arith in
    sent-all _ _ _ _ _ _ _ _ c.loop-number.invariant end (length-map c.args.job.now.frames _ ∙ sym (ap length c.as_slice-frames.ensures))
    c.in_ok-push-2.ensures.items c.in_ok-add_last_receives.ensures
