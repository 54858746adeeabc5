-- What a flush leaves of a session.
use Rattle.std.proofs.Common.{◌≡◌, ℤ, Bool, true, Option, None, refl, sym, ap, subst, ◌∙◌}
use Rattle.av1_settings.specs.declared.encoder.EncoderConfig.{EncoderConfig}
use Rattle.session_log.specs.Passes.{Passes}
use Rattle.session_core.specs.declared.call.Call.TheVariants.{Flush}
use Rattle.session_core.specs.declared.fault.SessionFault.{SessionFault}
use Rattle.session_core.specs.Contexts.{GivesDone, IsCall, Session}
use Rattle.session_core.specs.Moments.{Moment}
use Rattle.session_core.specs.Quantisers.{passes_behind}
use Rattle.session_core.specs.Told.{Heard}
use Rattle.session_core.specs.Turns.{after_flush}
use Rattle.session_channels.specs.Acts.{all_well}
use Rattle.session_channels.specs.Wells.{IsPaid, IsWell}
use Rattle.session_channels.proofs.LawsActs.{flush-answered}

-- the session after it
abbrev flushed_of : {T O D S C : Type 0} → Session T O D S C → Session T O D S C → Session T O D S C
flushed_of before after = record {
  enc = before.enc;
  tables = after.tables;
  moment = after_flush before.enc after.moment.decisions before.moment;
  passes = before.passes;
  failure = None;
  detector = after.detector;
  scales = after.scales;
  coder = after.coder;
}

as-given : {T O D S C : Type 0} (after : Session T O D S C) (enc : EncoderConfig) (moment : Moment T O) (passes : Passes) (failure : Option SessionFault) →
    after.enc ≡ enc → after.moment ≡ moment → after.passes ≡ passes → after.failure ≡ failure →
    after ≡ record {
      enc = enc;
      tables = after.tables;
      moment = moment;
      passes = passes;
      failure = failure;
      detector = after.detector;
      scales = after.scales;
      coder = after.coder;
    }
as-given after enc moment passes failure settings moves hands fails = rw (← settings, ← moves, ← hands, ← fails) refl

module _ {T O D S C : Type 0} (before after : Session T O D S C) (told now : Heard T) (is : IsCall GivesDone Flush before after told now all_well) where
  flushed-is : after ≡ flushed_of before after
  flushed-is =
      let answered = flush-answered before after told now is in
      as-given after before.enc (after_flush before.enc after.moment.decisions before.moment) before.passes None
      answered.settings answered.step.moment
      (answered.passes ∙ ap (passes_behind before.enc before.passes before.moment.log) answered.step.answered.0.1)
      answered.unfailed

  pub flushed-ends : after.moment.flushed ≡ true
  flushed-ends = ap (λ (s : Session T O D S C). s.moment.flushed) flushed-is

  pub flushed-well : (handing : Bool) (count : ℤ) → IsWell handing count before → IsWell handing count after
  flushed-well handing count well =
      subst (λ (s : Session T O D S C). IsWell handing count s) (sym flushed-is)
      (record {
        unfailed = refl;
        within = well.within;
        counted = well.counted;
        real = well.real;
        untried = well.untried;
        bytes = well.bytes;
        passes = record {
          first = well.passes.first;
          second = well.passes.second;
          controlled = well.passes.controlled;
          counted = well.passes.counted;
          delay = well.passes.delay;
          left = well.passes.left;
        };
      })

  pub flushed-paid : (handing : Bool) → IsPaid handing before → IsPaid handing after
  flushed-paid handing paid =
      subst (λ (s : Session T O D S C). IsPaid handing s) (sym flushed-is)
      (record { few = paid.few; waits = paid.waits })
