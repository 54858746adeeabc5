-- A worker's course over a queue that stands where none was given, read as one with no queue there.
use Rattle.std.proofs.Common.{◌≡◌, ◌⊎◌, inl, inr, Bool, false, List, Result, refl, arith}
use Rattle.pass_data.specs.declared.rc_data.RcData.{RcData}
use Rattle.session_core.specs.declared.packet.Packet.{Packet}
use Rattle.session_core.specs.Contexts.{Session}
use Rattle.session_channels.specs.declared.fault.ChannelFault.{ChannelFault}
use Rattle.session_channels.specs.Acts.{Ears}
use Rattle.session_channels.specs.Courses.{IsNothing, SaidClosed}
use Rattle.session_channels.specs.Drives.{Drives}
use Rattle.session_channels.specs.Ends.{FrameMessage}
use Rattle.session_channels.specs.NoQueues.{no_put}
use Rattle.session_channels.proofs.LawsReads.{drives-reads}

-- what stands in the place of a queue that is put into is never closed
never-closed : SaidClosed no_put no_put → ⊥
never-closed (inl rose) = omega (arith, rose)
never-closed (inr stands) = let last = stands.0 in omega (arith, last)

module _ {T O D S C A : Type 0} (ears : Ears T D S C) (before after : Session T O D S C) (result : Result A ChannelFault)
    (ends_by : ChannelFault → List (Packet T O) → Type 0) (ended : Type 0)
    (frames : List (FrameMessage T O) → Type 0) (packets : List (Packet T O) → Type 0) (severed : Type 0) where
  -- no queue of pass data to take from
  pub without-taken : (handing : Bool) (metrics handed : List RcData → Type 0) (missing closed : Type 0) → before.passes.second ≡ false →
      Drives ears handing (record { frames = frames; packets = packets; metrics = metrics; handed = handed; missing = missing; severed = severed ⊎ closed })
      ends_by ended before after result →
      Drives ears handing (record { frames = frames; packets = packets; metrics = IsNothing; handed = handed; missing = ⊥; severed = severed ⊎ closed })
      ends_by ended before after result
  without-taken handing metrics handed missing closed off =
      drives-reads ears false handing
      (record { frames = frames; packets = packets; metrics = metrics; handed = handed; missing = missing; severed = severed ⊎ closed })
      (record { frames = frames; packets = packets; metrics = IsNothing; handed = handed; missing = ⊥; severed = severed ⊎ closed })
      (record {
        frames = λ xs h. h;
        packets = λ xs h. h;
        metrics = λ xs none h. none refl;
        handed = λ xs none h. h;
        missing = λ given h. given refl;
        severed = λ h. h;
      }) before off ends_by ended after result

  -- none to put into
  pub without-handed : (metrics handed : List RcData → Type 0) (missing : Type 0) →
      Drives ears false (record { frames = frames; packets = packets; metrics = metrics; handed = handed; missing = missing; severed = severed ⊎ SaidClosed no_put no_put })
      ends_by ended before after result →
      Drives ears false (record { frames = frames; packets = packets; metrics = metrics; handed = IsNothing; missing = missing; severed = severed ⊎ ⊥ })
      ends_by ended before after result
  without-handed metrics handed missing =
      drives-reads ears before.passes.second false
      (record { frames = frames; packets = packets; metrics = metrics; handed = handed; missing = missing; severed = severed ⊎ SaidClosed no_put no_put })
      (record { frames = frames; packets = packets; metrics = metrics; handed = IsNothing; missing = missing; severed = severed ⊎ ⊥ })
      (record {
        frames = λ xs h. h;
        packets = λ xs h. h;
        metrics = λ xs none h. h;
        handed = λ xs none h. none refl;
        missing = λ given h. h;
        severed = λ h. elim h [ inl closed ↦ inl closed | inr closed ↦ absurd (never-closed closed) ];
      }) before refl ends_by ended after result
