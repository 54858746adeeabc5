-- What a worker's run is: a whole course over its own queues. Threads share these, so that their contents aren't told.
use Rattle.std.specs.Prelude.{◌⊎◌, List, Option, Some, None, is_some, Result}
use Rattle.session_channels.specs.declared.fault.ChannelFault.{ChannelFault}
use Rattle.session_channels.specs.Acts.{Ears}
use Rattle.session_channels.specs.Channels.{Work}
use Rattle.session_channels.specs.Courses.{IsNothing, SaidClosed, TakesAll, Turns}
use Rattle.session_channels.specs.Drives.{Drives, EndsBy, EndsByFault, PutsAndCloses}
use Rattle.session_channels.specs.Queues.{Queue}

-- contracts see an end of a shared queue as what it counts, and no contents
abbrev pub untold : {M : Type 0} → Queue → Option (List M)
untold queue = None

abbrev pub counted : Queue → Queue
counted queue = queue

-- what holds of a queue before and after; `Else` where the worker has none
abbrev pub OfHeld : Option Queue → Option Queue → (Queue → Queue → Type 0) → Type 0 → Type 0
OfHeld (Some before) (Some now) Is Else = Is before now
OfHeld None None Is Else = Else
OfHeld before now Is Else = ⊥

-- how a worker's queues stand after its run, where all frames were taken
abbrev pub turns_of : {T O D S C : Type 0} → Work T O D S C → Work T O D S C → Turns T O
turns_of before after = record {
  frames = TakesAll untold counted before.frames after.frames;
  packets = EndsBy untold counted before.packets after.packets;
  metrics = λ taken. OfHeld before.pass_in after.pass_in (λ old now. TakesAll untold counted old now taken) (IsNothing taken);
  handed = λ put. OfHeld before.pass_out after.pass_out (λ old now. PutsAndCloses untold counted old now put) (IsNothing put);
  missing = OfHeld before.pass_in after.pass_in SaidClosed ⊥;
  severed = SaidClosed before.packets after.packets ⊎ OfHeld before.pass_out after.pass_out SaidClosed ⊥;
}

-- a worker ran, and answered so: `drive` over its session and its queues
abbrev pub IsRun : {T O D S C A : Type 0} → Ears T D S C → Work T O D S C → Work T O D S C → Result A ChannelFault → Type 0
IsRun ears before after result =
    Drives ears (is_some before.pass_out) (turns_of before after)
    (λ fault. EndsByFault untold counted fault before.packets after.packets)
    (SaidClosed before.frames after.frames)
    before.session after.session result
