-- What a coder took: what it was handed, one for each entry of a log, and what it gave.
use Rattle.std.specs.Prelude.{◌≡◌, Bool, true, not, ◌&&◌, List, [], ◌∷◌, map, filter}
use Rattle.std.specs.Option.{option_map, option_to_list}
use Rattle.pyramid.specs.declared.command.Command.TheVariants.{Code, Show}
use Rattle.session_core.specs.declared.packet.Packet.{Packet}
use Rattle.session_log.specs.declared.entry.LogEntry.{LogEntry}
use Rattle.session_core.specs.declared.transcript.Reply.{Reply}
use Rattle.session_core.specs.declared.transcript.Reply.TheVariants.{Packet as GivesPacket}
use Rattle.session_core.specs.Moments.{Accepted, Moment, waiting_at}
use Rattle.session_core.specs.Told.{CoderTold, Handed, ToCode, ToShow, Told, AreAhead, Grew}
use Rattle.session_core.specs.Turns.{is_showing}

-- the job of an entry: its command and quantisers, with the picture and the metadata of its frame
abbrev pub job_of : {T O : Type 0} → LogEntry → Accepted T O → Handed T
job_of entry frame = ToCode (record {
  command = entry.command;
  trial = entry.trial;
  quant = entry.quant;
  picture = frame.picture;
  t35 = frame.t35;
})

-- what a coder is handed for an entry at a moment: to code, the frame that waits under its number; to show, the number of
-- the next packet
abbrev pub handed_at : {T O : Type 0} → Moment T O → LogEntry → List (Handed T)
handed_at moment entry =
    elim entry.command [
      | Code frame kind refs refresh shown ↦
          option_to_list (option_map (λ waiting. job_of entry waiting.frame) (waiting_at moment frame))
      | Show slot ↦ ToShow (record { slot = slot; frame = moment.packets }) ∷ []
    ]

-- whether a frame was shown for good
abbrev pub is_shown : {T : Type 0} → Handed T → Bool
is_shown (ToCode job) = is_showing job.command && not job.trial
is_shown (ToShow show) = true

abbrev pub shown_ones : {T : Type 0} → List (Told T) → List (Told T)
shown_ones taken = filter (λ one. is_shown one.handed) taken

-- the packet of a reply, if it gives one
abbrev pub packet_of : {T O : Type 0} → Reply T O → List (Packet T O)
packet_of (GivesPacket packet) = packet ∷ []
packet_of reply = []

-- the coder took exactly these jobs and shows, in order, and gave the bytes of the entries, and the packets the picture and
-- the counts of the command that showed their frame
pub record IsTaken {T O : Type 0} (jobs : List (Handed T)) (entries : List LogEntry) (packets : List (Packet T O)) (before after : CoderTold T) : Type 0 where
  pub taken : List (Told T)
  pub calls : Grew before.calls after.calls taken
  pub handed : map (λ one. one.handed) taken ≡ jobs
  pub bytes : map (λ one. one.gave.bytes) taken ≡ map (λ entry. entry.bytes) entries
  pub recs : map (λ packet. option_map (λ rec. rec.value) packet.rec) packets ≡ map (λ one. one.gave.rec) (shown_ones taken)
  pub stats : map (λ packet. packet.enc_stats) packets ≡ map (λ one. one.gave.stats) (shown_ones taken)
  -- what it gave is what it told ahead, if it does
  pub ahead : AreAhead before taken
  pub gives : after.gives ≡ before.gives
