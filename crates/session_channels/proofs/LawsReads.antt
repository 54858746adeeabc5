-- The course of a worker to which a queue of pass data isn't given, read from that over a queue that stands in its place.
use Rattle.std.proofs.Common.{◌≡◌, Bool, true, false, List, [], ◌++◌, Result, Ok, Err, ap, ◌∙◌}
use Rattle.pass_data.specs.declared.rc_data.RcData.{RcData}
use Rattle.session_core.specs.declared.packet.Packet.{Packet}
use Rattle.session_core.specs.Contexts.{Session}
use Rattle.session_channels.specs.declared.fault.ChannelFault.{ChannelFault}
use Rattle.session_channels.specs.declared.fault.ChannelFault.TheVariants.{Coder, FrameRefused, PassData, PassDataMissing, PassDataKind, PassDataEnded, PacketsClosed, OutOfMemory}
use Rattle.session_channels.specs.Acts.{Act, AreActs, Done, Ears, Empty, Point, data_in, frames_in, metrics_in, packets_in}
use Rattle.session_channels.specs.Courses.{IsCause, Stopped, Turns, Went}
use Rattle.session_channels.specs.Drives.{Drives}
use Rattle.session_channels.specs.Ends.{FrameMessage}
use Rattle.session_channels.proofs.LawsActs.{acts-second}
use Rattle.session_channels.proofs.LawsCourse.{acts-free, acts-unfed, never-feeds}

-- what holds of one kind of turns holds of another, in a session with a summary or without, where pass data is handed on or not
pub record Reads {T O : Type 0} (second handing : Bool) (one two : Turns T O) : Type 0 where
  pub frames : (xs : List (FrameMessage T O)) → one.frames xs → two.frames xs
  pub packets : (xs : List (Packet T O)) → one.packets xs → two.packets xs
  pub metrics : (xs : List RcData) → (second ≡ false → xs ≡ []) → one.metrics xs → two.metrics xs
  pub handed : (xs : List RcData) → (handing ≡ false → xs ≡ []) → one.handed xs → two.handed xs
  pub missing : (second ≡ false → ⊥) → one.missing → two.missing
  pub severed : one.severed → two.severed

module _ {T O D S C : Type 0} (ears : Ears T D S C) (second : Bool) where
  never-taken : (missing severed : Type 0) (last : Point T O D S C) (now : Session T O D S C) (taken : List RcData) (fault : ChannelFault) →
      last.session.passes.second ≡ false → IsCause ears missing severed last now taken fault → taken ≡ []
  never-taken missing severed last now taken (Coder command) off cause = cause.0
  never-taken missing severed last now taken (FrameRefused status) off cause = cause.0
  never-taken missing severed last now taken (PassData refusal) off cause = absurd (never-feeds last off cause.due)
  never-taken missing severed last now taken PassDataKind off cause = absurd (never-feeds last off cause.due)
  never-taken missing severed last now taken PassDataMissing off cause = cause.0
  never-taken missing severed last now taken (PassDataEnded total) off cause = cause.0
  never-taken missing severed last now taken PacketsClosed off cause = cause.0
  never-taken missing severed last now taken OutOfMemory off cause = cause

  cause-reads : (missing severed wider_missing wider_severed : Type 0) (last : Point T O D S C) (now : Session T O D S C) (taken : List RcData) (fault : ChannelFault) →
      last.session.passes.second ≡ second → ((second ≡ false → ⊥) → missing → wider_missing) → (severed → wider_severed) →
      IsCause ears missing severed last now taken fault → IsCause ears wider_missing wider_severed last now taken fault
  cause-reads missing severed wider_missing wider_severed last now taken (Coder command) is misses severs cause = cause
  cause-reads missing severed wider_missing wider_severed last now taken (FrameRefused status) is misses severs cause = cause
  cause-reads missing severed wider_missing wider_severed last now taken (PassData refusal) is misses severs cause = cause
  cause-reads missing severed wider_missing wider_severed last now taken PassDataKind is misses severs cause = cause
  cause-reads missing severed wider_missing wider_severed last now taken PassDataMissing is misses severs cause =
      (cause.0, record { due = cause.1.due; closed = misses (λ off. never-feeds last (is ∙ off) cause.1.due) cause.1.closed; same = cause.1.same })
  cause-reads missing severed wider_missing wider_severed last now taken (PassDataEnded total) is misses severs cause = cause
  cause-reads missing severed wider_missing wider_severed last now taken PacketsClosed is misses severs cause =
      (cause.0, record { closed = severs cause.1.closed; due = cause.1.due })
  cause-reads missing severed wider_missing wider_severed last now taken OutOfMemory is misses severs cause = cause

module _ {T O D S C : Type 0} (ears : Ears T D S C) (second handing : Bool) (one two : Turns T O) (reads : Reads second handing one two) (before : Session T O D S C)
    (is : before.passes.second ≡ second) where
  abbrev begin : Point T O D S C
  begin = record { hand = Empty; session = before }

  never-handed : (handing_is : Bool) (acts : List (Act T O)) (b : Point T O D S C) → AreActs ears handing_is acts begin b → handing_is ≡ false → data_in acts ≡ []
  never-handed true acts b run off = absurd (cc)
  never-handed false acts b run off = acts-free ears acts begin b tt run

  never-fed : (acts : List (Act T O)) (b : Point T O D S C) → AreActs ears handing acts begin b → second ≡ false → metrics_in acts ≡ []
  never-fed acts b run off = acts-unfed ears handing acts begin b (is ∙ off) run

  went-reads : (b : Point T O D S C) → Went ears handing one begin b → Went ears handing two begin b
  went-reads b went = record {
    acts = went.acts;
    run = went.run;
    frames = reads.frames (frames_in went.acts) went.frames;
    packets = reads.packets (packets_in went.acts) went.packets;
    metrics = reads.metrics (metrics_in went.acts) (never-fed went.acts b went.run) went.metrics;
    handed = reads.handed (data_in went.acts) (never-handed handing went.acts b went.run) went.handed;
  }

  none-both : (xs ys : List RcData) → xs ≡ [] → ys ≡ [] → xs ++ ys ≡ []
  none-both xs ys first rest = ap (λ (l : List RcData). l ++ ys) first ∙ rest

  stopped-reads : (ends_by : List (Packet T O) → Type 0) (now : Session T O D S C) (fault : ChannelFault) →
      Stopped ears handing (record one { packets = ends_by }) begin now fault → Stopped ears handing (record two { packets = ends_by }) begin now fault
  stopped-reads ends_by now fault stopped =
      let at : stopped.last.session.passes.second ≡ second = acts-second ears handing stopped.acts begin stopped.last stopped.run ∙ is in
      record {
        acts = stopped.acts;
        last = stopped.last;
        run = stopped.run;
        taken = stopped.taken;
        cause = cause-reads ears second one.missing one.severed two.missing two.severed stopped.last now stopped.taken fault at reads.missing reads.severed stopped.cause;
        frames = reads.frames (frames_in stopped.acts) stopped.frames;
        packets = stopped.packets;
        metrics = reads.metrics (metrics_in stopped.acts ++ stopped.taken)
            (λ off. none-both (metrics_in stopped.acts) stopped.taken (never-fed stopped.acts stopped.last stopped.run off)
            (never-taken ears second one.missing one.severed stopped.last now stopped.taken fault (at ∙ off) stopped.cause)) stopped.metrics;
        handed = reads.handed (data_in stopped.acts) (never-handed handing stopped.acts stopped.last stopped.run) stopped.handed;
      }

  pub drives-reads : {A : Type 0} (ends_by : ChannelFault → List (Packet T O) → Type 0) (ended : Type 0) (after : Session T O D S C) (result : Result A ChannelFault) →
      Drives ears handing one ends_by ended before after result → Drives ears handing two ends_by ended before after result
  unfolding went-reads
  drives-reads ends_by ended after (Ok done) finished = record {
    went = went-reads (record { hand = Done; session = after }) finished.went;
    frames_ended = finished.frames_ended;
    flushed = finished.flushed;
    packet_each = finished.packet_each;
    handed_on = finished.handed_on;
  }
  drives-reads ends_by ended after (Err fault) faulted = record {
    stopped = stopped-reads (ends_by fault) after fault faulted.stopped;
    risen = faulted.risen;
  }
