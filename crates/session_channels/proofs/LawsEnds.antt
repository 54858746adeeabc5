-- How a course ends: the queues are closed, behind the fault if there is one.
use Rattle.std.proofs.Common.{◌≡◌, ◌⊎◌, inl, inr, ◌<◌, Bool, true, List, [], ◌∷◌, ◌++◌, map, Option, Result, Ok, Err, IfErr, OnOk, sym, ap, ◌∙◌, subst, append-nil}
use Rattle.coding_base.specs.Faults.{Rose}
use Rattle.coding_base.proofs.FaultLemmas.{rose-after}
use Rattle.pass_data.specs.declared.rc_data.RcData.{RcData}
use Rattle.session_core.specs.declared.packet.Packet.{Packet}
use Rattle.session_core.specs.Contexts.{Session}
use Rattle.session_channels.specs.declared.counts.Counts.{Counts}
use Rattle.session_channels.specs.declared.fault.ChannelFault.{ChannelFault}
use Rattle.session_channels.specs.declared.fault.ChannelFault.TheVariants.{Coder, FrameRefused, PassData, PassDataMissing, PassDataKind, PassDataEnded, PacketsClosed, OutOfMemory}
use Rattle.session_channels.specs.Acts.{Done, Ears, Empty, Point, data_in}
use Rattle.session_channels.specs.Courses.{IsPutFault, PutsAll, PutsPackets, SaidClosed, SaidNoMemory, Stopped, TakesAll, Turns, Went}
use Rattle.session_channels.specs.Drives.{AreHandedOn, EndsBy, EndsByFault, Faulted, Finished, HasCoderRisen, IsNew, PutsAndCloses}
use Rattle.session_channels.specs.Ends.{FrameMessage}
use Rattle.session_channels.specs.Queues.{IsClosing, IsTurn, NoneFell, Queue, next_count}
use Rattle.session_channels.proofs.Joins.{Widens, closed-after, closed-then, puts-join, stopped-wider, went-wider}
use Rattle.session_channels.proofs.LawsActs.{acts-faults}
use Rattle.session_channels.proofs.LawsBegun.{new-accepted, new-commands, new-emitted, new-packets, new-well}
use Rattle.session_channels.proofs.LawsCourse.{course-ends}
use Rattle.session_channels.proofs.LawsHanded.{course-handed-on}

-- ---- queues that are closed

module _ {Q M : Type 0} (contents : Q → Option (List M)) (queue : Q → Queue) where
  pub puts-close : (a b c : Q) (xs : List M) → contents c ≡ contents b → IsClosing (queue b) (queue c) → PutsAll contents queue a b xs → PutsAndCloses contents queue a c xs
  puts-close a b c xs kept closing puts = record {
    put = kept ∙ puts.put;
    capacity = closing.capacity ∙ puts.turn.capacity;
    later = subst (λ (n : Counts). NoneFell (queue a).counts n) (sym closing.counts) puts.turn.later;
    closed_once = closing.closes ∙ ap next_count puts.turn.closes;
    counts_at_close = closing.at_close ∙ sym closing.counts;
  }

-- a closing changes no count
pub closed-close : (a b c : Queue) → IsClosing b c → SaidClosed a b → SaidClosed a c
closed-close a b c closing closed = subst (λ (n : Counts). Rose a.counts.closed n.closed) (sym closing.counts) closed

no_memory-close : (a b c : Queue) → IsClosing b c → SaidNoMemory a b → SaidNoMemory a c
no_memory-close a b c closing none = subst (λ (n : Counts). Rose a.counts.out_of_memory n.out_of_memory) (sym closing.counts) none

no_memory-after : (a b c : Queue) → IsTurn a b → SaidNoMemory b c → SaidNoMemory a c
no_memory-after a b c turn none = rose-after a.counts.out_of_memory b.counts.out_of_memory c.counts.out_of_memory turn.later.out_of_memory none

-- ---- the queue of packets

module _ {Q P : Type 0} (contents : Q → Option (List (Result P ChannelFault))) (queue : Q → Queue) where
  -- what `put` says of a message and its answer
  abbrev pub WasPut : Q → Q → Result P ChannelFault → Result (Unit {0}) ChannelFault → Type 0
  WasPut before now message answer =
      OnOk answer (PutsAll contents queue before now (message ∷ []))
      × IfErr answer (λ fault. PutsAll contents queue before now [] × IsPutFault (queue before) (queue now) fault)

  -- the fault is the last message, or wasn't put
  pub ends-by_fault : (a b c d : Q) (fault : ChannelFault) (answer : Result (Unit {0}) ChannelFault) (xs : List P) → WasPut b c (Err fault) answer →
      contents d ≡ contents c → IsClosing (queue c) (queue d) → PutsPackets contents queue a b xs → EndsByFault contents queue fault a d xs
  ends-by_fault a b c d fault (Ok done) xs was kept closing puts =
      inl (puts-close contents queue a c d (map Ok xs ++ Err fault ∷ []) kept closing (puts-join contents queue a b c (map Ok xs) (Err fault ∷ []) puts was.0))
  ends-by_fault a b c d fault (Err refusal) xs was kept closing puts =
      let both : PutsAll contents queue a c (map Ok xs) =
      subst (λ (l : List (Result P ChannelFault)). PutsAll contents queue a c l) (append-nil (map Ok xs)) (puts-join contents queue a b c (map Ok xs) [] puts was.1.0) in
      inr (puts-close contents queue a c d (map Ok xs) kept closing both, by_refusal refusal was.1.1)
    where
      by_refusal : (f : ChannelFault) → IsPutFault (queue b) (queue c) f → SaidClosed (queue a) (queue d) ⊎ SaidNoMemory (queue a) (queue d)
      by_refusal PacketsClosed closed =
          inl (closed-close (queue a) (queue c) (queue d) closing (closed-after (queue a) (queue b) (queue c) puts.turn closed))
      by_refusal OutOfMemory none =
          inr (no_memory-close (queue a) (queue c) (queue d) closing (no_memory-after (queue a) (queue b) (queue c) puts.turn none))
      by_refusal (Coder command) is = absurd is
      by_refusal (FrameRefused status) is = absurd is
      by_refusal (PassData refusal) is = absurd is
      by_refusal PassDataMissing is = absurd is
      by_refusal PassDataKind is = absurd is
      by_refusal (PassDataEnded total) is = absurd is

  pub put-turn : (b c : Q) (message : Result P ChannelFault) (answer : Result (Unit {0}) ChannelFault) → WasPut b c message answer → IsTurn (queue b) (queue c)
  put-turn b c message (Ok done) was = was.0.turn
  put-turn b c message (Err refusal) was = was.1.0.turn

-- ---- the coder's count

module _ {T O D S C : Type 0} (ears : Ears T D S C) (handing : Bool) where
  pub risen : (turns : Turns T O) (before : Point T O D S C) (now : Session T O D S C) (fault : ChannelFault) →
      Stopped ears handing turns before now fault → HasCoderRisen ears before.session now fault
  risen turns before now (Coder command) stopped =
      rose-after (ears.coder before.session.coder).faults (ears.coder stopped.last.session.coder).faults (ears.coder now.coder).faults
      (acts-faults ears handing stopped.acts before stopped.last stopped.run) stopped.cause.1.rose
  risen turns before now (FrameRefused status) stopped = tt
  risen turns before now (PassData refusal) stopped = tt
  risen turns before now PassDataMissing stopped = tt
  risen turns before now PassDataKind stopped = tt
  risen turns before now (PassDataEnded total) stopped = tt
  risen turns before now PacketsClosed stopped = tt
  risen turns before now OutOfMemory stopped = tt

  -- ---- the whole

  pub finishes : (turns whole : Turns T O) (ended : Type 0) (before after : Session T O D S C) → Widens turns whole → before.moment.accepted ≡ 0 → before.moment.packets ≡ 0 →
      (handed_on : (went : Went ears handing whole (record { hand = Empty; session = before }) (record { hand = Done; session = after })) →
      handing ≡ true → after.moment.commands < 2147483647 → AreHandedOn after.moment.commands (data_in went.acts)) →
      ended → Went ears handing turns (record { hand = Empty; session = before }) (record { hand = Done; session = after }) →
      Finished ears handing whole ended before after
  finishes turns whole ended before after widens none given handed_on is went =
      let wide : Went ears handing whole (record { hand = Empty; session = before }) (record { hand = Done; session = after }) =
      went-wider ears handing turns whole widens (record { hand = Empty; session = before }) (record { hand = Done; session = after }) went in
      let ends = course-ends ears handing wide.acts before after none given wide.run in
      record {
        went = wide;
        frames_ended = is;
        flushed = ends.0;
        packet_each = ends.1;
        handed_on = handed_on wide;
      }

  pub faults : (turns whole : Turns T O) (before now : Session T O D S C) (fault : ChannelFault) → Widens turns whole →
      Stopped ears handing turns (record { hand = Empty; session = before }) now fault → Faulted ears handing whole before now fault
  faults turns whole before now fault widens stopped = record {
    stopped = stopped-wider ears handing turns whole widens (record { hand = Empty; session = before }) now fault stopped;
    risen = risen turns (record { hand = Empty; session = before }) now fault stopped;
  }

-- ---- the course between its four queues

module _ {T O D S C F P I U : Type 0} (ears : Ears T D S C) (handing : Bool) (frame_contents : F → Option (List (FrameMessage T O))) (frame_queue : F → Queue)
    (packet_contents : P → Option (List (Result (Packet T O) ChannelFault))) (packet_queue : P → Queue) (in_contents : I → Option (List RcData)) (in_queue : I → Queue)
    (out_contents : U → Option (List RcData)) (out_queue : U → Queue) (frames frames_now : F) (packets packets_now : P) (pass_in pass_in_now : I) (pass_out pass_out_now : U)
    (before after : Session T O D S C) where
  -- before the queues are closed
  abbrev pub open_turns : Turns T O
  open_turns = record {
    frames = TakesAll frame_contents frame_queue frames frames_now;
    packets = PutsPackets packet_contents packet_queue packets packets_now;
    metrics = TakesAll in_contents in_queue pass_in pass_in_now;
    handed = PutsAll out_contents out_queue pass_out pass_out_now;
    missing = SaidClosed (in_queue pass_in) (in_queue pass_in_now);
    severed = SaidClosed (packet_queue packets) (packet_queue packets_now) ⊎ SaidClosed (out_queue pass_out) (out_queue pass_out_now);
  }

  -- and behind
  abbrev pub closed_turns : (List (Packet T O) → Type 0) → P → U → Turns T O
  closed_turns ends packets_then pass_out_then = record {
    frames = TakesAll frame_contents frame_queue frames frames_now;
    packets = ends;
    metrics = TakesAll in_contents in_queue pass_in pass_in_now;
    handed = PutsAndCloses out_contents out_queue pass_out pass_out_then;
    missing = SaidClosed (in_queue pass_in) (in_queue pass_in_now);
    severed = SaidClosed (packet_queue packets) (packet_queue packets_then) ⊎ SaidClosed (out_queue pass_out) (out_queue pass_out_then);
  }

  either-severed : {A B X Y : Type 0} → (A → X) → (B → Y) → A ⊎ B → X ⊎ Y
  either-severed f g (inl a) = inl (f a)
  either-severed f g (inr b) = inr (g b)

  pub run-finishes : (second : Bool) → IsNew before second handing → (packets_then : P) (pass_out_then : U) →
      packet_contents packets_then ≡ packet_contents packets_now → IsClosing (packet_queue packets_now) (packet_queue packets_then) →
      out_contents pass_out_then ≡ out_contents pass_out_now → IsClosing (out_queue pass_out_now) (out_queue pass_out_then) →
      SaidClosed (frame_queue frames) (frame_queue frames_now) →
      Went ears handing open_turns (record { hand = Empty; session = before }) (record { hand = Done; session = after }) →
      Finished ears handing (closed_turns (EndsBy packet_contents packet_queue packets packets_then) packets_then pass_out_then)
      (SaidClosed (frame_queue frames) (frame_queue frames_now)) before after
  run-finishes second new packets_then pass_out_then kept closing out_kept out_closing ended went =
      finishes ears handing open_turns (closed_turns (EndsBy packet_contents packet_queue packets packets_then) packets_then pass_out_then)
      (SaidClosed (frame_queue frames) (frame_queue frames_now)) before after
      (record {
        frames = λ xs is. is;
        packets = λ xs is. puts-close packet_contents packet_queue packets packets_now packets_then (map Ok xs) kept closing is;
        metrics = λ xs is. is;
        handed = λ xs is. puts-close out_contents out_queue pass_out pass_out_now pass_out_then xs out_kept out_closing is;
        missing = λ is. is;
        severed = either-severed (closed-close (packet_queue packets) (packet_queue packets_now) (packet_queue packets_then) closing)
            (closed-close (out_queue pass_out) (out_queue pass_out_now) (out_queue pass_out_then) out_closing);
      })
      (new-accepted before second handing new) (new-packets before second handing new)
      (λ wide. course-handed-on ears handing wide.acts before after (new-well before second handing new) (new-commands before second handing new) (new-emitted before second handing new) wide.run)
      ended went

  pub run-faults : (fault : ChannelFault) (answer : Result (Unit {0}) ChannelFault) (packets_put packets_then : P) (pass_out_then : U) →
      WasPut packet_contents packet_queue packets_now packets_put (Err fault) answer →
      packet_contents packets_then ≡ packet_contents packets_put → IsClosing (packet_queue packets_put) (packet_queue packets_then) →
      out_contents pass_out_then ≡ out_contents pass_out_now → IsClosing (out_queue pass_out_now) (out_queue pass_out_then) →
      Stopped ears handing open_turns (record { hand = Empty; session = before }) after fault →
      Faulted ears handing (closed_turns (EndsByFault packet_contents packet_queue fault packets packets_then) packets_then pass_out_then) before after fault
  run-faults fault answer packets_put packets_then pass_out_then was kept closing out_kept out_closing stopped =
      let turn = put-turn packet_contents packet_queue packets_now packets_put (Err fault) answer was in
      faults ears handing open_turns (closed_turns (EndsByFault packet_contents packet_queue fault packets packets_then) packets_then pass_out_then) before after fault
      (record {
        frames = λ xs is. is;
        packets = λ xs is. ends-by_fault packet_contents packet_queue packets packets_now packets_put packets_then fault answer xs was kept closing is;
        metrics = λ xs is. is;
        handed = λ xs is. puts-close out_contents out_queue pass_out pass_out_now pass_out_then xs out_kept out_closing is;
        missing = λ is. is;
        severed = either-severed
            (λ is. closed-close (packet_queue packets) (packet_queue packets_put) (packet_queue packets_then) closing
            (closed-then (packet_queue packets) (packet_queue packets_now) (packet_queue packets_put) is turn))
            (closed-close (out_queue pass_out) (out_queue pass_out_now) (out_queue pass_out_then) out_closing);
      })
      stopped
