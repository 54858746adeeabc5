-- Stretches of a course, one behind another.
use Rattle.std.proofs.Common.{◌≡◌, Bool, List, [], ◌∷◌, ◌++◌, map, Option, Some, None, Result, Ok, refl, sym, ap, ◌∙◌, subst, append-nil, append_assoc, arith}
use Rattle.std.specs.Option.{option_map}
use Rattle.std.proofs.lemmas.List.{map-append}
use Rattle.std.proofs.lemmas.List.Concat.{flat_map-append}
use Rattle.coding_base.proofs.FaultLemmas.{rose-after, rose-then}
use Rattle.pass_data.specs.declared.rc_data.RcData.{RcData}
use Rattle.session_core.specs.declared.packet.Packet.{Packet}
use Rattle.session_core.specs.Contexts.{Session}
use Rattle.session_channels.specs.declared.counts.Counts.{Counts}
use Rattle.session_channels.specs.declared.fault.ChannelFault.{ChannelFault}
use Rattle.session_channels.specs.declared.fault.ChannelFault.TheVariants.{Coder, FrameRefused, PassData, PassDataMissing, PassDataKind, PassDataEnded, PacketsClosed, OutOfMemory}
use Rattle.session_channels.specs.Acts.{Act, AreActs, Ears, IsAct, Point, data_handed, data_in, frame_taken, frames_in, metrics_in, metrics_taken, packet_given, packets_in}
use Rattle.session_channels.specs.Courses.{IsCause, IsNothing, PutsAll, PutsPackets, SaidClosed, Stopped, TakesAll, Turns, Went}
use Rattle.session_channels.specs.Ends.{FrameMessage}
use Rattle.session_channels.specs.Queues.{IsTurn, NoneFell, Queue}

-- ---- turns of one queue

pub fell-none : (a : Counts) → NoneFell a a
fell-none a = record { full = omega arith; empty = omega arith; closed = omega arith; out_of_memory = omega arith }

pub fell-join : (a b c : Counts) → NoneFell a b → NoneFell b c → NoneFell a c
fell-join a b c one two = record {
  full = let h = one.full in let g = two.full in omega arith;
  empty = let h = one.empty in let g = two.empty in omega arith;
  closed = let h = one.closed in let g = two.closed in omega arith;
  out_of_memory = let h = one.out_of_memory in let g = two.out_of_memory in omega arith;
}

pub turn-none : (queue : Queue) → IsTurn queue queue
turn-none queue = record { capacity = refl; later = fell-none queue.counts; closes = refl; at_close = refl }

pub turn-join : (a b c : Queue) → IsTurn a b → IsTurn b c → IsTurn a c
turn-join a b c one two = record {
  capacity = two.capacity ∙ one.capacity;
  later = fell-join a.counts b.counts c.counts one.later two.later;
  closes = two.closes ∙ one.closes;
  at_close = two.at_close ∙ one.at_close;
}

-- a count of closed answers that rose in one stretch rose in both
pub closed-then : (a b c : Queue) → SaidClosed a b → IsTurn b c → SaidClosed a c
closed-then a b c closed turn = rose-then a.counts.closed b.counts.closed c.counts.closed closed turn.later.closed

pub closed-after : (a b c : Queue) → IsTurn a b → SaidClosed b c → SaidClosed a c
closed-after a b c turn closed = rose-after a.counts.closed b.counts.closed c.counts.closed turn.later.closed closed

-- ---- what is put and taken

module _ {Q M : Type 0} (contents : Q → Option (List M)) (queue : Q → Queue) where
  put-none : (held : Option (List M)) → held ≡ option_map (λ l. l ++ []) held
  put-none None = refl
  put-none (Some l) = ap Some (sym (append-nil l))

  put-both : (held : Option (List M)) (xs ys : List M) → option_map (λ l. l ++ ys) (option_map (λ l. l ++ xs) held) ≡ option_map (λ l. l ++ (xs ++ ys)) held
  put-both None xs ys = refl
  put-both (Some l) xs ys = ap Some (append_assoc l xs ys)

  take-none : (held : Option (List M)) → held ≡ option_map (λ l. [] ++ l) held
  take-none None = refl
  take-none (Some l) = refl

  take-both : (held : Option (List M)) (xs ys : List M) → option_map (λ l. xs ++ l) (option_map (λ l. ys ++ l) held) ≡ option_map (λ l. (xs ++ ys) ++ l) held
  take-both None xs ys = refl
  take-both (Some l) xs ys = ap Some (sym (append_assoc xs ys l))

  pub puts-none : (at : Q) → PutsAll contents queue at at []
  puts-none at = record { put = put-none (contents at); turn = turn-none (queue at) }

  pub puts-join : (a b c : Q) (xs ys : List M) → PutsAll contents queue a b xs → PutsAll contents queue b c ys → PutsAll contents queue a c (xs ++ ys)
  puts-join a b c xs ys one two = record {
    put = two.put ∙ ap (λ (held : Option (List M)). option_map (λ l. l ++ ys) held) one.put ∙ put-both (contents a) xs ys;
    turn = turn-join (queue a) (queue b) (queue c) one.turn two.turn;
  }

  pub takes-none : (at : Q) → TakesAll contents queue at at []
  takes-none at = record { taken = take-none (contents at); turn = turn-none (queue at) }

  pub takes-join : (a b c : Q) (xs ys : List M) → TakesAll contents queue a b xs → TakesAll contents queue b c ys → TakesAll contents queue a c (xs ++ ys)
  takes-join a b c xs ys one two = record {
    taken = one.taken ∙ ap (λ (held : Option (List M)). option_map (λ l. xs ++ l) held) two.taken ∙ take-both (contents c) xs ys;
    turn = turn-join (queue a) (queue b) (queue c) one.turn two.turn;
  }

module _ {Q P : Type 0} (contents : Q → Option (List (Result P ChannelFault))) (queue : Q → Queue) where
  pub packets-none : (at : Q) → PutsPackets contents queue at at []
  packets-none at = puts-none contents queue at

  pub packets-join : (a b c : Q) (xs ys : List P) → PutsPackets contents queue a b xs → PutsPackets contents queue b c ys → PutsPackets contents queue a c (xs ++ ys)
  packets-join a b c xs ys one two =
      subst (λ (l : List (Result P ChannelFault)). PutsAll contents queue a c l) (sym (map-append Ok xs ys))
      (puts-join contents queue a b c (map Ok xs) (map Ok ys) one two)

-- nothing is what a queue has had that stayed as it was
pub nothing-puts : {Q M : Type 0} (contents : Q → Option (List M)) (queue : Q → Queue) (at : Q) (xs : List M) → IsNothing xs → PutsAll contents queue at at xs
nothing-puts {Q} {M} contents queue at xs none = subst (λ (l : List M). PutsAll contents queue at at l) (sym none) (puts-none contents queue at)

pub nothing-takes : {Q M : Type 0} (contents : Q → Option (List M)) (queue : Q → Queue) (at : Q) (xs : List M) → IsNothing xs → TakesAll contents queue at at xs
nothing-takes {Q} {M} contents queue at xs none = subst (λ (l : List M). TakesAll contents queue at at l) (sym none) (takes-none contents queue at)

pub nothing-packets : {Q P : Type 0} (contents : Q → Option (List (Result P ChannelFault))) (queue : Q → Queue) (at : Q) (xs : List P) → IsNothing xs → PutsPackets contents queue at at xs
nothing-packets {Q} {P} contents queue at xs none = subst (λ (l : List P). PutsPackets contents queue at at l) (sym none) (packets-none contents queue at)

pub nothing-join : {M : Type 0} (xs ys : List M) → IsNothing xs → IsNothing ys → IsNothing (xs ++ ys)
nothing-join {M} xs ys one two = ap (λ (l : List M). l ++ ys) one ∙ two

-- ---- acts

module _ {T O D S C : Type 0} (ears : Ears T D S C) (handing : Bool) where
  pub acts-join : (xs ys : List (Act T O)) (a b c : Point T O D S C) → AreActs ears handing xs a b → AreActs ears handing ys b c → AreActs ears handing (xs ++ ys) a c
  acts-join [] ys a b c one two = subst (λ (p : Point T O D S C). AreActs ears handing ys p c) one two
  acts-join (x ∷ xs) ys a b c (next, act, one) two = (next, act, acts-join xs ys next b c one two)

  -- one act alone
  pub acts-one : (act : Act T O) (a b : Point T O D S C) → IsAct ears handing act a b → AreActs ears handing (act ∷ []) a b
  acts-one act a b is = (b, is, refl)

-- ---- stretches

-- what holds of two stretches, one behind the other, holds of both
pub record Compose {T O : Type 0} (one two both : Turns T O) : Type 0 where
  pub frames : (xs ys : List (FrameMessage T O)) → one.frames xs → two.frames ys → both.frames (xs ++ ys)
  pub packets : (xs ys : List (Packet T O)) → one.packets xs → two.packets ys → both.packets (xs ++ ys)
  pub metrics : (xs ys : List RcData) → one.metrics xs → two.metrics ys → both.metrics (xs ++ ys)
  pub handed : (xs ys : List RcData) → one.handed xs → two.handed ys → both.handed (xs ++ ys)
  pub missing : two.missing → both.missing
  pub severed : two.severed → both.severed

-- what holds of the first alone, where it ends early
pub record Widens {T O : Type 0} (one both : Turns T O) : Type 0 where
  pub frames : (xs : List (FrameMessage T O)) → one.frames xs → both.frames xs
  pub packets : (xs : List (Packet T O)) → one.packets xs → both.packets xs
  pub metrics : (xs : List RcData) → one.metrics xs → both.metrics xs
  pub handed : (xs : List RcData) → one.handed xs → both.handed xs
  pub missing : one.missing → both.missing
  pub severed : one.severed → both.severed

module _ {T O D S C : Type 0} (ears : Ears T D S C) (handing : Bool) where
  pub went-none : (turns : Turns T O) (at : Point T O D S C) → turns.frames [] → turns.packets [] → turns.metrics [] → turns.handed [] → Went ears handing turns at at
  went-none turns at frames packets metrics handed =
      record { acts = []; run = refl; frames = frames; packets = packets; metrics = metrics; handed = handed }

  pub went-wider : (one both : Turns T O) → Widens one both → (a b : Point T O D S C) → Went ears handing one a b → Went ears handing both a b
  went-wider one both widens a b went = record {
    acts = went.acts;
    run = went.run;
    frames = widens.frames (frames_in went.acts) went.frames;
    packets = widens.packets (packets_in went.acts) went.packets;
    metrics = widens.metrics (metrics_in went.acts) went.metrics;
    handed = widens.handed (data_in went.acts) went.handed;
  }

  cause-wider : (missing severed wider_missing wider_severed : Type 0) → (missing → wider_missing) → (severed → wider_severed) →
      (last : Point T O D S C) (now : Session T O D S C) (taken : List RcData) (fault : ChannelFault) →
      IsCause ears missing severed last now taken fault → IsCause ears wider_missing wider_severed last now taken fault
  cause-wider missing severed wider_missing wider_severed misses severs last now taken (Coder command) cause = cause
  cause-wider missing severed wider_missing wider_severed misses severs last now taken (FrameRefused status) cause = cause
  cause-wider missing severed wider_missing wider_severed misses severs last now taken (PassData refusal) cause = cause
  cause-wider missing severed wider_missing wider_severed misses severs last now taken PassDataKind cause = cause
  cause-wider missing severed wider_missing wider_severed misses severs last now taken PassDataMissing cause =
      (cause.0, record { due = cause.1.due; closed = misses cause.1.closed; same = cause.1.same })
  cause-wider missing severed wider_missing wider_severed misses severs last now taken (PassDataEnded total) cause = cause
  cause-wider missing severed wider_missing wider_severed misses severs last now taken PacketsClosed cause =
      (cause.0, record { closed = severs cause.1.closed; due = cause.1.due })
  cause-wider missing severed wider_missing wider_severed misses severs last now taken OutOfMemory cause = cause

  pub stopped-wider : (one both : Turns T O) → Widens one both → (a : Point T O D S C) (now : Session T O D S C) (fault : ChannelFault) →
      Stopped ears handing one a now fault → Stopped ears handing both a now fault
  stopped-wider one both widens a now fault stopped = record {
    acts = stopped.acts;
    last = stopped.last;
    run = stopped.run;
    taken = stopped.taken;
    cause = cause-wider one.missing one.severed both.missing both.severed widens.missing widens.severed stopped.last now stopped.taken fault stopped.cause;
    frames = widens.frames (frames_in stopped.acts) stopped.frames;
    packets = widens.packets (packets_in stopped.acts) stopped.packets;
    metrics = widens.metrics (metrics_in stopped.acts ++ stopped.taken) stopped.metrics;
    handed = widens.handed (data_in stopped.acts) stopped.handed;
  }

  pub went-join : (one two both : Turns T O) → Compose one two both → (a b c : Point T O D S C) →
      Went ears handing one a b → Went ears handing two b c → Went ears handing both a c
  went-join one two both compose a b c first second =
      let xs = first.acts in
      let ys = second.acts in
      record {
        acts = xs ++ ys;
        run = acts-join ears handing xs ys a b c first.run second.run;
        frames = subst both.frames (sym (flat_map-append frame_taken xs ys)) (compose.frames (frames_in xs) (frames_in ys) first.frames second.frames);
        packets = subst both.packets (sym (flat_map-append packet_given xs ys)) (compose.packets (packets_in xs) (packets_in ys) first.packets second.packets);
        metrics = subst both.metrics (sym (flat_map-append metrics_taken xs ys)) (compose.metrics (metrics_in xs) (metrics_in ys) first.metrics second.metrics);
        handed = subst both.handed (sym (flat_map-append data_handed xs ys)) (compose.handed (data_in xs) (data_in ys) first.handed second.handed);
      }

  pub stopped-join : (one two both : Turns T O) → Compose one two both → (a b : Point T O D S C) (now : Session T O D S C) (fault : ChannelFault) →
      Went ears handing one a b → Stopped ears handing two b now fault → Stopped ears handing both a now fault
  stopped-join one two both compose a b now fault first second =
      let xs = first.acts in
      let ys = second.acts in
      record {
        acts = xs ++ ys;
        last = second.last;
        run = acts-join ears handing xs ys a b second.last first.run second.run;
        taken = second.taken;
        cause = cause-wider two.missing two.severed both.missing both.severed compose.missing compose.severed second.last now second.taken fault second.cause;
        frames = subst both.frames (sym (flat_map-append frame_taken xs ys)) (compose.frames (frames_in xs) (frames_in ys) first.frames second.frames);
        packets = subst both.packets (sym (flat_map-append packet_given xs ys)) (compose.packets (packets_in xs) (packets_in ys) first.packets second.packets);
        metrics = subst both.metrics
            (sym (ap (λ (l : List RcData). l ++ second.taken) (flat_map-append metrics_taken xs ys) ∙ append_assoc (metrics_in xs) (metrics_in ys) second.taken))
            (compose.metrics (metrics_in xs) (metrics_in ys ++ second.taken) first.metrics second.metrics);
        handed = subst both.handed (sym (flat_map-append data_handed xs ys)) (compose.handed (data_in xs) (data_in ys) first.handed second.handed);
      }
