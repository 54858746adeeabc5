-- Many puts and takes, one after the other.
use Rattle.std.proofs.Common.{◌≡◌, ℕ, List, [], ◌∷◌, ◌++◌, map, Option, Some, None, Result, Ok, Err, refl, sym, ap, ◌∙◌, subst, inl, inr, append_assoc, append-nil, arith}
use Rattle.std.specs.Prelude.{⊤, Bool, true, false, MatchBool}
use Rattle.std.specs.Option.{option_map}
use Rattle.std.proofs.lemmas.List.{map-append}
use Rattle.coding_base.proofs.FaultLemmas.{rose-after, rose-then}
use Rattle.session_core.specs.declared.packet.Packet.{Packet}
use Rattle.session_channels.specs.declared.counts.Counts.{Counts}
use Rattle.session_channels.specs.declared.fault.ChannelFault.{ChannelFault}
use Rattle.session_channels.specs.Queues.{Closes, IsClosing, IsTurn, NoneFell, Queue, next_count}
use Rattle.gop_channel.specs.declared.gop_end.GopEnd.{GopEnd}
use Rattle.gop_channel.specs.Driving.{PutsEnd}
use Rattle.gop_channel.specs.Messages.{EndsByFault, PutsAll, PutsAndCloses, PutsPackets, SaidClosed, SaidNoMemory, TakesAll}

-- ---- turns

pub fell-then : (a b c : Counts) → NoneFell a b → NoneFell b c → NoneFell a c
fell-then a b c first next = record {
  full = omega (arith, first.full, next.full);
  empty = omega (arith, first.empty, next.empty);
  closed = omega (arith, first.closed, next.closed);
  out_of_memory = omega (arith, first.out_of_memory, next.out_of_memory);
}

pub turn-none : (a : Queue) → IsTurn a a
turn-none a = record {
  capacity = refl;
  later = record { full = omega arith; empty = omega arith; closed = omega arith; out_of_memory = omega arith };
  closes = refl;
  at_close = refl;
}

pub turn-then : (a b c : Queue) → IsTurn a b → IsTurn b c → IsTurn a c
turn-then a b c first next = record {
  capacity = next.capacity ∙ first.capacity;
  later = fell-then a.counts b.counts c.counts first.later next.later;
  closes = next.closes ∙ first.closes;
  at_close = next.at_close ∙ first.at_close;
}

pub closed-then : (a b c : Queue) → SaidClosed a b → NoneFell b.counts c.counts → SaidClosed a c
closed-then a b c said later = rose-then a.counts.closed b.counts.closed c.counts.closed said later.closed

pub closed-after : (a b c : Queue) → NoneFell a.counts b.counts → SaidClosed b c → SaidClosed a c
closed-after a b c later said = rose-after a.counts.closed b.counts.closed c.counts.closed later.closed said

pub lacked-then : (a b c : Queue) → SaidNoMemory a b → NoneFell b.counts c.counts → SaidNoMemory a c
lacked-then a b c said later = rose-then a.counts.out_of_memory b.counts.out_of_memory c.counts.out_of_memory said later.out_of_memory

pub lacked-after : (a b c : Queue) → NoneFell a.counts b.counts → SaidNoMemory b c → SaidNoMemory a c
lacked-after a b c later said =
    rose-after a.counts.out_of_memory b.counts.out_of_memory c.counts.out_of_memory later.out_of_memory said

same-counts : (a b : Queue) → IsClosing a b → NoneFell a.counts b.counts
same-counts a b closing = subst (λ (counts : Counts). NoneFell a.counts counts) (sym closing.counts) (turn-none a).later

-- ---- contents

module _ {M : Type 0} where
  behind-none : (contents : Option (List M)) → contents ≡ option_map (λ held. held ++ []) contents
  behind-none None = refl
  behind-none (Some held) = ap (λ (l : List M). Some l) (sym (append-nil held))

  behind-both : (first next : List M) (contents : Option (List M)) →
      option_map (λ held. held ++ next) (option_map (λ held. held ++ first) contents) ≡ option_map (λ held. held ++ (first ++ next)) contents
  behind-both first next None = refl
  behind-both first next (Some held) = ap (λ (l : List M). Some l) (append_assoc held first next)

  before-none : (contents : Option (List M)) → contents ≡ option_map (λ held. [] ++ held) contents
  before-none None = refl
  before-none (Some held) = refl

  before-both : (first next : List M) (contents : Option (List M)) →
      option_map (λ held. first ++ held) (option_map (λ held. next ++ held) contents) ≡ option_map (λ held. (first ++ next) ++ held) contents
  before-both first next None = refl
  before-both first next (Some held) = ap (λ (l : List M). Some l) (sym (append_assoc first next held))

-- ---- puts and takes

module _ {Q M : Type 0} (contents : Q → Option (List M)) (queue : Q → Queue) where
  pub puts-none : (a : Q) → PutsAll contents queue a a []
  puts-none a = record { put = behind-none (contents a); turn = turn-none (queue a) }

  -- where a put is refused
  pub puts-refused : (a b : Q) → contents b ≡ contents a → IsTurn (queue a) (queue b) → PutsAll contents queue a b []
  puts-refused a b kept turn = record { put = kept ∙ behind-none (contents a); turn = turn }

  pub puts-then : (a b c : Q) (first next : List M) → PutsAll contents queue a b first → PutsAll contents queue b c next →
      PutsAll contents queue a c (first ++ next)
  puts-then a b c first next p n = record {
    put = n.put ∙ ap (λ (o : Option (List M)). option_map (λ held. held ++ next) o) p.put ∙ behind-both first next (contents a);
    turn = turn-then (queue a) (queue b) (queue c) p.turn n.turn;
  }

  pub takes-none : (a : Q) → TakesAll contents queue a a []
  takes-none a = record { taken = before-none (contents a); turn = turn-none (queue a) }

  -- where a take is refused
  pub takes-refused : (a b : Q) → contents b ≡ contents a → IsTurn (queue a) (queue b) → TakesAll contents queue a b []
  takes-refused a b kept turn = record { taken = sym kept ∙ before-none (contents b); turn = turn }

  pub takes-then : (a b c : Q) (first next : List M) → TakesAll contents queue a b first → TakesAll contents queue b c next →
      TakesAll contents queue a c (first ++ next)
  takes-then a b c first next p n = record {
    taken = p.taken ∙ ap (λ (o : Option (List M)). option_map (λ held. first ++ held) o) n.taken ∙ before-both first next (contents c);
    turn = turn-then (queue a) (queue b) (queue c) p.turn n.turn;
  }

  pub puts-closes : (a b c : Q) (messages : List M) → PutsAll contents queue a b messages → Closes contents queue b c →
      PutsAndCloses contents queue a c messages
  puts-closes a b c messages p closing = record {
    put = closing.kept ∙ p.put;
    capacity = closing.closed.capacity ∙ p.turn.capacity;
    later = subst (λ (counts : Counts). NoneFell (queue a).counts counts) (sym closing.closed.counts) p.turn.later;
    closed_once = closing.closed.closes ∙ ap (λ (n : ℕ). next_count n) p.turn.closes;
    counts_at_close = closing.closed.at_close ∙ sym closing.closed.counts;
  }

  pub puts-ends : (a b c : Q) (first next : List M) → PutsAll contents queue a b first → PutsAndCloses contents queue b c next →
      PutsAndCloses contents queue a c (first ++ next)
  puts-ends a b c first next p n = record {
    put = n.put ∙ ap (λ (o : Option (List M)). option_map (λ held. held ++ next) o) p.put ∙ behind-both first next (contents a);
    capacity = n.capacity ∙ p.turn.capacity;
    later = fell-then (queue a).counts (queue b).counts (queue c).counts p.turn.later n.later;
    closed_once = n.closed_once ∙ ap (λ (n : ℕ). next_count n) p.turn.closes;
    counts_at_close = n.counts_at_close;
  }

-- ---- packets, and behind them a fault

module _ {Q T : Type 0} (contents : Q → Option (List (Result (Packet T ⊤) ChannelFault))) (queue : Q → Queue) where
  -- one packet more
  pub packets-more : (a b c : Q) (packets : List (Packet T ⊤)) (packet : Packet T ⊤) → PutsPackets contents queue a b packets →
      PutsAll contents queue b c (Ok packet ∷ []) → PutsPackets contents queue a c (packets ++ packet ∷ [])
  packets-more a b c packets packet p n =
      subst (λ (l : List (Result (Packet T ⊤) ChannelFault)). PutsAll contents queue a c l) (sym (map-append Ok packets (packet ∷ [])))
      (puts-then contents queue a b c (map Ok packets) (Ok packet ∷ []) p n)

  -- none more
  pub packets-same : (a b c : Q) (packets : List (Packet T ⊤)) → PutsPackets contents queue a b packets →
      PutsAll contents queue b c [] → PutsPackets contents queue a c packets
  packets-same a b c packets p n =
      subst (λ (l : List (Result (Packet T ⊤) ChannelFault)). PutsAll contents queue a c l) (append-nil (map Ok packets))
      (puts-then contents queue a b c (map Ok packets) [] p n)

  -- what the last put leaves
  pub fault-put : (a b c : Q) (fault : ChannelFault) (all : Bool) →
      MatchBool all (PutsAll contents queue a b (Err fault ∷ [])) (PutsAll contents queue a b [] × SaidClosed (queue a) (queue b)) →
      Closes contents queue b c → EndsByFault contents queue fault a c []
  fault-put a b c fault true put closing = inl (puts-closes contents queue a b c (Err fault ∷ []) put closing)
  fault-put a b c fault false put closing =
      let ends = puts-closes contents queue a b c [] put.0 closing in
      inr (ends, inl (closed-then (queue a) (queue b) (queue c) put.1 (same-counts (queue b) (queue c) closing.closed)))

  pub fault-lost : (a b c : Q) (fault : ChannelFault) → PutsAll contents queue a b [] × SaidNoMemory (queue a) (queue b) →
      Closes contents queue b c → EndsByFault contents queue fault a c []
  fault-lost a b c fault put closing =
      let ends = puts-closes contents queue a b c [] put.0 closing in
      inr (ends, inr (lacked-then (queue a) (queue b) (queue c) put.1 (same-counts (queue b) (queue c) closing.closed)))

  -- packets, and what ends behind them
  pub ends-behind : {C : Type 0} (a b c : Q) (packets : List (Packet T ⊤)) (result : Result (Unit {0}) (GopEnd C)) → PutsPackets contents queue a b packets →
      PutsEnd contents queue b c result [] → PutsEnd contents queue a c result packets
  ends-behind a b c packets (Ok done) p n =
      subst (λ (l : List (Result (Packet T ⊤) ChannelFault)). PutsAndCloses contents queue a c l) (append-nil (map Ok packets))
      (puts-ends contents queue a b c (map Ok packets) [] p n)
  ends-behind a b c packets (Err end) p (inl put) = inl (puts-ends contents queue a b c (map Ok packets) (Err end.fault ∷ []) p put)
  ends-behind a b c packets (Err end) p (inr lost) = inr (
    subst (λ (l : List (Result (Packet T ⊤) ChannelFault)). PutsAndCloses contents queue a c l) (append-nil (map Ok packets))
        (puts-ends contents queue a b c (map Ok packets) [] p lost.0),
    (elim lost.1 [
      | inl said ↦ inl (closed-after (queue a) (queue b) (queue c) p.turn.later said)
      | inr said ↦ inr (lacked-after (queue a) (queue b) (queue c) p.turn.later said)
    ]),
  )

  -- the counts at the end are no less
  pub end-later : {C : Type 0} (b c : Q) (result : Result (Unit {0}) (GopEnd C)) (packets : List (Packet T ⊤)) → PutsEnd contents queue b c result packets →
      NoneFell (queue b).counts (queue c).counts
  end-later b c (Ok done) packets n = n.later
  end-later b c (Err end) packets (inl put) = put.later
  end-later b c (Err end) packets (inr lost) = lost.0.later

-- what stands where a message was put
pub done-of : (done : Bool) (A B : Type 0) → done ≡ true → MatchBool done A B → A
done-of true A B is both = both
done-of false A B is both = absurd (cc)
