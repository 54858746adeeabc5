-- Many messages that are put or taken one after the other, as every queue means it.
use Rattle.std.specs.Prelude.{◌≡◌, ◌⊎◌, List, [], ◌∷◌, ◌++◌, map, Option, option_map, Result, Ok, Err}
use Rattle.coding_base.specs.Faults.{Rose}
use Rattle.session_core.specs.Sessions.{IsPrefix}
use Rattle.session_channels.specs.declared.fault.ChannelFault.{ChannelFault}
use Rattle.session_channels.specs.Queues.{IsTurn, NoneFell, Queue, next_count}

-- these messages were put behind the others, where the contents are told
pub record PutsAll {Q M : Type 0} (contents : Q → Option (List M)) (queue : Q → Queue) (before now : Q) (messages : List M) : Type 0 where
  pub put : contents now ≡ option_map (λ held. held ++ messages) (contents before)
  pub turn : IsTurn (queue before) (queue now)

-- these messages were taken from the front
pub record TakesAll {Q M : Type 0} (contents : Q → Option (List M)) (queue : Q → Queue) (before now : Q) (messages : List M) : Type 0 where
  pub taken : contents before ≡ option_map (λ held. messages ++ held) (contents now)
  pub turn : IsTurn (queue before) (queue now)

-- a queue of packets has them as its messages
abbrev pub PutsPackets : {Q P : Type 0} → (Q → Option (List (Result P ChannelFault))) → (Q → Queue) → Q → Q → List P → Type 0
PutsPackets contents queue before now packets = PutsAll contents queue before now (map Ok packets)

-- the first of these packets were put, `puts` being what it means to put packets
abbrev pub PutsFirst : {P : Type 0} → (List P → Type 0) → List P → Type 0
PutsFirst {P} puts packets = (first : List P) × IsPrefix first packets × puts first

-- its count of closed answers rose, and its count of answers for want of memory
abbrev pub SaidClosed : Queue → Queue → Type 0
SaidClosed before now = Rose before.counts.closed now.counts.closed

abbrev pub SaidNoMemory : Queue → Queue → Type 0
SaidNoMemory before now = Rose before.counts.out_of_memory now.counts.out_of_memory

-- these messages were put, and the queue closed once, as the last call on it
pub record PutsAndCloses {Q M : Type 0} (contents : Q → Option (List M)) (queue : Q → Queue) (before now : Q) (messages : List M) : Type 0 where
  pub put : contents now ≡ option_map (λ held. held ++ messages) (contents before)
  pub capacity : (queue now).capacity ≡ (queue before).capacity
  pub later : NoneFell (queue before).counts (queue now).counts
  pub closed_once : (queue now).closes ≡ next_count (queue before).closes
  pub counts_at_close : (queue now).at_close ≡ (queue now).counts

-- the packets were put, and nothing else
abbrev pub EndsBy : {Q P : Type 0} → (Q → Option (List (Result P ChannelFault))) → (Q → Queue) → Q → Q → List P → Type 0
EndsBy contents queue before now packets = PutsAndCloses contents queue before now (map Ok packets)

-- the packets were put, and then the fault; or nothing then, where the queue was closed or had no memory
abbrev pub EndsByFault : {Q P : Type 0} → (Q → Option (List (Result P ChannelFault))) → (Q → Queue) → ChannelFault → Q → Q → List P → Type 0
EndsByFault contents queue fault before now packets =
    PutsAndCloses contents queue before now (map Ok packets ++ Err fault ∷ [])
    ⊎ (PutsAndCloses contents queue before now (map Ok packets)
    × (SaidClosed (queue before) (queue now) ⊎ SaidNoMemory (queue before) (queue now)))
