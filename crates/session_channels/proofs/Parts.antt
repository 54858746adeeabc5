-- The parts of a course, joined: what each call's stretch is to all the queues.
use Rattle.std.proofs.Common.{◌≡◌, ◌⊎◌, inl, inr, ℕ, ℤ, Bool, true, false, List, [], ◌∷◌, ◌++◌, Option, None, Result, Ok, Err, pos, negsuc, refl, sym, ap, subst, append-nil, ◌∙◌, not, ◌&&◌, ◌||◌, is_none, IsTrue, arith, w32, FitsSigned, to_z, of_z}
use Rattle.std.specs.Int.{int_min}
use Rattle.std.proofs.lemmas.Int.{ints, clamps, to_z-of_z}
use Rattle.std.proofs.lemmas.Bool.{false≢true}
use Rattle.pass_data.specs.declared.rc_data.RcData.{RcData}
use Rattle.session_core.specs.declared.packet.Packet.{Packet}
use Rattle.session_core.specs.declared.call.Call.TheVariants.{Flush}
use Rattle.session_core.specs.Contexts.{GivesDone, IsCall, Session}
use Rattle.session_core.specs.Moments.{is_complete}
use Rattle.session_core.specs.PassTurns.{is_done}
use Rattle.session_core.specs.Turns.{needs_more_data}
use Rattle.session_channels.specs.declared.fault.ChannelFault.{ChannelFault}
use Rattle.session_channels.specs.declared.fault.ChannelFault.TheVariants.{OutOfMemory}
use Rattle.session_channels.specs.Acts.{Ears, Empty, Hand, Holds, Done, Flushes, IsOpen, Over, Point, Stops, TakesFrame, hears, owing, all_well}
use Rattle.session_channels.specs.Courses.{Drove, IsNothing, PutsAll, PutsPackets, SaidClosed, Stopped, TakesAll, Turns, Went, untouched}
use Rattle.session_channels.specs.Ends.{FrameMessage}
use Rattle.session_channels.specs.Queues.{IsTurn, Queue, before_all}
use Rattle.session_channels.specs.Wells.{IsHeldBack, IsKnown, IsOwed, IsPaid, IsSameInput, IsWell, last_command}
use Rattle.session_channels.proofs.Joins.{Compose, Widens, acts-one, closed-after, nothing-join, nothing-packets, nothing-puts, nothing-takes, packets-join, packets-none, puts-join, puts-none, stopped-join, stopped-wider, takes-join, takes-none, went-join, went-none, went-wider}

-- ---- one queue alone

abbrev pub of_metrics : {T O I : Type 0} → (I → Option (List RcData)) → (I → Queue) → I → I → Turns T O
of_metrics ic iq i0 i1 = record untouched { metrics = TakesAll ic iq i0 i1; missing = SaidClosed (iq i0) (iq i1) }

abbrev pub of_packets : {T O P : Type 0} → (P → Option (List (Result (Packet T O) ChannelFault))) → (P → Queue) → P → P → Turns T O
of_packets pc pq p0 p1 = record untouched { packets = PutsPackets pc pq p0 p1; severed = SaidClosed (pq p0) (pq p1) }

abbrev pub of_handed : {T O U : Type 0} → (U → Option (List RcData)) → (U → Queue) → U → U → Turns T O
of_handed uc uq u0 u1 = record untouched { handed = PutsAll uc uq u0 u1; severed = SaidClosed (uq u0) (uq u1) }

pub same-trans : {T O D S C : Type 0} → (a b c : Session T O D S C) → IsSameInput a b → IsSameInput b c → IsSameInput a c
same-trans a b c one two = record {
  settings = two.settings ∙ one.settings;
  accepted = two.accepted ∙ one.accepted;
  flushed = two.flushed ∙ one.flushed;
}

-- ---- a count fits its type

least-fits : (z : ℤ) (n : ℕ) → z ≡ int_min (pos n) (pos last_command) → FitsSigned w32 z
least-fits (pos k) n is = record { sfits = omega (arith, ints, clamps, is) }
least-fits (negsuc k) n is = absurd (omega (arith, ints, clamps, is))

pub count-kept : {T O D S C : Type 0} (handing : Bool) (count : ℤ) (at : Session T O D S C) → IsWell handing count at → to_z w32 (of_z w32 count) ≡ count
count-kept handing count at well = to_z-of_z w32 count (least-fits count at.moment.commands well.counted)

-- ---- what the tests of the loop say

and-left : (a b : Bool) → a ≡ true → false ≡ a && b → b ≡ false
and-left true b is e = sym e
and-left false b is e = absurd (false≢true is)

and-right : (a b : Bool) → true ≡ a && b → b ≡ true
and-right true b e = sym e
and-right false b e = absurd (false≢true (sym e))

or-left : (a b : Bool) → a ≡ true → IsTrue (a || b)
or-left true b is = refl
or-left false b is = absurd (false≢true is)

or-right : (a b : Bool) → b ≡ true → IsTrue (a || b)
or-right true b is = refl
or-right false b is = is

-- nothing holds the next command back
pub held-none : {T O D S C : Type 0} → (at : Session T O D S C) → at.failure ≡ None →
    false ≡ (is_none at.failure && needs_more_data at.enc at.moment) → false ≡ is_done at.moment → IsKnown at
held-none at unfailed wants done =
    rw (sym done) (rw (and-left (is_none at.failure) (needs_more_data at.enc at.moment) (ap is_none unfailed) wants) refl)

pub is-held : {T O D S C : Type 0} → (at : Session T O D S C) → true ≡ (is_none at.failure && needs_more_data at.enc at.moment) → IsHeldBack at
is-held at wants = or-left (needs_more_data at.enc at.moment) (is_done at.moment) (and-right (is_none at.failure) (needs_more_data at.enc at.moment) wants)

pub is-held-done : {T O D S C : Type 0} → (at : Session T O D S C) → true ≡ is_done at.moment → IsHeldBack at
is-held-done at done = or-right (needs_more_data at.enc at.moment) (is_done at.moment) (sym done)

-- what waits at the last command waits where more may be owed
pub paid-owed : {T O D S C : Type 0} (handing : Bool) (at : Session T O D S C) → IsPaid handing at → IsOwed handing at
paid-owed handing at paid = record {
  few = paid.few;
  waits = λ hands last. paid.waits hands ∙ rw last refl;
}

or-unless : (a b : Bool) → a ≡ false → IsTrue (a || b) → IsTrue b
or-unless true b is h = absurd (false≢true (sym is))
or-unless false b is h = h

or-turned : (a b : Bool) → IsTrue (a || b) → IsTrue (b || a)
or-turned true true h = refl
or-turned true false h = refl
or-turned false true h = refl
or-turned false false h = h

and-not : (a b : Bool) → a ≡ true → (not a && b) ≡ false
and-not true b is = refl
and-not false b is = absurd (false≢true is)

-- what isn't flushed isn't done, and what is flushed wants no frames
pub wants-more : {T O D S C : Type 0} (at : Session T O D S C) → at.moment.flushed ≡ false → IsHeldBack at → IsTrue (needs_more_data at.enc at.moment)
wants-more at unflushed held =
    or-unless (is_done at.moment) (needs_more_data at.enc at.moment) (ap (λ (b : Bool). b && is_complete at.moment) unflushed)
    (or-turned (needs_more_data at.enc at.moment) (is_done at.moment) held)

pub ends-done : {T O D S C : Type 0} (at : Session T O D S C) → at.moment.flushed ≡ true → IsHeldBack at → IsTrue (is_done at.moment)
ends-done at flushed held =
    or-unless (needs_more_data at.enc at.moment) (is_done at.moment) (and-not at.moment.flushed _ flushed) held

-- ---- the three queues that are used while commands are coded, and how each is seen

module _ {T O P I U : Type 0} (pc : P → Option (List (Result (Packet T O) ChannelFault))) (pq : P → Queue) (ic : I → Option (List RcData)) (iq : I → Queue) (uc : U → Option (List RcData)) (uq : U → Queue) where
  -- what a stretch that codes owes to them
  abbrev pub coding : P → P → I → I → U → U → Turns T O
  coding p0 p1 i0 i1 u0 u1 = record untouched {
    packets = PutsPackets pc pq p0 p1;
    metrics = TakesAll ic iq i0 i1;
    handed = PutsAll uc uq u0 u1;
    missing = SaidClosed (iq i0) (iq i1);
    severed = SaidClosed (pq p0) (pq p1) ⊎ SaidClosed (uq u0) (uq u1);
  }

  either-after : (p0 p1 p2 : P) (u0 u1 u2 : U) → IsTurn (pq p0) (pq p1) → IsTurn (uq u0) (uq u1) →
      SaidClosed (pq p1) (pq p2) ⊎ SaidClosed (uq u1) (uq u2) → SaidClosed (pq p0) (pq p2) ⊎ SaidClosed (uq u0) (uq u2)
  either-after p0 p1 p2 u0 u1 u2 packets handed (inl closed) = inl (closed-after (pq p0) (pq p1) (pq p2) packets closed)
  either-after p0 p1 p2 u0 u1 u2 packets handed (inr closed) = inr (closed-after (uq u0) (uq u1) (uq u2) handed closed)

  coding-compose : (p0 p1 p2 : P) (i0 i1 i2 : I) (u0 u1 u2 : U) → IsTurn (pq p0) (pq p1) → IsTurn (iq i0) (iq i1) → IsTurn (uq u0) (uq u1) →
      Compose (coding p0 p1 i0 i1 u0 u1) (coding p1 p2 i1 i2 u1 u2) (coding p0 p2 i0 i2 u0 u2)
  coding-compose p0 p1 p2 i0 i1 i2 u0 u1 u2 packets metrics handed = record {
    frames = nothing-join;
    packets = packets-join pc pq p0 p1 p2;
    metrics = takes-join ic iq i0 i1 i2;
    handed = puts-join uc uq u0 u1 u2;
    missing = closed-after (iq i0) (iq i1) (iq i2) metrics;
    severed = either-after p0 p1 p2 u0 u1 u2 packets handed;
  }

  metrics-widens : (p0 : P) (i0 i1 : I) (u0 : U) → Widens (of_metrics {T = T} {O = O} ic iq i0 i1) (coding p0 p0 i0 i1 u0 u0)
  metrics-widens p0 i0 i1 u0 = record {
    frames = λ xs h. h;
    packets = nothing-packets pc pq p0;
    metrics = λ xs h. h;
    handed = nothing-puts uc uq u0;
    missing = λ h. h;
    severed = λ h. absurd h;
  }

  packets-widens : (p0 p1 : P) (i0 : I) (u0 : U) → Widens (of_packets pc pq p0 p1) (coding p0 p1 i0 i0 u0 u0)
  packets-widens p0 p1 i0 u0 = record {
    frames = λ xs h. h;
    packets = λ xs h. h;
    metrics = nothing-takes ic iq i0;
    handed = nothing-puts uc uq u0;
    missing = λ h. absurd h;
    severed = inl;
  }

  handed-widens : (p0 : P) (i0 : I) (u0 u1 : U) → Widens (of_handed {T = T} {O = O} uc uq u0 u1) (coding p0 p0 i0 i0 u0 u1)
  handed-widens p0 i0 u0 u1 = record {
    frames = λ xs h. h;
    packets = nothing-packets pc pq p0;
    metrics = nothing-takes ic iq i0;
    handed = λ xs h. h;
    missing = λ h. absurd h;
    severed = inr;
  }

  nothing-widens : (p0 : P) (i0 : I) (u0 : U) → Widens {T = T} {O = O} untouched (coding p0 p0 i0 i0 u0 u0)
  nothing-widens p0 i0 u0 = record {
    frames = λ xs h. h;
    packets = nothing-packets pc pq p0;
    metrics = nothing-takes ic iq i0;
    handed = nothing-puts uc uq u0;
    missing = λ h. absurd h;
    severed = λ h. absurd h;
  }

  module _ {D S C : Type 0} (ears : Ears T D S C) (handing : Bool) where
    pub coding-join : (p0 p1 p2 : P) (i0 i1 i2 : I) (u0 u1 u2 : U) (a b c : Point T O D S C) →
        Went ears handing (coding p0 p1 i0 i1 u0 u1) a b → Went ears handing (coding p1 p2 i1 i2 u1 u2) b c →
        Went ears handing (coding p0 p2 i0 i2 u0 u2) a c
    coding-join p0 p1 p2 i0 i1 i2 u0 u1 u2 a b c one two =
        went-join ears handing (coding p0 p1 i0 i1 u0 u1) (coding p1 p2 i1 i2 u1 u2) (coding p0 p2 i0 i2 u0 u2)
        (coding-compose p0 p1 p2 i0 i1 i2 u0 u1 u2 one.packets.turn one.metrics.turn one.handed.turn) a b c one two

    pub coding-stop : (p0 p1 p2 : P) (i0 i1 i2 : I) (u0 u1 u2 : U) (a b : Point T O D S C) (now : Session T O D S C) (fault : ChannelFault) →
        Went ears handing (coding p0 p1 i0 i1 u0 u1) a b → Stopped ears handing (coding p1 p2 i1 i2 u1 u2) b now fault →
        Stopped ears handing (coding p0 p2 i0 i2 u0 u2) a now fault
    coding-stop p0 p1 p2 i0 i1 i2 u0 u1 u2 a b now fault one two =
        stopped-join ears handing (coding p0 p1 i0 i1 u0 u1) (coding p1 p2 i1 i2 u1 u2) (coding p0 p2 i0 i2 u0 u2)
        (coding-compose p0 p1 p2 i0 i1 i2 u0 u1 u2 one.packets.turn one.metrics.turn one.handed.turn) a b now fault one two

    coding-none : (p0 : P) (i0 : I) (u0 : U) (a : Point T O D S C) → Went ears handing (coding p0 p0 i0 i0 u0 u0) a a
    coding-none p0 i0 u0 a =
        went-none ears handing (coding p0 p0 i0 i0 u0 u0) a refl (packets-none pc pq p0) (takes-none ic iq i0) (puts-none uc uq u0)

    -- ---- one command: metrics, the command, and what is handed on

    pub fed-stops : (p0 : P) (i0 i1 : I) (u0 : U) (a : Point T O D S C) (now : Session T O D S C) (fault : ChannelFault) →
        Stopped ears handing (of_metrics ic iq i0 i1) a now fault → Stopped ears handing (coding p0 p0 i0 i1 u0 u0) a now fault
    fed-stops p0 i0 i1 u0 a now fault one =
        stopped-wider ears handing (of_metrics ic iq i0 i1) (coding p0 p0 i0 i1 u0 u0) (metrics-widens p0 i0 i1 u0) a now fault one

    fed-went : (p0 : P) (i0 i1 : I) (u0 : U) (a b : Point T O D S C) →
        Went ears handing (of_metrics ic iq i0 i1) a b → Went ears handing (coding p0 p0 i0 i1 u0 u0) a b
    fed-went p0 i0 i1 u0 a b one =
        went-wider ears handing (of_metrics ic iq i0 i1) (coding p0 p0 i0 i1 u0 u0) (metrics-widens p0 i0 i1 u0) a b one

    pub received-stops : (p0 p1 : P) (i0 i1 : I) (u0 : U) (a b : Point T O D S C) (now : Session T O D S C) (fault : ChannelFault) →
        Went ears handing (of_metrics ic iq i0 i1) a b → Stopped ears handing (of_packets pc pq p0 p1) b now fault →
        Stopped ears handing (coding p0 p1 i0 i1 u0 u0) a now fault
    received-stops p0 p1 i0 i1 u0 a b now fault one two =
        coding-stop p0 p0 p1 i0 i1 i1 u0 u0 u0 a b now fault (fed-went p0 i0 i1 u0 a b one)
        (stopped-wider ears handing (of_packets pc pq p0 p1) (coding p0 p1 i1 i1 u0 u0) (packets-widens p0 p1 i1 u0) b now fault two)

    received-went : (p0 p1 : P) (i0 i1 : I) (u0 : U) (a b c : Point T O D S C) →
        Went ears handing (of_metrics ic iq i0 i1) a b → Went ears handing (of_packets pc pq p0 p1) b c →
        Went ears handing (coding p0 p1 i0 i1 u0 u0) a c
    received-went p0 p1 i0 i1 u0 a b c one two =
        coding-join p0 p0 p1 i0 i1 i1 u0 u0 u0 a b c (fed-went p0 i0 i1 u0 a b one)
        (went-wider ears handing (of_packets pc pq p0 p1) (coding p0 p1 i1 i1 u0 u0) (packets-widens p0 p1 i1 u0) b c two)

    pub handed-stops : (p0 : P) (i0 : I) (u0 u1 : U) (a : Point T O D S C) (now : Session T O D S C) (fault : ChannelFault) →
        Stopped ears handing (of_handed uc uq u0 u1) a now fault → Stopped ears handing (coding p0 p0 i0 i0 u0 u1) a now fault
    handed-stops p0 i0 u0 u1 a now fault one =
        stopped-wider ears handing (of_handed uc uq u0 u1) (coding p0 p0 i0 i0 u0 u1) (handed-widens p0 i0 u0 u1) a now fault one

    pub handed-went : (p0 : P) (i0 : I) (u0 u1 : U) (a b : Point T O D S C) →
        Went ears handing (of_handed uc uq u0 u1) a b → Went ears handing (coding p0 p0 i0 i0 u0 u1) a b
    handed-went p0 i0 u0 u1 a b one =
        went-wider ears handing (of_handed uc uq u0 u1) (coding p0 p0 i0 i0 u0 u1) (handed-widens p0 i0 u0 u1) a b one

    pub next-stops : (p0 p1 : P) (i0 i1 : I) (u0 u1 : U) (a b c : Point T O D S C) (now : Session T O D S C) (fault : ChannelFault) →
        Went ears handing (of_metrics ic iq i0 i1) a b → Went ears handing (of_packets pc pq p0 p1) b c →
        Stopped ears handing (of_handed uc uq u0 u1) c now fault → Stopped ears handing (coding p0 p1 i0 i1 u0 u1) a now fault
    next-stops p0 p1 i0 i1 u0 u1 a b c now fault one two three =
        coding-stop p0 p1 p1 i0 i1 i1 u0 u0 u1 a c now fault (received-went p0 p1 i0 i1 u0 a b c one two) (handed-stops p1 i1 u0 u1 c now fault three)

    pub next-went : (p0 p1 : P) (i0 i1 : I) (u0 u1 : U) (a b c d : Point T O D S C) →
        Went ears handing (of_metrics ic iq i0 i1) a b → Went ears handing (of_packets pc pq p0 p1) b c →
        Went ears handing (of_handed uc uq u0 u1) c d → Went ears handing (coding p0 p1 i0 i1 u0 u1) a d
    next-went p0 p1 i0 i1 u0 u1 a b c d one two three =
        coding-join p0 p1 p1 i0 i1 i1 u0 u0 u1 a c d (received-went p0 p1 i0 i1 u0 a b c one two) (handed-went p1 i1 u0 u1 c d three)

    -- ---- one command after another, under a frame or at the end

    abbrev pub GoesUnder : P → P → I → I → U → U → Session T O D S C → Session T O D S C → Type 0
    GoesUnder p0 p1 i0 i1 u0 u1 before now = (hand : Hand T O) → IsOpen hand →
        Went ears handing (coding p0 p1 i0 i1 u0 u1) (record { hand = hand; session = before }) (record { hand = hand; session = now })

    -- what stands between two of them
    pub record IsCoded (p0 p1 : P) (i0 i1 : I) (u0 u1 : U) (before now : Session T O D S C) (count : ℤ) : Type 0 where
      pub drove : GoesUnder p0 p1 i0 i1 u0 u1 before now
      pub well : IsWell handing count now
      pub paid : IsPaid handing now
      pub same : IsSameInput before now
      pub packets : (pq p1).capacity ≡ None
      pub handed : (uq u1).capacity ≡ None

    pub coded-none : (p0 : P) (i0 : I) (u0 : U) (at : Session T O D S C) (count : ℤ) → IsWell handing count at → IsPaid handing at →
        (pq p0).capacity ≡ None → (uq u0).capacity ≡ None → IsCoded p0 p0 i0 i0 u0 u0 at at count
    coded-none p0 i0 u0 at count well paid packets handed = record {
      drove = λ hand codes. coding-none p0 i0 u0 (record { hand = hand; session = at });
      well = well;
      paid = paid;
      same = record { settings = refl; accepted = refl; flushed = refl };
      packets = packets;
      handed = handed;
    }

    pub coded-next : (p0 p1 p2 : P) (i0 i1 i2 : I) (u0 u1 u2 : U) (a b c : Session T O D S C) (count more : ℤ) → IsCoded p0 p1 i0 i1 u0 u1 a b count →
        GoesUnder p1 p2 i1 i2 u1 u2 b c → IsWell handing more c → IsPaid handing c → IsSameInput b c → IsCoded p0 p2 i0 i2 u0 u2 a c more
    coded-next p0 p1 p2 i0 i1 i2 u0 u1 u2 a b c count more one goes well paid same =
        let step = goes Over tt in
        record {
          drove = λ hand codes.
              coding-join p0 p1 p2 i0 i1 i2 u0 u1 u2 (record { hand = hand; session = a }) (record { hand = hand; session = b }) (record { hand = hand; session = c })
              (one.drove hand codes) (goes hand codes);
          well = well;
          paid = paid;
          same = same-trans a b c one.same same;
          packets = step.packets.turn.capacity ∙ one.packets;
          handed = step.handed.turn.capacity ∙ one.handed;
        }

    pub coded-stops : (p0 p1 p2 : P) (i0 i1 i2 : I) (u0 u1 u2 : U) (a b now : Session T O D S C) (count : ℤ) (fault : ChannelFault) → IsCoded p0 p1 i0 i1 u0 u1 a b count →
        ((hand : Hand T O) → IsOpen hand → Stopped ears handing (coding p1 p2 i1 i2 u1 u2) (record { hand = hand; session = b }) now fault) →
        (hand : Hand T O) → IsOpen hand → Stopped ears handing (coding p0 p2 i0 i2 u0 u2) (record { hand = hand; session = a }) now fault
    coded-stops p0 p1 p2 i0 i1 i2 u0 u1 u2 a b now count fault one stops hand codes =
        coding-stop p0 p1 p2 i0 i1 i2 u0 u1 u2 (record { hand = hand; session = a }) (record { hand = hand; session = b }) now fault
        (one.drove hand codes) (stops hand codes)

    -- ---- the end: a flush, what is left, and the summary

    flush-went : (before after : Session T O D S C) (p0 : P) (i0 : I) (u0 : U) →
        IsCall GivesDone Flush before after (hears ears before) (hears ears after) all_well →
        Went ears handing (coding p0 p0 i0 i0 u0 u0) (record { hand = Empty; session = before }) (record { hand = Over; session = after })
    flush-went before after p0 i0 u0 is = record {
      acts = Flushes ∷ [];
      run = acts-one ears handing Flushes (record { hand = Empty; session = before }) (record { hand = Over; session = after }) (record { due = tt; does = is; held = refl });
      frames = refl;
      packets = packets-none pc pq p0;
      metrics = takes-none ic iq i0;
      handed = puts-none uc uq u0;
    }

    stop-went : (at : Session T O D S C) (p0 : P) (i0 : I) (u0 : U) → IsTrue (is_done at.moment) →
        Went ears handing (coding p0 p0 i0 i0 u0 u0) (record { hand = Over; session = at }) (record { hand = owing handing Done; session = at })
    stop-went at p0 i0 u0 done = record {
      acts = Stops ∷ [];
      run = acts-one ears handing Stops (record { hand = Over; session = at }) (record { hand = owing handing Done; session = at }) (record { due = done; does = refl; held = refl });
      frames = refl;
      packets = packets-none pc pq p0;
      metrics = takes-none ic iq i0;
      handed = puts-none uc uq u0;
    }

    pub flush-stops : (before : Session T O D S C) (now : Session T O D S C) (p0 : P) (i0 : I) (u0 : U) →
        Stopped ears handing (coding p0 p0 i0 i0 u0 u0) (record { hand = Empty; session = before }) now OutOfMemory
    flush-stops before now p0 i0 u0 = record {
      acts = [];
      last = record { hand = Empty; session = before };
      run = refl;
      taken = [];
      cause = refl;
      frames = refl;
      packets = packets-none pc pq p0;
      metrics = takes-none ic iq i0;
      handed = puts-none uc uq u0;
    }

    pub rest-stops : (before flushed now : Session T O D S C) (p0 p1 : P) (i0 i1 : I) (u0 u1 : U) (fault : ChannelFault) →
        IsCall GivesDone Flush before flushed (hears ears before) (hears ears flushed) all_well →
        Stopped ears handing (coding p0 p1 i0 i1 u0 u1) (record { hand = Over; session = flushed }) now fault →
        Stopped ears handing (coding p0 p1 i0 i1 u0 u1) (record { hand = Empty; session = before }) now fault
    rest-stops before flushed now p0 p1 i0 i1 u0 u1 fault is two =
        coding-stop p0 p0 p1 i0 i0 i1 u0 u0 u1 (record { hand = Empty; session = before }) (record { hand = Over; session = flushed }) now fault
        (flush-went before flushed p0 i0 u0 is) two

    rest-went : (before flushed coded : Session T O D S C) (p0 p1 : P) (i0 i1 : I) (u0 u1 : U) →
        IsCall GivesDone Flush before flushed (hears ears before) (hears ears flushed) all_well →
        Went ears handing (coding p0 p1 i0 i1 u0 u1) (record { hand = Over; session = flushed }) (record { hand = Over; session = coded }) →
        IsTrue (is_done coded.moment) →
        Went ears handing (coding p0 p1 i0 i1 u0 u1) (record { hand = Empty; session = before }) (record { hand = owing handing Done; session = coded })
    rest-went before flushed coded p0 p1 i0 i1 u0 u1 is two done =
        coding-join p0 p1 p1 i0 i1 i1 u0 u1 u1 (record { hand = Empty; session = before }) (record { hand = Over; session = coded }) (record { hand = owing handing Done; session = coded })
        (coding-join p0 p0 p1 i0 i0 i1 u0 u0 u1 (record { hand = Empty; session = before }) (record { hand = Over; session = flushed }) (record { hand = Over; session = coded })
        (flush-went before flushed p0 i0 u0 is) two)
        (stop-went coded p1 i1 u1 done)

    pub finish-drove : {A : Type 0} (result : Result A ChannelFault) (before flushed coded now : Session T O D S C) (p0 p1 : P) (i0 i1 : I) (u0 u1 u2 : U) →
        IsCall GivesDone Flush before flushed (hears ears before) (hears ears flushed) all_well →
        Went ears handing (coding p0 p1 i0 i1 u0 u1) (record { hand = Over; session = flushed }) (record { hand = Over; session = coded }) →
        IsTrue (is_done coded.moment) →
        Drove ears handing (of_handed uc uq u1 u2) (record { hand = owing handing Done; session = coded }) (record { hand = Done; session = now }) result →
        Drove ears handing (coding p0 p1 i0 i1 u0 u2) (record { hand = Empty; session = before }) (record { hand = Done; session = now }) result
    finish-drove (Ok done) before flushed coded now p0 p1 i0 i1 u0 u1 u2 is two ends three =
        coding-join p0 p1 p1 i0 i1 i1 u0 u1 u2 (record { hand = Empty; session = before }) (record { hand = owing handing Done; session = coded }) (record { hand = Done; session = now })
        (rest-went before flushed coded p0 p1 i0 i1 u0 u1 is two ends)
        (handed-went p1 i1 u1 u2 (record { hand = owing handing Done; session = coded }) (record { hand = Done; session = now }) three)
    finish-drove (Err fault) before flushed coded now p0 p1 i0 i1 u0 u1 u2 is two ends three =
        coding-stop p0 p1 p1 i0 i1 i1 u0 u1 u2 (record { hand = Empty; session = before }) (record { hand = owing handing Done; session = coded }) now fault
        (rest-went before flushed coded p0 p1 i0 i1 u0 u1 is two ends)
        (handed-stops p1 i1 u1 u2 (record { hand = owing handing Done; session = coded }) now fault three)

-- ---- all four queues, where frames are taken too

module _ {T O F P I U : Type 0} (fc : F → Option (List (FrameMessage T O))) (fq : F → Queue) (pc : P → Option (List (Result (Packet T O) ChannelFault))) (pq : P → Queue) (ic : I → Option (List RcData)) (iq : I → Queue) (uc : U → Option (List RcData)) (uq : U → Queue) where
  -- what a stretch owes to them
  abbrev pub taking : F → F → P → P → I → I → U → U → Turns T O
  taking f0 f1 p0 p1 i0 i1 u0 u1 = record (coding pc pq ic iq uc uq p0 p1 i0 i1 u0 u1) { frames = TakesAll fc fq f0 f1 }

  then-nothing : (f0 f1 : F) (xs ys : List (FrameMessage T O)) → TakesAll fc fq f0 f1 xs → IsNothing ys → TakesAll fc fq f0 f1 (xs ++ ys)
  then-nothing f0 f1 xs ys takes none =
      subst (λ (l : List (FrameMessage T O)). TakesAll fc fq f0 f1 l) (sym (ap (λ (l : List (FrameMessage T O)). xs ++ l) none ∙ append-nil xs)) takes

  then-codes : (f0 f1 : F) (p0 p1 p2 : P) (i0 i1 i2 : I) (u0 u1 u2 : U) → IsTurn (pq p0) (pq p1) → IsTurn (iq i0) (iq i1) → IsTurn (uq u0) (uq u1) →
      Compose (taking f0 f1 p0 p1 i0 i1 u0 u1) (coding pc pq ic iq uc uq p1 p2 i1 i2 u1 u2) (taking f0 f1 p0 p2 i0 i2 u0 u2)
  then-codes f0 f1 p0 p1 p2 i0 i1 i2 u0 u1 u2 packets metrics handed = record {
    frames = then-nothing f0 f1;
    packets = packets-join pc pq p0 p1 p2;
    metrics = takes-join ic iq i0 i1 i2;
    handed = puts-join uc uq u0 u1 u2;
    missing = closed-after (iq i0) (iq i1) (iq i2) metrics;
    severed = either-after pc pq ic iq uc uq p0 p1 p2 u0 u1 u2 packets handed;
  }

  then-takes : (f0 f1 f2 : F) (p0 p1 p2 : P) (i0 i1 i2 : I) (u0 u1 u2 : U) → IsTurn (pq p0) (pq p1) → IsTurn (iq i0) (iq i1) → IsTurn (uq u0) (uq u1) →
      Compose (taking f0 f1 p0 p1 i0 i1 u0 u1) (taking f1 f2 p1 p2 i1 i2 u1 u2) (taking f0 f2 p0 p2 i0 i2 u0 u2)
  then-takes f0 f1 f2 p0 p1 p2 i0 i1 i2 u0 u1 u2 packets metrics handed = record {
    frames = takes-join fc fq f0 f1 f2;
    packets = packets-join pc pq p0 p1 p2;
    metrics = takes-join ic iq i0 i1 i2;
    handed = puts-join uc uq u0 u1 u2;
    missing = closed-after (iq i0) (iq i1) (iq i2) metrics;
    severed = either-after pc pq ic iq uc uq p0 p1 p2 u0 u1 u2 packets handed;
  }

  module _ {D S C : Type 0} (ears : Ears T D S C) (handing : Bool) where
    pub codes-join : (f0 f1 : F) (p0 p1 p2 : P) (i0 i1 i2 : I) (u0 u1 u2 : U) (a b c : Point T O D S C) →
        Went ears handing (taking f0 f1 p0 p1 i0 i1 u0 u1) a b → Went ears handing (coding pc pq ic iq uc uq p1 p2 i1 i2 u1 u2) b c →
        Went ears handing (taking f0 f1 p0 p2 i0 i2 u0 u2) a c
    codes-join f0 f1 p0 p1 p2 i0 i1 i2 u0 u1 u2 a b c one two =
        went-join ears handing (taking f0 f1 p0 p1 i0 i1 u0 u1) (coding pc pq ic iq uc uq p1 p2 i1 i2 u1 u2) (taking f0 f1 p0 p2 i0 i2 u0 u2)
        (then-codes f0 f1 p0 p1 p2 i0 i1 i2 u0 u1 u2 one.packets.turn one.metrics.turn one.handed.turn) a b c one two

    pub codes-stop : (f0 f1 : F) (p0 p1 p2 : P) (i0 i1 i2 : I) (u0 u1 u2 : U) (a b : Point T O D S C) (now : Session T O D S C) (fault : ChannelFault) →
        Went ears handing (taking f0 f1 p0 p1 i0 i1 u0 u1) a b → Stopped ears handing (coding pc pq ic iq uc uq p1 p2 i1 i2 u1 u2) b now fault →
        Stopped ears handing (taking f0 f1 p0 p2 i0 i2 u0 u2) a now fault
    codes-stop f0 f1 p0 p1 p2 i0 i1 i2 u0 u1 u2 a b now fault one two =
        stopped-join ears handing (taking f0 f1 p0 p1 i0 i1 u0 u1) (coding pc pq ic iq uc uq p1 p2 i1 i2 u1 u2) (taking f0 f1 p0 p2 i0 i2 u0 u2)
        (then-codes f0 f1 p0 p1 p2 i0 i1 i2 u0 u1 u2 one.packets.turn one.metrics.turn one.handed.turn) a b now fault one two

    takes-on : (f0 f1 f2 : F) (p0 p1 : P) (i0 i1 : I) (u0 u1 : U) (a b c : Point T O D S C) →
        Went ears handing (taking f0 f1 p0 p1 i0 i1 u0 u1) a b → Went ears handing (taking f1 f2 p1 p1 i1 i1 u1 u1) b c →
        Went ears handing (taking f0 f2 p0 p1 i0 i1 u0 u1) a c
    takes-on f0 f1 f2 p0 p1 i0 i1 u0 u1 a b c one two =
        went-join ears handing (taking f0 f1 p0 p1 i0 i1 u0 u1) (taking f1 f2 p1 p1 i1 i1 u1 u1) (taking f0 f2 p0 p1 i0 i1 u0 u1)
        (then-takes f0 f1 f2 p0 p1 p1 i0 i1 i1 u0 u1 u1 one.packets.turn one.metrics.turn one.handed.turn) a b c one two

    -- what stands before each frame is taken
    pub record IsSending (f0 f1 : F) (p0 p1 : P) (i0 i1 : I) (u0 u1 : U) (before now : Session T O D S C) (count : ℤ) : Type 0 where
      pub drove : Went ears handing (taking f0 f1 p0 p1 i0 i1 u0 u1) (record { hand = Empty; session = before }) (record { hand = Empty; session = now })
      pub well : IsWell handing count now
      pub paid : IsPaid handing now
      pub unflushed : now.moment.flushed ≡ false
      pub packets : (pq p1).capacity ≡ None
      pub handed : (uq u1).capacity ≡ None

    pub sending-none : (f0 : F) (p0 : P) (i0 : I) (u0 : U) (at : Session T O D S C) (count : ℤ) → IsWell handing count at → IsPaid handing at →
        at.moment.flushed ≡ false → (pq p0).capacity ≡ None → (uq u0).capacity ≡ None → IsSending f0 f0 p0 p0 i0 i0 u0 u0 at at count
    sending-none f0 p0 i0 u0 at count well paid unflushed packets handed = record {
      drove = went-none ears handing (taking f0 f0 p0 p0 i0 i0 u0 u0) (record { hand = Empty; session = at }) (takes-none fc fq f0) (packets-none pc pq p0) (takes-none ic iq i0) (puts-none uc uq u0);
      well = well;
      paid = paid;
      unflushed = unflushed;
      packets = packets;
      handed = handed;
    }

    -- the queue of frames gave none
    pub sending-over : (f0 f1 f2 : F) (p0 p1 : P) (i0 i1 : I) (u0 u1 : U) (before now : Session T O D S C) (count : ℤ) →
        IsSending f0 f1 p0 p1 i0 i1 u0 u1 before now count → fc f2 ≡ fc f1 → IsTurn (fq f1) (fq f2) →
        Went ears handing (taking f0 f2 p0 p1 i0 i1 u0 u1) (record { hand = Empty; session = before }) (record { hand = Empty; session = now })
    sending-over f0 f1 f2 p0 p1 i0 i1 u0 u1 before now count one kept turn =
        let none = takes-none fc fq f2 in
        takes-on f0 f1 f2 p0 p1 i0 i1 u0 u1 (record { hand = Empty; session = before }) (record { hand = Empty; session = now }) (record { hand = Empty; session = now })
        one.drove
        (went-none ears handing (taking f1 f2 p1 p1 i1 i1 u1 u1) (record { hand = Empty; session = now })
        (record { taken = sym kept ∙ none.taken; turn = turn }) (packets-none pc pq p1) (takes-none ic iq i1) (puts-none uc uq u1))

    pub sending-ended : (f0 f1 f2 : F) (p0 p1 : P) (i0 i1 : I) (u0 u1 : U) (before now : Session T O D S C) (count : ℤ) →
        IsSending f0 f1 p0 p1 i0 i1 u0 u1 before now count → SaidClosed (fq f1) (fq f2) → SaidClosed (fq f0) (fq f2)
    sending-ended f0 f1 f2 p0 p1 i0 i1 u0 u1 before now count one closed =
        closed-after (fq f0) (fq f1) (fq f2) one.drove.frames.turn closed

    -- it gave this one, which is held
    pub sending-taken : (message : FrameMessage T O) (f0 f1 f2 : F) (p0 p1 : P) (i0 i1 : I) (u0 u1 : U) (before now : Session T O D S C) (count : ℤ) →
        IsSending f0 f1 p0 p1 i0 i1 u0 u1 before now count → fc f1 ≡ before_all message (fc f2) → IsTurn (fq f1) (fq f2) →
        Went ears handing (taking f0 f2 p0 p1 i0 i1 u0 u1) (record { hand = Empty; session = before }) (record { hand = Holds message; session = now })
    sending-taken message f0 f1 f2 p0 p1 i0 i1 u0 u1 before now count one taken turn =
        takes-on f0 f1 f2 p0 p1 i0 i1 u0 u1 (record { hand = Empty; session = before }) (record { hand = Empty; session = now }) (record { hand = Holds message; session = now })
        one.drove
        (record {
          acts = TakesFrame message ∷ [];
          run = acts-one ears handing (TakesFrame message) (record { hand = Empty; session = now }) (record { hand = Holds message; session = now }) (record { due = tt; does = refl; held = refl });
          frames = record { taken = taken; turn = turn };
          packets = packets-none pc pq p1;
          metrics = takes-none ic iq i1;
          handed = puts-none uc uq u1;
        })

    -- what is known was coded, and it is sent
    pub sending-next : (message : FrameMessage T O) (f0 f1 f2 : F) (p0 p1 p2 : P) (i0 i1 i2 : I) (u0 u1 u2 : U) (before now coded sent : Session T O D S C) (count more : ℤ) →
        IsSending f0 f1 p0 p1 i0 i1 u0 u1 before now count → fc f1 ≡ before_all message (fc f2) → IsTurn (fq f1) (fq f2) →
        GoesUnder pc pq ic iq uc uq ears handing p1 p2 i1 i2 u1 u2 now coded → IsSameInput now coded →
        Went ears handing untouched (record { hand = Holds message; session = coded }) (record { hand = Empty; session = sent }) →
        IsWell handing more sent → IsPaid handing sent → sent.moment.flushed ≡ coded.moment.flushed →
        IsSending f0 f2 p0 p2 i0 i2 u0 u2 before sent more
    sending-next message f0 f1 f2 p0 p1 p2 i0 i1 i2 u0 u1 u2 before now coded sent count more one taken turn goes same sends well paid flushed =
        let step = goes Over tt in
        record {
          drove = codes-join f0 f2 p0 p2 p2 i0 i2 i2 u0 u2 u2 (record { hand = Empty; session = before }) (record { hand = Holds message; session = coded }) (record { hand = Empty; session = sent })
              (codes-join f0 f2 p0 p1 p2 i0 i1 i2 u0 u1 u2 (record { hand = Empty; session = before }) (record { hand = Holds message; session = now }) (record { hand = Holds message; session = coded })
              (sending-taken message f0 f1 f2 p0 p1 i0 i1 u0 u1 before now count one taken turn) (goes (Holds message) tt))
              (went-wider ears handing untouched (coding pc pq ic iq uc uq p2 p2 i2 i2 u2 u2) (nothing-widens pc pq ic iq uc uq p2 i2 u2)
              (record { hand = Holds message; session = coded }) (record { hand = Empty; session = sent }) sends);
          well = well;
          paid = paid;
          unflushed = flushed ∙ same.flushed ∙ one.unflushed;
          packets = step.packets.turn.capacity ∙ one.packets;
          handed = step.handed.turn.capacity ∙ one.handed;
        }

    pub sending-stops-coding : (message : FrameMessage T O) (f0 f1 f2 : F) (p0 p1 p2 : P) (i0 i1 i2 : I) (u0 u1 u2 : U) (before now stopped : Session T O D S C) (count : ℤ) (fault : ChannelFault) →
        IsSending f0 f1 p0 p1 i0 i1 u0 u1 before now count → fc f1 ≡ before_all message (fc f2) → IsTurn (fq f1) (fq f2) →
        ((hand : Hand T O) → IsOpen hand → Stopped ears handing (coding pc pq ic iq uc uq p1 p2 i1 i2 u1 u2) (record { hand = hand; session = now }) stopped fault) →
        Stopped ears handing (taking f0 f2 p0 p2 i0 i2 u0 u2) (record { hand = Empty; session = before }) stopped fault
    sending-stops-coding message f0 f1 f2 p0 p1 p2 i0 i1 i2 u0 u1 u2 before now stopped count fault one taken turn stops =
        codes-stop f0 f2 p0 p1 p2 i0 i1 i2 u0 u1 u2 (record { hand = Empty; session = before }) (record { hand = Holds message; session = now }) stopped fault
        (sending-taken message f0 f1 f2 p0 p1 i0 i1 u0 u1 before now count one taken turn) (stops (Holds message) tt)

    pub sending-stops : (message : FrameMessage T O) (f0 f1 f2 : F) (p0 p1 p2 : P) (i0 i1 i2 : I) (u0 u1 u2 : U) (before now coded stopped : Session T O D S C) (count : ℤ) (fault : ChannelFault) →
        IsSending f0 f1 p0 p1 i0 i1 u0 u1 before now count → fc f1 ≡ before_all message (fc f2) → IsTurn (fq f1) (fq f2) →
        GoesUnder pc pq ic iq uc uq ears handing p1 p2 i1 i2 u1 u2 now coded →
        Stopped ears handing untouched (record { hand = Holds message; session = coded }) stopped fault →
        Stopped ears handing (taking f0 f2 p0 p2 i0 i2 u0 u2) (record { hand = Empty; session = before }) stopped fault
    sending-stops message f0 f1 f2 p0 p1 p2 i0 i1 i2 u0 u1 u2 before now coded stopped count fault one taken turn goes stops =
        codes-stop f0 f2 p0 p2 p2 i0 i2 i2 u0 u2 u2 (record { hand = Empty; session = before }) (record { hand = Holds message; session = coded }) stopped fault
        (codes-join f0 f2 p0 p1 p2 i0 i1 i2 u0 u1 u2 (record { hand = Empty; session = before }) (record { hand = Holds message; session = now }) (record { hand = Holds message; session = coded })
        (sending-taken message f0 f1 f2 p0 p1 i0 i1 u0 u1 before now count one taken turn) (goes (Holds message) tt))
        (stopped-wider ears handing untouched (coding pc pq ic iq uc uq p2 p2 i2 i2 u2 u2) (nothing-widens pc pq ic iq uc uq p2 i2 u2)
        (record { hand = Holds message; session = coded }) stopped fault stops)

    -- all frames, and the end
    pub all-drove : {A : Type 0} (result : Result A ChannelFault) (f0 f1 : F) (p0 p1 p2 : P) (i0 i1 i2 : I) (u0 u1 u2 : U) (a b c : Point T O D S C) →
        Went ears handing (taking f0 f1 p0 p1 i0 i1 u0 u1) a b → Drove ears handing (coding pc pq ic iq uc uq p1 p2 i1 i2 u1 u2) b c result →
        Drove ears handing (taking f0 f1 p0 p2 i0 i2 u0 u2) a c result
    all-drove (Ok done) f0 f1 p0 p1 p2 i0 i1 i2 u0 u1 u2 a b c one two = codes-join f0 f1 p0 p1 p2 i0 i1 i2 u0 u1 u2 a b c one two
    all-drove (Err fault) f0 f1 p0 p1 p2 i0 i1 i2 u0 u1 u2 a b c one two = codes-stop f0 f1 p0 p1 p2 i0 i1 i2 u0 u1 u2 a b c.session fault one two
