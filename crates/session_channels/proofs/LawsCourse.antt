-- What holds of a worker's course from an empty hand on: as many frames are sent and packets given as were taken and put, no
-- metrics are taken in a session without a summary, and no pass data is handed on where none is asked for.
use Rattle.std.proofs.Common.{◌≡◌, ℕ, ◌+◌, ◌==◌, Bool, true, false, cond, ◌&&◌, IsTrue, List, [], ◌∷◌, ◌++◌, length, length-append, Option, Some, None, ℤ, pos, unsigned_abs, refl, sym, ap, ◌∙◌, subst, arith, eqb-true}
use Rattle.pass_data.specs.declared.rc_data.RcData.{RcData}
use Rattle.pass_data.specs.Given.{needed}
use Rattle.ratecontrol.specs.Passes.{commands, frames_needed, is_controlled}
use Rattle.session_core.specs.declared.fault.SessionFault.{SessionFault}
use Rattle.session_core.specs.Contexts.{Session}
use Rattle.session_core.specs.PassCalls.{rate_in, required_of}
use Rattle.session_core.specs.PassTurns.{is_done}
use Rattle.session_channels.specs.Acts.{Act, AreActs, Does, Ears, Empty, Hand, Holds, IsDueWith, IsFeeding, Over, Done, Owes, Point, TakesFrame, SendsFrame, Gives, Receives, HandsOn, Flushes, Stops, data_handed, data_in, frame_taken, frames_in, hand_after, metrics_in, metrics_taken, owing, packet_given, packets_in}
use Rattle.session_channels.proofs.LawsActs.{moved}

-- ---- frames and packets

-- a frame that is held isn't sent
abbrev pending : {T O : Type 0} → Hand T O → ℕ
pending Empty = 0
pending (Holds message) = 1
pending Over = 0
pending Done = 0
pending (Owes hand) = pending hand

abbrev IsEnded : {T O D S C : Type 0} → Hand T O → Session T O D S C → Type 0
IsEnded Empty session = Unit {0}
IsEnded (Holds message) session = Unit {0}
IsEnded Over session = session.moment.flushed ≡ true
IsEnded Done session = (session.moment.flushed ≡ true) × (session.moment.packets ≡ session.moment.accepted)
IsEnded (Owes hand) session = IsEnded hand session

-- so many frames were taken, and so many packets given
pub record Stands {T O D S C : Type 0} (taken given : ℕ) (hand : Hand T O) (session : Session T O D S C) : Type 0 where
  pub accepted : session.moment.accepted + pending hand ≡ taken
  pub packets : session.moment.packets ≡ given
  pub ended : IsEnded hand session

owing-pending : {T O : Type 0} (handing : Bool) (hand : Hand T O) → pending (owing handing hand) ≡ pending hand
owing-pending true hand = refl
owing-pending false hand = refl

owing-ended : {T O D S C : Type 0} (handing : Bool) (hand : Hand T O) (session : Session T O D S C) → IsEnded hand session → IsEnded (owing handing hand) session
owing-ended true hand session ended = ended
owing-ended false hand session ended = ended

-- only the hand changes, which owes pass data
owing-stands : {T O D S C : Type 0} (handing : Bool) (taken given : ℕ) (hand : Hand T O) (session : Session T O D S C) → Stands taken given hand session → Stands taken given (owing handing hand) session
owing-stands true taken given hand session stands = record { accepted = stands.accepted; packets = stands.packets; ended = stands.ended }
owing-stands false taken given hand session stands = stands

-- nothing is counted anew
quiet-stands : {T O D S C : Type 0} (taken given : ℕ) (hand : Hand T O) (before after : Session T O D S C) →
    after.moment.accepted ≡ before.moment.accepted + 0 → after.moment.packets ≡ before.moment.packets + 0 → (before.moment.flushed ≡ true → after.moment.flushed ≡ true) →
    Stands taken given hand before → Stands (taken + 0) (given + 0) hand after
quiet-stands {T} {O} {D} {S} {C} taken given hand before after accepted packets flushed stands = record {
  accepted = let h = stands.accepted in omega arith;
  packets = let h = stands.packets in omega arith;
  ended = by_hand hand stands.ended;
}
  where
    by_hand : (h : Hand T O) → IsEnded h before → IsEnded h after
    by_hand Empty ended = tt
    by_hand (Holds message) ended = tt
    by_hand Over ended = flushed ended
    by_hand Done ended = (flushed ended.0, let e = ended.1 in omega arith)
    by_hand (Owes h) ended = by_hand h ended

done-packets : (flushed : Bool) (packets accepted : ℕ) → IsTrue (flushed && (packets == accepted)) → packets ≡ accepted
done-packets true packets accepted done = eqb-true packets accepted done
done-packets false packets accepted done = absurd (cc)

module _ {T O D S C : Type 0} (ears : Ears T D S C) (handing : Bool) where
  act-stands : (act : Act T O) (hand : Hand T O) (before after : Session T O D S C) (taken given : ℕ) → IsDueWith act hand before → Does ears act before after →
      Stands taken given hand before → Stands (taken + length (frame_taken act)) (given + length (packet_given act)) (hand_after handing act hand) after
  act-stands (TakesFrame message) Empty before after taken given due does stands =
      let m = moved ears (TakesFrame message) before after does in
      record {
        accepted = let a = m.accepted in let h = stands.accepted in omega arith;
        packets = let p = m.packets in let h = stands.packets in omega arith;
        ended = tt;
      }
  act-stands Flushes Empty before after taken given due does stands =
      let m = moved ears Flushes before after does in
      record {
        accepted = let a = m.accepted in let h = stands.accepted in omega arith;
        packets = let p = m.packets in let h = stands.packets in omega arith;
        ended = m.flushed;
      }
  act-stands (SendsFrame message) (Holds held) before after taken given due does stands =
      let m = moved ears (SendsFrame message) before after does in
      record {
        accepted = let a = m.accepted in let h = stands.accepted in omega arith;
        packets = let p = m.packets in let h = stands.packets in omega arith;
        ended = tt;
      }
  act-stands (Gives metrics) hand before after taken given due does stands =
      let m = moved ears (Gives metrics) before after does in
      quiet-stands taken given hand before after m.accepted m.packets m.flushed stands
  act-stands (Receives packet) (Holds held) before after taken given due does stands =
      let m = moved ears (Receives packet) before after does in
      owing-stands handing (taken + 0) (given + length (packet_given (Receives packet))) (Holds held) after (record {
        accepted = let a = m.accepted in let h = stands.accepted in omega arith;
        packets = let p = m.packets in let h = stands.packets in omega arith;
        ended = tt;
      })
  act-stands (Receives packet) Over before after taken given due does stands =
      let m = moved ears (Receives packet) before after does in
      owing-stands handing (taken + 0) (given + length (packet_given (Receives packet))) Over after (record {
        accepted = let a = m.accepted in let h = stands.accepted in omega arith;
        packets = let p = m.packets in let h = stands.packets in omega arith;
        ended = m.flushed stands.ended;
      })
  act-stands (Receives packet) Empty before after taken given due does stands = absurd due.coding
  act-stands (Receives packet) Done before after taken given due does stands = absurd due.coding
  act-stands (Receives packet) (Owes hand) before after taken given due does stands = absurd due.coding
  act-stands (HandsOn message) (Owes hand) before after taken given due does stands =
      let m = moved ears (HandsOn message) before after does in
      quiet-stands taken given hand before after m.accepted m.packets m.flushed
      (record { accepted = stands.accepted; packets = stands.packets; ended = stands.ended })
  act-stands Stops Over before after taken given due does stands =
      let m = moved ears Stops before after does in
      owing-stands handing (taken + 0) (given + 0) Done after (record {
        accepted = let a = m.accepted in let h = stands.accepted in omega arith;
        packets = let p = m.packets in let h = stands.packets in omega arith;
        ended = (
          m.flushed stands.ended,
          let e = done-packets before.moment.flushed before.moment.packets before.moment.accepted due in
              let a = m.accepted in
              let p = m.packets in
              omega arith,
        );
      })
  act-stands act hand before after taken given due does stands = absurd due

  acts-stand : (acts : List (Act T O)) (a b : Point T O D S C) (taken given : ℕ) → AreActs ears handing acts a b → Stands taken given a.hand a.session →
      Stands (taken + length (frames_in acts)) (given + length (packets_in acts)) b.hand b.session
  acts-stand [] a b taken given is stands = subst (λ (p : Point T O D S C). Stands (taken + 0) (given + 0) p.hand p.session) (sym is) (record {
    accepted = let h = stands.accepted in omega arith;
    packets = let h = stands.packets in omega arith;
    ended = stands.ended;
  })
  acts-stand (act ∷ acts) a b taken given (next, one, more) stands =
      let first : Stands (taken + length (frame_taken act)) (given + length (packet_given act)) next.hand next.session =
      subst (λ (h : Hand T O). Stands (taken + length (frame_taken act)) (given + length (packet_given act)) h next.session) (sym one.held)
      (act-stands act a.hand a.session next.session taken given one.due one.does stands) in
      let rest = acts-stand acts next b (taken + length (frame_taken act)) (given + length (packet_given act)) more first in
      let frames : length (frame_taken act ++ frames_in acts) ≡ length (frame_taken act) + length (frames_in acts) = length-append (frame_taken act) (frames_in acts) in
      let packets : length (packet_given act ++ packets_in acts) ≡ length (packet_given act) + length (packets_in acts) = length-append (packet_given act) (packets_in acts) in
      record {
        accepted = let h = rest.accepted in omega arith;
        packets = let h = rest.packets in omega arith;
        ended = rest.ended;
      }

  -- at the end it is flushed, and there is a packet of each frame
  pub course-ends : (acts : List (Act T O)) (before after : Session T O D S C) → before.moment.accepted ≡ 0 → before.moment.packets ≡ 0 →
      AreActs ears handing acts (record { hand = Empty; session = before }) (record { hand = Done; session = after }) →
      (after.moment.flushed ≡ true) × (length (packets_in acts) ≡ length (frames_in acts))
  course-ends acts before after none given are =
      let stands : Stands (0 + length (frames_in acts)) (0 + length (packets_in acts)) Done after =
      acts-stand acts (record { hand = Empty; session = before }) (record { hand = Done; session = after }) 0 0 are
      (record { accepted = let h = none in omega arith; packets = given; ended = tt }) in (
        stands.ended.0,
        let a = stands.accepted in
            let p = stands.packets in
            let e = stands.ended.1 in
            omega arith,
      )

-- ---- a session without a summary

module _ {T O D S C : Type 0} where
  required-none : (session : Session T O D S C) → session.passes.second ≡ false → required_of session ≡ 0
  required-none session off = by_cases session.failure (is_done session.moment) (frames_needed (rate_in session)) none
    where
      none : frames_needed (rate_in session) ≡ pos 0
      none = ap (λ b. cond (b && is_controlled (rate_in session)) (needed (rate_in session).reservoir_delay (commands (rate_in session)) (rate_in session).given) (pos 0)) off

      by_cases : (failure : Option SessionFault) (done : Bool) (frames : ℤ) → frames ≡ pos 0 →
          ◌≡◌ {A = ℕ} (elim failure [ None ↦ cond done 0 (unsigned_abs frames) | Some fault ↦ 0 ]) 0
      by_cases None true frames is = refl
      by_cases None false frames is = ap unsigned_abs is
      by_cases (Some fault) done frames is = refl

  pub never-feeds : (at : Point T O D S C) → at.session.passes.second ≡ false → IsFeeding at → ⊥
  never-feeds at off feeding = let none = required-none at.session off in let h = feeding.needed in omega arith

module _ {T O D S C : Type 0} (ears : Ears T D S C) (handing : Bool) where
  act-unfed : (act : Act T O) (hand : Hand T O) (session : Session T O D S C) → session.passes.second ≡ false → IsDueWith act hand session → metrics_taken act ≡ []
  act-unfed (Gives metrics) hand session off due = absurd (never-feeds (record { hand = hand; session = session }) off due)
  act-unfed (TakesFrame message) hand session off due = refl
  act-unfed (SendsFrame message) hand session off due = refl
  act-unfed (Receives packet) hand session off due = refl
  act-unfed (HandsOn message) hand session off due = refl
  act-unfed Flushes hand session off due = refl
  act-unfed Stops hand session off due = refl

  -- no metrics are taken
  pub acts-unfed : (acts : List (Act T O)) (a b : Point T O D S C) → a.session.passes.second ≡ false → AreActs ears handing acts a b → metrics_in acts ≡ []
  acts-unfed [] a b off is = refl
  acts-unfed (act ∷ acts) a b off (next, one, more) =
      ap (λ (l : List RcData). l ++ metrics_in acts) (act-unfed act a.hand a.session off one.due)
      ∙ acts-unfed acts next b ((moved ears act a.session next.session one.does).second ∙ off) more

-- ---- where no pass data is asked for

-- nothing is owed
abbrev IsFree : {T O : Type 0} → Hand T O → Type 0
IsFree Empty = Unit {0}
IsFree (Holds message) = Unit {0}
IsFree Over = Unit {0}
IsFree Done = Unit {0}
IsFree (Owes hand) = ⊥

module _ {T O D S C : Type 0} (ears : Ears T D S C) where
  act-free : (act : Act T O) (hand : Hand T O) (session : Session T O D S C) → IsDueWith act hand session → IsFree hand →
      (data_handed act ≡ []) × IsFree (hand_after false act hand)
  act-free (TakesFrame message) hand session due free = (refl, tt)
  act-free (SendsFrame message) hand session due free = (refl, tt)
  act-free (Gives metrics) hand session due free = (refl, free)
  act-free (Receives packet) hand session due free = (refl, free)
  act-free (HandsOn message) (Owes hand) session due free = absurd free
  act-free (HandsOn message) Empty session due free = absurd due
  act-free (HandsOn message) (Holds held) session due free = absurd due
  act-free (HandsOn message) Over session due free = absurd due
  act-free (HandsOn message) Done session due free = absurd due
  act-free Flushes hand session due free = (refl, tt)
  act-free Stops hand session due free = (refl, tt)

  -- no pass data is handed on
  pub acts-free : (acts : List (Act T O)) (a b : Point T O D S C) → IsFree a.hand → AreActs ears false acts a b → data_in acts ≡ []
  acts-free [] a b free is = refl
  acts-free (act ∷ acts) a b free (next, one, more) =
      let first = act-free act a.hand a.session one.due free in
      ap (λ (l : List RcData). l ++ data_in acts) first.0
      ∙ acts-free acts next b (subst IsFree (sym one.held) first.1) more
