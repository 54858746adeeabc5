-- The calls of a job are the same up to the handles on its pictures; they decide no key.
use Rattle.std.proofs.Common.{◌≡◌, ℕ, zero, suc, ◌+◌, ◌-◌, Bool, true, false, Global, List, [], ◌∷◌, ◌++◌, map, length, replicate, All, IsTrue, Option, None, refl, sym, ap, ap₂, ◌∙◌, subst, arith}
use Rattle.std.specs.Prelude.{⊤}
use Rattle.std.specs.List.{range_with_len, slice_get}
use Rattle.std.specs.Option.{option_map_or}
use Rattle.std.specs.declared.sync.Arc.{Arc}
use Rattle.std.proofs.lemmas.List.{length-map}
use Rattle.av1_frame.specs.declared.frame.Frame.{Frame}
use Rattle.av1_settings.specs.declared.encoder.EncoderConfig.{EncoderConfig}
use Rattle.session_core.specs.declared.call.Call.{Call}
use Rattle.session_core.specs.declared.call.Call.TheVariants.{Send, Flush, Receive}
use Rattle.session_core.specs.declared.call.FrameParameters.{FrameParameters}
use Rattle.session_core.specs.declared.transcript.Decision.{Decision}
use Rattle.session_core.specs.declared.transcript.Reply.{Reply}
use Rattle.session_core.specs.declared.transcript.Reply.TheVariants.{Sent, Flushed, Packet as GivesPacket, Status}
use Rattle.session_core.specs.declared.transcript.Turn.{Turn}
use Rattle.session_core.specs.Moments.{Accepted}
use Rattle.session_core.specs.Sessions.{AreKeyDecisions, accepted_by, accepted_in}
use Rattle.gop_board.specs.JobCalls.{AreJobCalls, done_before, job_calls, job_plan, sends_from}

-- ---- the same calls

-- frames without parameters, of the same pictures
abbrev pub SameCall : {T : Type 0} → Call T ⊤ → Call T ⊤ → Type 0
SameCall (Send frame parameters) (Send other others) = (frame.value ≡ other.value) × (parameters ≡ None) × (others ≡ None)
SameCall Flush Flush = ⊤
SameCall Receive Receive = ⊤
SameCall call other = ⊥

abbrev pub SameCalls : {T : Type 0} → List (Call T ⊤) → List (Call T ⊤) → Type 0
SameCalls [] [] = ⊤
SameCalls (call ∷ calls) (other ∷ others) = SameCall call other × SameCalls calls others
SameCalls calls others = ⊥

same-append : {T : Type 0} (calls others more further : List (Call T ⊤)) → SameCalls calls others → SameCalls more further → SameCalls (calls ++ more) (others ++ further)
same-append [] [] more further a b = b
same-append [] (other ∷ others) more further a b = absurd a
same-append (call ∷ calls) [] more further a b = absurd a
same-append (call ∷ calls) (other ∷ others) more further a b = (a.0, same-append calls others more further a.1 b)

same-receives : (T : Type 0) (n : ℕ) → SameCalls {T = T} (replicate n Receive) (replicate n Receive)
same-receives T zero = tt
same-receives T (suc n) = (tt, same-receives T n)

same-sends : {T : Type 0} (enc : EncoderConfig) (number : ℕ) (frames others : List (Arc (Frame T) Global)) →
    map (λ frame. frame.value) frames ≡ map (λ frame. frame.value) others → SameCalls (sends_from enc number frames) (sends_from enc number others)
same-sends enc number [] [] same = tt
same-sends enc number [] (other ∷ others) same = absurd (cc)
same-sends enc number (frame ∷ frames) [] same = absurd (cc)
same-sends {T} enc number (frame ∷ frames) (other ∷ others) same =
    same-append (replicate (done_before enc number - done_before enc (number - 1)) Receive) (replicate (done_before enc number - done_before enc (number - 1)) Receive) _ _
    (same-receives T (done_before enc number - done_before enc (number - 1)))
    (((head frame.value other.value _ _ same, refl, refl)), same-sends enc (number + 1) frames others (tail frame.value other.value _ _ same))
  where
    head : (x y : Frame T) (xs ys : List (Frame T)) → x ∷ xs ≡ y ∷ ys → x ≡ y
    head x y xs ys e = cc

    tail : (x y : Frame T) (xs ys : List (Frame T)) → x ∷ xs ≡ y ∷ ys → xs ≡ ys
    tail x y xs ys e = cc

-- the calls behind the sends of so many frames
abbrev last_calls : {T : Type 0} → EncoderConfig → ℕ → List (Call T ⊤)
last_calls enc n = Flush ∷ replicate (length (job_plan enc n) - done_before enc (n - 1)) Receive

pub job-calls-same : {T : Type 0} (enc : EncoderConfig) (pictures : List (Frame T)) (calls others : List (Call T ⊤)) →
    AreJobCalls enc pictures calls → AreJobCalls enc pictures others → SameCalls calls others
job-calls-same {T} enc pictures calls others one other =
    subst (λ (l : List (Call T ⊤)). SameCalls l others) (sym one.calls_are)
    (subst (λ (l : List (Call T ⊤)). SameCalls (job_calls enc one.frames) l) (sym other.calls_are)
    (same-append (sends_from enc 0 one.frames) (sends_from enc 0 other.frames) _ _ (same-sends enc 0 one.frames other.frames (one.pictures_are ∙ sym other.pictures_are))
    (subst (λ (n : ℕ). SameCalls {T = T} (last_calls enc (length one.frames)) (last_calls enc n)) count
    (tt, same-receives T (length (job_plan enc (length one.frames)) - done_before enc (length one.frames - 1))))))
  where
    count : length one.frames ≡ length other.frames
    count = sym (length-map one.frames (λ frame. frame.value)) ∙ ap length (one.pictures_are ∙ sym other.pictures_are) ∙ length-map other.frames (λ frame. frame.value)

-- ---- no keys are decided

-- no frame was sent as a key
abbrev pub Plain : {T : Type 0} → List (Accepted T ⊤) → Type 0
Plain [] = ⊤
Plain (accepted ∷ more) = (accepted.forced ≡ false) × Plain more

plain-append : {T : Type 0} (front rest : List (Accepted T ⊤)) → Plain front → Plain rest → Plain (front ++ rest)
plain-append [] rest a b = b
plain-append (one ∷ front) rest a b = (a.0, plain-append front rest a.1 b)

plain-sent : {T : Type 0} (frame : Arc (Frame T) Global) (reply : Reply T ⊤) → Plain (accepted_by (Send frame None) reply)
plain-sent frame (Sent number) = (refl, tt)
plain-sent frame Flushed = tt
plain-sent frame (GivesPacket packet) = tt
plain-sent frame (Status status) = tt

plain-by : {T : Type 0} (call other : Call T ⊤) (reply : Reply T ⊤) → SameCall call other → Plain (accepted_by call reply)
plain-by {T} (Send frame parameters) (Send other others) reply same =
    subst (λ (p : Option (FrameParameters ⊤)). Plain (sent_by frame p reply)) (sym same.1) (plain-sent frame reply)
  where
    sent_by : Arc (Frame T) Global → Option (FrameParameters ⊤) → Reply T ⊤ → List (Accepted T ⊤)
    sent_by frame p reply = accepted_by (Send frame p) reply
plain-by (Send frame parameters) Flush reply same = absurd same
plain-by (Send frame parameters) Receive reply same = absurd same
plain-by Flush other reply same = tt
plain-by Receive other reply same = tt

plain-in : {T : Type 0} (calls others : List (Call T ⊤)) (turns : List (Turn T ⊤)) → SameCalls calls others → Plain (accepted_in calls turns)
plain-in [] others turns same = tt
plain-in (call ∷ calls) [] turns same = absurd same
plain-in (call ∷ calls) (other ∷ others) [] same = tt
plain-in (call ∷ calls) (other ∷ others) (turn ∷ turns) same =
    plain-append (accepted_by call turn.reply) (accepted_in calls turns) (plain-by call other turn.reply same.0) (plain-in calls others turns same.1)

plain-at : {T : Type 0} (sent : List (Accepted T ⊤)) (n : ℕ) → Plain sent → option_map_or (λ accepted. accepted.forced) (slice_get sent n) false ≡ false
plain-at [] n plain = refl
plain-at (one ∷ sent) zero plain = plain.0
plain-at (one ∷ sent) (suc n) plain = plain-at sent n plain.1

-- no decision is a key
abbrev pub Unkeyed : List Decision → Type 0
Unkeyed [] = ⊤
Unkeyed (decision ∷ decisions) = (decision.key ≡ false) × Unkeyed decisions

pub unkeyed-front : (front rest : List Decision) → Unkeyed (front ++ rest) → Unkeyed front
unkeyed-front [] rest h = tt
unkeyed-front (one ∷ front) rest h = (h.0, unkeyed-front front rest h.1)

pub unkeyed-rest : (front rest : List Decision) → Unkeyed (front ++ rest) → Unkeyed rest
unkeyed-rest [] rest h = h
unkeyed-rest (one ∷ front) rest h = unkeyed-rest front rest h.1

pub unkeyed-all : {T : Type 0} (sent : List (Accepted T ⊤)) (decisions : List Decision) (from : ℕ) → Plain sent →
    map (λ decision. decision.forced) decisions ≡ map (λ position. option_map_or (λ accepted. accepted.forced) (slice_get sent position) false) (range_with_len from (length decisions)) →
    All (λ decision. decision.forced ≡ false → decision.key ≡ false) decisions → Unkeyed decisions
unkeyed-all sent [] from plain forced keys = tt
unkeyed-all sent (one ∷ decisions) from plain forced keys = (
  keys 0 one (omega arith) (head _ _ _ _ forced ∙ plain-at sent from plain),
  unkeyed-all sent decisions (from + 1) plain (tail _ _ _ _ forced) (λ k d within. keys (suc k) d (omega arith)),
)
  where
    head : (x y : Bool) (xs ys : List Bool) → x ∷ xs ≡ y ∷ ys → x ≡ y
    head x y xs ys e = cc

    tail : (x y : Bool) (xs ys : List Bool) → x ∷ xs ≡ y ∷ ys → xs ≡ ys
    tail x y xs ys e = cc

pub unkeyed-run : {T : Type 0} (calls others : List (Call T ⊤)) (turns : List (Turn T ⊤)) (decisions : List Decision) → SameCalls calls others →
    AreKeyDecisions (accepted_in calls turns) decisions → All (λ decision. decision.forced ≡ false → decision.key ≡ false) decisions → Unkeyed decisions
unkeyed-run calls others turns decisions same keys answers =
    unkeyed-all (accepted_in calls turns) decisions 1 (plain-in calls others turns same) keys.forced answers

-- ---- the decisions of a call

-- decisions that are no keys, one for each position
abbrev pub undecided : ℕ → ℕ → List Decision
undecided from count = map (λ position. record { position = position; forced = false; key = false }) (range_with_len from count)

pub undecided-made : (from : ℕ) (made : List Decision) → map (λ decision. decision.position) made ≡ range_with_len from (length made) →
    All (λ decision. IsTrue decision.forced → IsTrue decision.key) made → Unkeyed made → made ≡ undecided from (length made)
undecided-made from [] positions keys un = refl
undecided-made from (one ∷ made) positions keys un =
    ap₂ (λ (x : Decision) (xs : List Decision). x ∷ xs) this (undecided-made (from + 1) made (tail _ _ _ _ positions) (λ k d within. keys (suc k) d (omega arith)) un.1)
  where
    head : (x y : ℕ) (xs ys : List ℕ) → x ∷ xs ≡ y ∷ ys → x ≡ y
    head x y xs ys e = cc

    tail : (x y : ℕ) (xs ys : List ℕ) → x ∷ xs ≡ y ∷ ys → xs ≡ ys
    tail x y xs ys e = cc

    unforced : (b : Bool) → (IsTrue b → IsTrue one.key) → b ≡ false
    unforced false h = refl
    unforced true h = absurd (clash one.key (h refl) un.0)
      where
        clash : (t : Bool) → t ≡ true → t ≡ false → ⊥
        clash t one two = cc

    forced : one.forced ≡ false
    forced = unforced one.forced (keys 0 one (omega arith))

    this : one ≡ record { position = from; forced = false; key = false }
    this =
        ap (λ (p : ℕ). record { position = p; forced = one.forced; key = one.key }) (head _ _ _ _ positions)
        ∙ ap₂ (λ (f k : Bool). record { position = from; forced = f; key = k }) forced un.0
