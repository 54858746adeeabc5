-- What is told grows call by call, and what a detector answers of a list of decisions.
use Rattle.std.proofs.Common.{◌≡◌, ℕ, Bool, false, List, [], ◌∷◌, ◌++◌, map, IfSome, IfOk, Option, Some, None, Result, Ok, Err, sym, ap, ap₂, ◌∙◌, subst, append-nil, append_assoc, ◌+◌, ◌-◌, ◌≤◌, zero-le, arith, refl}
use Rattle.std.specs.Option.{option_map}
use Rattle.std.proofs.lemmas.List.{map-append}
use Rattle.std.proofs.lemmas.List.Elements.{All-nil, All-cons, All-append, filter-append}
use Rattle.av1_frame.specs.declared.frame.Frame.{Frame}
use Rattle.av1_settings.specs.declared.encoder_stats.EncoderStats.{EncoderStats}
use Rattle.session_core.specs.declared.packet.Packet.{Packet}
use Rattle.session_core.specs.declared.transcript.Decision.{Decision}
use Rattle.session_log.specs.declared.entry.LogEntry.{LogEntry}
use Rattle.session_core.specs.Questions.{AreAnswered}
use Rattle.session_core.specs.Taken.{IsTaken, is_shown, shown_ones}
use Rattle.session_core.specs.Told.{CoderTold, DetectorTold, Gave, Handed, Heard, Told, AreAhead, AreBeforeFault, AreNext, Counts, FailsBehind, Grew, GrowsBy, IsAhead, IsCoderLater, IsDetectorLater, IsLater, IsScalesLater, OnlyGrew, ScalesTold}

pub grew-none : {E : Type 0} (told : Option (List E)) → Grew told told []
grew-none None = tt
grew-none (Some told) = sym (append-nil told)

pub grew-then : {E : Type 0} (before between after : Option (List E)) (first then : List E) →
    Grew before between first → Grew between after then → Grew before after (first ++ then)
grew-then None between after first then a b = tt
grew-then (Some before) None after first then a b = absurd a
grew-then (Some before) (Some between) None first then a b = absurd b
grew-then {E} (Some before) (Some between) (Some after) first then a b =
    b ∙ ap (λ (l : List E). l ++ then) a ∙ append_assoc before first then

pub only-none : {E : Type 0} (told : Option (List E)) → OnlyGrew told told
only-none told = ([], grew-none told)

pub only-then : {E : Type 0} (before between after : Option (List E)) → OnlyGrew before between → OnlyGrew between after → OnlyGrew before after
only-then before between after a b = (a.0 ++ b.0, grew-then before between after a.0 b.0 a.1 b.1)

-- ---- of one call

-- the entry of a call that gave a value
pub grows-ok : {E V F : Type 0} (before after : Option (List E)) (result : Result V F) (entry : V → E) (wanted : V → List E) →
    ((v : V) → entry v ∷ [] ≡ wanted v) → GrowsBy before after result entry → IfOk result (λ v. Grew before after (wanted v))
grows-ok before after (Ok v) entry wanted same grew = subst (Grew before after) (same v) grew
grows-ok before after (Err e) entry wanted same grew = tt

pub grows-only : {E V F : Type 0} (before after : Option (List E)) (result : Result V F) (entry : V → E) →
    GrowsBy before after result entry → OnlyGrew before after
grows-only before after (Ok v) entry grew = (entry v ∷ [], grew)
grows-only before after (Err e) entry grew = ([], grew)

-- ---- answers that are told ahead

abbrev pub IsAnsweredAt : (ℕ → Bool) → Decision → Type 0
IsAnsweredAt at decision = decision.forced ≡ false → decision.key ≡ at decision.position

pub answered-none : (answers : Option (ℕ → Bool)) → AreAnswered answers []
answered-none None = tt
answered-none (Some at) = All-nil (IsAnsweredAt at)

pub answered-append : (answers : Option (ℕ → Bool)) (a b : List Decision) → AreAnswered answers a → AreAnswered answers b → AreAnswered answers (a ++ b)
answered-append None a b first then = tt
answered-append (Some at) a b first then = All-append (IsAnsweredAt at) a b first then

pub answered-one : (answers : Option (ℕ → Bool)) (decision : Decision) → IfSome answers (λ at. IsAnsweredAt at decision) → AreAnswered answers (decision ∷ [])
answered-one None decision is = tt
answered-one (Some at) decision is = All-cons (IsAnsweredAt at) decision [] is (All-nil (IsAnsweredAt at))

-- ---- what a coder tells ahead

-- more calls, each of which gave what is next
pub next-append : {T : Type 0} (next : List (Told T) → Handed T → Gave T) (calls first second : List (Told T)) →
    AreNext next calls first → AreNext next (calls ++ first) second → AreNext next calls (first ++ second)
next-append {T} next calls [] second a b = subst (λ (c : List (Told T)). AreNext next c second) (append-nil calls) b
next-append {T} next calls (one ∷ first) second a b = (
  a.0,
  next-append next (calls ++ one ∷ []) first second a.1
      (subst (λ (c : List (Told T)). AreNext next c second) (sym (append_assoc calls (one ∷ []) first)) b),
)

-- the same where what is told is
abbrev pub AheadOf : {T : Type 0} → Option (List (Told T)) → Option (List (Told T) → Handed T → Gave T) → List (Told T) → Type 0
AheadOf told gives taken = IfSome told (λ calls. IfSome gives (λ next. AreNext next calls taken))

ahead-none : {T : Type 0} (told : Option (List (Told T))) (gives : Option (List (Told T) → Handed T → Gave T)) → AheadOf told gives []
ahead-none None gives = tt
ahead-none (Some calls) None = tt
ahead-none (Some calls) (Some next) = tt

ahead-append : {T : Type 0} (told then : Option (List (Told T))) (gives gives_then : Option (List (Told T) → Handed T → Gave T)) (first second : List (Told T)) →
    Grew told then first → gives_then ≡ gives → AheadOf told gives first → AheadOf then gives_then second → AheadOf told gives (first ++ second)
ahead-append None then gives gives_then first second grew same a b = tt
ahead-append (Some calls) None gives gives_then first second grew same a b = absurd grew
ahead-append (Some calls) (Some more) None gives_then first second grew same a b = tt
ahead-append {T} (Some calls) (Some more) (Some next) gives_then first second grew same a b =
    let kept : AheadOf (Some more) (Some next) second =
    subst (λ (g : Option (List (Told T) → Handed T → Gave T)). AheadOf (Some more) g second) same b in
    next-append next calls first second a (subst (λ (c : List (Told T)). AreNext next c second) grew kept)

pub ahead-nothing : {T : Type 0} (told : CoderTold T) → AreAhead told []
ahead-nothing told = ahead-none told.calls told.gives

pub ahead-one : {T : Type 0} (told : CoderTold T) (handed : Handed T) (gave : Gave T) → IsAhead told handed gave →
    AreAhead told (record { handed = handed; gave = gave } ∷ [])
ahead-one {T} told handed gave is = by_told told.calls told.gives is
  where
    by_told : (calls : Option (List (Told T))) (gives : Option (List (Told T) → Handed T → Gave T)) →
        IfSome calls (λ c. IfSome gives (λ next. gave ≡ next c handed)) → AheadOf calls gives (record { handed = handed; gave = gave } ∷ [])
    by_told None gives is = tt
    by_told (Some calls) None is = tt
    by_told (Some calls) (Some next) is = (is, tt)

pub counts-none : (fails : Option (Option ℕ)) → Counts fails fails 0
counts-none None = tt
counts-none (Some None) = refl
counts-none (Some (Some left)) =
    let same : left ≡ left - 0 = omega arith in
    (zero-le, ap (λ (n : ℕ). Some (Some n)) same)

pub counts-then : (before between after : Option (Option ℕ)) (n m : ℕ) → Counts before between n → Counts between after m → Counts before after (n + m)
counts-then None between after n m a b = tt
counts-then (Some None) between after n m a b = subst (λ (f : Option (Option ℕ)). Counts f after m) a b
counts-then (Some (Some left)) between after n m a b =
    let then : Counts (Some (Some (left - n))) after m = subst (λ (f : Option (Option ℕ)). Counts f after m) a.1 b in
    let within : n + m ≤ left = omega (arith, a.0, then.0) in
    let rest : left - n - m ≡ left - (n + m) = omega arith in
    (within, then.1 ∙ ap (λ (k : ℕ). Some (Some k)) rest)

pub counts-within : (before after : Option (Option ℕ)) (n : ℕ) → Counts before after n → AreBeforeFault before n
counts-within None after n a = tt
counts-within (Some None) after n a = tt
counts-within (Some (Some left)) after n a = a.0

pub counts-fault : (before after : Option (Option ℕ)) (n m : ℕ) → Counts before after n → FailsBehind after m → FailsBehind before (n + m)
counts-fault None after n m a b = tt
counts-fault (Some None) after n m a b = subst (λ (f : Option (Option ℕ)). FailsBehind f m) a b
counts-fault (Some (Some left)) after n m a b =
    let then : left - n ≡ m = subst (λ (f : Option (Option ℕ)). FailsBehind f m) a.1 b in
    omega (arith, a.0, then)

-- ---- what a coder took

pub taken-none : {T O : Type 0} (told : CoderTold T) → IsTaken {T = T} {O = O} [] [] [] told told
taken-none {T} {O} told = record {
  taken = [];
  calls = grew-none told.calls;
  handed = refl;
  bytes = refl;
  recs = refl;
  stats = refl;
  ahead = ahead-none told.calls told.gives;
  gives = refl;
}

-- and then more
pub taken-then : {T O : Type 0} (before between after : CoderTold T) (jobs jobs_then : List (Handed T)) (entries entries_then : List LogEntry) (packets packets_then : List (Packet T O)) →
    IsTaken jobs entries packets before between → IsTaken jobs_then entries_then packets_then between after →
    IsTaken (jobs ++ jobs_then) (entries ++ entries_then) (packets ++ packets_then) before after
taken-then {T} {O} before between after jobs jobs_then entries entries_then packets packets_then a b = record {
  taken = a.taken ++ b.taken;
  calls = grew-then before.calls between.calls after.calls a.taken b.taken a.calls b.calls;
  handed = map-append (λ (one : Told T). one.handed) a.taken b.taken ∙ ap₂ (λ (x y : List (Handed T)). x ++ y) a.handed b.handed;
  bytes =
      map-append (λ (one : Told T). one.gave.bytes) a.taken b.taken
      ∙ ap₂ (λ (x y : List (List ℕ)). x ++ y) a.bytes b.bytes
      ∙ sym (map-append (λ (entry : LogEntry). entry.bytes) entries entries_then);
  recs =
      map-append (λ (packet : Packet T O). option_map (λ rec. rec.value) packet.rec) packets packets_then
      ∙ ap₂ (λ (x y : List (Option (Frame T))). x ++ y) a.recs b.recs
      ∙ sym (map-append (λ (one : Told T). one.gave.rec) (shown_ones a.taken) (shown_ones b.taken))
      ∙ ap (map (λ (one : Told T). one.gave.rec)) (sym shown);
  stats =
      map-append (λ (packet : Packet T O). packet.enc_stats) packets packets_then
      ∙ ap₂ (λ (x y : List EncoderStats). x ++ y) a.stats b.stats
      ∙ sym (map-append (λ (one : Told T). one.gave.stats) (shown_ones a.taken) (shown_ones b.taken))
      ∙ ap (map (λ (one : Told T). one.gave.stats)) (sym shown);
  ahead = ahead-append before.calls between.calls before.gives between.gives a.taken b.taken a.calls a.gives a.ahead b.ahead;
  gives = b.gives ∙ a.gives;
}
  where
    shown : shown_ones (a.taken ++ b.taken) ≡ shown_ones a.taken ++ shown_ones b.taken
    shown = filter-append (λ (one : Told T). is_shown one.handed) a.taken b.taken

-- ---- those outside, later

pub coder-same : {T : Type 0} (told : CoderTold T) → IsCoderLater told told
coder-same told = record { calls = only-none told.calls; gives = refl; faults = omega arith }

pub coder-then : {T : Type 0} (before between after : CoderTold T) → IsCoderLater before between → IsCoderLater between after → IsCoderLater before after
coder-then before between after a b = record {
  calls = only-then before.calls between.calls after.calls a.calls b.calls;
  gives = b.gives ∙ a.gives;
  faults = omega (arith, a.faults, b.faults);
}

pub detector-same : {T : Type 0} (told : DetectorTold T) → IsDetectorLater told told
detector-same told = record { questions = only-none told.questions; answers = refl }

pub detector-then : {T : Type 0} (before between after : DetectorTold T) → IsDetectorLater before between → IsDetectorLater between after → IsDetectorLater before after
detector-then before between after a b = record {
  questions = only-then before.questions between.questions after.questions a.questions b.questions;
  answers = b.answers ∙ a.answers;
}

pub scales-same : {T : Type 0} (told : ScalesTold T) → IsScalesLater told told
scales-same told = record { frames = only-none told.frames; answers = refl }

pub scales-then : {T : Type 0} (before between after : ScalesTold T) → IsScalesLater before between → IsScalesLater between after → IsScalesLater before after
scales-then before between after a b = record {
  frames = only-then before.frames between.frames after.frames a.frames b.frames;
  answers = b.answers ∙ a.answers;
}

pub later-same : {T : Type 0} (told : Heard T) → IsLater told told
later-same told = record { coder = coder-same told.coder; detector = detector-same told.detector; scales = scales-same told.scales }

pub later-then : {T : Type 0} (before between after : Heard T) → IsLater before between → IsLater between after → IsLater before after
later-then before between after a b = record {
  coder = coder-then before.coder between.coder after.coder a.coder b.coder;
  detector = detector-then before.detector between.detector after.detector a.detector b.detector;
  scales = scales-then before.scales between.scales after.scales a.scales b.scales;
}
