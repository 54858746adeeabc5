-- What a coder, a detector and a source of mean scales tell of their calls, and of those to come.
use Rattle.std.specs.Prelude.{◌≡◌, ℕ, ℤ, ◌-◌, ◌≤◌, Bool, List, [], ◌∷◌, ◌++◌, Option, None, Some, IfSome, Result, Ok, Err, MatchResult, ⊤}
use Rattle.std.specs.Option.{option_map}
use Rattle.av1_frame.specs.declared.frame.Frame.{Frame}
use Rattle.av1_settings.specs.declared.encoder_stats.EncoderStats.{EncoderStats}
use Rattle.av1_settings.specs.declared.speed.SceneDetectionSpeed.{SceneDetectionSpeed}
use Rattle.av1_settings.specs.declared.t35.T35.{T35}
use Rattle.pyramid.specs.declared.command.Command.{Command}
use Rattle.quantizers.specs.declared.parameters.QuantizerParameters.{QuantizerParameters}
use Rattle.session_core.specs.declared.coder.CodeJob.{CodeJob}
use Rattle.session_core.specs.declared.coder.CodedFrame.{CodedFrame}
use Rattle.session_core.specs.declared.coder.CoderError.{CoderError}
use Rattle.session_core.specs.declared.coder.CoderError.TheVariants.{Failed, OutOfMemory}
use Rattle.session_core.specs.declared.coder.ShownFrame.{ShownFrame}

-- ---- what a coder is handed, and what it gives

-- a frame to code: the command, whether it is only tried, the quantisers, the picture, and the metadata sent with it
pub record Job (T : Type 0) : Type 0 where
  pub command : Command
  pub trial : Bool
  pub quant : Option QuantizerParameters
  pub picture : Frame T
  pub t35 : List T35

-- a slot to show, and the number of the frame that it holds
pub record Show : Type 0 where
  pub slot : ℕ
  pub frame : ℕ

pub data Handed (T : Type 0) : Type 0 where
  ToCode : Job T → Handed T
  ToShow : Show → Handed T

-- the bytes, the coder's own picture of the frame, and its counts
pub record Gave (T : Type 0) : Type 0 where
  pub bytes : List ℕ
  pub rec : Option (Frame T)
  pub stats : EncoderStats

-- a call that gave something
pub record Told (T : Type 0) : Type 0 where
  pub handed : Handed T
  pub gave : Gave T

abbrev pub handed_code : {T : Type 0} → CodeJob T → Handed T
handed_code job = ToCode (record {
  command = job.command;
  trial = job.trial;
  quant = Some job.quant;
  picture = job.picture.value;
  t35 = job.t35.value;
})

abbrev pub handed_show : {T : Type 0} → ℕ → ℕ → Handed T
handed_show slot frame = ToShow (record { slot = slot; frame = frame })

abbrev pub gave_code : {T : Type 0} → CodedFrame T → Gave T
gave_code coded = record {
  bytes = coded.bytes;
  rec = option_map (λ rec. rec.value) coded.rec;
  stats = coded.stats;
}

abbrev pub gave_show : {T : Type 0} → ShownFrame T → Gave T
gave_show shown = record {
  bytes = shown.bytes;
  rec = option_map (λ rec. rec.value) shown.rec;
  stats = shown.stats;
}

-- what is told of a job and its answer
abbrev pub told_code : {T : Type 0} → CodeJob T → CodedFrame T → Told T
told_code job coded = record { handed = handed_code job; gave = gave_code coded }

-- what is told of a slot, the number of its frame, and the answer
abbrev pub told_show : {T : Type 0} → ℕ → ℕ → ShownFrame T → Told T
told_show slot frame shown = record { handed = handed_show slot frame; gave = gave_show shown }

-- what a coder tells: the calls that gave something; ahead, what it gives next for those calls and what it is then handed,
-- and how many further calls give something before the first that fails (none, where none fails); how often it failed
pub record CoderTold (T : Type 0) : Type 0 where
  pub calls : Option (List (Told T))
  pub gives : Option (List (Told T) → Handed T → Gave T)
  pub fails_after : Option (Option ℕ)
  pub faults : ℕ

-- ---- what a detector is asked, and what it answers

-- a question that a detector answered: how closely it was to look, the position, the greatest key decided before it, the
-- frames from the one before the position on, and the answer
pub record Asked (T : Type 0) : Type 0 where
  pub mode : SceneDetectionSpeed
  pub position : ℕ
  pub last_key : ℕ
  pub frames : List (Frame T)
  pub answer : Bool

-- what is told of a question and its answer
abbrev pub told_ask : {T : Type 0} → SceneDetectionSpeed → List (Frame T) → ℕ → ℕ → Bool → Asked T
told_ask mode frames position last_key answer =
    record { mode = mode; position = position; last_key = last_key; frames = frames; answer = answer }

-- what a detector tells: the questions that it answered; ahead, of each position, what it answers there
pub record DetectorTold (T : Type 0) : Type 0 where
  pub questions : Option (List (Asked T))
  pub answers : Option (ℕ → Bool)

-- ---- what mean scales are asked for

-- a frame whose mean scale was given: its number, its picture, and what was given
pub record Scaled (T : Type 0) : Type 0 where
  pub number : ℕ
  pub picture : Frame T
  pub answer : ℤ

-- what is told of a frame and its mean scale
abbrev pub told_scale : {T : Type 0} → ℕ → Frame T → ℤ → Scaled T
told_scale number picture answer = record { number = number; picture = picture; answer = answer }

-- what a source of mean scales tells: the frames for which it gave one; ahead, of each number, what it gives there
pub record ScalesTold (T : Type 0) : Type 0 where
  pub frames : Option (List (Scaled T))
  pub answers : Option (ℕ → ℤ)

-- what all those outside a session tell
pub record Heard (T : Type 0) : Type 0 where
  pub coder : CoderTold T
  pub detector : DetectorTold T
  pub scales : ScalesTold T

abbrev pub heard : {T : Type 0} → CoderTold T → DetectorTold T → ScalesTold T → Heard T
heard coder detector scales = record { coder = coder; detector = detector; scales = scales }

-- ---- what is told grows

-- what is told grew by these entries; who tells goes on telling
abbrev pub Grew : {E : Type 0} → Option (List E) → Option (List E) → List E → Type 0
Grew None after entries = ⊤
Grew (Some before) None entries = ⊥
Grew (Some before) (Some after) entries = after ≡ before ++ entries

-- what is told grew by the entry of a call that gave a value, and stayed where the call failed
abbrev pub GrowsBy : {E V F : Type 0} → Option (List E) → Option (List E) → Result V F → (V → E) → Type 0
GrowsBy before after result entry =
    MatchResult result (λ value. Grew before after (entry value ∷ [])) (λ _. Grew before after [])

-- what is told only grew
abbrev pub OnlyGrew : {E : Type 0} → Option (List E) → Option (List E) → Type 0
OnlyGrew {E} before after = (entries : List E) × Grew before after entries

-- what a coder tells later: more calls and more failures at most, and ahead the same
pub record IsCoderLater {T : Type 0} (before after : CoderTold T) : Type 0 where
  pub calls : OnlyGrew before.calls after.calls
  pub gives : after.gives ≡ before.gives
  pub faults : before.faults ≤ after.faults

-- what a detector tells later: more questions at most, and ahead the same
pub record IsDetectorLater {T : Type 0} (before after : DetectorTold T) : Type 0 where
  pub questions : OnlyGrew before.questions after.questions
  pub answers : after.answers ≡ before.answers

-- what a source of mean scales tells later: more frames at most, and ahead the same
pub record IsScalesLater {T : Type 0} (before after : ScalesTold T) : Type 0 where
  pub frames : OnlyGrew before.frames after.frames
  pub answers : after.answers ≡ before.answers

pub record IsLater {T : Type 0} (before after : Heard T) : Type 0 where
  pub coder : IsCoderLater before.coder after.coder
  pub detector : IsDetectorLater before.detector after.detector
  pub scales : IsScalesLater before.scales after.scales

-- ---- what a coder tells ahead

-- what is given is what was told ahead, where the calls so far are told too
abbrev pub IsAhead : {T : Type 0} → CoderTold T → Handed T → Gave T → Type 0
IsAhead told handed gave =
    IfSome told.calls (λ calls. IfSome told.gives (λ next. gave ≡ next calls handed))

-- each of these calls gave what is next behind those before it
abbrev pub AreNext : {T : Type 0} → (List (Told T) → Handed T → Gave T) → List (Told T) → List (Told T) → Type 0
AreNext next calls [] = ⊤
AreNext next calls (one ∷ more) = (one.gave ≡ next calls one.handed) × AreNext next (calls ++ one ∷ []) more

-- each of these calls gave what was told ahead
abbrev pub AreAhead : {T : Type 0} → CoderTold T → List (Told T) → Type 0
AreAhead told taken = IfSome told.calls (λ calls. IfSome told.gives (λ next. AreNext next calls taken))

-- so many calls gave bytes, and that many fewer are left before the first that fails; it may be that none fails
abbrev pub Counts : Option (Option ℕ) → Option (Option ℕ) → ℕ → Type 0
Counts None after count = ⊤
Counts (Some None) after count = after ≡ Some None
Counts (Some (Some left)) after count = (count ≤ left) × (after ≡ Some (Some (left - count)))

-- so many calls come before the first that fails
abbrev pub AreBeforeFault : Option (Option ℕ) → ℕ → Type 0
AreBeforeFault (Some (Some left)) count = count ≤ left
AreBeforeFault fails count = ⊤

-- behind exactly so many calls the first fails
abbrev pub FailsBehind : Option (Option ℕ) → ℕ → Type 0
FailsBehind None count = ⊤
FailsBehind (Some None) count = ⊥
FailsBehind (Some (Some left)) count = left ≡ count

-- a call that gave bytes counts; where one fails, it is the first that does
abbrev pub CountsBy : {V : Type 0} → Option (Option ℕ) → Option (Option ℕ) → Result V CoderError → Type 0
CountsBy before after (Ok value) = Counts before after 1
CountsBy before after (Err Failed) = FailsBehind before 0
CountsBy before after (Err OutOfMemory) = ⊤
