-- What a detector is asked: once of each decided position whose frame wasn't sent as a key frame.
use Rattle.std.specs.Prelude.{◌≡◌, ℕ, ◌+◌, ◌-◌, Bool, false, nat_lt, if◌then◌else◌, max, List, [], ◌∷◌, map, filter, fold, length, take, drop, All, IfSome, Option}
use Rattle.std.specs.List.{flat_map}
use Rattle.av1_frame.specs.declared.frame.Frame.{Frame}
use Rattle.av1_settings.specs.declared.encoder.EncoderConfig.{EncoderConfig}
use Rattle.av1_settings.specs.declared.speed.SceneDetectionSpeed.{SceneDetectionSpeed}
use Rattle.pyramid.specs.Numbers.{ahead}
use Rattle.pyramid.specs.Settings.{numbers_of}
use Rattle.session_core.specs.declared.transcript.Decision.{Decision}
use Rattle.session_core.specs.Decisions.{key_positions}
use Rattle.session_core.specs.Moments.{Accepted, Moment}
use Rattle.session_core.specs.Told.{Asked, told_ask, Grew, Heard}

-- the greatest key decided before a position, and 0, the first frame, where there is none; a GOP that only the interval
-- begins doesn't begin with a decided key
abbrev pub last_key : List Decision → ℕ → ℕ
last_key decisions position = fold max 0 (filter (λ key. nat_lt key position) (key_positions decisions))

-- the question of one of these decisions, where `frames` has what is handed over for a position; none where the frame was
-- sent as a key frame
abbrev pub question : {T : Type 0} → SceneDetectionSpeed → (ℕ → List (Frame T)) → List Decision → Decision → List (Asked T)
question mode frames decisions decision =
    if decision.forced then []
    else told_ask mode (frames decision.position) decision.position (last_key decisions decision.position) decision.key ∷ []

-- ---- of a whole session

-- of the frames sent, those from the one before a position on, at most `ahead + 2`. A send decides the position that has
-- `ahead` frames behind it since, so exactly `ahead + 2` are there then; a flush decides those with fewer frames behind
-- them, and all that are left are handed over
abbrev pub frames_near : {T O : Type 0} → EncoderConfig → List (Accepted T O) → ℕ → List (Frame T)
frames_near enc sent position =
    map (λ accepted. accepted.picture) (take (ahead (numbers_of enc) + 2) (drop (position - 1) sent))

-- one for each decision, in their order
abbrev pub questions : {T O : Type 0} → EncoderConfig → List (Accepted T O) → List Decision → List (Asked T)
questions enc sent decisions =
    flat_map (question enc.speed_settings.scene_detection_mode (frames_near enc sent) decisions) decisions

-- where the answers are told ahead, they are the keys of the decisions that aren't forced
abbrev pub AreAnswered : Option (ℕ → Bool) → List Decision → Type 0
AreAnswered answers decisions =
    IfSome answers (λ at. All (λ decision. decision.forced ≡ false → decision.key ≡ at decision.position) decisions)

-- the detector was asked exactly these questions, and its answers are the decisions
pub record IsAsked {T O : Type 0} (enc : EncoderConfig) (sent : List (Accepted T O)) (decisions : List Decision) (before after : Heard T) : Type 0 where
  pub grew : Grew before.detector.questions after.detector.questions (questions enc sent decisions)
  pub ahead : AreAnswered before.detector.answers decisions

-- ---- of one call

-- the frames that wait at a moment, from the one before a position on
abbrev pub frames_from : {T O : Type 0} → Moment T O → ℕ → List (Frame T)
frames_from moment position = map (λ waiting. waiting.frame.picture) (drop (position - 1 - moment.packets) moment.waiting)

-- the decisions that a call makes
abbrev pub made_in : {T O : Type 0} → Moment T O → Moment T O → List Decision
made_in before after = drop (length before.decisions) after.decisions

-- one question for each decision that a call makes, in their order; all frames from the one before the position on are
-- handed over
abbrev pub questions_in : {T O : Type 0} → EncoderConfig → Moment T O → Moment T O → List (Asked T)
questions_in enc before after =
    flat_map (question enc.speed_settings.scene_detection_mode (frames_from after) after.decisions) (made_in before after)

-- a call asks exactly these questions, and the answers are its decisions
pub record IsAskedIn {T O : Type 0} (enc : EncoderConfig) (before after : Moment T O) (told told_after : Option (List (Asked T))) (answers : Option (ℕ → Bool)) : Type 0 where
  pub grew : Grew told told_after (questions_in enc before after)
  pub ahead : AreAnswered answers (made_in before after)
