-- What the scripted detector answers, and what it tells of the questions that it keeps.
use Rattle.std.specs.Prelude.{ℕ, Bool, ◌==◌, List, [], map, Option, Some}
use Rattle.std.specs.List.{list_any}
use Rattle.session_core.specs.Told.{Asked, DetectorTold}
use Rattle.scripted.specs.declared.detector.Question.{Question}
use Rattle.scripted.specs.declared.detector.ScriptedDetector.{ScriptedDetector}

-- a scene begins at each of the cuts
abbrev pub is_cut : List ℕ → ℕ → Bool
is_cut cuts position = list_any (λ cut. cut == position) cuts

abbrev pub told_question : Question → Asked ℕ
told_question question = record {
  mode = question.mode;
  position = question.position;
  last_key = question.last_key;
  frames = map (λ frame. frame.value) question.frames;
  answer = question.answer;
}

abbrev pub questions_of : ScriptedDetector → Option (List (Asked ℕ))
questions_of detector = Some (map told_question detector.log)

abbrev pub detector_told : ScriptedDetector → DetectorTold ℕ
detector_told detector =
    record { questions = questions_of detector; answers = Some (is_cut detector.cuts) }

-- what a detector with these cuts tells first: no question, and yes at exactly the cuts
abbrev pub asked_first : List ℕ → DetectorTold ℕ
asked_first cuts = record { questions = Some []; answers = Some (is_cut cuts) }
