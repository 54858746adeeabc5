-- What a plan shows, command by command.
use Rattle.std.proofs.Common.{◌≡◌, ℕ, ◌+◌, ◌<◌, ◌≤◌, true, List, [], ◌∷◌, ◌++◌, length as size, get_or, take, drop, Option, None, Some, refl, sym, ap, ◌∙◌, subst, arith, zero, suc}
use Rattle.std.specs.Prelude.{IsTrue}
use Rattle.std.specs.Option.{option_to_list}
use Rattle.std.specs.List.{range_with_len}
use Rattle.std.proofs.lemmas.List.{take-append-drop, drop_more}
use Rattle.std.proofs.lemmas.List.FromFn.{length-range_with_len}
use Rattle.av1_settings.specs.declared.frame_type.FrameType.{FrameType}
use Rattle.pyramid.specs.declared.command.Command.{Command}
use Rattle.pyramid.specs.declared.command.Command.TheVariants.{Code, Show}
use Rattle.pyramid.specs.Numbers.{Numbers}
use Rattle.pyramid.specs.Plan.{plan}
use Rattle.pyramid.specs.Playable.{InOrder}
use Rattle.pyramid.specs.Rows.{HasTable}
use Rattle.pyramid.specs.Display.{empty_slots, held, shown_by, accepts, slots_after, shown, shows, showing}
use Rattle.pyramid.proofs.Replay.{IsEight, plan-replays}
use Rattle.pyramid.proofs.Prefixes.{from_replay, accepts-take, shown-take, showing-all, shown-next}

pub plan-in_order : (numbers : Numbers) (interval frames : ℕ) (keys : List ℕ) → HasTable numbers.depth → 1 ≤ interval → InOrder empty_slots (plan numbers interval frames keys) 0 frames
plan-in_order numbers interval frames keys table some =
    from_replay IsEight empty_slots (plan numbers interval frames keys) 0 frames (plan-replays numbers interval frames keys table some)

-- the first k commands of a plan are accepted
pub plan-accepts : (numbers : Numbers) (interval frames : ℕ) (keys : List ℕ) (k : ℕ) → HasTable numbers.depth → 1 ≤ interval → IsTrue (accepts empty_slots (take k (plan numbers interval frames keys)))
plan-accepts numbers interval frames keys k table some =
    accepts-take empty_slots (plan numbers interval frames keys) k 0 frames (plan-in_order numbers interval frames keys table some)

-- and show the frames from 0 on in order
pub plan-shows : (numbers : Numbers) (interval frames : ℕ) (keys : List ℕ) (k : ℕ) → HasTable numbers.depth → 1 ≤ interval → shown empty_slots (take k (plan numbers interval frames keys)) ≡ range_with_len 0 (showing (take k (plan numbers interval frames keys)))
plan-shows numbers interval frames keys k table some =
    shown-take empty_slots (plan numbers interval frames keys) k 0 frames (plan-in_order numbers interval frames keys table some)

-- a plan shows each frame once
pub plan-showing : (numbers : Numbers) (interval frames : ℕ) (keys : List ℕ) → HasTable numbers.depth → 1 ≤ interval → showing (plan numbers interval frames keys) ≡ frames
plan-showing numbers interval frames keys table some =
    showing-all empty_slots (plan numbers interval frames keys) 0 frames (plan-in_order numbers interval frames keys table some) ∙ length-range_with_len 0 frames

-- the command at index k, where it shows a frame, shows the frame whose number is how many were shown before
pub plan-next : (numbers : Numbers) (interval frames : ℕ) (keys : List ℕ) (k : ℕ) (command : Command) → HasTable numbers.depth → 1 ≤ interval → k < size (plan numbers interval frames keys) → get_or (plan numbers interval frames keys) k command ≡ command → shows command ≡ true → shown_by (slots_after empty_slots (take k (plan numbers interval frames keys))) command ≡ showing (take k (plan numbers interval frames keys)) ∷ []
plan-next numbers interval frames keys k command table some within is shown =
    let all = plan numbers interval frames keys in
    let order = plan-in_order numbers interval frames keys table some in
    let whole : all ≡ take k all ++ (command ∷ drop (k + 1) all) =
    sym (take-append-drop k all) ∙ ap (λ s. take k all ++ s) (drop_more all k command within ∙ ap (λ c. c ∷ drop (k + 1) all) is) in
    let at = subst (λ (cs : List Command). InOrder empty_slots cs 0 frames) whole order in
    let e : 0 + showing (take k all) ≡ showing (take k all) = omega arith in
    shown-next empty_slots (take k all) command (drop (k + 1) all) 0 frames at shown ∙ ap (λ n. n ∷ []) e

pub only_one : (o : Option ℕ) (n : ℕ) → option_to_list o ≡ n ∷ [] → o ≡ Some n
only_one None n h = absurd (let e : ⊥ = cc in e)
only_one (Some x) n h = let e : x ≡ n = cc in ap Some e

same_default : (xs : List Command) (k : ℕ) (c d : Command) → k < size xs → get_or xs k c ≡ get_or xs k d
same_default [] k c d h = absurd (omega arith)
same_default (x ∷ xs) zero c d h = refl
same_default (x ∷ xs) (suc k) c d h = same_default xs k c d (omega arith)

-- a show command finds that frame in its slot
pub plan-show : (numbers : Numbers) (interval frames : ℕ) (keys : List ℕ) (k slot : ℕ) (d : Command) → HasTable numbers.depth → 1 ≤ interval → k < size (plan numbers interval frames keys) → get_or (plan numbers interval frames keys) k d ≡ Show slot → held (slots_after empty_slots (take k (plan numbers interval frames keys))) slot ≡ Some (showing (take k (plan numbers interval frames keys)))
plan-show numbers interval frames keys k slot d table some within is =
    only_one _ _ (plan-next numbers interval frames keys k (Show slot) table some within (same_default (plan numbers interval frames keys) k (Show slot) d within ∙ is) refl)

-- a frame that is shown as it is coded is that frame
pub plan-code : (numbers : Numbers) (interval frames : ℕ) (keys : List ℕ) (k frame : ℕ) (kind : FrameType) (refs : List ℕ) (refresh : ℕ) (d : Command) → HasTable numbers.depth → 1 ≤ interval → k < size (plan numbers interval frames keys) → get_or (plan numbers interval frames keys) k d ≡ Code frame kind refs refresh true → frame ≡ showing (take k (plan numbers interval frames keys))
plan-code numbers interval frames keys k frame kind refs refresh d table some within is =
    let next = plan-next numbers interval frames keys k (Code frame kind refs refresh true) table some within (same_default (plan numbers interval frames keys) k (Code frame kind refs refresh true) d within ∙ is) refl in
    cc
