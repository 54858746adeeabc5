-- A fact of each command of a list and the commands before it, and the last key and switch frames of lists.
use Rattle.std.proofs.Common.{◌≡◌, ℕ, Bool, cond, List, [], ◌∷◌, ◌++◌, length as size, take, Some, refl, sym, ◌∙◌, subst, append_assoc, append-nil, zero, suc}
use Rattle.std.specs.List.{slice_get}
use Rattle.std.proofs.lemmas.Option.{none-some, same_Some}
use Rattle.av1_settings.specs.declared.frame_type.FrameType.{FrameType}
use Rattle.pyramid.specs.declared.command.Command.{Command}
use Rattle.pyramid.specs.declared.command.Command.TheVariants.{Code, Show}
use Rattle.pyramid.specs.Display.{Slots, slots_after_one, slots_after}
use Rattle.pyramid.specs.NamedPositions.{last_of}
use Rattle.pyramid.proofs.Machine.{length-refreshed}

abbrev pub Each : (List Command → Command → Type 0) → List Command → List Command → Type 0
Each P before [] = Unit {0}
Each P before (command ∷ commands) = P before command × Each P (before ++ command ∷ []) commands

pub each-append : (P : List Command → Command → Type 0) (before xs ys : List Command) → Each P before xs → Each P (before ++ xs) ys → Each P before (xs ++ ys)
each-append P before [] ys one two = subst (λ (b : List Command). Each P b ys) (append-nil before) two
each-append P before (x ∷ xs) ys one two =
    (one.0, each-append P (before ++ x ∷ []) xs ys one.1 (subst (λ (b : List Command). Each P b ys) (sym (append_assoc before (x ∷ []) xs)) two))

pub each-at : (P : List Command → Command → Type 0) (before commands : List Command) (k : ℕ) (command : Command) → Each P before commands → slice_get commands k ≡ Some command → P (before ++ take k commands) command
each-at P before [] k command each is = absurd (none-some command is)
each-at P before (c ∷ commands) zero command each is =
    subst (λ (b : List Command). P b command) (sym (append-nil before)) (subst (P before) (same_Some c command is) each.0)
each-at P before (c ∷ commands) (suc k) command each is =
    subst (λ (b : List Command). P b command) (append_assoc before (c ∷ []) (take k commands)) (each-at P (before ++ c ∷ []) commands k command each.1 is)

pub last_of-append : (test : FrameType → Bool) (so_far : ℕ) (xs ys : List Command) → last_of test so_far (xs ++ ys) ≡ last_of test (last_of test so_far xs) ys
last_of-append test so_far [] ys = refl
last_of-append test so_far (Code frame kind refs refresh shown ∷ xs) ys = last_of-append test (cond (test kind) frame so_far) xs ys
last_of-append test so_far (Show slot ∷ xs) ys = last_of-append test so_far xs ys

length-after_one : (slots : Slots) (command : Command) → size (slots_after_one slots command) ≡ size slots
length-after_one slots (Code frame kind refs refresh shown) = length-refreshed refresh frame slots
length-after_one slots (Show slot) = refl

pub length-after : (slots : Slots) (commands : List Command) → size (slots_after slots commands) ≡ size slots
length-after slots [] = refl
length-after slots (command ∷ commands) = length-after (slots_after_one slots command) commands ∙ length-after_one slots command
