-- The definitions computed on small plans.
use Rattle.std.proofs.Common.{◌≡◌, ℕ, true, false, List, [], ◌∷◌, refl}
use Rattle.av1_settings.specs.declared.frame_type.FrameType.TheVariants.{KEY, INTER, SWITCH}
use Rattle.pyramid.specs.declared.command.Command.{Command}
use Rattle.pyramid.specs.declared.command.Command.TheVariants.{Code, Show}
use Rattle.std.specs.Int.Count.{count_trailing_zeros}
use Rattle.pyramid.specs.Rows.{rows}
use Rattle.std.specs.List.{count_by}
use Rattle.pyramid.specs.Known.{known, is_coding}
use Rattle.pyramid.specs.Numbers.{Numbers}
use Rattle.pyramid.specs.Plan.{starts, plan}
use Rattle.pyramid.specs.Display.{empty_slots, shown}

abbrev depth_two : Numbers
depth_two = record { depth = 2; multiref = true; switch_interval = 0 }

abbrev depth_zero : Numbers
depth_zero = record { depth = 0; multiref = true; switch_interval = 2 }

-- what each command names as its input, or its slot
abbrev places : List Command → List ℕ
places [] = []
places (Code frame kind refs refresh shown ∷ commands) = frame ∷ places commands
places (Show slot ∷ commands) = slot ∷ places commands

ten_frames : places (plan depth_two 5 10 (0 ∷ [])) ≡ 0 ∷ 4 ∷ 2 ∷ 1 ∷ 4 ∷ 3 ∷ 1 ∷ 5 ∷ 9 ∷ 7 ∷ 6 ∷ 4 ∷ 8 ∷ 1 ∷ []
unfolding rows count_trailing_zeros
ten_frames = refl

seven_frames : places (plan depth_two 5 7 (0 ∷ [])) ≡ 0 ∷ 4 ∷ 2 ∷ 1 ∷ 4 ∷ 3 ∷ 1 ∷ 5 ∷ 6 ∷ []
unfolding rows count_trailing_zeros
seven_frames = refl

forced_key_at_two : plan depth_two 5 5 (0 ∷ 2 ∷ []) ≡ Code 0 KEY [] 255 true ∷ Code 1 INTER (0 ∷ 4 ∷ 5 ∷ []) 32 true ∷ Code 2 KEY [] 255 true ∷ Code 4 INTER (0 ∷ 1 ∷ 4 ∷ []) 16 false ∷ Code 3 INTER (0 ∷ 4 ∷ 5 ∷ []) 32 true ∷ Show 4 ∷ []
unfolding rows count_trailing_zeros
forced_key_at_two = refl

forced_key_at_two-shown : shown empty_slots (plan depth_two 5 5 (0 ∷ 2 ∷ [])) ≡ 0 ∷ 1 ∷ 2 ∷ 3 ∷ 4 ∷ []
unfolding rows count_trailing_zeros
forced_key_at_two-shown = refl

forced_key_at_one : places (plan depth_two 5 5 (0 ∷ 1 ∷ [])) ≡ 0 ∷ 1 ∷ 3 ∷ 2 ∷ 4 ∷ 4 ∷ []
unfolding rows count_trailing_zeros
forced_key_at_one = refl

interval_of_one : places (plan depth_two 1 3 (0 ∷ [])) ≡ 0 ∷ 1 ∷ 2 ∷ []
unfolding rows count_trailing_zeros
interval_of_one = refl

three_gops : starts 5 10 (0 ∷ 2 ∷ []) ≡ 0 ∷ 2 ∷ 7 ∷ []
unfolding rows count_trailing_zeros
three_gops = refl

switch_frames : plan depth_zero 5 6 (0 ∷ []) ≡ Code 0 KEY [] 255 true ∷ Code 1 INTER (0 ∷ 3 ∷ []) 2 true ∷ Code 2 SWITCH (1 ∷ 0 ∷ []) 255 true ∷ Code 3 INTER (2 ∷ 1 ∷ []) 8 true ∷ Code 4 SWITCH (3 ∷ 2 ∷ []) 255 true ∷ Code 5 KEY [] 255 true ∷ []
unfolding rows count_trailing_zeros
switch_frames = refl

-- how many coded commands are known
coded_known : ℕ → ℕ
coded_known frames = count_by is_coding (known depth_two 100 frames (0 ∷ []))

first_key_too_early : coded_known 6 ≡ 0
unfolding coded_known rows count_trailing_zeros
first_key_too_early = refl

first_key_known : coded_known 7 ≡ 1
unfolding coded_known rows count_trailing_zeros
first_key_known = refl

one_group_known : coded_known 14 ≡ 5
unfolding coded_known rows count_trailing_zeros
one_group_known = refl

two_groups_known : coded_known 15 ≡ 9
unfolding coded_known rows count_trailing_zeros
two_groups_known = refl

-- a key behind a short GOP is known where the group after it would be
short_gop : places (known depth_two 100 14 (0 ∷ 2 ∷ [])) ≡ 0 ∷ 1 ∷ []
unfolding rows count_trailing_zeros
short_gop = refl

short_gop_and_key : places (known depth_two 100 15 (0 ∷ 2 ∷ [])) ≡ 0 ∷ 1 ∷ 2 ∷ 6 ∷ 4 ∷ 3 ∷ 4 ∷ 5 ∷ 1 ∷ []
unfolding rows count_trailing_zeros
short_gop_and_key = refl
