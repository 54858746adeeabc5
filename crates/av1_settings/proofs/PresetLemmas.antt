-- Presets one after the other.
use Rattle.std.proofs.Common.{◌≡◌, ℕ, ◌+◌, ◌-◌, ◌≤◌, min, List, [], ◌∷◌, ◌++◌, take, drop, refl, ap, sym, ◌∙◌, arith}
use Rattle.std.proofs.Math.Seq.{take-add}
use Rattle.std.proofs.lemmas.List.{take_all}
use Rattle.av1_settings.specs.declared.speed.SpeedSettings.{SpeedSettings}
use Rattle.av1_settings.specs.Presets.{slowest, preset_changes, changed_by, preset_change, from_preset}

pub changed_by-append : (xs ys : List (SpeedSettings → SpeedSettings)) (settings : SpeedSettings)
    → changed_by (xs ++ ys) settings ≡ changed_by ys (changed_by xs settings)
changed_by-append [] ys settings = refl
changed_by-append (change ∷ xs) ys settings = changed_by-append xs ys (change settings)

-- the changes up to one more are those of the one more on top
pub changed_by-take : (changes : List (SpeedSettings → SpeedSettings)) (settings : SpeedSettings) (k : ℕ)
    → changed_by (take (k + 1) changes) settings ≡ changed_by (take 1 (drop k changes)) (changed_by (take k changes) settings)
changed_by-take changes settings k =
    ap (λ cs. changed_by cs settings) (take-add k 1 changes)
    ∙ changed_by-append (take k changes) (take 1 (drop k changes)) settings

pub next_preset : (k : ℕ) → preset_change (k + 1) (from_preset k) ≡ from_preset (k + 1)
unfolding preset_change from_preset
next_preset k =
    let back : k + 1 - 1 ≡ k = omega arith in
    ap (λ n. changed_by (take 1 (drop n preset_changes)) (changed_by (take k preset_changes) slowest)) back
    ∙ sym (changed_by-take preset_changes slowest k)

pub preset_zero : from_preset 0 ≡ slowest
unfolding from_preset
preset_zero = refl

-- from 10 on there is nothing left to change
pub beyond_last : (speed : ℕ) → 10 ≤ speed → from_preset speed ≡ from_preset 10
unfolding from_preset
beyond_last speed large = ap (λ cs. changed_by cs slowest) (take_all speed preset_changes large)

pub last_preset : (speed : ℕ) (k : ℕ) → k ≡ min speed 10 → from_preset k ≡ from_preset speed
last_preset speed k is_least = grind (arith, beyond_last)
