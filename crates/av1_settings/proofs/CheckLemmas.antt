-- The first failing row of joined groups, and what follows where no row fails. `first_failing_append` and `none_append` are
-- for the crates above too.
use Rattle.std.proofs.Common.{◌≡◌, ℕ, ℤ, pos, ◌≤◌, ◌≤ℤ◌, Bool, true, false, IsTrue, not, ◌&&◌, ◌==◌, List, [], ◌∷◌, ◌++◌, Option, Some, None, IfSome, ◌⊎◌, Result, Ok, Err, OnOk, refl, sym, arith}
use Rattle.std.specs.Prelude.{int_lt, nat_lt}
use Rattle.std.specs.Option.{option_or}
use Rattle.std.specs.Result.{result_err}
use Rattle.av1_settings.specs.declared.checks.TheConstants.{MAX_RESERVOIR_DELAY, MIN_RESERVOIR_DELAY, NO_LEVEL}
use Rattle.av1_settings.specs.declared.config.Config.{Config}
use Rattle.av1_settings.specs.declared.encoder.EncoderConfig.{EncoderConfig}
use Rattle.av1_settings.specs.declared.invalid.InvalidConfig.{InvalidConfig}
use Rattle.av1_settings.specs.declared.level.LevelTables.{LevelTables}
use Rattle.av1_settings.specs.Checks.{Row, first_failing, is_outside, is_bit_depth, is_tile_count, asks_passes, size_rows, aspect_rows, structure_rows, time_rows, reservoir_rows, switch_rows, option_rows, level_rows, coding_rows, rows_of, refusal_of, IsValid}

pub first_failing_append : (xs ys : List Row)
    → first_failing (xs ++ ys) ≡ option_or (first_failing xs) (first_failing ys)
unfolding first_failing
first_failing_append [] ys = refl
first_failing_append ((true, answer) ∷ xs) ys = refl
first_failing_append ((false, answer) ∷ xs) ys = first_failing_append xs ys

-- where no row of joined groups fails, none of either fails
pub none_append : (xs ys : List Row) → first_failing (xs ++ ys) ≡ None
    → (first_failing xs ≡ None) × (first_failing ys ≡ None)
unfolding first_failing
none_append [] ys none = (refl, none)
none_append ((true, answer) ∷ xs) ys none = cc
none_append ((false, answer) ∷ xs) ys none = none_append xs ys none

-- no row fails
abbrev pub Passed : List Row → Type 0
Passed [] = Unit {0}
Passed (row ∷ rest) = (row.0 ≡ false) × Passed rest

pub passed_all : (rows : List Row) → first_failing rows ≡ None → Passed rows
unfolding first_failing
passed_all [] none = tt
passed_all ((true, answer) ∷ rest) none = cc
passed_all ((false, answer) ∷ rest) none = (refl, passed_all rest none)

pub is_outside-low : (low high n : ℕ) → is_outside low high n ≡ false → low ≤ n
is_outside-low low high n inside = grind arith

pub is_outside-high : (low high n : ℕ) → is_outside low high n ≡ false → n ≤ high
is_outside-high low high n inside = grind arith

pub is_zero-false : (n : ℕ) → n == 0 ≡ false → 1 ≤ n
is_zero-false n some = grind arith

pub nat_lt-false : (high n : ℕ) → nat_lt high n ≡ false → n ≤ high
nat_lt-false high n below = grind arith

-- what each group leaves
pub tile_count : (n : ℕ) → not (is_tile_count n) ≡ false → IsTrue (is_tile_count n)
tile_count n passed = elim (is_tile_count n) as (λ b. not b ≡ false → IsTrue b) [ true ↦ λ h. refl | false ↦ λ h. sym h ] passed

pub delay_in_range : (delay : Option ℤ) → first_failing (reservoir_rows delay) ≡ None
    → IfSome delay (λ d. (MIN_RESERVOIR_DELAY ≤ℤ d) × (d ≤ℤ MAX_RESERVOIR_DELAY))
unfolding reservoir_rows
delay_in_range None none = tt
delay_in_range (Some delay) none = let passed = (passed_all _ none).0 in grind (arith, passed)

pub switch_in_order : (interval : ℕ) (low : Bool) → nat_lt 0 interval && not low ≡ false → 1 ≤ interval → IsTrue low
switch_in_order interval low passed some = grind arith

pub level_in_range : (levels : LevelTables) (enc : EncoderConfig) (index : Option ℕ)
    → first_failing (level_rows levels enc index) ≡ None → IfSome index (λ i. i ≤ NO_LEVEL)
unfolding level_rows
level_in_range levels enc None none = tt
level_in_range levels enc (Some index) none = let passed = (passed_all _ none).0 in grind (arith, passed)

pub depth_cases : (n : ℕ) → not (is_bit_depth n) ≡ false → (n ≡ 8) ⊎ ((n ≡ 10) ⊎ (n ≡ 12))
depth_cases n passed = grind arith

pub is_positive : (asks : Bool) (bitrate : ℤ) → asks && not (int_lt (pos 0) bitrate) ≡ false → IsTrue asks → pos 1 ≤ℤ bitrate
is_positive asks bitrate passed asked = grind arith

-- what all checks leave
pub valid_of_accepted : (levels : LevelTables) (config : Config) → refusal_of levels config ≡ None → IsValid config.enc
unfolding refusal_of rows_of size_rows aspect_rows structure_rows time_rows switch_rows coding_rows
valid_of_accepted levels config none =
    let enc = config.enc in
    let size = none_append (size_rows enc) _ none in
    let aspect = none_append (aspect_rows enc) _ size.1 in
    let structure = none_append (structure_rows enc) _ aspect.1 in
    let time = none_append (time_rows enc) _ structure.1 in
    let reservoir = none_append (reservoir_rows enc.reservoir_frame_delay) _ time.1 in
    let switch = none_append (switch_rows enc) _ reservoir.1 in
    let option = none_append (option_rows enc) _ switch.1 in
    let level = none_append (level_rows levels enc enc.level_idx) _ option.1 in
    let sizes = passed_all (size_rows enc) size.0 in
    let aspects = passed_all (aspect_rows enc) aspect.0 in
    let structures = passed_all (structure_rows enc) structure.0 in
    let times = passed_all (time_rows enc) time.0 in
    let codings = passed_all (coding_rows config) level.1 in
    record {
      wide = is_outside-low _ _ _ sizes.0;
      width_fits = is_outside-high _ _ _ sizes.0;
      high = is_outside-low _ _ _ sizes.1.0;
      height_fits = is_outside-high _ _ _ sizes.1.0;
      aspect_num = is_zero-false _ aspects.0;
      aspect_den = is_zero-false _ aspects.1.0;
      render_wide = is_outside-low _ _ _ aspects.1.1.0;
      render_width_fits = is_outside-high _ _ _ aspects.1.1.0;
      render_high = is_outside-low _ _ _ aspects.1.1.1.0;
      render_height_fits = is_outside-high _ _ _ aspects.1.1.1.0;
      looks_ahead = is_outside-low _ _ _ structures.0;
      lookahead_fits = is_outside-high _ _ _ structures.0;
      interval_fits = nat_lt-false _ _ structures.1.0;
      tile_cols = tile_count _ structures.1.1.0;
      tile_rows = tile_count _ structures.1.1.1.0;
      time_num = is_outside-low _ _ _ times.0;
      time_num_fits = is_outside-high _ _ _ times.0;
      time_den = is_outside-low _ _ _ times.1.0;
      time_den_fits = is_outside-high _ _ _ times.1.0;
      delay = delay_in_range enc.reservoir_frame_delay reservoir.0;
      switches = switch_in_order _ _ (passed_all (switch_rows enc) switch.0).0;
      level = level_in_range levels enc enc.level_idx level.0;
      quantizer_fits = nat_lt-false _ _ codings.1.0;
      bit_depth = depth_cases _ codings.1.1.0;
    }

pub bitrate_of_accepted : (levels : LevelTables) (config : Config) → refusal_of levels config ≡ None
    → IsTrue (asks_passes config) → pos 1 ≤ℤ config.enc.bitrate
unfolding refusal_of rows_of coding_rows
bitrate_of_accepted levels config none =
    let enc = config.enc in
    let size = none_append (size_rows enc) _ none in
    let aspect = none_append (aspect_rows enc) _ size.1 in
    let structure = none_append (structure_rows enc) _ aspect.1 in
    let time = none_append (time_rows enc) _ structure.1 in
    let reservoir = none_append (reservoir_rows enc.reservoir_frame_delay) _ time.1 in
    let switch = none_append (switch_rows enc) _ reservoir.1 in
    let option = none_append (option_rows enc) _ switch.1 in
    let level = none_append (level_rows levels enc enc.level_idx) _ option.1 in
    is_positive _ _ (passed_all (coding_rows config) level.1).0

-- the same of a call's answer
pub valid_on : (levels : LevelTables) (config : Config) (result : Result Unit InvalidConfig)
    → result_err result ≡ refusal_of levels config → OnOk result (IsValid config.enc)
valid_on levels config (Ok _) is = valid_of_accepted levels config (sym is)
valid_on levels config (Err _) is = tt

pub bitrate_on : (levels : LevelTables) (config : Config) (result : Result Unit InvalidConfig)
    → result_err result ≡ refusal_of levels config
    → OnOk result (IsTrue (asks_passes config) → pos 1 ≤ℤ config.enc.bitrate)
bitrate_on levels config (Ok _) is = bitrate_of_accepted levels config (sym is)
bitrate_on levels config (Err _) is = tt
