-- What the code needs to know of a depth that has a table.
use Rattle.std.proofs.Common.{◌≡◌, ℕ, ◌-◌, ◌*◌, ◌/◌, ◌%◌, ◌^◌, ◌<◌, ◌≤◌, min, refl, sym, ap, ◌∙◌, subst, arith, zero, suc}
use Rattle.std.specs.Int.Count.{count_trailing_zeros}
use Rattle.std.proofs.Math.Nat.{pow-suc, pow-le-pow_right}
use Rattle.std.proofs.lemmas.Nat.{one_shl, trailing_le}
use Rattle.pyramid.specs.Levels.{level_of}
use Rattle.pyramid.specs.Rows.{HasTable}
use Rattle.pyramid.proofs.LevelLemmas.{zeros_capped}
use Rattle.pyramid.proofs.Tables.{table}
use lib.Count.{under}

pub shallow : (depth : ℕ) → HasTable depth → depth ≤ 4
shallow depth h = (table depth h).small

pub few_inputs : (depth : ℕ) → depth ≤ 4 → 2 ^ depth ≤ 16
few_inputs depth h = pow-le-pow_right {n = 2} (omega arith) h

pub shifted_one : (depth : ℕ) → depth ≤ 4 → (1 * 2 ^ depth) % 2 ^ 64 ≡ 2 ^ depth
shifted_one depth h = one_shl depth 64 (omega arith)

pub level_is : (depth position count : ℕ) → depth ≤ 4 → count ≡ min (count_trailing_zeros 64 position) depth → depth - count ≡ level_of depth position
level_is depth position count h e = ap (λ (n : ℕ). depth - n) (e ∙ zeros_capped depth 64 position (omega arith))

zeros_power : (limit position : ℕ) → count_trailing_zeros limit position < limit → 2 ^ count_trailing_zeros limit position ≤ position
unfolding count_trailing_zeros
zeros_power zero position h = absurd (omega arith)
zeros_power (suc limit) position h =
    by_digit (position % 2) (count_trailing_zeros limit (position / 2)) refl h (zeros_power limit (position / 2))
  where
    by_digit : (digit count : ℕ) → position % 2 ≡ digit → under digit count < suc limit → (count < limit → 2 ^ count ≤ position / 2) → 2 ^ under digit count ≤ position
    by_digit zero count e h rest = omega (arith, pow-suc 2 count, rest (omega arith))
    by_digit (suc digit) count e h rest = omega arith

-- a position above level 0 is at least as large as the distance to those that it stands between
pub half_within : (depth level position half : ℕ) → level ≡ level_of depth position → (level ≡ 0 → ⊥) → half ≡ 2 ^ (depth - level) → half ≤ position
half_within depth level position half is above e =
    let within = trailing_le depth position in
    let same : count_trailing_zeros depth position ≡ depth - level = omega arith in
    let power = zeros_power depth position (omega arith) in
    subst (λ (n : ℕ). n ≤ position) (sym e) (subst (λ (n : ℕ). 2 ^ n ≤ position) same power)
