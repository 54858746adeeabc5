-- How many groups a GOP has.
use Rattle.std.proofs.Common.{◌≡◌, ℕ, ◌+◌, ◌-◌, ◌*◌, ◌/◌, ◌%◌, ◌^◌, ◌<◌, ◌≤◌, min, ap, ◌∙◌, inl, inr, arith}
use Rattle.std.proofs.lemmas.Bool.{cases_lt}
use Rattle.std.proofs.lemmas.Nat.{pow_pos, div-add-mod', div-mul-add, mod_below, mul-le}
use Rattle.pyramid.specs.Gop.{group_count}
use Rattle.pyramid.specs.Numbers.{Numbers}

-- the quotient that is rounded up
rounded-up : (a b : ℕ) → 0 < b → (a ≤ b * ((a + (b - 1)) / b)) × (b * ((a + (b - 1)) / b) ≤ a + (b - 1))
rounded-up a b h =
    let q = (a + (b - 1)) / b in
    let whole = div-add-mod' (a + (b - 1)) b in
    let rest = mod_below (a + (b - 1)) b h in
    (omega (arith, whole, rest), omega (arith, whole, rest))

pub ceil-is : (a b : ℕ) → 0 < b → a / b + min 1 (a % b) ≡ (a + (b - 1)) / b
ceil-is a b h =
    let whole = div-add-mod' a b in
    let rest = mod_below a b h in
    elim (cases_lt 0 (a % b)) [
      | inl some ↦
          let up : a + (b - 1) ≡ (a / b + 1) * b + (a % b - 1) = omega (arith, whole) in
          let quotient = ap (λ (n : ℕ). n / b) up ∙ div-mul-add (a / b + 1) b (a % b - 1) (omega arith) in
          omega (arith, quotient)
      | inr none ↦
          let up : a + (b - 1) ≡ a / b * b + (b - 1) = omega (arith, whole) in
          let quotient = ap (λ (n : ℕ). n / b) up ∙ div-mul-add (a / b) b (b - 1) (omega arith) in
          omega (arith, quotient)
    ]

-- the groups of a GOP have places for all its inputs, and each has one
pub groups_enough : (numbers : Numbers) (length : ℕ) → length - 1 ≤ 2 ^ numbers.depth * group_count numbers length
groups_enough numbers length = (rounded-up (length - 1) (2 ^ numbers.depth) (pow_pos numbers.depth)).0

pub groups_needed : (numbers : Numbers) (length number : ℕ) → number < group_count numbers length → 2 ^ numbers.depth * number + 1 < length
groups_needed numbers length number h =
    let most = (rounded-up (length - 1) (2 ^ numbers.depth) (pow_pos numbers.depth)).1 in
    let inputs = pow_pos numbers.depth in
    let apart : 2 ^ numbers.depth * (number + 1) ≤ 2 ^ numbers.depth * group_count numbers length = mul-le (2 ^ numbers.depth) (number + 1) (2 ^ numbers.depth) (group_count numbers length) (omega arith) (omega arith) in
    omega (arith, most, apart, inputs)

pub group_within : (numbers : Numbers) (length number : ℕ) → 2 ^ numbers.depth * number + 1 < length → number < group_count numbers length
group_within numbers length number h = elim (cases_lt number (group_count numbers length)) [
  | inl low ↦ low
  | inr high ↦
      let enough = groups_enough numbers length in
      let most : 2 ^ numbers.depth * group_count numbers length ≤ 2 ^ numbers.depth * number = mul-le (2 ^ numbers.depth) (group_count numbers length) (2 ^ numbers.depth) number (omega arith) high in
      absurd (omega arith)
]
