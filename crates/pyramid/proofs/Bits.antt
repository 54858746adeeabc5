-- The bits of a refresh, and what a slot holds after it.
use Rattle.std.proofs.Common.{◌≡◌, ℕ, ◌*◌, ◌/◌, ◌%◌, ◌^◌, ◌<◌, true, false, cond, eqb, Some, refl, sym, ap, ◌∙◌, inl, inr, arith, zero, suc}
use Rattle.std.proofs.Math.Nat.{pow-suc}
use Rattle.std.proofs.lemmas.Bool.{cases_eq, eq-eqb, ne_eqb}
use Rattle.av1_settings.specs.declared.frame_type.FrameType.{FrameType}
use Rattle.av1_settings.specs.declared.frame_type.FrameType.TheVariants.{KEY, INTER, INTRA_ONLY, SWITCH}
use Rattle.pyramid.specs.Display.{Slots, held, refreshed}
use Rattle.pyramid.specs.RowCommand.{refresh_of}
use Rattle.pyramid.proofs.Machine.{IsFull, bit, held-refreshed}

half_even : (n : ℕ) → n * 2 / 2 ≡ n
half_even n = omega arith

even : (n : ℕ) → n * 2 % 2 ≡ 0
even n = omega arith

eqb-suc : (m n : ℕ) → eqb m n ≡ eqb (suc m) (suc n)
eqb-suc m n = elim (cases_eq m n) [
  | inl same ↦ eq-eqb m n same ∙ sym (eq-eqb (suc m) (suc n) (ap suc same))
  | inr other ↦ ne_eqb m n other ∙ sym (ne_eqb (suc m) (suc n) (λ e. other (omega arith)))
]

bit-none : (slot : ℕ) → bit 0 slot ≡ false
bit-none zero = refl
bit-none (suc slot) = bit-none slot

-- a power of two has one bit
pub bit-pow : (own slot : ℕ) → bit (2 ^ own) slot ≡ eqb own slot
bit-pow zero zero = refl
bit-pow zero (suc slot) = bit-none slot ∙ sym (ne_eqb 0 (suc slot) (λ e. omega arith))
bit-pow (suc own) zero =
    ap (λ (n : ℕ). eqb (n % 2) 1) (pow-suc 2 own) ∙ ap (λ (n : ℕ). eqb n 1) (even (2 ^ own)) ∙ sym (ne_eqb (suc own) 0 (λ e. omega arith))
bit-pow (suc own) (suc slot) =
    ap (λ (n : ℕ). bit (n / 2) slot) (pow-suc 2 own) ∙ ap (λ (n : ℕ). bit n slot) (half_even (2 ^ own)) ∙ bit-pow own slot ∙ eqb-suc own slot

pub every_bit : (slot : ℕ) → slot < 8 → bit 255 slot ≡ true
every_bit zero h = refl
every_bit (suc zero) h = refl
every_bit (suc (suc zero)) h = refl
every_bit (suc (suc (suc zero))) h = refl
every_bit (suc (suc (suc (suc zero)))) h = refl
every_bit (suc (suc (suc (suc (suc zero))))) h = refl
every_bit (suc (suc (suc (suc (suc (suc zero)))))) h = refl
every_bit (suc (suc (suc (suc (suc (suc (suc zero))))))) h = refl
every_bit (suc (suc (suc (suc (suc (suc (suc (suc slot)))))))) h = absurd (omega arith)

-- a frame of any kind is put into its own slot
pub bit-own : (kind : FrameType) (slot : ℕ) → slot < 8 → bit (refresh_of kind slot) slot ≡ true
bit-own KEY slot h = bit-pow slot slot ∙ eq-eqb slot slot refl
bit-own INTER slot h = bit-pow slot slot ∙ eq-eqb slot slot refl
bit-own INTRA_ONLY slot h = bit-pow slot slot ∙ eq-eqb slot slot refl
bit-own SWITCH slot h = every_bit slot h

-- what a slot holds after its bit was set, and after it wasn't
pub held-set : (bits frame : ℕ) (slots : Slots) (slot : ℕ) → IsFull slots → slot < 8 → bit bits slot ≡ true → held (refreshed bits frame slots) slot ≡ Some frame
held-set bits frame slots slot full low e =
    held-refreshed bits frame slots slot (omega (arith, full.eight)) ∙ ap (λ b. cond b (Some frame) (held slots slot)) e

pub held-kept : (bits frame : ℕ) (slots : Slots) (slot : ℕ) → IsFull slots → slot < 8 → bit bits slot ≡ false → held (refreshed bits frame slots) slot ≡ held slots slot
held-kept bits frame slots slot full low e =
    held-refreshed bits frame slots slot (omega (arith, full.eight)) ∙ ap (λ b. cond b (Some frame) (held slots slot)) e
