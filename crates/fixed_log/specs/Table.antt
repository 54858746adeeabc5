-- The angles of the turns, and the tests and steps that the procedures share.
use Rattle.std.specs.Prelude.{ℕ, zero, suc, ◌+◌, min, Bool, List, [], ◌∷◌, slice_index, ℤ, ◌+ℤ◌, ◌-ℤ◌, if◌then◌else◌}

-- entry i is 2^(62 + i) * atanh(2^-(i + 1)) * log2(e), rounded
abbrev pub atanh_log2 : List ℕ
atanh_log2 =
    0x32B8_0347_3F7A_D0F4 ∷ 0x2F2A_71BD_4E25_E916 ∷ 0x2E68_B244_BB93_BA06 ∷ 0x2E39_FB91_98CE_62E4 ∷
    0x2E2E_683F_6856_5C8F ∷ 0x2E2B_850B_E207_7FC1 ∷ 0x2E2A_CC58_FE7B_78DB ∷ 0x2E2A_9E2D_E52F_D5F2 ∷
    0x2E2A_92A3_38D5_3EEC ∷ 0x2E2A_8FC0_8F5E_19B6 ∷ 0x2E2A_8F07_E51A_485E ∷ 0x2E2A_8ED9_BA8A_F388 ∷
    0x2E2A_8ECE_2FE7_384A ∷ 0x2E2A_8ECB_4D3E_4B1A ∷ 0x2E2A_8ECA_9494_0FE8 ∷ 0x2E2A_8ECA_6669_811D ∷
    0x2E2A_8ECA_5ADE_DD6A ∷ 0x2E2A_8ECA_57FC_347E ∷ 0x2E2A_8ECA_5743_8A43 ∷ 0x2E2A_8ECA_5715_5FB4 ∷
    0x2E2A_8ECA_5709_D510 ∷ 0x2E2A_8ECA_5706_F267 ∷ 0x2E2A_8ECA_5706_39BD ∷ 0x2E2A_8ECA_5706_0B92 ∷
    0x2E2A_8ECA_5706_0008 ∷ 0x2E2A_8ECA_5705_FD25 ∷ 0x2E2A_8ECA_5705_FC6C ∷ 0x2E2A_8ECA_5705_FC3E ∷
    0x2E2A_8ECA_5705_FC33 ∷ 0x2E2A_8ECA_5705_FC30 ∷ 0x2E2A_8ECA_5705_FC2F ∷ 0x2E2A_8ECA_5705_FC2F ∷
    []

-- the angle of turn i: from turn 31 on the table has converged
unfoldable pub angle_of : ℕ → ℕ
angle_of i = slice_index atanh_log2 (min i 31)

-- a - b where the flag is set, else a + b
abbrev pub stepped : Bool → ℤ → ℤ → ℤ
stepped back a b = if back then a -ℤ b else a +ℤ b

-- the turns of the indices first, first + 1, ..: count of them
unfoldable pub turns_from : {S : Type 0} → (ℕ → S → S) → ℕ → ℕ → S → S
turns_from turn first zero s = s
turns_from turn first (suc k) s = turn (first + k) (turns_from turn first k s)
