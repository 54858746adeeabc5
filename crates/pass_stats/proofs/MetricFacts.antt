-- A frame's metrics written, and what their bytes determine.
use Rattle.std.proofs.Common.{◌≡◌, ℕ, ◌+◌, ◌<◌, ◌≤◌, ◌^◌, ◌%◌, ℤ, Bool, true, false, nat_le, List, [], ◌++◌, FitsSigned, w32, refl, sym, ◌∙◌, ap, arith}
use Rattle.std.specs.Int.{to_le_bytes}
use Rattle.std.proofs.lemmas.Bool.Decides.{nat_tests}
use Rattle.std.proofs.lemmas.Nat.{from_le_bytes-to_le_bytes_4}
use Rattle.pass_stats.specs.Bytes.{u32_at, i32_at, i32_bytes}
use Rattle.pass_stats.specs.Metric.{Metric}
use Rattle.pass_stats.specs.declared.metrics.RCFrameMetrics.{RCFrameMetrics}
use Rattle.pass_stats.proofs.Written.{read-i32_bytes}

pub Metric-bytes : (m : RCFrameMetrics) (word : ℕ) → word < 2 ^ 32 → m.fti ≡ word % 2 ^ 31 → m.fti ≤ 4 → m.show_frame ≡ nat_le (2 ^ 31) word → FitsSigned w32 m.log_scale_q24 → Metric ([] ++ to_le_bytes w32 word ++ i32_bytes m.log_scale_q24) m
unfolding u32_at i32_at i32_bytes
Metric-bytes m word small subtype low shown fits = record {
  size = refl;
  subtype = subtype ∙ ap (λ x. x % 2 ^ 31) (sym (from_le_bytes-to_le_bytes_4 word small));
  subtype_fits = low;
  shown = shown ∙ ap (nat_le (2 ^ 31)) (sym (from_le_bytes-to_le_bytes_4 word small));
  log_scale = sym (read-i32_bytes m.log_scale_q24 fits);
}

-- the first number where the frame is shown, and where it is hidden
pub Metric-shown : (m : RCFrameMetrics) (flag : ℕ) → flag ≡ 2 ^ 31 → m.show_frame ≡ true → m.fti ≤ 4 → FitsSigned w32 m.log_scale_q24 → Metric ([] ++ to_le_bytes w32 (flag + m.fti) ++ i32_bytes m.log_scale_q24) m
Metric-shown m flag e shown low fits =
    Metric-bytes m (flag + m.fti) (omega arith) (omega arith) low (let t : nat_le (2 ^ 31) (flag + m.fti) ≡ true = grind (arith, nat_tests) in shown ∙ sym t) fits

pub Metric-hidden : (m : RCFrameMetrics) (flag : ℕ) → flag ≡ 0 → m.show_frame ≡ false → m.fti ≤ 4 → FitsSigned w32 m.log_scale_q24 → Metric ([] ++ to_le_bytes w32 (flag + m.fti) ++ i32_bytes m.log_scale_q24) m
Metric-hidden m flag e hidden low fits =
    Metric-bytes m (flag + m.fti) (omega arith) (omega arith) low (let t : nat_le (2 ^ 31) (flag + m.fti) ≡ false = grind (arith, nat_tests) in hidden ∙ sym t) fits

abbrev record_of : ℤ × ℕ × Bool → RCFrameMetrics
record_of v = record { log_scale_q24 = v.0; fti = v.1; show_frame = v.2 }

record_of-same : (v w : ℤ × ℕ × Bool) → v ≡ w → record_of v ≡ record_of w
record_of-same v w e = ap record_of e

pub Metric-unique : (bytes : List ℕ) (m n : RCFrameMetrics) → Metric bytes m → Metric bytes n → n ≡ m
Metric-unique bytes m n p q =
    let fti : n.fti ≡ m.fti = q.subtype ∙ sym p.subtype in
    let shown : n.show_frame ≡ m.show_frame = q.shown ∙ sym p.shown in
    let scale : n.log_scale_q24 ≡ m.log_scale_q24 = q.log_scale ∙ sym p.log_scale in
    record_of-same (n.log_scale_q24, n.fti, n.show_frame) (m.log_scale_q24, m.fti, m.show_frame) cc
