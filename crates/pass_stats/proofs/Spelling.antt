-- Bytes are determined by the numbers that they spell.
use Rattle.std.proofs.Common.{◌≡◌, ℕ, zero, suc, ◌∷◌, ◌+◌, ◌<◌, ◌≤◌, ◌^◌, ℤ, List, [], ◌++◌, length, true, false, nat_le, ◌%◌, take, drop, w32, w64, refl, sym, ◌∙◌, ap, append_assoc, arith}
use Rattle.std.specs.Int.{from_le_bytes, to_le_bytes}
use Rattle.std.proofs.lemmas.Int.{of_z-to_z}
use Rattle.std.proofs.lemmas.List.{append-nil, length-take-le, length-drop, get_or-drop}
use Rattle.std.proofs.lemmas.Nat.{le_bytes_4, le_bytes_8}
use Rattle.std.proofs.Math.Seq.{take-add, take-length}
use Rattle.pass_stats.specs.Bytes.{AreBytes, u32_at, i32_at, i64_at, i32_bytes, i64_bytes}
use Rattle.std.proofs.lemmas.Bool.Decides.{nat_tests}
use Rattle.pass_stats.specs.declared.metrics.RCFrameMetrics.{RCFrameMetrics}
use Rattle.pass_stats.specs.Metric.{Metric}
use Rattle.pass_stats.specs.Summary.{Spells, counts_at, exponents_at, sums_at}
use Rattle.pass_stats.proofs.Written.{summary_bytes}

small_32 : (bytes : List ℕ) → AreBytes bytes → from_le_bytes w32 bytes < 2 ^ 32
small_32 bytes h = omega (arith, h 0, h 1, h 2, h 3)

small_64 : (bytes : List ℕ) → AreBytes bytes → from_le_bytes w64 bytes < 2 ^ 64
small_64 bytes h = omega (arith, h 0, h 1, h 2, h 3, h 4, h 5, h 6, h 7)

take-bytes : (k : ℕ) (bytes : List ℕ) → AreBytes bytes → AreBytes (take k bytes)
take-bytes zero bytes h i = omega arith
take-bytes (suc k) [] h i = omega arith
take-bytes (suc k) (b ∷ bytes) h zero = h 0
take-bytes (suc k) (b ∷ bytes) h (suc i) = take-bytes k bytes (λ j. h (suc j)) i

drop-bytes : (k : ℕ) (bytes : List ℕ) → AreBytes bytes → AreBytes (drop k bytes)
drop-bytes k bytes h i = rw (get_or-drop k bytes i 0) (h (k + i))

part-bytes : (bytes : List ℕ) (at k : ℕ) → AreBytes bytes → AreBytes (take k (drop at bytes))
part-bytes bytes at k h = take-bytes k (drop at bytes) (drop-bytes at bytes h)

part-length : (bytes : List ℕ) (at k : ℕ) → at + k ≤ length bytes → length (take k (drop at bytes)) ≡ k
part-length bytes at k h = length-take-le k (drop at bytes) (omega (arith, length-drop at bytes))

-- four or eight bytes are those of the number that they spell
pub bytes-u32_at : (bytes : List ℕ) (at : ℕ) → AreBytes bytes → at + 4 ≤ length bytes → to_le_bytes w32 (u32_at bytes at) ≡ take 4 (drop at bytes)
unfolding u32_at
bytes-u32_at bytes at h within =
    le_bytes_4 (take 4 (drop at bytes)) (from_le_bytes w32 (take 4 (drop at bytes))) (part-length bytes at 4 within) (part-bytes bytes at 4 h) refl

pub bytes-i32_at : (bytes : List ℕ) (at : ℕ) → AreBytes bytes → at + 4 ≤ length bytes → i32_bytes (i32_at bytes at) ≡ take 4 (drop at bytes)
unfolding i32_at i32_bytes
bytes-i32_at bytes at h within =
    let part = take 4 (drop at bytes) in
    ap (to_le_bytes w32) (of_z-to_z w32 (from_le_bytes w32 part) (small_32 part (part-bytes bytes at 4 h)))
    ∙ le_bytes_4 part (from_le_bytes w32 part) (part-length bytes at 4 within) (part-bytes bytes at 4 h) refl

pub bytes-i64_at : (bytes : List ℕ) (at : ℕ) → AreBytes bytes → at + 8 ≤ length bytes → i64_bytes (i64_at bytes at) ≡ take 8 (drop at bytes)
unfolding i64_at i64_bytes
bytes-i64_at bytes at h within =
    let part = take 8 (drop at bytes) in
    ap (to_le_bytes w64) (of_z-to_z w64 (from_le_bytes w64 part) (small_64 part (part-bytes bytes at 8 h)))
    ∙ le_bytes_8 part (from_le_bytes w64 part) (part-length bytes at 8 within) (part-bytes bytes at 8 h) refl

join : (n k : ℕ) (bytes : List ℕ) → take n bytes ++ take k (drop n bytes) ≡ take (n + k) bytes
join n k bytes = sym (take-add n k bytes)

five_parts : (x p q r s t : List ℕ) → x ++ (p ++ (q ++ (r ++ (s ++ (t ++ []))))) ≡ ((((x ++ p) ++ q) ++ r) ++ s) ++ t
five_parts x p q r s t = simp (append_assoc, append-nil)

four_parts : (x p q r s : List ℕ) → x ++ (p ++ (q ++ (r ++ (s ++ [])))) ≡ (((x ++ p) ++ q) ++ r) ++ s
four_parts x p q r s = simp (append_assoc, append-nil)

-- the pieces of 68 bytes, put together again
parts-join : (bytes m v n a b c d e x p q r s : List ℕ) → length bytes ≡ 68 → m ≡ take 4 bytes → v ≡ take 4 (drop 4 bytes) → n ≡ take 4 (drop 8 bytes)
    → a ≡ take 4 (drop 12 bytes) → b ≡ take 4 (drop 16 bytes) → c ≡ take 4 (drop 20 bytes) → d ≡ take 4 (drop 24 bytes) → e ≡ take 4 (drop 28 bytes)
    → x ≡ take 4 (drop 32 bytes) → p ≡ take 8 (drop 36 bytes) → q ≡ take 8 (drop 44 bytes) → r ≡ take 8 (drop 52 bytes) → s ≡ take 8 (drop 60 bytes)
    → [] ++ m ++ v ++ n ++ (a ++ (b ++ (c ++ (d ++ (e ++ []))))) ++ x ++ (p ++ (q ++ (r ++ (s ++ [])))) ≡ bytes
parts-join bytes m v n a b c d e x p q r s size hm hv hn ha hb hc hd he hx hp hq hr hs =
    rw (
      five_parts (m ++ v ++ n) a b c d e,
      four_parts ((((((m ++ v ++ n) ++ a) ++ b) ++ c) ++ d) ++ e ++ x) p q r s,
      hm,
      hv,
      hn,
      ha,
      hb,
      hc,
      hd,
      he,
      hx,
      hp,
      hq,
      hr,
      hs,
      join 4 4 bytes,
      join 8 4 bytes,
      join 12 4 bytes,
      join 16 4 bytes,
      join 20 4 bytes,
      join 24 4 bytes,
      join 28 4 bytes,
      join 32 4 bytes,
      join 36 8 bytes,
      join 44 8 bytes,
      join 52 8 bytes,
      join 60 8 bytes,
      ← size,
    )
    (take-length bytes)

summary_bytes-at : (bytes : List ℕ) → AreBytes bytes → length bytes ≡ 68 → u32_at bytes 0 ≡ 0x5032_4156 → u32_at bytes 4 ≡ 1 → summary_bytes (i32_at bytes 8) (counts_at bytes) (exponents_at bytes) (sums_at bytes) ≡ bytes
unfolding counts_at exponents_at sums_at
summary_bytes-at bytes are size magic version =
    parts-join bytes _ _ _ _ _ _ _ _ _ _ _ _ _ size
    (ap (to_le_bytes w32) (sym magic) ∙ bytes-u32_at bytes 0 are (omega arith))
    (ap (to_le_bytes w32) (sym version) ∙ bytes-u32_at bytes 4 are (omega arith))
    (bytes-i32_at bytes 8 are (omega arith))
    (bytes-i32_at bytes 12 are (omega arith)) (bytes-i32_at bytes 16 are (omega arith)) (bytes-i32_at bytes 20 are (omega arith))
    (bytes-i32_at bytes 24 are (omega arith)) (bytes-i32_at bytes 28 are (omega arith))
    refl
    (bytes-i64_at bytes 36 are (omega arith)) (bytes-i64_at bytes 44 are (omega arith))
    (bytes-i64_at bytes 52 are (omega arith)) (bytes-i64_at bytes 60 are (omega arith))

pub Spells-bytes : (bytes : List ℕ) (n : ℤ) (c : List ℤ) (e : List ℕ) (s : List ℤ) → AreBytes bytes → Spells bytes n c e s → bytes ≡ summary_bytes n c e s
Spells-bytes bytes n c e s are h =
    rw (h.ntus_is, h.nframes_is, h.exp_is, h.scale_sum_is) (sym (summary_bytes-at bytes are h.size h.magic h.version))

-- the two numbers of 8 bytes, put together again
two_parts : (bytes m n : List ℕ) → length bytes ≡ 8 → m ≡ take 4 bytes → n ≡ take 4 (drop 4 bytes) → [] ++ m ++ n ≡ bytes
two_parts bytes m n size hm hn = rw (hm, hn, join 4 4 bytes, ← size) (take-length bytes)

pub u32_at-small : (bytes : List ℕ) (at : ℕ) → AreBytes bytes → u32_at bytes at < 2 ^ 32
unfolding u32_at
u32_at-small bytes at are = small_32 (take 4 (drop at bytes)) (part-bytes bytes at 4 are)

-- the first number of a frame's metrics, where it is shown and where it is hidden
pub Metric-word_shown : (bytes : List ℕ) (m : RCFrameMetrics) (flag : ℕ) → AreBytes bytes → Metric bytes m → flag ≡ 2 ^ 31 → m.show_frame ≡ true → u32_at bytes 0 ≡ flag + m.fti
Metric-word_shown bytes m flag are h e shown =
    let small = u32_at-small bytes 0 are in
    let high : nat_le (2 ^ 31) (u32_at bytes 0) ≡ true = sym h.shown ∙ shown in
    let above : 2 ^ 31 ≤ u32_at bytes 0 = grind (arith, nat_tests) in
    let low : m.fti ≡ u32_at bytes 0 % 2 ^ 31 = h.subtype in
    omega arith

pub Metric-word_hidden : (bytes : List ℕ) (m : RCFrameMetrics) (flag : ℕ) → Metric bytes m → flag ≡ 0 → m.show_frame ≡ false → u32_at bytes 0 ≡ flag + m.fti
Metric-word_hidden bytes m flag h e hidden =
    let high : nat_le (2 ^ 31) (u32_at bytes 0) ≡ false = sym h.shown ∙ hidden in
    let below : u32_at bytes 0 < 2 ^ 31 = grind (arith, nat_tests) in
    let low : m.fti ≡ u32_at bytes 0 % 2 ^ 31 = h.subtype in
    omega arith

pub Metric-spelling : (bytes : List ℕ) (m : RCFrameMetrics) (flag : ℕ) → AreBytes bytes → Metric bytes m → u32_at bytes 0 ≡ flag + m.fti → bytes ≡ [] ++ to_le_bytes w32 (flag + m.fti) ++ i32_bytes m.log_scale_q24
Metric-spelling bytes m flag are h word =
    let size = h.size in
    sym (two_parts bytes _ _ size
    (ap (to_le_bytes w32) (sym word) ∙ bytes-u32_at bytes 0 are (omega arith))
    (ap i32_bytes h.log_scale ∙ bytes-i32_at bytes 4 are (omega arith)))
