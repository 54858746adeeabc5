-- A summary is determined by its bytes, and no cause refuses them.
use Rattle.std.proofs.Common.{◌≡◌, ℕ, ◌+◌, ◌≤◌, ℤ, pos, ◌≤ℤ◌, List, length, take, drop, Some, None, refl, sym, ◌∙◌, ap, subst, arith}
use Rattle.std.proofs.lemmas.List.{take-take, drop-take, length-take, length-take-le}
use Rattle.std.proofs.Props.{props}
use Rattle.pass_stats.specs.Bytes.{u32_at, i32_at, i64_at}
use Rattle.pass_stats.specs.Grammar.{IsSummary, frame_total}
use Rattle.pass_stats.specs.Summary.{Summary, Spells, first_met, counts_at, exponents_at, sums_at}
use Rattle.pass_stats.specs.declared.error.Why.{Why}
use Rattle.pass_stats.specs.declared.summary.RCSummary.{RCSummary}
use Rattle.pass_stats.proofs.Causes.{begins, counts-key, first_met-none}

-- ---- the first 68 bytes

-- k bytes from `at` on, where those end within the first 68
part-first : (at k rest : ℕ) (bytes : List ℕ) → at + (k + rest) ≡ 68 → take k (drop at (take 68 bytes)) ≡ take k (drop at bytes)
part-first at k rest bytes e =
    rw (sym e, drop-take at (k + rest) bytes, take-take k (k + rest) (drop at bytes) (omega arith))

u32_at-first : (at rest : ℕ) (bytes : List ℕ) → at + (4 + rest) ≡ 68 → u32_at (take 68 bytes) at ≡ u32_at bytes at
unfolding u32_at
u32_at-first at rest bytes e = rw (part-first at 4 rest bytes e)

i32_at-first : (at rest : ℕ) (bytes : List ℕ) → at + (4 + rest) ≡ 68 → i32_at (take 68 bytes) at ≡ i32_at bytes at
unfolding i32_at
i32_at-first at rest bytes e = rw (part-first at 4 rest bytes e)

i64_at-first : (at rest : ℕ) (bytes : List ℕ) → at + (8 + rest) ≡ 68 → i64_at (take 68 bytes) at ≡ i64_at bytes at
unfolding i64_at
i64_at-first at rest bytes e = rw (part-first at 8 rest bytes e)

counts_at-first : (bytes : List ℕ) → counts_at (take 68 bytes) ≡ counts_at bytes
unfolding counts_at
counts_at-first bytes =
    rw (i32_at-first 12 52 bytes refl, i32_at-first 16 48 bytes refl, i32_at-first 20 44 bytes refl, i32_at-first 24 40 bytes refl, i32_at-first 28 36 bytes refl)

exponents_at-first : (bytes : List ℕ) → exponents_at (take 68 bytes) ≡ exponents_at bytes
unfolding exponents_at
exponents_at-first bytes = part-first 32 4 32 bytes refl

sums_at-first : (bytes : List ℕ) → sums_at (take 68 bytes) ≡ sums_at bytes
unfolding sums_at
sums_at-first bytes =
    rw (i64_at-first 36 24 bytes refl, i64_at-first 44 16 bytes refl, i64_at-first 52 8 bytes refl, i64_at-first 60 0 bytes refl)

-- the values at the positions of 68 bytes or more are spelled by the first 68
pub Spells-first : (bytes : List ℕ) → 68 ≤ length bytes → u32_at bytes 0 ≡ 0x5032_4156 → u32_at bytes 4 ≡ 1 → Spells (take 68 bytes) (i32_at bytes 8) (counts_at bytes) (exponents_at bytes) (sums_at bytes)
Spells-first bytes long magic version = record {
  size = length-take-le 68 bytes long;
  magic = u32_at-first 0 64 bytes refl ∙ magic;
  version = u32_at-first 4 60 bytes refl ∙ version;
  ntus_is = sym (i32_at-first 8 56 bytes refl);
  nframes_is = sym (counts_at-first bytes);
  exp_is = sym (exponents_at-first bytes);
  scale_sum_is = sym (sums_at-first bytes);
}

-- ---- no cause refuses a summary

pub first_met-Summary : (bytes : List ℕ) (s : RCSummary) → Summary (take 68 bytes) s → first_met bytes ≡ None
first_met-Summary bytes s h =
    let long : 68 ≤ length bytes = omega (arith, h.size, length-take 68 bytes) in
    let ntus : s.ntus ≡ i32_at bytes 8 = h.ntus_is ∙ i32_at-first 8 56 bytes refl in
    let counts : s.nframes ≡ counts_at bytes = h.nframes_is ∙ counts_at-first bytes in
    let exps : s.exp ≡ exponents_at bytes = h.exp_is ∙ exponents_at-first bytes in
    let sums : s.scale_sum ≡ sums_at bytes = h.scale_sum_is ∙ sums_at-first bytes in
    let g : IsSummary (i32_at bytes 8) (counts_at bytes) (exponents_at bytes) (sums_at bytes) s.total =
    rw (sym ntus, sym counts, sym exps, sym sums) s.grammar in
    let key : pos 1 ≤ℤ i32_at bytes 12 = rw (sym (counts-key bytes)) g.some_key_frame in
    let fits : frame_total (counts_at bytes) ≤ℤ pos 0x7fff_ffff = rw (sym g.total_is) g.total_fits in
    let enough : i32_at bytes 8 ≤ℤ frame_total (counts_at bytes) = rw (sym g.total_is) g.enough_frames in
    first_met-none bytes
    (begins bytes long (sym (u32_at-first 0 64 bytes refl) ∙ h.magic) (sym (u32_at-first 4 60 bytes refl) ∙ h.version) g.some_tu g.no_negative_count)
    fits enough key g.no_zero_exponent g.no_negative_sum

pub refused-Summary : (bytes : List ℕ) (s : RCSummary) (why : Why) → first_met bytes ≡ Some why → Summary (take 68 bytes) s → ⊥
refused-Summary bytes s why refused h =
    let both : Some why ≡ None = sym refused ∙ first_met-Summary bytes s h in cc

-- ---- bytes stand for one summary

abbrev Values : Type 0
Values = ℤ × List ℤ × List ℕ × List ℤ × ℤ

abbrev Holds : Values → Type 0
Holds v = IsSummary v.0 v.1 v.2 v.3 v.4

abbrev summary_of : (v : Values) → Holds v → RCSummary
summary_of v g = record { ntus = v.0; nframes = v.1; exp = v.2; scale_sum = v.3; total = v.4; grammar = g }

Holds-prop : (v : Values) → IsProp (Holds v)
Holds-prop v = hlevel props

summary_of-same : (v w : Values) (g : Holds v) (h : Holds w) → v ≡ w → summary_of v g ≡ summary_of w h
summary_of-same v w g h e =
    subst (λ (x : Values). (k : Holds x) → summary_of v g ≡ summary_of x k) e (λ k. ap (summary_of v) (Holds-prop v g k)) h

pub Summary-unique : (bytes : List ℕ) (s t : RCSummary) → Summary bytes s → Summary bytes t → s ≡ t
Summary-unique bytes s t p q =
    let counts : s.nframes ≡ t.nframes = p.nframes_is ∙ sym q.nframes_is in
    let total : s.total ≡ t.total = s.grammar.total_is ∙ (ap frame_total counts ∙ sym t.grammar.total_is) in
    let ntus : s.ntus ≡ t.ntus = p.ntus_is ∙ sym q.ntus_is in
    let exps : s.exp ≡ t.exp = p.exp_is ∙ sym q.exp_is in
    let sums : s.scale_sum ≡ t.scale_sum = p.scale_sum_is ∙ sym q.scale_sum_is in
    summary_of-same (s.ntus, s.nframes, s.exp, s.scale_sum, s.total) (t.ntus, t.nframes, t.exp, t.scale_sum, t.total) s.grammar t.grammar cc
