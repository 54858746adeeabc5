use Rattle.std.proofs.Common.{◌≡◌, false, true, ◌≤ℤ◌, pos, FitsSigned, w32, w64, to_z, of_z, arith, rules}
use Rattle.std.proofs.lemmas.Int.{ints, to_z-of_z}
use Rattle.pass_stats.proofs.Causes.{first_met-short, first_met-magic, first_met-version, first_met-no_tus, first_met-negative_count, begins, first_met-count_too_large, first_met-more_tus, counts-key, first_met-no_key_frame, first_met-zero_exponent, first_met-negative_sum, first_met-none, frame_total-not_negative, too_large, Begins}
use Rattle.pass_stats.specs.Bytes.{i32_at}
use Rattle.pass_stats.specs.Grammar.{frame_total, any_negative, any_zero}
use Rattle.pass_stats.specs.Summary.{counts_at, exponents_at, sums_at}
use Rattle.pass_stats.proofs.SummaryFacts.{Spells-first}
use Rattle.pass_stats.proofs.parse.read_summary.Goals as goal

pub returns-then-bytes-lt-SUMMARY_SIZE : goal.returns-then-bytes-lt-SUMMARY_SIZE
returns-then-bytes-lt-SUMMARY_SIZE c = search (arith, first_met-short)

pub returns-then-read_u32-ne-MAGIC : goal.returns-then-read_u32-ne-MAGIC
returns-then-read_u32-ne-MAGIC c = grind (arith, first_met-magic)

pub returns-then-read_u32-ne-VERSION : goal.returns-then-read_u32-ne-VERSION
returns-then-read_u32-ne-VERSION c = grind (arith, first_met-version)

pub returns-then-ntus-lt1 : goal.returns-then-ntus-lt1
returns-then-ntus-lt1 c = grind (arith, ints, first_met-no_tus)

pub returns-then-has_negative_count : goal.returns-then-has_negative_count
returns-then-has_negative_count c = grind (arith, ints, first_met-negative_count)

pub returns-in_default : goal.returns-in_default
returns-in_default c =
    let bytes = c.args.bytes.now in
    let b : Begins bytes = grind (arith, ints, begins) in
    let fits : FitsSigned w64 c.count_frames.result = search rules in
    let unfit = simp to_z-of_z at c.in_default.ensures in
    let is : c.count_frames.result ≡ frame_total (counts_at bytes) = cc in
    let positive : pos 0 ≤ℤ c.count_frames.result = rw is (frame_total-not_negative (counts_at bytes) b.no_negative_count) in
    let large = too_large c.count_frames.result positive unfit in
    first_met-count_too_large bytes b (rw is at large)

pub returns-then-total-ntus : goal.returns-then-total-ntus
returns-then-total-ntus c = grind (arith, ints, begins, first_met-more_tus)

pub returns-then-nframes-lt1 : goal.returns-then-nframes-lt1
returns-then-nframes-lt1 c = grind (arith, ints, begins, counts-key, first_met-no_key_frame)

pub returns-then-has_zero : goal.returns-then-has_zero
returns-then-has_zero c =
    let bytes = c.args.bytes.now in
    let b : Begins bytes = grind (arith, ints, begins) in
    let fits : frame_total (counts_at bytes) ≤ℤ pos 0x7fff_ffff = grind (arith, ints) in
    let enough : i32_at bytes 8 ≤ℤ frame_total (counts_at bytes) = grind (arith, ints) in
    let key : pos 1 ≤ℤ i32_at bytes 12 = grind (arith, ints, counts-key) in
    first_met-zero_exponent bytes b fits enough key cc

pub returns-then-has_negative_sum : goal.returns-then-has_negative_sum
returns-then-has_negative_sum c =
    let bytes = c.args.bytes.now in
    let b : Begins bytes = grind (arith, ints, begins) in
    let fits : frame_total (counts_at bytes) ≤ℤ pos 0x7fff_ffff = grind (arith, ints) in
    let enough : i32_at bytes 8 ≤ℤ frame_total (counts_at bytes) = grind (arith, ints) in
    let key : pos 1 ≤ℤ i32_at bytes 12 = grind (arith, ints, counts-key) in
    let nonzero : any_zero (exponents_at bytes) ≡ false = cc in
    let negative : any_negative (sums_at bytes) ≡ true = cc in
    first_met-negative_sum bytes b fits enough key nonzero negative

pub returns : goal.returns
returns c =
    let bytes = c.args.bytes.now in
    let b : Begins bytes = grind (arith, ints, begins) in
    let fits : frame_total (counts_at bytes) ≤ℤ pos 0x7fff_ffff = grind (arith, ints) in
    let enough : i32_at bytes 8 ≤ℤ frame_total (counts_at bytes) = grind (arith, ints) in
    let key : pos 1 ≤ℤ i32_at bytes 12 = grind (arith, ints, counts-key) in
    let nonzero : any_zero (exponents_at bytes) ≡ false = cc in
    let positive : any_negative (sums_at bytes) ≡ false = cc in
    let ntus : to_z w32 (of_z w32 c.read_i32-ntus.result) ≡ i32_at bytes 8 = grind (arith, ints) in (
      first_met-none bytes b fits enough key nonzero positive,
      rw (ntus, c.read_counts-nframes.ensures, c.read_exponents-exp.ensures, c.read_sums-scale_sum.ensures) (Spells-first bytes b.size b.magic b.version),
    )
