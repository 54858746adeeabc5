-- What the code does with bytes that are whole, and with bytes that aren't.
use Rattle.std.proofs.Common.{◌≡◌, ℕ, ◌-◌, ◌<◌, ◌≤◌, min, nat_lt, Bool, true, false, cond, List, [], ◌++◌, length, take, length-append, length-take, refl, sym, ◌∙◌, ap, subst, arith, ℤ, is_some}
use Rattle.std.proofs.lemmas.List.{take_all}
use Rattle.std.specs.Prelude.{Option, Some, None, Ok, Err, Result}
use Rattle.pass_stats.specs.Bytes.{i32_at}
use Rattle.pass_stats.specs.Grammar.{frame_total}
use Rattle.pass_stats.specs.Metric.{Metric, subtype_at}
use Rattle.pass_stats.specs.Summary.{Spells, first_met, counts_at, exponents_at, sums_at}
use Rattle.pass_stats.specs.declared.error.Why.{Why}
use Rattle.pass_stats.specs.declared.metrics.RCFrameMetrics.{RCFrameMetrics}
use Rattle.pass_data.specs.declared.error.PassDataError.{PassDataError}
use Rattle.pass_data.specs.Given.{Given, Outcome, goal, taken, refused, with_metrics, with_packet_bytes, with_summary_bytes, with_summary_by, with_values, metrics_at, bad_packet, refusal_by, verdict}
use Rattle.pass_data.specs.Pieces.{with_whole, Progress, part, answer, answer_by}
use Rattle.pass_data.proofs.PieceLaws.{progress_by, choice, part_by, part_is, test_true, test_false}

abbrev pub emptied : Given → Given
emptied g = record g { bytes = [] }

-- the bytes that were taken, and those that are held
pub record IsFilled (size n : ℕ) (bs held : List ℕ) (g : Given) : Type 0 where
  pub size_is : goal g ≡ size
  pub number : n ≡ min (length bs) (size - length g.bytes)
  pub joined : held ≡ g.bytes ++ take n bs

part_held : (size n : ℕ) (bs held : List ℕ) (g : Given) (b : Bool) → IsFilled size n bs held g → nat_lt (length held) size ≡ b → part bs g ≡ choice b n held g
part_held size n bs held g b f test =
    let is : min (length bs) (goal g - length g.bytes) ≡ n = ap (λ s. min (length bs) (s - length g.bytes)) f.size_is ∙ sym f.number in
    part_is bs g
    ∙ (ap (λ k. part_by k bs g) is
    ∙ (ap (λ (xs : List ℕ). choice (nat_lt (length xs) (goal g)) n xs g) (sym f.joined)
    ∙ ap (λ c. choice c n held g) (ap (nat_lt (length held)) f.size_is ∙ test)))

pub still_short : (size n : ℕ) (bs held : List ℕ) (g : Given) → IsFilled size n bs held g → length held < size
    → (record g { bytes = held } ≡ (part bs g).given) × (Ok n ≡ answer (part bs g))
still_short size n bs held g f short =
    let is = part_held size n bs held g true f (test_true (length held) size short) in
    (sym (ap (λ (p : Progress). p.given) is), sym (ap answer is))

now_whole : (size n : ℕ) (bs held : List ℕ) (g : Given) → IsFilled size n bs held g → size ≤ length held → part bs g ≡ progress_by n (with_whole held g)
now_whole size n bs held g f whole = part_held size n bs held g false f (test_false (length held) size whole)

-- an outcome that the code came to
ended : (n : ℕ) (bs : List ℕ) (g : Given) (o : Outcome) → part bs g ≡ progress_by n o → (o.given ≡ (part bs g).given) × (answer (progress_by n o) ≡ answer (part bs g))
ended n bs g o is = (sym (ap (λ (p : Progress). p.given) is), sym (ap answer is))

-- ---- a frame's metrics

packet_is : (held : List ℕ) (g : Given) (b : Bool) → is_some g.header ≡ true → nat_lt 4 (subtype_at held) ≡ b
    → with_whole held g ≡ cond b (refused (bad_packet held) (emptied g)) (with_metrics (metrics_at held) (emptied g))
packet_is held g b there test =
    ap (λ c. cond c (with_packet_bytes held (emptied g)) (with_summary_bytes held (emptied g))) there
    ∙ ap (λ c. cond c (refused (bad_packet held) (emptied g)) (with_metrics (metrics_at held) (emptied g))) test

pub packet_refused : (n : ℕ) (bs held empty : List ℕ) (g : Given) → is_some g.header ≡ true → IsFilled 8 n bs held g → 8 ≤ length held → empty ≡ []
    → nat_lt 4 (subtype_at held) ≡ true → (record g { bytes = empty } ≡ (part bs g).given) × (Err (bad_packet held) ≡ answer (part bs g))
packet_refused n bs held empty g there f whole none test =
    let is = now_whole 8 n bs held g f whole ∙ ap (progress_by n) (packet_is held g true there test) in
    let both = ended n bs g (refused (bad_packet held) (emptied g)) is in
    (ap (λ (xs : List ℕ). record g { bytes = xs }) none ∙ both.0, both.1)

-- what the metrics came to
pub packet_taken : (n : ℕ) (bs held empty : List ℕ) (m : RCFrameMetrics) (g next : Given) (r : Result (Unit {0}) PassDataError) (a : Result ℕ PassDataError) → is_some g.header ≡ true
    → IsFilled 8 n bs held g → 8 ≤ length held → empty ≡ [] → nat_lt 4 (subtype_at held) ≡ false → m ≡ metrics_at held
    → (next ≡ (with_metrics m (record g { bytes = empty })).given) × (r ≡ verdict (with_metrics m (record g { bytes = empty })).refused)
    → ((o : Option PassDataError) → r ≡ verdict o → a ≡ answer_by n o)
    → (next ≡ (part bs g).given) × (a ≡ answer (part bs g))
packet_taken n bs held empty m g next r a there f whole none test is_m came told =
    let o = with_metrics (metrics_at held) (emptied g) in
    let same : with_metrics m (record g { bytes = empty }) ≡ o =
    ap (λ (xs : List ℕ). with_metrics m (record g { bytes = xs })) none ∙ ap (λ (x : RCFrameMetrics). with_metrics x (emptied g)) is_m in
    let is = now_whole 8 n bs held g f whole ∙ ap (progress_by n) (packet_is held g false there test) in
    let both = ended n bs g o is in
    (came.0 ∙ (ap (λ (x : Outcome). x.given) same ∙ both.0), told o.refused (came.1 ∙ ap (λ (x : Outcome). verdict x.refused) same) ∙ both.1)

pub told_taken : (n : ℕ) (o : Option PassDataError) → Ok tt ≡ verdict o → Ok n ≡ answer_by n o
told_taken n None e = refl
told_taken n (Some x) e = cc

pub told_refused : (n : ℕ) (y : PassDataError) (o : Option PassDataError) → Err y ≡ verdict o → Err y ≡ answer_by n o
told_refused n y None e = cc
told_refused n y (Some x) e = let same : y ≡ x = cc in ap Err same

pub metric_is : (bytes : List ℕ) (m : RCFrameMetrics) → Metric bytes m → (nat_lt 4 (subtype_at bytes) ≡ false) × (m ≡ metrics_at bytes) × (m.fti ≤ 4)
metric_is bytes m h =
    let fti = h.subtype in
    let known = h.subtype_fits in
    let low : subtype_at bytes ≤ 4 = omega arith in (
      test_false 4 (subtype_at bytes) low,
      all_is m (i32_at bytes 4) (subtype_at bytes) _ h.log_scale fti h.shown,
      known,
    ) where
      all_is : (m : RCFrameMetrics) (s : ℤ) (f : ℕ) (b : Bool) → m.log_scale_q24 ≡ s → m.fti ≡ f → m.show_frame ≡ b
          → m ≡ record { log_scale_q24 = s; fti = f; show_frame = b }
      all_is m s f b p q r =
          ap (λ x. record { log_scale_q24 = x; fti = m.fti; show_frame = m.show_frame }) p
          ∙ (ap (λ x. record { log_scale_q24 = s; fti = x; show_frame = m.show_frame }) q ∙ ap (λ x. record { log_scale_q24 = s; fti = f; show_frame = x }) r)

pub bad_is : (bytes : List ℕ) (v : ℕ) → (v ≡ subtype_at bytes) × (4 < v) → nat_lt 4 (subtype_at bytes) ≡ true
bad_is bytes v h =
    let is = h.0 in
    let above = h.1 in
    test_true 4 (subtype_at bytes) (omega arith)

-- ---- a summary

summary_is : (held : List ℕ) (g : Given) → is_some g.header ≡ false → with_whole held g ≡ with_summary_bytes held (emptied g)
summary_is held g none = ap (λ c. cond c (with_packet_bytes held (emptied g)) (with_summary_bytes held (emptied g))) none

pub summary_refused : (n : ℕ) (bs held empty : List ℕ) (e : PassDataError) (g : Given) → is_some g.header ≡ false → IsFilled 68 n bs held g → 68 ≤ length held → empty ≡ []
    → refusal_by (first_met held) ≡ Some e → (record g { bytes = empty } ≡ (part bs g).given) × (Err e ≡ answer (part bs g))
summary_refused n bs held empty e g absent f whole none why =
    let is = now_whole 68 n bs held g f whole ∙ ap (progress_by n) (summary_is held g absent ∙ refusal (first_met held) why) in
    let both = ended n bs g (refused e (emptied g)) is in
    (ap (λ (xs : List ℕ). record g { bytes = xs }) none ∙ both.0, both.1) where
      refusal : (w : Option Why) → refusal_by w ≡ Some e → with_summary_by w held (emptied g) ≡ refused e (emptied g)
      refusal None h = cc
      refusal (Some x) h = ap (λ (o : Option PassDataError). record { given = emptied g; refused = o }) h

pub summary_taken : (n : ℕ) (bs held empty : List ℕ) (ntus : ℤ) (nframes : List ℤ) (exp : List ℕ) (sums : List ℤ) (total : ℤ) (g next : Given) → is_some g.header ≡ false
    → IsFilled 68 n bs held g → 68 ≤ length held → length g.bytes < goal g → first_met held ≡ None → Spells (take 68 held) ntus nframes exp sums → total ≡ frame_total nframes
    → next ≡ with_values ntus nframes exp sums total (record g { bytes = empty }) → (next ≡ (part bs g).given) × (Ok n ≡ answer (part bs g))
summary_taken n bs held empty ntus nframes exp sums total g next absent f whole unfinished met spelled total_is came =
    let size = f.size_is in
    let number = f.number in
    let long : length held ≤ 68 = omega (arith, ap length f.joined, length-append g.bytes (take n bs), length-take n bs) in
    let spells : Spells held ntus nframes exp sums = subst (λ (xs : List ℕ). Spells xs ntus nframes exp sums) (take_all 68 held long) spelled in
    let values : with_values ntus nframes exp sums total g ≡ with_values (i32_at held 8) (counts_at held) (exponents_at held) (sums_at held) (frame_total (counts_at held)) g =
    same_values ntus (i32_at held 8) nframes (counts_at held) exp (exponents_at held) sums (sums_at held) total (frame_total (counts_at held))
    spells.ntus_is spells.nframes_is spells.exp_is spells.scale_sum_is (total_is ∙ ap frame_total spells.nframes_is) in
    let o = taken (with_values (i32_at held 8) (counts_at held) (exponents_at held) (sums_at held) (frame_total (counts_at held)) g) in
    let is = now_whole 68 n bs held g f whole ∙ ap (progress_by n) (summary_is held g absent ∙ ap (λ w. with_summary_by w held (emptied g)) met) in
    let both = ended n bs g o is in
    (came ∙ (values ∙ both.0), both.1) where
      same_values : (a a' : ℤ) (b b' : List ℤ) (e e' : List ℕ) (s s' : List ℤ) (t t' : ℤ) → a ≡ a' → b ≡ b' → e ≡ e' → s ≡ s' → t ≡ t'
          → with_values a b e s t g ≡ with_values a' b' e' s' t' g
      same_values a a' b b' e e' s s' t t' p q r u v =
          ap (λ x. with_values x b e s t g) p ∙ (ap (λ x. with_values a' x e s t g) q ∙ (ap (λ x. with_values a' b' x s t g) r
          ∙ (ap (λ x. with_values a' b' e' x t g) u ∙ ap (λ x. with_values a' b' e' s' x g) v)))
