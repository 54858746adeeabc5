-- Want of memory is no refusal of bytes.
use Rattle.std.proofs.Common.{◌≡◌, ◌≢◌, ℕ, nat_lt, nat_le, Bool, true, false, cond, List, [], ◌∷◌, ◌++◌, length, sym, ◌∙◌, ap, ℤ, is_some}
use Rattle.std.specs.Prelude.{Option, Some, None, Err}
use Rattle.pass_stats.specs.Metric.{subtype_at}
use Rattle.pass_stats.specs.Summary.{first_met}
use Rattle.pass_stats.specs.declared.error.Why.{Why}
use Rattle.pass_stats.specs.declared.metrics.RCFrameMetrics.{RCFrameMetrics}
use Rattle.metrics_window.specs.Window.{with_taken}
use Rattle.pass_data.specs.declared.error.PassDataError.{PassDataError}
use Rattle.pass_data.specs.declared.error.PassDataError.TheVariants.{TooManyFrames, OutOfMemory}
use Rattle.pass_data.specs.Given.{Given, Outcome, goal, taken, refused, into_window, with_metrics, with_packet_bytes, with_summary_by, with_summary_bytes, metrics_at, bad_packet}
use Rattle.pass_data.specs.Pieces.{wants, with_whole, with_byte, Progress, then_given, given_bytes, answer, answer_by}
use Rattle.pass_data.proofs.PieceLaws.{none_given, none_wanted, one_wanted, by_bool}

-- one of two outcomes
either : (b : Bool) (x y : Outcome) → x.refused ≢ Some OutOfMemory → y.refused ≢ Some OutOfMemory → (cond b x y).refused ≢ Some OutOfMemory
either true x y p q = p
either false x y p q = q

taken_so : (g : Given) → (taken g).refused ≢ Some OutOfMemory
taken_so g h = cc

full_so : (g : Given) → (refused TooManyFrames g).refused ≢ Some OutOfMemory
full_so g h = cc

bad_so : (bytes : List ℕ) (g : Given) → (refused (bad_packet bytes) g).refused ≢ Some OutOfMemory
bad_so bytes g h = cc

metrics_so : (m : RCFrameMetrics) (g : Given) → (with_metrics m g).refused ≢ Some OutOfMemory
metrics_so m g =
    either g.is_finite (into_window m g) (taken (record g { next = Some m }))
    (either (nat_le g.window.capacity (length g.window.held)) (refused TooManyFrames g) (taken (record g { window = with_taken m g.window })) (full_so g) (taken_so (record g { window = with_taken m g.window })))
    (taken_so (record g { next = Some m }))

packet_so : (bytes : List ℕ) (g : Given) → (with_packet_bytes bytes g).refused ≢ Some OutOfMemory
packet_so bytes g =
    either (nat_lt 4 (subtype_at bytes)) (refused (bad_packet bytes) g) (with_metrics (metrics_at bytes) g) (bad_so bytes g) (metrics_so (metrics_at bytes) g)

summary_so : (w : Option Why) (bytes : List ℕ) (g : Given) → (with_summary_by w bytes g).refused ≢ Some OutOfMemory
summary_so None bytes g h = cc
summary_so (Some why) bytes g h = cc

whole_so : (bytes : List ℕ) (g : Given) → (with_whole bytes g).refused ≢ Some OutOfMemory
whole_so bytes g =
    either (is_some g.header) (with_packet_bytes bytes (record g { bytes = [] })) (with_summary_bytes bytes (record g { bytes = [] })) (packet_so bytes (record g { bytes = [] })) (summary_so (first_met bytes) bytes (record g { bytes = [] }))

byte_so : (b : ℕ) (g : Given) → (with_byte b g).refused ≢ Some OutOfMemory
unfolding with_byte
byte_so b g =
    either (nat_lt (length (g.bytes ++ b ∷ [])) (goal g)) (taken (record g { bytes = g.bytes ++ b ∷ [] })) (with_whole (g.bytes ++ b ∷ []) g) (taken_so (record g { bytes = g.bytes ++ b ∷ [] })) (whole_so (g.bytes ++ b ∷ []) g)

then_so : (n : ℕ) (rest : Given → Progress) (g : Given) (o : Option PassDataError) → o ≢ Some OutOfMemory → (rest g).refused ≢ Some OutOfMemory
    → (then_given n rest g o).refused ≢ Some OutOfMemory
then_so n rest g None p q = q
then_so n rest g (Some e) p q = p

along : (o p : Option PassDataError) → o ≡ p → p ≢ Some OutOfMemory → o ≢ Some OutOfMemory
along o p e h k = h (sym e ∙ k)

none_so : (o : Option PassDataError) → o ≡ None → o ≢ Some OutOfMemory
none_so o e h = let same : None ≡ Some OutOfMemory = sym e ∙ h in cc

pub bytes_so : (d c : ℤ) (bs : List ℕ) (g : Given) → (given_bytes d c bs g).refused ≢ Some OutOfMemory
bytes_so d c [] g = none_so _ (ap (λ (p : Progress). p.refused) (none_given d c g))
bytes_so d c (b ∷ bs) g =
    by_bool (wants d c g)
    (λ h.
    along _ _ (ap (λ (p : Progress). p.refused) (one_wanted d c b bs g h))
    (then_so 1 (given_bytes d c bs) (with_byte b g).given (with_byte b g).refused (byte_so b g) (bytes_so d c bs (with_byte b g).given)))
    (λ h. none_so _ (ap (λ (p : Progress). p.refused) (none_wanted d c (b ∷ bs) g h)))

answered : (n : ℕ) (o : Option PassDataError) → o ≢ Some OutOfMemory → answer_by n o ≢ Err OutOfMemory
answered n None p h = cc
answered n (Some e) p h = let same : e ≡ OutOfMemory = cc in p (ap Some same)

pub never_memory : (d c : ℤ) (bs : List ℕ) (g : Given) → answer (given_bytes d c bs g) ≢ Err OutOfMemory
never_memory d c bs g = answered (given_bytes d c bs g).taken (given_bytes d c bs g).refused (bytes_so d c bs g)
