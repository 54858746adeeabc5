-- What stays of what was given: the header, once there is one, and the kind of the buffer.
use Rattle.std.proofs.Common.{◌≡◌, ℕ, ◌==◌, nat_lt, nat_le, Bool, true, false, cond, List, [], ◌∷◌, ◌++◌, length, refl, ap, ◌∙◌, Option, Some, None, is_some, ℤ}
use Rattle.pass_stats.specs.Metric.{subtype_at}
use Rattle.pass_stats.specs.declared.metrics.RCFrameMetrics.{RCFrameMetrics}
use Rattle.pass_data.specs.declared.error.PassDataError.{PassDataError}
use Rattle.pass_data.specs.declared.error.PassDataError.TheVariants.{NotNeeded, TooManyFrames, WrongSize}
use Rattle.pass_data.specs.Given.{Given, Outcome, bad_packet, coded, coded_by, current, goal, into_window, metrics_at, refused, sent, taken, with_metrics, with_packet_bytes, with_summary_bytes}
use Rattle.metrics_window.specs.Window.{with_taken}
use Rattle.pass_data.specs.Pieces.{Progress, given_bytes, then_given, wants, with_byte, with_whole}

abbrev Stays : Given → Given → Type 0
Stays old new = (new.header ≡ old.header) × (new.is_finite ≡ old.is_finite)

-- ---- a frame is coded

coded_by_stays : (m : Option RCFrameMetrics) (g : Given) → Stays g (coded_by m g)
coded_by_stays None g = (refl, refl)
coded_by_stays (Some m) g = (refl, refl)

pub coded_stays : (g : Given) → (((coded g).header ≡ g.header) × ((coded g).is_finite ≡ g.is_finite))
unfolding coded
coded_stays g = coded_by_stays (current g) g

-- ---- metrics are taken

window_stays : (b : Bool) (m : RCFrameMetrics) (g : Given)
    → Stays g (cond b (refused TooManyFrames g) (taken (record g { window = with_taken m g.window }))).given
window_stays true m g = (refl, refl)
window_stays false m g = (refl, refl)

metrics_by_stay : (b : Bool) (m : RCFrameMetrics) (g : Given) → Stays g (cond b (into_window m g) (taken (record g { next = Some m }))).given
metrics_by_stay true m g = window_stays (nat_le g.window.capacity (length g.window.held)) m g
metrics_by_stay false m g = (refl, refl)

packet_by_stays : (b : Bool) (bytes : List ℕ) (g : Given) → Stays g (cond b (refused (bad_packet bytes) g) (with_metrics (metrics_at bytes) g)).given
packet_by_stays true bytes g = (refl, refl)
packet_by_stays false bytes g = metrics_by_stay g.is_finite (metrics_at bytes) g

-- ---- a packet is sent

needed_stays : (b : Bool) (bytes : List ℕ) (g : Given) → Stays g (cond b (with_metrics (metrics_at bytes) g) (refused NotNeeded g)).given
needed_stays true bytes g = metrics_by_stay g.is_finite (metrics_at bytes) g
needed_stays false bytes g = (refl, refl)

kind_stays : (b is_needed : Bool) (bytes : List ℕ) (g : Given)
    → Stays g (cond b (refused (bad_packet bytes) g) (cond is_needed (with_metrics (metrics_at bytes) g) (refused NotNeeded g))).given
kind_stays true is_needed bytes g = (refl, refl)
kind_stays false is_needed bytes g = needed_stays is_needed bytes g

size_stays : (b is_needed : Bool) (bytes : List ℕ) (g : Given)
    → Stays g (cond b (cond (nat_lt 4 (subtype_at bytes)) (refused (bad_packet bytes) g) (cond is_needed (with_metrics (metrics_at bytes) g) (refused NotNeeded g)))
    (refused (WrongSize (length bytes)) g)).given
size_stays true is_needed bytes g = kind_stays (nat_lt 4 (subtype_at bytes)) is_needed bytes g
size_stays false is_needed bytes g = (refl, refl)

pub sent_stays : (is_needed : Bool) (bytes : List ℕ) (g : Given)
    → (((sent is_needed bytes g).given.header ≡ g.header) × ((sent is_needed bytes g).given.is_finite ≡ g.is_finite))
unfolding sent
sent_stays is_needed bytes g = size_stays (length bytes == 8) is_needed bytes g

-- ---- bytes are given behind a header

whole_stays : (bytes : List ℕ) (g : Given) → is_some g.header ≡ true → Stays g (with_whole bytes g).given
whole_stays bytes g some =
    let is : with_whole bytes g ≡ with_packet_bytes bytes (record g { bytes = [] }) =
    ap (λ b. cond b (with_packet_bytes bytes (record g { bytes = [] })) (with_summary_bytes bytes (record g { bytes = [] }))) some in
    let stays = packet_by_stays (nat_lt 4 (subtype_at bytes)) bytes (record g { bytes = [] }) in
    (ap (λ (o : Outcome). o.given.header) is ∙ stays.0, ap (λ (o : Outcome). o.given.is_finite) is ∙ stays.1)

short_stays : (b : Bool) (bytes : List ℕ) (g : Given) → is_some g.header ≡ true
    → Stays g (cond b (taken (record g { bytes = bytes })) (with_whole bytes g)).given
short_stays true bytes g some = (refl, refl)
short_stays false bytes g some = whole_stays bytes g some

byte_stays : (b : ℕ) (g : Given) → is_some g.header ≡ true → Stays g (with_byte b g).given
unfolding with_byte
byte_stays b g some = short_stays (nat_lt (length (g.bytes ++ b ∷ [])) (goal g)) (g.bytes ++ b ∷ []) g some

then_stays : (o : Option PassDataError) (rest : Given → Progress) (g next : Given) → Stays g next → Stays next (rest next).given
    → Stays g (then_given 1 rest next o).given
then_stays None rest g next one more = (more.0 ∙ one.0, more.1 ∙ one.1)
then_stays (Some e) rest g next one more = one

pub bytes_stay : (d c : ℤ) (bs : List ℕ) (g : Given) → is_some g.header ≡ true
    → (((given_bytes d c bs g).given.header ≡ g.header) × ((given_bytes d c bs g).given.is_finite ≡ g.is_finite))
unfolding given_bytes
bytes_stay d c [] g some = (refl, refl)
bytes_stay d c (b ∷ bs) g some =
    let one = byte_stays b g some in
    let more = bytes_stay d c bs (with_byte b g).given (ap is_some one.0 ∙ some) in
    elim (wants d c g) as (λ w. Stays g (cond w (then_given 1 (given_bytes d c bs) (with_byte b g).given (with_byte b g).refused)
    (record { given = g; taken = 0; refused = None })).given) [
      | true ↦ then_stays (with_byte b g).refused (given_bytes d c bs) g (with_byte b g).given one more
      | false ↦ (refl, refl)
    ]
