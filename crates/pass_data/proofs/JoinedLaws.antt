-- The metrics that are accepted are those of the joined bytes.
use Rattle.std.proofs.Common.{◌≡◌, ℕ, suc, ◌+◌, ◌<◌, ◌≤◌, nat_lt, nat_le, ◌==◌, Bool, true, false, cond, List, [], ◌∷◌, ◌++◌, length, take, drop, length-take, append_assoc, refl, sym, ◌∙◌, ap, subst, arith, ℤ, is_some, slice_get}
use Rattle.std.proofs.lemmas.List.{append-nil, take-append-le, drop-append-le}
use Rattle.std.proofs.lemmas.Bool.Decides.{nat_tests}
use Rattle.std.proofs.Math.Seq.{take-append_seam, drop-append_seam}
use Rattle.std.specs.Prelude.{Option, Some, None}
use Rattle.pass_stats.specs.Metric.{Metric, subtype_at}
use Rattle.pass_stats.specs.declared.metrics.RCFrameMetrics.{RCFrameMetrics}
use Rattle.metrics_window.specs.Window.{with_taken}
use Rattle.pass_data.specs.declared.error.PassDataError.{PassDataError}
use Rattle.pass_data.specs.declared.error.PassDataError.TheVariants.{TooManyFrames, NotNeeded, WrongSize}
use Rattle.pass_data.specs.Given.{Given, Outcome, goal, coded, coded_by, current, taken, refused, with_metrics, with_packet_bytes, with_summary_bytes, into_window, sent, metrics_at, bad_packet}
use Rattle.pass_data.specs.Pieces.{wants, with_whole, with_byte, Progress, further, then_given, given_bytes}
use Rattle.pass_data.specs.Packets.{ArePackets, Event, Reads, given_after, joined, frames_coded, AllTaken, HasRead}
use Rattle.pass_data.specs.Packets.Event.{Piece, Frame}
use Rattle.pass_data.proofs.WholeLaws.{metric_is}
use Rattle.pass_data.proofs.PieceLaws.{none_wanted, none_given, one_wanted, byte_kept, byte_last, one_longer}

-- what bytes came to
record Came (bytes : List ℕ) (old new : Given) : Type 0 where
  accepted : List RCFrameMetrics
  packets : ArePackets bytes accepted new.bytes
  held : new.window.held ≡ old.window.held ++ accepted
  reads : Reads new

by_bool : {P : Type 0} (b : Bool) → (b ≡ true → P) → (b ≡ false → P) → P
by_bool true f g = f refl
by_bool false f g = g refl

by_option : {P : Type 0} (o : Option PassDataError) → (o ≡ None → P) → ((e : PassDataError) → o ≡ Some e → P) → P
by_option None f g = f refl
by_option (Some e) f g = g e refl

nothing_came : (bs : List ℕ) (g : Given) → Reads g → Came (g.bytes ++ take 0 bs) g g
nothing_came bs g r = record {
  accepted = [];
  packets = (append-nil g.bytes, r.unfinished);
  held = sym (append-nil g.window.held);
  reads = r;
}

metric_at : (bytes : List ℕ) → length bytes ≡ 8 → nat_lt 4 (subtype_at bytes) ≡ false → Metric bytes (metrics_at bytes)
metric_at bytes size test =
    let low : subtype_at bytes ≤ 4 = grind (arith, nat_tests) in
    record { size = size; subtype = refl; subtype_fits = low; shown = refl; log_scale = refl }

-- whole bytes that aren't refused are metrics that go last into the window
abbrev accepted_from : List ℕ → Given → Given
accepted_from held g = record g { bytes = []; window = record g.window { held = g.window.held ++ metrics_at held ∷ [] } }

whole_taken : (held : List ℕ) (g : Given) → Reads g → (with_whole held g).refused ≡ None
    → (nat_lt 4 (subtype_at held) ≡ false) × ((with_whole held g).given ≡ accepted_from held g)
whole_taken held g r none =
    let emptied : Given = record g { bytes = [] } in
    let is : with_whole held g ≡ with_packet_bytes held emptied = ap (λ c. cond c (with_packet_bytes held emptied) (with_summary_bytes held emptied)) r.header in
    by_bool (nat_lt 4 (subtype_at held))
    (λ bad.
    let o : with_whole held g ≡ refused (bad_packet held) emptied = is ∙ ap (λ c. cond c (refused (bad_packet held) emptied) (with_metrics (metrics_at held) emptied)) bad in
    absurd (never (bad_packet held) (sym none ∙ ap (λ (x : Outcome). x.refused) o)))
    (λ good.
    let o : with_whole held g ≡ into_window (metrics_at held) emptied =
    is ∙ (ap (λ c. cond c (refused (bad_packet held) emptied) (with_metrics (metrics_at held) emptied)) good
    ∙ ap (λ c. cond c (into_window (metrics_at held) emptied) (taken (record emptied { next = Some (metrics_at held) }))) r.finite) in
    by_bool (nat_le g.window.capacity (length g.window.held))
    (λ full.
    let no : into_window (metrics_at held) emptied ≡ refused TooManyFrames emptied = ap (λ c. cond c (refused TooManyFrames emptied) (taken (accepted_from held g))) full in
    absurd (never TooManyFrames (sym none ∙ ap (λ (x : Outcome). x.refused) (o ∙ no))))
    (λ room.
    (good, ap (λ (x : Outcome). x.given) (o ∙ ap (λ c. cond c (refused TooManyFrames emptied) (taken (accepted_from held g))) room)))) where
      never : (e : PassDataError) → None ≡ Some e → ⊥
      never e h = cc

further_came : (b : ℕ) (bs : List ℕ) (t : ℕ) (g mid new : Given) → mid ≡ record g { bytes = g.bytes ++ b ∷ [] } → Came (mid.bytes ++ take t bs) mid new → Came (g.bytes ++ take (1 + t) (b ∷ bs)) g new
further_came b bs t g mid new is came =
    let one : 1 + t ≡ suc t = omega arith in
    let bytes : mid.bytes ++ take t bs ≡ g.bytes ++ take (1 + t) (b ∷ bs) =
    ap (λ (x : Given). x.bytes ++ take t bs) is ∙ (append_assoc g.bytes (b ∷ []) (take t bs) ∙ sym (ap (λ n. g.bytes ++ take n (b ∷ bs)) one)) in
    record {
      accepted = came.accepted;
      packets = subst (λ (xs : List ℕ). ArePackets xs came.accepted new.bytes) bytes came.packets;
      held = came.held ∙ ap (λ (x : Given). x.window.held ++ came.accepted) is;
      reads = came.reads;
    }

whole_came : (b : ℕ) (bs : List ℕ) (t : ℕ) (g mid new : Given) → length (g.bytes ++ b ∷ []) ≡ 8 → nat_lt 4 (subtype_at (g.bytes ++ b ∷ [])) ≡ false
    → mid ≡ accepted_from (g.bytes ++ b ∷ []) g → Came (mid.bytes ++ take t bs) mid new → Came (g.bytes ++ take (1 + t) (b ∷ bs)) g new
whole_came b bs t g mid new size good is came =
    let held = g.bytes ++ b ∷ [] in
    let one : 1 + t ≡ suc t = omega arith in
    let bytes : held ++ take t bs ≡ g.bytes ++ take (1 + t) (b ∷ bs) = append_assoc g.bytes (b ∷ []) (take t bs) ∙ sym (ap (λ n. g.bytes ++ take n (b ∷ bs)) one) in
    let front : take 8 (held ++ take t bs) ≡ held = ap (λ n. take n (held ++ take t bs)) (sym size) ∙ take-append_seam held (take t bs) in
    let back : drop 8 (held ++ take t bs) ≡ take t bs = ap (λ n. drop n (held ++ take t bs)) (sym size) ∙ drop-append_seam held (take t bs) in
    let rest : ArePackets (take t bs) came.accepted new.bytes = subst (λ (x : Given). ArePackets (x.bytes ++ take t bs) came.accepted new.bytes) is came.packets in
    let all : ArePackets (held ++ take t bs) (metrics_at held ∷ came.accepted) new.bytes = (
      subst (λ (xs : List ℕ). Metric xs (metrics_at held)) (sym front) (metric_at held size good),
      subst (λ (xs : List ℕ). ArePackets xs came.accepted new.bytes) (sym back) rest,
    ) in
    record {
      accepted = metrics_at held ∷ came.accepted;
      packets = subst (λ (xs : List ℕ). ArePackets xs (metrics_at held ∷ came.accepted) new.bytes) bytes all;
      held = came.held ∙ (ap (λ (x : Given). x.window.held ++ came.accepted) is ∙ append_assoc g.window.held (metrics_at held ∷ []) came.accepted);
      reads = came.reads;
    }

-- ---- a piece

goal_is : (g : Given) → Reads g → goal g ≡ 8
goal_is g r = ap (λ b. cond b 8 68) r.header

-- what further bytes come to, in any state
abbrev Rest : ℤ → ℤ → List ℕ → Type 0
Rest d c bs = (g : Given) → Reads g → (given_bytes d c bs g).refused ≡ None → Came (g.bytes ++ take (given_bytes d c bs g).taken bs) g (given_bytes d c bs g).given

nothing_refused : (e : PassDataError) → None ≡ Some e → ⊥
nothing_refused e h = cc

one_byte : (d c : ℤ) (b : ℕ) (bs : List ℕ) (g : Given) → Reads g → Rest d c bs → (with_byte b g).refused ≡ None → (given_bytes d c bs (with_byte b g).given).refused ≡ None
    → Came (g.bytes ++ take (1 + (given_bytes d c bs (with_byte b g).given).taken) (b ∷ bs)) g (given_bytes d c bs (with_byte b g).given).given
one_byte d c b bs g r rest fine inner =
    let goal_8 = goal_is g r in
    let unfinished = r.unfinished in
    let longer = one_longer g.bytes b in
    let next = (with_byte b g).given in
    let end = (given_bytes d c bs (with_byte b g).given).given in
    let n = (given_bytes d c bs (with_byte b g).given).taken in
    by_bool (nat_lt (length (g.bytes ++ b ∷ [])) 8)
    (λ short.
    let below : length (g.bytes ++ b ∷ []) < 8 = grind (arith, nat_tests) in
    let is : next ≡ record g { bytes = g.bytes ++ b ∷ [] } = ap (λ (x : Outcome). x.given) (byte_kept b g (omega arith)) in
    let reads : Reads next = subst Reads (sym is) (record { header = r.header; finite = r.finite; unfinished = below }) in
    further_came b bs n g next end is (rest next reads inner))
    (λ whole.
    let above : 8 ≤ length (g.bytes ++ b ∷ []) = grind (arith, nat_tests) in
    let last : with_byte b g ≡ with_whole (g.bytes ++ b ∷ []) g = byte_last b g (omega arith) in
    let came = whole_taken (g.bytes ++ b ∷ []) g r (sym (ap (λ (x : Outcome). x.refused) last) ∙ fine) in
    let is : next ≡ accepted_from (g.bytes ++ b ∷ []) g = ap (λ (x : Outcome). x.given) last ∙ came.1 in
    let reads : Reads next = subst Reads (sym is) (record { header = r.header; finite = r.finite; unfinished = omega arith }) in
    whole_came b bs n g next end (omega arith) came.0 is (rest next reads inner))

wanted_came : (d c : ℤ) (b : ℕ) (bs : List ℕ) (g : Given) → Reads g → Rest d c bs → wants d c g ≡ true → (given_bytes d c (b ∷ bs) g).refused ≡ None
    → Came (g.bytes ++ take (given_bytes d c (b ∷ bs) g).taken (b ∷ bs)) g (given_bytes d c (b ∷ bs) g).given
wanted_came d c b bs g r rest h none =
    let o = with_byte b g in
    let all : given_bytes d c (b ∷ bs) g ≡ then_given 1 (given_bytes d c bs) o.given o.refused = one_wanted d c b bs g h in
    by_option o.refused
    (λ fine.
    let on : given_bytes d c (b ∷ bs) g ≡ further 1 (given_bytes d c bs o.given) = all ∙ ap (then_given 1 (given_bytes d c bs) o.given) fine in
    let inner : (given_bytes d c bs o.given).refused ≡ None = sym (ap (λ (p : Progress). p.refused) on) ∙ none in
    subst (λ (p : Progress). Came (g.bytes ++ take p.taken (b ∷ bs)) g p.given) (sym on) (one_byte d c b bs g r rest fine inner))
    (λ e bad. absurd (nothing_refused e (sym none ∙ (ap (λ (p : Progress). p.refused) all ∙ ap (λ x. (then_given 1 (given_bytes d c bs) o.given x).refused) bad))))

piece_came : (d c : ℤ) (bs : List ℕ) (g : Given) → Reads g → (given_bytes d c bs g).refused ≡ None → Came (g.bytes ++ take (given_bytes d c bs g).taken bs) g (given_bytes d c bs g).given
piece_came d c [] g r none =
    subst (λ (p : Progress). Came (g.bytes ++ take p.taken []) g p.given) (sym (none_given d c g)) (nothing_came [] g r)
piece_came d c (b ∷ bs) g r none =
    by_bool (wants d c g)
    (λ h. wanted_came d c b bs g r (λ x reads fine. piece_came d c bs x reads fine) h none)
    (λ h. subst (λ (p : Progress). Came (g.bytes ++ take p.taken (b ∷ bs)) g p.given) (sym (none_wanted d c (b ∷ bs) g h)) (nothing_came (b ∷ bs) g r))

-- ---- a run

pub packets_joined : (xs ys : List ℕ) (ms : List RCFrameMetrics) (rest : List ℕ) (more : List RCFrameMetrics) (end : List ℕ) → ArePackets xs ms rest → ArePackets (rest ++ ys) more end
    → ArePackets (xs ++ ys) (ms ++ more) end
packets_joined xs ys [] rest more end first second = subst (λ (zs : List ℕ). ArePackets (zs ++ ys) more end) (sym first.0) second
packets_joined xs ys (m ∷ ms) rest more end first second =
    let size = first.0.size in
    let long : 8 ≤ length xs = omega (arith, length-take 8 xs) in
    let front : take 8 (xs ++ ys) ≡ take 8 xs = take-append-le 8 xs ys long in
    let back : drop 8 (xs ++ ys) ≡ drop 8 xs ++ ys = drop-append-le 8 xs ys long in (
      subst (λ (zs : List ℕ). Metric zs m) (sym front) first.0,
      subst (λ (zs : List ℕ). ArePackets zs (ms ++ more) end) (sym back) (packets_joined (drop 8 xs) ys ms rest more end first.1 second),
    )

-- a frame that is coded
record IsCodedOf (g new : Given) : Type 0 where
  bytes : new.bytes ≡ g.bytes
  header : new.header ≡ g.header
  finite : new.is_finite ≡ g.is_finite
  held : new.window.held ≡ drop 1 g.window.held

coded_one : (o : Option RCFrameMetrics) (g : Given) (ms : List RCFrameMetrics) → g.window.held ≡ ms → o ≡ slice_get ms 0 → 0 < length ms → IsCodedOf g (coded_by o g)
coded_one None g [] is first some = absurd (omega arith)
coded_one None g (m ∷ ms) is first some = cc
coded_one (Some x) g ms is first some = record { bytes = refl; header = refl; finite = refl; held = refl }

coded_is : (g : Given) → Reads g → 0 < length g.window.held → IsCodedOf g (coded g)
unfolding coded
coded_is g r some =
    let first : current g ≡ slice_get g.window.held 0 = ap (λ b. cond b (slice_get g.window.held 0) g.next) r.finite in
    coded_one (current g) g g.window.held refl first some

later : (n : ℕ) (xs ys : List RCFrameMetrics) → 0 < length xs → drop n (drop 1 xs ++ ys) ≡ drop (suc n) (xs ++ ys)
later n [] ys some = absurd (omega arith)
later n (x ∷ xs) ys some = refl

pub run_has_read : (es : List Event) (g : Given) → Reads g → AllTaken es g → HasRead (g.bytes ++ joined es g) (frames_coded es) g (given_after es g)
run_has_read [] g r all = record { accepted = []; packets = (append-nil g.bytes, r.unfinished); held = sym (append-nil g.window.held) }
run_has_read (Piece d c bytes ∷ es) g r all =
    let p = given_bytes d c bytes g in
    let came = piece_came d c bytes g r all.0 in
    let rest = run_has_read es p.given came.reads all.1 in
    let packets = packets_joined (g.bytes ++ take p.taken bytes) (joined es p.given) came.accepted p.given.bytes rest.accepted (given_after es p.given).bytes came.packets rest.packets in
    record {
      accepted = came.accepted ++ rest.accepted;
      packets = subst (λ (xs : List ℕ). ArePackets xs (came.accepted ++ rest.accepted) (given_after es p.given).bytes) (append_assoc g.bytes (take p.taken bytes) (joined es p.given)) packets;
      held = rest.held
          ∙ (ap (λ (xs : List RCFrameMetrics). drop (frames_coded es) (xs ++ rest.accepted)) came.held
          ∙ ap (drop (frames_coded es)) (append_assoc g.window.held came.accepted rest.accepted));
    }
run_has_read (Frame ∷ es) g r all =
    let is = coded_is g r all.0 in
    let header : is_some (coded g).header ≡ true = ap is_some is.header ∙ r.header in
    let finite : (coded g).is_finite ≡ true = is.finite ∙ r.finite in
    let unfinished : length (coded g).bytes < 8 = rw is.bytes r.unfinished in
    let rest = run_has_read es (coded g) (record { header = header; finite = finite; unfinished = unfinished }) all.1 in
    record {
      accepted = rest.accepted;
      packets = subst (λ (xs : List ℕ). ArePackets (xs ++ joined es (coded g)) rest.accepted (given_after es (coded g)).bytes) is.bytes rest.packets;
      held = rest.held
          ∙ (ap (λ (xs : List RCFrameMetrics). drop (frames_coded es) (xs ++ rest.accepted)) is.held ∙ later (frames_coded es) g.window.held rest.accepted all.0);
    }

-- bytes stand for one list of metrics
pub packets_determined : (bytes : List ℕ) (ms ns : List RCFrameMetrics) (rest end : List ℕ) → ArePackets bytes ms rest → ArePackets bytes ns end → (ms ≡ ns) × (rest ≡ end)
packets_determined bytes [] [] rest end p q = (refl, sym p.0 ∙ q.0)
packets_determined bytes [] (n ∷ ns) rest end p q =
    let short = p.1 in
    let size = q.0.size in
    absurd (omega (arith, ap length p.0, length-take 8 bytes))
packets_determined bytes (m ∷ ms) [] rest end p q =
    let short = q.1 in
    let size = p.0.size in
    absurd (omega (arith, ap length q.0, length-take 8 bytes))
packets_determined bytes (m ∷ ms) (n ∷ ns) rest end p q =
    let both = packets_determined (drop 8 bytes) ms ns rest end p.1 q.1 in
    let same : m ≡ n = (metric_is (take 8 bytes) m p.0).1 ∙ sym (metric_is (take 8 bytes) n q.0).1 in
    (ap (λ (x : RCFrameMetrics). x ∷ ms) same ∙ ap (λ (xs : List RCFrameMetrics). n ∷ xs) both.0, both.1)

-- ---- packets

refused_not : {P : Type 0} (o : Outcome) (e : PassDataError) (g : Given) → o ≡ refused e g → o.refused ≡ None → P
refused_not o e g is none = absurd (nothing_refused e (sym none ∙ ap (λ (x : Outcome). x.refused) is))

into_window_is : (m : RCFrameMetrics) (g : Given) → (into_window m g).refused ≡ None → (into_window m g).given ≡ record g { window = with_taken m g.window }
into_window_is m g none =
    by_bool (nat_le g.window.capacity (length g.window.held))
    (λ full. refused_not (into_window m g) TooManyFrames g (ap (λ b. cond b (refused TooManyFrames g) (taken (record g { window = with_taken m g.window }))) full) none)
    (λ room. ap (λ b. (cond b (refused TooManyFrames g) (taken (record g { window = with_taken m g.window }))).given) room)

abbrev for_need : Bool → List ℕ → Given → Outcome
for_need b bytes g = cond b (with_metrics (metrics_at bytes) g) (refused NotNeeded g)

abbrev for_subtype : Bool → Bool → List ℕ → Given → Outcome
for_subtype b is_needed bytes g = cond b (refused (bad_packet bytes) g) (for_need is_needed bytes g)

pub packet_accepted : (is_needed : Bool) (bytes : List ℕ) (g : Given) → g.is_finite ≡ true → (sent is_needed bytes g).refused ≡ None
    → Metric bytes (metrics_at bytes) × ((sent is_needed bytes g).given ≡ record g { window = with_taken (metrics_at bytes) g.window })
unfolding sent
packet_accepted is_needed bytes g finite none =
    by_bool (length bytes == 8)
    (λ size.
    let long : length bytes ≡ 8 = grind (arith, nat_tests) in
    let a : sent is_needed bytes g ≡ for_subtype (nat_lt 4 (subtype_at bytes)) is_needed bytes g =
    ap (λ b. cond b (for_subtype (nat_lt 4 (subtype_at bytes)) is_needed bytes g) (refused (WrongSize (length bytes)) g)) size in
    by_bool (nat_lt 4 (subtype_at bytes))
    (λ bad. refused_not _ (bad_packet bytes) g (a ∙ ap (λ b. for_subtype b is_needed bytes g) bad) none)
    (λ good.
    by_bool is_needed
    (λ yes.
    let all : sent is_needed bytes g ≡ into_window (metrics_at bytes) g =
    a ∙ (ap (λ b. for_subtype b is_needed bytes g) good ∙ (ap (λ b. for_need b bytes g) yes
    ∙ ap (λ b. cond b (into_window (metrics_at bytes) g) (taken (record g { next = Some (metrics_at bytes) }))) finite)) in
    (metric_at bytes long good, ap (λ (x : Outcome). x.given) all ∙ into_window_is (metrics_at bytes) g (sym (ap (λ (x : Outcome). x.refused) all) ∙ none)))
    (λ no. refused_not _ NotNeeded g (a ∙ (ap (λ b. for_subtype b is_needed bytes g) good ∙ ap (λ b. for_need b bytes g) no)) none)))
    (λ other.
    refused_not _ (WrongSize (length bytes)) g
    (ap (λ b. cond b (for_subtype (nat_lt 4 (subtype_at bytes)) is_needed bytes g) (refused (WrongSize (length bytes)) g)) other) none)
