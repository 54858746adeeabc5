-- What the pass calls leave of what is kept.
use Rattle.std.proofs.Common.{◌≡◌, ℕ, suc, ◌*◌, ◌≤◌, Bool, true, false, cond, not, ◌&&◌, ◌||◌, nat_lt, List, [], ◌∷◌, map, length, refl, ap, sym, subst, ◌∙◌, arith, int_lt, is_some, Option, Some, None, Result, Ok, Err, IsTrue, ◌⊎◌, inl, inr, ℤ, pos}
use Rattle.std.specs.Prelude.{MatchResult}
use Rattle.std.specs.List.{All, filter}
use Rattle.std.specs.Ordering.{int_eq}
use Rattle.std.proofs.lemmas.Bool.Decides.{nat_tests, Decides-int_eq}
use Rattle.av1_settings.specs.declared.encoder.EncoderConfig.{EncoderConfig}
use Rattle.pyramid.specs.Subtypes.{subtype_of}
use Rattle.pyramid.specs.declared.command.Command.{Command}
use Rattle.pyramid.specs.declared.command.Command.TheVariants.{Code, Show}
use Rattle.coding_base.specs.declared.memory.OutOfMemory.{OutOfMemory}
use Rattle.pass_stats.specs.declared.summary.RCSummary.{RCSummary}
use Rattle.pass_data.specs.Emitted.{Emitted}
use Rattle.pass_data.specs.Given.{Given, sent, with_values}
use Rattle.pass_data.specs.Pieces.{given_bytes}
use Rattle.pass_data.specs.declared.error.PassDataError.{PassDataError}
use Rattle.pass_data.specs.declared.given.Header.{Header}
use Rattle.quantizers.specs.Tables.{Tables}
use Rattle.quantizers.specs.declared.parameters.QuantizerParameters.{QuantizerParameters}
use Rattle.rate_model.specs.Measure.{Entry}
use Rattle.ratecontrol.specs.Kept.{kept}
use Rattle.ratecontrol.specs.Log.{is_coded, is_real, is_show}
use Rattle.ratecontrol.specs.Passes.{Answered, IsAnswered, after_frame_emitted, after_summary, commands, frames_needed, given_in, given_out, gives_frame, gives_summary, in_first, in_second, is_controlled, is_open, over_the_file, over_the_window, set_up, set_up_by, taken_in, with_buffer, with_exponents, with_given, with_summary}
use Rattle.ratecontrol.specs.Rate.{Rate}
use Rattle.ratecontrol.specs.Select.{select}
use Rattle.ratecontrol.specs.declared.guess.Guess.{Guess}
use Rattle.ratecontrol.proofs.GivenLaws.{bytes_stay, sent_stays}
use Rattle.ratecontrol.proofs.KeptLaws.{kept_bitrate, kept_of_fresh, no_commands}
use Rattle.session_log.specs.declared.entry.LogEntry.{LogEntry}
use Rattle.session_log.specs.Keeps.{HasSize, IsCodedForGood, IsLog, IsSized, Keeps, RateKept}
use Rattle.session_log.specs.Passes.{Passes, first_begun, no_passes, packet_sent, passes_of, rate_at, second_begun, started, with_passes}
use Rattle.session_log.specs.Readings.{measured, settings_of, start_of}
use Rattle.session_log.proofs.Logs.{bare_start, same_start, starts_fresh}

-- ---- only the passes move

-- of the passes a summary stays, and behind one the kind of the buffer
pub record OnlyPasses (old new : Rate) : Type 0 where
  pub others : new ≡ with_passes (passes_of new) old
  pub header : new.given.header ≡ old.given.header
  pub finite : (old.given.header ≡ None) ⊎ (new.given.is_finite ≡ old.given.is_finite)
  pub second : IsTrue old.second → IsTrue new.second

only_same : (old : Rate) → OnlyPasses old old
only_same old = record { others = refl; header = refl; finite = inr refl; second = λ h. h }

only_emitted : (e : Emitted) (old : Rate) → OnlyPasses old (record old { emitted = e })
only_emitted e old = record { others = refl; header = refl; finite = inr refl; second = λ h. h }

only_given : (g : Given) (old : Rate) → g.header ≡ old.given.header → g.is_finite ≡ old.given.is_finite → OnlyPasses old (record old { given = g })
only_given g old header finite = record { others = refl; header = header; finite = inr finite; second = λ h. h }

only_first : (b : ℤ) (old : Rate) → OnlyPasses old (in_first (Some b) old)
only_first b old = record { others = refl; header = refl; finite = inr refl; second = λ h. h }

only_out : (done : Bool) (old : Rate) → OnlyPasses old (given_out done old)
only_out done old = elim (gives_frame old) as (λ b. OnlyPasses old (cond b (after_frame_emitted old) (cond (gives_summary done old) (after_summary old) old))) [
  | true ↦ only_emitted _ old
  | false ↦ elim (gives_summary done old) as (λ b. OnlyPasses old (cond b (after_summary old) old)) [ true ↦ only_emitted _ old | false ↦ only_same old ]
]

start_by : (enc : EncoderConfig) (p q : Passes) → q.given.header ≡ p.given.header → (p.given.header ≡ None) ⊎ (q.given.is_finite ≡ p.given.is_finite)
    → started enc q ≡ started enc p
start_by enc p q header (inl none) = bare_start enc q (header ∙ none) ∙ sym (bare_start enc p none)
start_by enc p q header (inr same) = same_start enc p q header same

pub keeps_moved : (enc : EncoderConfig) (tables : Tables) (passes : Passes) (log : List LogEntry) (r : RateKept) (new : Rate) → Keeps enc tables passes log r
    → OnlyPasses r.state new → Keeps enc tables (passes_of new) log (record r { state = new })
keeps_moved enc tables passes log r new keeps only =
    let header : new.given.header ≡ passes.given.header = only.header ∙ ap (λ (s : Rate). s.given.header) keeps.state in
    let finite : (passes.given.header ≡ None) ⊎ (new.given.is_finite ≡ passes.given.is_finite) =
    subst (λ (s : Rate). (s.given.header ≡ None) ⊎ (new.given.is_finite ≡ s.given.is_finite)) keeps.state only.finite in
    record {
      valid = keeps.valid;
      header = λ some. only.second (ap (λ (s : Rate). s.second) keeps.state ∙ keeps.header (ap is_some (sym header) ∙ some));
      state = only.others
          ∙ (ap (λ (s : Rate). with_passes (passes_of new) s) keeps.state
          ∙ ap (λ (s : Rate). with_passes (passes_of new) (kept s (map measured log))) (sym (start_by enc passes (passes_of new) header finite)));
      settings = keeps.settings;
      tables = keeps.tables;
      bitrate = keeps.bitrate;
      base = keeps.base;
    }

-- ---- a summary comes, at the start

levels_passes : (b : Bool) (h : Header) (p : Passes) (s : Rate)
    → passes_of (record (cond b (over_the_window h (with_passes p s)) (over_the_file h (with_passes p s))) { subtypes = with_exponents h.exp s.subtypes }) ≡ p
levels_passes true h p s = refl
levels_passes false h p s = refl

set_up_passes : (header : Option Header) (p : Passes) (s : Rate) → passes_of (set_up_by header (with_passes p s)) ≡ p
unfolding set_up
set_up_passes None p s = refl
set_up_passes (Some h) p s = levels_passes p.given.is_finite h p s

own_passes : (r : Rate) → r ≡ with_passes (passes_of r) r
own_passes r = refl

set_up_whole : (header : Option Header) (p : Passes) (s : Rate)
    → set_up_by header (with_passes p s) ≡ with_passes p (with_passes no_passes (set_up_by header (with_passes p s)))
set_up_whole header p s =
    own_passes (set_up_by header (with_passes p s))
    ∙ ap (λ (q : Passes). with_passes q (set_up_by header (with_passes p s))) (set_up_passes header p s)

second_apart : (old : Rate) (g : Given) → record (in_second old) { given = g } ≡ with_passes (passes_of (record (in_second old) { given = g })) old
second_apart old g = elim old.second as (λ b.
    record (cond b old (record old { second = true; given = with_buffer old.set_delay old.given })) { given = g }
    ≡ with_passes (passes_of (record (cond b old (record old { second = true; given = with_buffer old.set_delay old.given })) { given = g })) old) [
      | true ↦ refl
      | false ↦ refl
    ]

second_is_on : (b : Bool) (old : Rate) → old.second ≡ b → (cond b old (record old { second = true; given = with_buffer old.set_delay old.given })).second ≡ true
second_is_on true old is = is
second_is_on false old is = refl

bare_state : (enc : EncoderConfig) (tables : Tables) (passes : Passes) (r : RateKept) (p : Passes) → Keeps enc tables passes [] r → passes.given.header ≡ None
    → with_passes p r.state ≡ with_passes p (start_of enc)
bare_state enc tables passes r p keeps none =
    ap (λ (s : Rate). with_passes p s) keeps.state
    ∙ (ap (λ (s : Rate). with_passes p s) (kept_of_fresh (started enc passes) (starts_fresh enc passes keeps.valid))
    ∙ ap (λ (s : Rate). with_passes p s) (bare_start enc passes none))

set_up_at : (enc : EncoderConfig) (tables : Tables) (passes p : Passes) (r : RateKept) (new : Rate) → Keeps enc tables passes [] r → p.second ≡ true
    → new ≡ set_up_by p.given.header (with_passes p (start_of enc)) → Keeps enc tables p [] (record r { state = new })
set_up_at enc tables passes p r new keeps second is = record {
  valid = keeps.valid;
  header = λ some. second;
  state = is
      ∙ (set_up_whole p.given.header p (start_of enc)
      ∙ sym (ap (λ (s : Rate). with_passes p s) (kept_of_fresh (started enc p) (starts_fresh enc p keeps.valid))));
  settings = keeps.settings;
  tables = keeps.tables;
  bitrate = keeps.bitrate;
  base = keeps.base;
}

pub keeps_set_up : (enc : EncoderConfig) (tables : Tables) (passes : Passes) (r : RateKept) (g : Given) (new : Rate) → Keeps enc tables passes [] r → passes.given.header ≡ None
    → new ≡ set_up_by g.header (record (in_second r.state) { given = g }) → Keeps enc tables (passes_of new) [] (record r { state = new })
keeps_set_up enc tables passes r g new keeps none is =
    let p = passes_of (record (in_second r.state) { given = g }) in
    let whole : new ≡ set_up_by g.header (with_passes p (start_of enc)) =
    is ∙ ap (λ (s : Rate). set_up_by g.header s) (second_apart r.state g ∙ bare_state enc tables passes r p keeps none) in
    let own : passes_of new ≡ p = ap passes_of whole ∙ set_up_passes g.header p (start_of enc) in
    subst (λ (q : Passes). Keeps enc tables q [] (record r { state = new })) (sym own)
    (set_up_at enc tables passes p r new keeps (second_is_on r.state.second r.state refl) whole)

-- ---- nothing is coded

some_bits : (n : ℕ) → 1 ≤ n → int_lt (pos 0) (pos (8 * n)) ≡ true
some_bits n h = grind (arith, nat_tests)

has_bits : (command : Command) (e : LogEntry) → HasSize command e → nat_lt (subtype_of command) 4 ≡ true → int_lt (pos 0) (pos (8 * length e.bytes)) ≡ true
has_bits (Code frame kind refs refresh shown) e size below = some_bits (length e.bytes) size.0
has_bits (Show slot) e size below = absurd (cc)

real_next : (below trial some : Bool) (e : Entry) (coded shows real : List Entry) → (below ≡ true → some ≡ true)
    → length (cond (below && (not trial && some)) (e ∷ coded) coded) ≡ 0 → length (cond (not below) (e ∷ shows) shows) ≡ 0
    → (length coded ≡ 0 → length shows ≡ 0 → real ≡ []) → cond (not trial) (e ∷ real) real ≡ []
real_next true true some e coded shows real has none also rest = rest none also
real_next true false true e coded shows real has none also rest = absurd (omega arith)
real_next true false false e coded shows real has none also rest =
    let wrong : false ≡ true = has refl in
    absurd (cc)
real_next false trial some e coded shows real has none also rest = absurd (omega arith)

none_real : (log : List LogEntry) → All IsSized log → length (filter is_coded (map measured log)) ≡ 0 → length (filter is_show (map measured log)) ≡ 0
    → filter is_real (map measured log) ≡ []
none_real [] sized none also = refl
none_real (e ∷ log) sized none also =
    let size : IsSized e = sized 0 e (omega arith) in
    real_next (nat_lt (subtype_of e.command) 4) e.trial (int_lt (pos 0) (pos (8 * length e.bytes))) (measured e)
    (filter is_coded (map measured log)) (filter is_show (map measured log)) (filter is_real (map measured log))
    (has_bits e.command e size) none also (none_real log (λ k d below. sized (suc k) d (omega arith)))

both_true : (a b : Bool) → (a && b) ≡ true → (a ≡ true) × (b ≡ true)
both_true true b h = (refl, h)
both_true false b h = absurd (cc)

second_of_or : (a b : Bool) → (a || b) ≡ true → a ≡ false → b ≡ true
second_of_or true b h off = absurd (cc)
second_of_or false b h off = h

-- where bytes may come without a summary nothing is coded
nothing_coded : (enc : EncoderConfig) (tables : Tables) (passes : Passes) (log : List LogEntry) (r : RateKept) → Keeps enc tables passes log r → IsLog log → IsCodedForGood log
    → is_open r.state ≡ true → is_some r.state.given.header ≡ false → log ≡ []
nothing_coded enc tables passes log r keeps is good is_on bare =
    let both = both_true (is_controlled r.state) _ is_on in
    let zero_commands : int_eq (commands r.state) (pos 0) ≡ true = second_of_or (is_some r.state.given.header) _ both.1 bare in
    let none : commands r.state ≡ pos 0 = (Decides-int_eq _ _).0 zero_commands in
    let s = started enc passes in
    let same : r.state.bitrate ≡ s.bitrate = ap (λ (x : Rate). x.bitrate) keeps.state ∙ kept_bitrate s (map measured log) in
    let on : int_lt (pos 0) s.bitrate ≡ true = ap (λ z. int_lt (pos 0) z) (sym same) ∙ both.0 in
    let counts = no_commands s (map measured log) on (starts_fresh enc passes keeps.valid) (sym (ap commands keeps.state) ∙ none) in
    good (none_real log is.sized counts.0 counts.1)

-- ---- bytes are given

in_second_stays : (b : Bool) (old : Rate) → b ≡ true → cond b old (record old { second = true; given = with_buffer old.set_delay old.given }) ≡ old
in_second_stays true old on = refl
in_second_stays false old on = absurd (cc)

none_is : (o : Option Header) → is_some o ≡ false → o ≡ None
none_is None bare = refl
none_is (Some h) bare = absurd (cc)

-- what giving bytes leaves of what was given
abbrev fed : List ℕ → Rate → Given
fed bytes rate = (given_bytes rate.reservoir_delay (commands rate) bytes rate.given).given

fed_behind : (enc : EncoderConfig) (tables : Tables) (passes : Passes) (log : List LogEntry) (r : RateKept) (bytes : List ℕ) → Keeps enc tables passes log r
    → is_some r.state.given.header ≡ true
    → Keeps enc tables (passes_of (with_given (fed bytes (in_second r.state)) (in_second r.state))) log (record r { state = with_given (fed bytes (in_second r.state)) (in_second r.state) })
fed_behind enc tables passes log r bytes keeps some =
    let has : is_some passes.given.header ≡ true = sym (ap (λ (s : Rate). is_some s.given.header) keeps.state) ∙ some in
    let second : r.state.second ≡ true = ap (λ (s : Rate). s.second) keeps.state ∙ keeps.header has in
    let stays = bytes_stay r.state.reservoir_delay (commands r.state) bytes r.state.given some in
    let is : with_given (fed bytes (in_second r.state)) (in_second r.state) ≡ record r.state { given = fed bytes r.state } =
    ap (λ (s : Rate). with_given (fed bytes s) s) (in_second_stays r.state.second r.state second)
    ∙ ap (λ b. set_up_by (cond b None (fed bytes r.state).header) (record r.state { given = fed bytes r.state })) some in
    subst (λ (s : Rate). Keeps enc tables (passes_of s) log (record r { state = s })) (sym is)
    (keeps_moved enc tables passes log r (record r.state { given = fed bytes r.state }) keeps (only_given (fed bytes r.state) r.state stays.0 stays.1))

buffer_header : (o : Option ℤ) (g : Given) → is_some g.header ≡ false → is_some (with_buffer o g).header ≡ false
buffer_header None g bare = bare
buffer_header (Some delay) g bare = bare

second_header : (b : Bool) (old : Rate) → is_some old.given.header ≡ false
    → is_some (cond b old (record old { second = true; given = with_buffer old.set_delay old.given })).given.header ≡ false
second_header true old bare = bare
second_header false old bare = buffer_header old.set_delay old.given bare

fed_first : (enc : EncoderConfig) (tables : Tables) (passes : Passes) (r : RateKept) (bytes : List ℕ) → Keeps enc tables passes [] r
    → is_some r.state.given.header ≡ false
    → Keeps enc tables (passes_of (with_given (fed bytes (in_second r.state)) (in_second r.state))) [] (record r { state = with_given (fed bytes (in_second r.state)) (in_second r.state) })
fed_first enc tables passes r bytes keeps bare =
    let none : passes.given.header ≡ None = sym (ap (λ (s : Rate). s.given.header) keeps.state) ∙ none_is r.state.given.header bare in
    let g = fed bytes (in_second r.state) in
    keeps_set_up enc tables passes r g (with_given g (in_second r.state)) keeps none
    (ap (λ b. set_up_by (cond b None g.header) (record (in_second r.state) { given = g })) (second_header r.state.second r.state bare))

by_bool : {P : Type 0} (b : Bool) → (b ≡ true → P) → (b ≡ false → P) → P
by_bool true on off = on refl
by_bool false on off = off refl

fed_open : (enc : EncoderConfig) (tables : Tables) (passes : Passes) (log : List LogEntry) (r : RateKept) (bytes : List ℕ) → Keeps enc tables passes log r
    → IsLog log → IsCodedForGood log → is_open r.state ≡ true
    → Keeps enc tables (passes_of (with_given (fed bytes (in_second r.state)) (in_second r.state))) log (record r { state = with_given (fed bytes (in_second r.state)) (in_second r.state) })
fed_open enc tables passes log r bytes keeps is good is_on =
    by_bool (is_some r.state.given.header)
    (λ some. fed_behind enc tables passes log r bytes keeps some)
    (λ bare.
    let empty : log ≡ [] = nothing_coded enc tables passes log r keeps is good is_on bare in
    let new = with_given (fed bytes (in_second r.state)) (in_second r.state) in
    subst (λ (l : List LogEntry). Keeps enc tables (passes_of new) l (record r { state = new })) (sym empty)
    (fed_first enc tables passes r bytes (subst (λ (l : List LogEntry). Keeps enc tables passes l r) empty keeps) bare))

abbrev chosen : Bool → List ℕ → Rate → Answered
chosen b bytes rate = cond b (given_in bytes (in_second rate)) (record { rate = rate; answer = Ok 0 })

fed_whole : (enc : EncoderConfig) (tables : Tables) (passes : Passes) (log : List LogEntry) (r : RateKept) (bytes : List ℕ) → Keeps enc tables passes log r
    → IsLog log → IsCodedForGood log → Keeps enc tables (passes_of (taken_in bytes r.state).rate) log (record r { state = (taken_in bytes r.state).rate })
fed_whole enc tables passes log r bytes keeps is good =
    by_bool (is_open r.state)
    (λ is_on.
    subst (λ b. Keeps enc tables (passes_of (chosen b bytes r.state).rate) log (record r { state = (chosen b bytes r.state).rate })) (sym is_on)
    (fed_open enc tables passes log r bytes keeps is good is_on))
    (λ off.
    subst (λ b. Keeps enc tables (passes_of (chosen b bytes r.state).rate) log (record r { state = (chosen b bytes r.state).rate })) (sym off)
    (keeps_moved enc tables passes log r r.state keeps (only_same r.state)))

-- ---- the forms that the calls need

answered : (enc : EncoderConfig) (tables : Tables) (passes : Passes) (log : List LogEntry) (r : RateKept) (a : Answered) (new : Rate) (result : Result ℕ PassDataError)
    → Keeps enc tables passes log r → Keeps enc tables (passes_of a.rate) log (record r { state = a.rate }) → IsAnswered a r.state new result
    → Keeps enc tables (passes_of new) log (record r { state = new })
answered enc tables passes log r a new result keeps moved (inl is) = subst (λ (s : Rate). Keeps enc tables (passes_of s) log (record r { state = s })) (sym is.0) moved
answered enc tables passes log r a new result keeps moved (inr out) =
    subst (λ (s : Rate). Keeps enc tables (passes_of s) log (record r { state = s })) (sym out.0.wants.same)
    (keeps_moved enc tables passes log r r.state keeps (only_same r.state))

pub bytes_given : (enc : EncoderConfig) (tables : Tables) (passes : Passes) (log : List LogEntry) (r new : RateKept) (bytes : List ℕ) (result : Result ℕ PassDataError)
    → Keeps enc tables passes log r → IsLog log → IsCodedForGood log → new ≡ (record r { state = new.state })
    → IsAnswered (taken_in bytes r.state) r.state new.state result → Keeps enc tables (passes_of new.state) log new
bytes_given enc tables passes log r new bytes result keeps is good others told =
    subst (λ (k : RateKept). Keeps enc tables (passes_of new.state) log k) (sym others)
    (answered enc tables passes log r (taken_in bytes r.state) new.state result keeps (fed_whole enc tables passes log r bytes keeps is good) told)

pub packet_given : (enc : EncoderConfig) (tables : Tables) (passes : Passes) (log : List LogEntry) (r new : RateKept) (bytes : List ℕ) → Keeps enc tables passes log r
    → new ≡ (record r { state = record r.state { given = (sent (int_lt (pos 0) (frames_needed r.state)) bytes r.state.given).given } })
    → Keeps enc tables (record passes { given = (packet_sent enc passes log bytes).given }) log new
packet_given enc tables passes log r new bytes keeps is =
    let needed = int_lt (pos 0) (frames_needed r.state) in
    let stays = sent_stays needed bytes r.state.given in
    let moved = keeps_moved enc tables passes log r (record r.state { given = (sent needed bytes r.state.given).given }) keeps
    (only_given (sent needed bytes r.state.given).given r.state stays.0 stays.1) in
    subst (λ (k : RateKept). Keeps enc tables (record passes { given = (packet_sent enc passes log bytes).given }) log k) (sym is)
    (subst (λ (q : Passes). Keeps enc tables q log (record r { state = record r.state { given = (sent needed bytes r.state.given).given } }))
    (ap (λ (s : Rate). passes_of (record s { given = (sent (int_lt (pos 0) (frames_needed s)) bytes s.given).given })) keeps.state) moved)

pub data_taken : (enc : EncoderConfig) (tables : Tables) (passes : Passes) (log : List LogEntry) (r new : RateKept) (done : Bool) → Keeps enc tables passes log r
    → new ≡ (record r { state = given_out done r.state }) → Keeps enc tables (passes_of (given_out done (rate_at enc passes log))) log new
data_taken enc tables passes log r new done keeps is =
    subst (λ (k : RateKept). Keeps enc tables (passes_of (given_out done (rate_at enc passes log))) log k) (sym is)
    (subst (λ (q : Passes). Keeps enc tables q log (record r { state = given_out done r.state })) (ap (λ (s : Rate). passes_of (given_out done s)) keeps.state)
    (keeps_moved enc tables passes log r (given_out done r.state) keeps (only_out done r.state)))

pub first_is_on : (enc : EncoderConfig) (tables : Tables) (passes : Passes) (guess : ℤ → Guess) (gop_start : ℕ) (r new : RateKept) (q : QuantizerParameters)
    → Keeps enc tables passes [] r → q ≡ select r.state r.settings r.tables guess gop_start 0 r.base (pos 0)
    → new ≡ (record r { state = in_first (Some q.log_base_q) r.state })
    → Keeps enc tables (first_begun enc tables passes guess gop_start) [] new
first_is_on enc tables passes guess gop_start r new q keeps chosen is =
    let own : q ≡ select (rate_at enc passes []) (settings_of enc) tables guess gop_start 0 None (pos 0) =
    chosen ∙ rw (keeps.state, keeps.settings, keeps.tables, keeps.base) refl in
    subst (λ (k : RateKept). Keeps enc tables (first_begun enc tables passes guess gop_start) [] k) (sym is)
    (subst (λ (p : Passes). Keeps enc tables p [] (record r { state = in_first (Some q.log_base_q) r.state }))
    (ap (λ (s : Rate). passes_of (in_first (Some q.log_base_q) s)) keeps.state
    ∙ ap (λ (x : QuantizerParameters). passes_of (in_first (Some x.log_base_q) (rate_at enc passes []))) own)
    (keeps_moved enc tables passes [] r (in_first (Some q.log_base_q) r.state) keeps (only_first q.log_base_q r.state)))

pub second_is_begun : (enc : EncoderConfig) (tables : Tables) (passes : Passes) (summary : RCSummary) (r new : RateKept) → Keeps enc tables passes [] r → passes.given.header ≡ None
    → new ≡ (record r { state = with_summary summary (in_second r.state) }) → Keeps enc tables (second_begun enc passes summary) [] new
second_is_begun enc tables passes summary r new keeps none is =
    subst (λ (k : RateKept). Keeps enc tables (second_begun enc passes summary) [] k) (sym is)
    (subst (λ (q : Passes). Keeps enc tables q [] (record r { state = with_summary summary (in_second r.state) }))
    (ap (λ (s : Rate). passes_of (with_summary summary (in_second s))) keeps.state)
    (keeps_set_up enc tables passes r (with_values summary.ntus summary.nframes summary.exp summary.scale_sum summary.total (in_second r.state).given)
    (with_summary summary (in_second r.state)) keeps none refl))

pub second_by : (result : Result (Unit {0}) OutOfMemory) (summary : RCSummary) (r new : RateKept)
    → MatchResult result (λ _. new ≡ record r { state = with_summary summary (in_second r.state) }) (λ _. new ≡ r)
    → MatchResult result
    (λ _. (enc : EncoderConfig) (tables : Tables) (passes : Passes) → Keeps enc tables passes [] r → passes.given.header ≡ None
    → Keeps enc tables (second_begun enc passes summary) [] new)
    (λ _. new ≡ r)
second_by (Ok x) summary r new is = λ enc tables passes keeps none. second_is_begun enc tables passes summary r new keeps none is
second_by (Err x) summary r new is = is
