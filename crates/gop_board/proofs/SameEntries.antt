-- Two sessions at one moment, whose coders tell ahead the same: what they are handed and give is the same, entry by entry.
use Rattle.std.proofs.Common.{◌≡◌, ℕ, ◌≤◌, Bool, false, List, [], ◌∷◌, ◌++◌, map, length, ℤ, pos, Option, None, Some, refl, sym, ap, ap₂, ◌∙◌, subst, arith}
use Rattle.std.specs.Prelude.{⊤}
use Rattle.std.specs.List.{flat_map}
use Rattle.std.specs.Option.{option_map, option_to_list}
use Rattle.std.proofs.lemmas.List.{length-append, length-map}
use Rattle.std.proofs.lemmas.List.Concat.{flat_map-cons}
use Rattle.av1_settings.specs.declared.encoder.EncoderConfig.{EncoderConfig}
use Rattle.pyramid.specs.declared.command.Command.{Command}
use Rattle.pyramid.specs.declared.command.Command.TheVariants.{Code, Show}
use Rattle.quantizers.specs.Tables.{Tables}
use Rattle.quantizers.specs.declared.parameters.QuantizerParameters.{QuantizerParameters}
use Rattle.session_log.specs.declared.entry.LogEntry.{LogEntry}
use Rattle.session_core.specs.Moments.{Moment, waiting_at}
use Rattle.session_log.specs.Passes.{Passes, passes_after}
use Rattle.session_core.specs.Quantisers.{AreSelected, quantisers_at}
use Rattle.session_core.specs.Taken.{handed_at}
use Rattle.session_core.specs.Told.{AreNext, Gave, Handed, Told}

-- ---- entries

abbrev pub entry_with : Command → List ℕ → Bool → Option QuantizerParameters → ℤ → LogEntry
entry_with command bytes trial quant mean_scale =
    record { command = command; bytes = bytes; trial = trial; quant = quant; mean_scale = mean_scale }

entry-same : (a b : LogEntry) → a.command ≡ b.command → a.bytes ≡ b.bytes → a.trial ≡ b.trial → a.quant ≡ b.quant → a.mean_scale ≡ b.mean_scale → a ≡ b
entry-same a b command bytes trial quant scale =
    ap (λ (x : Command). entry_with x a.bytes a.trial a.quant a.mean_scale) command
    ∙ ap (λ (x : List ℕ). entry_with b.command x a.trial a.quant a.mean_scale) bytes
    ∙ ap (λ (x : Bool). entry_with b.command b.bytes x a.quant a.mean_scale) trial
    ∙ ap (λ (x : Option QuantizerParameters). entry_with b.command b.bytes b.trial x a.mean_scale) quant
    ∙ ap (λ (x : ℤ). entry_with b.command b.bytes b.trial b.quant x) scale

-- what of an entry doesn't come from the coder or from rate control
pub record Mark : Type 0 where
  pub command : Command
  pub trial : Bool
  pub mean_scale : ℤ

abbrev pub mark : LogEntry → Mark
mark entry = record { command = entry.command; trial = entry.trial; mean_scale = entry.mean_scale }

-- ---- lists

pub no-cons : {A : Type 0} (x : A) (xs : List A) → ◌≡◌ {A = List A} [] (x ∷ xs) → ⊥
no-cons x xs e = cc

pub same-head : {A : Type 0} (x y : A) (xs ys : List A) → x ∷ xs ≡ y ∷ ys → x ≡ y
same-head x y xs ys e = cc

pub same-tail : {A : Type 0} (x y : A) (xs ys : List A) → x ∷ xs ≡ y ∷ ys → xs ≡ ys
same-tail x y xs ys e = cc

option-few : {A : Type 0} (o : Option A) → length (option_to_list o) ≤ 1
option-few None = omega arith
option-few (Some x) = omega arith

-- the first of a list comes from a part of one
split-one : {A : Type 0} (a : A) (rest xs ys : List A) → length xs ≤ 1 → length ys ≤ length rest → a ∷ rest ≡ xs ++ ys → (xs ≡ a ∷ []) × (rest ≡ ys)
split-one a rest [] ys few within e = let n = ap length e in absurd (omega (arith, n))
split-one a rest (x ∷ []) ys few within e = (ap (λ y. y ∷ []) (sym (same-head a x rest ys e)), same-tail a x rest ys e)
split-one a rest (x ∷ (y ∷ xs)) ys few within e = absurd (omega arith)

module _ {T : Type 0} (enc : EncoderConfig) (tables : Tables) (next : List (Told T) → Handed T → Gave T) where
  -- ---- what a coder is handed

  handed-few : (m : Moment T ⊤) (entry : LogEntry) → length (handed_at m entry) ≤ 1
  handed-few m entry = elim entry.command as (λ command. length (handed_at m (entry_with command entry.bytes entry.trial entry.quant entry.mean_scale)) ≤ 1) [
    | Code frame kind refs refresh shown ↦ option-few (option_map _ (waiting_at m frame))
    | Show slot ↦ omega arith
  ]

  all-few : (m : Moment T ⊤) (log : List LogEntry) → length (flat_map (handed_at m) log) ≤ length log
  all-few m [] = omega arith
  all-few m (entry ∷ log) =
      omega (arith, ap length (flat_map-cons (handed_at m) entry log), length-append (handed_at m entry) (flat_map (handed_at m) log), handed-few m entry, all-few m log)

  -- ---- what is coded

  -- what was taken is what the entries hand over, and gave their bytes and what was told ahead; they have their quantisers
  pub record IsCoded (passes : Passes) (m : Moment T ⊤) (before : List LogEntry) (history : List (Told T)) (log : List LogEntry) (taken : List (Told T)) : Type 0 where
    pub selected : AreSelected enc tables passes m before log
    pub handed : map (λ one. one.handed) taken ≡ flat_map (handed_at m) log
    pub bytes : map (λ one. one.gave.bytes) taken ≡ map (λ entry. entry.bytes) log
    pub ahead : AreNext next history taken

  -- the first entry
  record IsFirst (passes : Passes) (m : Moment T ⊤) (before : List LogEntry) (history : List (Told T)) (entry : LogEntry) (log : List LogEntry) (one : Told T) (taken : List (Told T)) : Type 0 where
    quant : entry.quant ≡ quantisers_at enc tables passes m before entry
    handed : handed_at m entry ≡ one.handed ∷ []
    gave : one.gave ≡ next history one.handed
    bytes : one.gave.bytes ≡ entry.bytes
    rest : IsCoded (passes_after enc passes before entry) m (before ++ entry ∷ []) (history ++ one ∷ []) log taken

  first-of : (passes : Passes) (m : Moment T ⊤) (before : List LogEntry) (history : List (Told T)) (entry : LogEntry) (log : List LogEntry) (one : Told T) (taken : List (Told T)) →
      IsCoded passes m before history (entry ∷ log) (one ∷ taken) → IsFirst passes m before history entry log one taken
  first-of passes m before history entry log one taken so = record {
    quant = so.selected.0;
    handed = split.0;
    gave = so.ahead.0;
    bytes = same-head _ _ _ _ so.bytes;
    rest = record { selected = so.selected.1; handed = split.1; bytes = rest; ahead = so.ahead.1 };
  }
    where
      rest : map (λ (one : Told T). one.gave.bytes) taken ≡ map (λ (entry : LogEntry). entry.bytes) log
      rest = same-tail _ _ _ _ so.bytes

      counts : length (map (λ (one : Told T). one.handed) taken) ≡ length log
      counts = length-map taken (λ (one : Told T). one.handed) ∙ sym (length-map taken (λ (one : Told T). one.gave.bytes)) ∙ ap length rest ∙ length-map log (λ (entry : LogEntry). entry.bytes)

      split : (handed_at m entry ≡ one.handed ∷ []) × (map (λ (one : Told T). one.handed) taken ≡ flat_map (handed_at m) log)
      split = split-one one.handed (map (λ (one : Told T). one.handed) taken) (handed_at m entry) (flat_map (handed_at m) log) (handed-few m entry)
          (omega (arith, counts, all-few m log)) (so.handed ∙ flat_map-cons (handed_at m) entry log)

  firsts-same : (passes : Passes) (m : Moment T ⊤) (before : List LogEntry) (history : List (Told T)) (a b : LogEntry) (log other : List LogEntry) (one two : Told T) (taken took : List (Told T)) →
      IsFirst passes m before history a log one taken → IsFirst passes m before history b other two took → mark a ≡ mark b → (a ≡ b) × (one ≡ two)
  firsts-same passes m before history a b log other one two taken took this that head = (entries, calls)
    where
      command : a.command ≡ b.command
      command = ap (λ (x : Mark). x.command) head

      trial : a.trial ≡ b.trial
      trial = ap (λ (x : Mark). x.trial) head

      scale : a.mean_scale ≡ b.mean_scale
      scale = ap (λ (x : Mark). x.mean_scale) head

      quant : a.quant ≡ b.quant
      quant = this.quant ∙ ap₂ (λ (c : Command) (s : ℤ). quantisers_at enc tables passes m before (entry_with c [] false None s)) command scale ∙ sym that.quant

      handing : handed_at m a ≡ handed_at m b
      handing =
          ap (λ (c : Command). handed_at m (entry_with c [] a.trial a.quant (pos 0))) command
          ∙ ap₂ (λ (t : Bool) (q : Option QuantizerParameters). handed_at m (entry_with b.command [] t q (pos 0))) trial quant

      handed : one.handed ≡ two.handed
      handed = same-head _ _ _ _ (sym this.handed ∙ handing ∙ that.handed)

      gave : one.gave ≡ two.gave
      gave = this.gave ∙ ap (next history) handed ∙ sym that.gave

      calls : one ≡ two
      calls = ap₂ (λ (x : Handed T) (y : Gave T). record { handed = x; gave = y }) handed gave

      entries : a ≡ b
      entries = entry-same a b command (sym this.bytes ∙ ap (λ (x : Gave T). x.bytes) gave ∙ that.bytes) trial quant scale

  -- entries with the same marks are the same
  pub entries-same : (passes : Passes) (m : Moment T ⊤) (before : List LogEntry) (history : List (Told T)) (log other : List LogEntry) (taken took : List (Told T)) →
      map mark log ≡ map mark other → IsCoded passes m before history log taken → IsCoded passes m before history other took → (log ≡ other) × (taken ≡ took)
  entries-same passes m before history [] [] [] [] marks so too = (refl, refl)
  entries-same passes m before history [] [] (one ∷ taken) took marks so too = absurd (no-cons _ _ (sym so.bytes))
  entries-same passes m before history [] [] [] (two ∷ took) marks so too = absurd (no-cons _ _ (sym too.bytes))
  entries-same passes m before history [] (b ∷ other) taken took marks so too = absurd (no-cons _ _ marks)
  entries-same passes m before history (a ∷ log) [] taken took marks so too = absurd (no-cons _ _ (sym marks))
  entries-same passes m before history (a ∷ log) (b ∷ other) [] took marks so too = absurd (no-cons _ _ so.bytes)
  entries-same passes m before history (a ∷ log) (b ∷ other) (one ∷ taken) [] marks so too = absurd (no-cons _ _ too.bytes)
  entries-same passes m before history (a ∷ log) (b ∷ other) (one ∷ taken) (two ∷ took) marks so too =
      let this = first-of passes m before history a log one taken so in
      let that = first-of passes m before history b other two took too in
      let same = firsts-same passes m before history a b log other one two taken took this that (same-head _ _ _ _ marks) in
      let rest = entries-same (passes_after enc passes before a) m (before ++ a ∷ []) (history ++ one ∷ []) log other taken took (same-tail _ _ _ _ marks) this.rest
      (subst (λ (x : LogEntry). IsCoded (passes_after enc passes before x) m (before ++ x ∷ []) (history ++ one ∷ []) other took) (sym same.0)
      (subst (λ (x : Told T). IsCoded (passes_after enc passes before b) m (before ++ b ∷ []) (history ++ x ∷ []) other took) (sym same.1) that.rest)) in
      (ap₂ (λ (x : LogEntry) (xs : List LogEntry). x ∷ xs) same.0 rest.0, ap₂ (λ (x : Told T) (xs : List (Told T)). x ∷ xs) same.1 rest.1)
