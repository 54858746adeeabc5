-- What the passes of a session hand on, along its entries.
use Rattle.std.proofs.Common.{◌≡◌, List, [], ◌∷◌, ◌++◌, refl, sym, ap, ◌∙◌, subst, append-nil, append_assoc}
use Rattle.av1_settings.specs.declared.encoder.EncoderConfig.{EncoderConfig}
use Rattle.quantizers.specs.Tables.{Tables}
use Rattle.session_log.specs.Keeps.{Keeps, RateKept}
use Rattle.session_log.specs.Passes.{Passes, no_passes, passes_after, passes_of}
use Rattle.session_log.specs.declared.entry.LogEntry.{LogEntry}
use Rattle.session_log.proofs.Logs.{no_passes_after}
use Rattle.session_core.specs.Quantisers.{passes_behind}

-- they are those of the rate control that is kept
pub passes-are : (enc : EncoderConfig) (tables : Tables) (passes : Passes) (log : List LogEntry) (rate : RateKept) → Keeps enc tables passes log rate →
    passes_of rate.state ≡ passes
passes-are enc tables passes log rate keeps = ap passes_of keeps.state

pub keeps-own : (enc : EncoderConfig) (tables : Tables) (passes : Passes) (log : List LogEntry) (rate : RateKept) → Keeps enc tables passes log rate →
    Keeps enc tables (passes_of rate.state) log rate
keeps-own enc tables passes log rate keeps =
    subst (λ (p : Passes). Keeps enc tables p log rate) (sym (passes-are enc tables passes log rate keeps)) keeps

-- behind entries and one more
pub behind-push : (enc : EncoderConfig) (passes : Passes) (before entries : List LogEntry) (entry : LogEntry) →
    passes_after enc (passes_behind enc passes before entries) (before ++ entries) entry ≡ passes_behind enc passes before (entries ++ entry ∷ [])
behind-push enc passes before [] entry = ap (λ (log : List LogEntry). passes_after enc passes log entry) (append-nil before)
behind-push enc passes before (one ∷ entries) entry =
    ap (λ (log : List LogEntry). passes_after enc (passes_behind enc (passes_after enc passes before one) (before ++ one ∷ []) entries) log entry)
    (sym (append_assoc before (one ∷ []) entries))
    ∙ behind-push enc (passes_after enc passes before one) (before ++ one ∷ []) entries entry

-- in one pass there are none
pub behind-none : (enc : EncoderConfig) (before entries : List LogEntry) → passes_behind enc no_passes before entries ≡ no_passes
behind-none enc before [] = refl
behind-none enc before (entry ∷ entries) =
    ap (λ (p : Passes). passes_behind enc p (before ++ entry ∷ []) entries) (no_passes_after enc before entry)
    ∙ behind-none enc (before ++ entry ∷ []) entries

-- an entry less leaves them
pub behind-nothing : (enc : EncoderConfig) (passes : Passes) (before entries : List LogEntry) → entries ≡ [] → passes_behind enc passes before entries ≡ passes
behind-nothing enc passes before entries none = ap (passes_behind enc passes before) none
