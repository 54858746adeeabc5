-- What a channel's session and its worker are known for once they are made.
use Rattle.std.proofs.Common.{◌≡◌, ◌⊎◌, inl, inr, IfErr, IsOk, ◌∙◌, ◌&&◌, not, ℕ, Bool, true, false, Option, Some, None, is_some, IfSome, Result, Ok, Err, IfOk, length, if◌then◌else◌, refl, sym, ap, subst}
use Rattle.std.specs.Option.{option_map}
use Rattle.av1_settings.specs.declared.config.Config.{Config}
use Rattle.av1_settings.specs.declared.invalid.InvalidConfig.{InvalidConfig}
use Rattle.av1_settings.specs.declared.level.LevelTables.{LevelTables}
use Rattle.av1_settings.specs.declared.rate_control.RateControlConfig.{RateControlConfig}
use Rattle.av1_settings.specs.Checks.{IsValid, pixel_refusal, pixel_rows, refusal_of, rows_of}
use Rattle.av1_settings.proofs.CheckLemmas.{none_append, valid_of_accepted}
use Rattle.quantizers.specs.Tables.{Tables}
use Rattle.session_core.specs.declared.setup.SetupError.{SetupError}
use Rattle.session_core.specs.declared.setup.SetupError.TheVariants.{Invalid, OutOfMemory as NoMemory}
use Rattle.session_core.specs.Contexts.{Session, fresh}
use Rattle.session_core.specs.PassTurns.{passes_begun}
use Rattle.session_channels.specs.Channels.{IsReady, channel_refusal, is_both_passes, is_first_pass, is_one_pass, is_second_pass, queue_in, queue_out}
use Rattle.session_channels.specs.Drives.{IsNew}
use Rattle.session_channels.specs.Queues.{Queue, new_queue}

-- a configuration that is accepted for pixels is valid
pub valid_of_pixel : (bits : ℕ) (levels : LevelTables) (config : Config) → pixel_refusal bits levels config ≡ None → IsValid config.enc
unfolding pixel_refusal refusal_of
valid_of_pixel bits levels config none =
    valid_of_accepted levels config (none_append (rows_of levels config) (pixel_rows bits config.enc) none).0

abbrev is_made : {A : Type 0} → A → Result A SetupError
is_made made = Ok made

-- where each refusal is answered, an Ok comes with none
not_refused : {A : Type 0} (made : A) (refusal : Option InvalidConfig)
    → ((v : InvalidConfig) → refusal ≡ Some v → is_made made ≡ Err (Invalid v)) → refusal ≡ None
not_refused made None refused = refl
not_refused made (Some v) refused = let never = refused v refl in cc

-- a session that was made is new
pub made_new : {T O D S C : Type 0} (bits : ℕ) (levels : LevelTables) (config : Config) (tables : Tables) (detector : D) (scales : S) (coder : C)
    (result : Result (Session T O D S C) SetupError)
    → IfOk result (λ one. one ≡ fresh config.enc tables (passes_begun config.enc tables config.rate_control) detector scales coder)
    → ((v : InvalidConfig) → pixel_refusal bits levels config ≡ Some v → result ≡ Err (Invalid v))
    → IfSome config.rate_control.summary (λ one. length one.nframes ≡ 5)
    → IfOk result (λ one. IsNew one (is_some config.rate_control.summary) config.rate_control.emit_data)
made_new {T} {O} {D} {S} {C} bits levels config tables detector scales coder (Ok session) made refused counts = record {
  bits = bits;
  levels = levels;
  config = config;
  valid = not_refused session (pixel_refusal bits levels config) refused;
  opens = subst (λ (one : Session T O D S C). one ≡ fresh config.enc one.tables
      (passes_begun config.enc one.tables config.rate_control) one.detector one.scales one.coder) (sym made) refl;
  summary = refl;
  emits = refl;
  counts = counts;
}
made_new bits levels config tables detector scales coder (Err error) made refused counts = tt

takes : {A : Type 0} (summary : Option A) → is_some (option_map (λ _. new_queue None) summary) ≡ is_some summary
takes None = refl
takes (Some summary) = refl

hands : (emits : Bool) → is_some (if emits then Some (new_queue None) else None) ≡ emits
hands true = refl
hands false = refl

unlimited : (emits : Bool) → IfSome (if emits then Some (new_queue None) else None) (λ (queue : Queue). queue.capacity ≡ None)
unlimited true = refl
unlimited false = tt

-- a new session's worker is ready over its new queues
pub ready : {T O D S C : Type 0} (session : Session T O D S C) (packets : Queue) (control : RateControlConfig)
    → IsNew session (is_some control.summary) control.emit_data → packets ≡ new_queue None
    → IsReady session packets (queue_in control) (queue_out control)
ready session packets control new empty = record {
  new = subst (λ (second : Bool). IsNew session second (is_some (queue_out control))) (sym (takes control.summary))
      (subst (λ (first : Bool). IsNew session (is_some control.summary) first) (sym (hands control.emit_data)) new);
  packets_unlimited = ap (λ (queue : Queue). queue.capacity) empty;
  data_unlimited = unlimited control.emit_data;
}

-- ---- the queues of pass data that each kind of channel has

takes_none : {A : Type 0} (summary : Option A) → is_some summary ≡ false → option_map (λ _. new_queue None) summary ≡ None
takes_none None off = refl
takes_none (Some summary) off = absurd (cc)

takes_some : {A : Type 0} (summary : Option A) → is_some summary ≡ true → option_map (λ _. new_queue None) summary ≡ Some (new_queue None)
takes_some None on = absurd (cc)
takes_some (Some summary) on = refl

hands_none : (emits : Bool) → emits ≡ false → (if emits then Some (new_queue None) else None) ≡ None
hands_none emits off = rw off refl

hands_some : (emits : Bool) → emits ≡ true → (if emits then Some (new_queue None) else None) ≡ Some (new_queue None)
hands_some emits on = rw on refl

is_on : (a b : Bool) → (a && b) ≡ true → (a ≡ true) × (b ≡ true)
is_on true b is = (refl, is)
is_on false b is = absurd (cc)

is_off : (a : Bool) → not a ≡ true → a ≡ false
is_off true is = absurd (cc)
is_off false is = refl

module _ (control : RateControlConfig) (fits : Bool) (on : fits ≡ true) where
  pub one_pass : fits ≡ is_one_pass control → (None ≡ queue_in control) × (None ≡ queue_out control)
  one_pass is =
      let both = is_on (not control.emit_data) (not (is_some control.summary)) (sym is ∙ on) in
      (sym (takes_none control.summary (is_off (is_some control.summary) both.1)), sym (hands_none control.emit_data (is_off control.emit_data both.0)))

  pub first_pass : fits ≡ is_first_pass control → (None ≡ queue_in control) × (Some (new_queue None) ≡ queue_out control)
  first_pass is =
      let both = is_on control.emit_data (not (is_some control.summary)) (sym is ∙ on) in
      (sym (takes_none control.summary (is_off (is_some control.summary) both.1)), sym (hands_some control.emit_data both.0))

  pub second_pass : fits ≡ is_second_pass control → (Some (new_queue None) ≡ queue_in control) × (None ≡ queue_out control)
  second_pass is =
      let both = is_on (not control.emit_data) (is_some control.summary) (sym is ∙ on) in
      (sym (takes_some control.summary both.1), sym (hands_none control.emit_data (is_off control.emit_data both.0)))

  pub both_passes : fits ≡ is_both_passes control → (Some (new_queue None) ≡ queue_in control) × (Some (new_queue None) ≡ queue_out control)
  both_passes is =
      let both = is_on control.emit_data (is_some control.summary) (sym is ∙ on) in
      (sym (takes_some control.summary both.1), sym (hands_some control.emit_data both.0))

-- ---- answers of a constructor behind its session

-- where a session was made, nothing is refused
pub never_refused : {A B : Type 0} (made : Result A SetupError) (one : A) (result : Result B SetupError) (refusal : Option InvalidConfig) → made ≡ Ok one
    → ((v : InvalidConfig) → refusal ≡ Some v → made ≡ Err (Invalid v)) → (v : InvalidConfig) → refusal ≡ Some v → result ≡ Err (Invalid v)
never_refused made one result refusal is refused v why = let no = sym is ∙ refused v why in absurd (cc)

-- the first refusal, in the words of the settings that the configuration is known as
pub refused_of : {A : Type 0} (Kind : RateControlConfig → Bool) (made : Result A SetupError) (fits : Bool) (bits : ℕ) (levels : LevelTables) (config settings : Config)
    → fits ≡ Kind config.rate_control → config ≡ settings
    → ((v : InvalidConfig) → channel_refusal fits bits levels config ≡ Some v → made ≡ Err (Invalid v))
    → (v : InvalidConfig) → channel_refusal (Kind settings.rate_control) bits levels settings ≡ Some v → made ≡ Err (Invalid v)
refused_of Kind made fits bits levels config settings fit same refused =
    subst (λ (one : Config). (v : InvalidConfig) → channel_refusal (Kind one.rate_control) bits levels one ≡ Some v → made ≡ Err (Invalid v)) same
    (subst (λ (on : Bool). (v : InvalidConfig) → channel_refusal on bits levels config ≡ Some v → made ≡ Err (Invalid v)) fit refused)

pub ok_or_memory : {A : Type 0} (result : Result A SetupError) → IfErr result (λ error. error ≡ NoMemory) → IsOk result ⊎ (result ≡ Err NoMemory)
ok_or_memory (Ok one) memory = inl refl
ok_or_memory (Err error) memory = inr (ap Err memory)

-- a new session in one pass has neither queue of pass data
pub one_pass_new : {T O D S C : Type 0} (session : Session T O D S C) (control : RateControlConfig) (fits : Bool) → fits ≡ true → fits ≡ is_one_pass control
    → IsNew session (is_some control.summary) control.emit_data → IsNew session false false
one_pass_new session control fits on is new =
    let both = is_on (not control.emit_data) (not (is_some control.summary)) (sym is ∙ on) in
    subst (λ (second : Bool). IsNew session second false) (is_off (is_some control.summary) both.1)
    (subst (λ (first : Bool). IsNew session (is_some control.summary) first) (is_off control.emit_data both.0) new)
