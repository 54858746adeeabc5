-- A call gives pass data only where the script gives some.
use Rattle.std.proofs.Common.{◌≡◌, ℕ, Bool, true, false, not, ◌||◌, IsTrue, List, [], ◌∷◌, ◌++◌, map, zero, suc, refl, sym, ap, ◌∙◌}
use Rattle.std.specs.List.{flat_map, list_all, list_any, slice_get}
use Rattle.av1_settings.specs.declared.encoder.EncoderConfig.{EncoderConfig}
use Rattle.script_lines.specs.declared.line.Action.{Action}
use Rattle.script_lines.specs.declared.line.Action.TheVariants.{Receive}
use Rattle.script_lines.specs.declared.line.ScriptCall.{ScriptCall}
use Rattle.script_lines.specs.declared.line.ScriptCall.TheVariants.{Act, Give as GiveAction}
use Rattle.script_lines.specs.declared.script.Script.{Script}
use Rattle.script_lines.specs.Grammar.{is_act}
use Rattle.script_lines.specs.SettingLines.{encoder_of}
use Rattle.session_core.specs.declared.pass_transcript.PassCall.{PassCall}
use Rattle.session_core.specs.declared.pass_transcript.PassCall.TheVariants.{Give}
use Rattle.session_core.specs.PassSessions.{IsGiving}
use Rattle.session_script.specs.Calls.{Asked, Gives, asked_for_passes, asked_in_passes}
use Rattle.session_script.specs.Passes.{ArePassCallsOf}

abbrev is_giving : Asked → Bool
is_giving (Gives bytes) = true
is_giving asked = false

or_true : (b : Bool) → (b || true) ≡ true
or_true true = refl
or_true false = refl

in_calls : (calls : List (PassCall ℕ ℕ)) (done : ℕ) (message : List ℕ) → IsGiving (slice_get calls done) message →
    list_any is_giving (map asked_in_passes calls) ≡ true
in_calls [] done message is = absurd is
in_calls (Give bytes ∷ calls) zero message is = refl
in_calls (call ∷ calls) zero message is = absurd is
in_calls (call ∷ calls) (suc done) message is =
    rw (in_calls calls done message is) (or_true (is_giving (asked_in_passes call)))

none_act : (takes : Bool) (enc : EncoderConfig) (action : Action) (rest : List Asked) → list_any is_giving rest ≡ false →
    list_any is_giving (asked_for_passes takes enc (Act action) ++ rest) ≡ false
none_act true enc Receive rest none = none
none_act false enc Receive rest none = none
none_act takes enc action rest none = none

none_given : (takes : Bool) (enc : EncoderConfig) (calls : List ScriptCall) → list_all is_act calls ≡ true →
    list_any is_giving (flat_map (asked_for_passes takes enc) calls) ≡ false
none_given takes enc [] acts = refl
none_given takes enc (Act action ∷ calls) acts =
    none_act takes enc action (flat_map (asked_for_passes takes enc) calls) (none_given takes enc calls acts)
none_given takes enc (GiveAction bytes ∷ calls) acts = let never : false ≡ true = acts in cc

pub gives : (emits : Bool) (script : Script) (calls : List (PassCall ℕ ℕ)) → ArePassCallsOf emits script calls → (done : ℕ) (message : List ℕ) →
    IsGiving (slice_get calls done) message → IsTrue (not (list_all is_act script.calls))
gives emits script calls asked done message is =
    by_case (list_all is_act script.calls) refl
  where
    by_case : (acts : Bool) → list_all is_act script.calls ≡ acts → IsTrue (not acts)
    by_case false e = refl
    by_case true e =
        let never : false ≡ true = sym (none_given emits (encoder_of script.settings) script.calls e) ∙ ap (list_any is_giving) (sym asked) ∙ in_calls calls done message is in
        cc
