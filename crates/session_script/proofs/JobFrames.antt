-- The frames that a script sends to jobs fit its settings, and are few.
use Rattle.std.proofs.Common.{◌≡◌, ℕ, ◌+◌, ◌<◌, ◌≤◌, ◌==◌, ◌&&◌, Bool, true, IsTrue, All, List, [], ◌∷◌, length, length-append, get_or, map, count_by, replicate, refl, sym, ap, subst, ◌∙◌, arith}
use Rattle.std.specs.declared.alloc.Global.{Global}
use Rattle.std.specs.declared.sync.Arc.{Arc}
use Rattle.std.proofs.lemmas.Bool.Decides.{nat_tests}
use Rattle.std.proofs.lemmas.List.{get_or-map, get_or-replicate, length-map, length-replicate}
use Rattle.std.proofs.lemmas.List.Sums.{count_by-le-length}
use Rattle.av1_frame.specs.declared.frame.Frame.{Frame}
use Rattle.av1_frame.specs.declared.sampling.ChromaSampling.{ChromaSampling}
use Rattle.av1_frame.specs.declared.sampling.ChromaSampling.TheVariants.{Cs400, Cs420, Cs422, Cs444}
use Rattle.av1_frame.specs.Planes.{fits, has_size}
use Rattle.av1_frame.specs.Sizes.{chroma_size}
use Rattle.av1_settings.specs.declared.encoder.EncoderConfig.{EncoderConfig}
use Rattle.script_lines.specs.declared.line.Action.TheVariants.{Flush, Send}
use Rattle.script_lines.specs.declared.line.ScriptCall.TheVariants.{Act}
use Rattle.script_lines.specs.declared.script.Script.{Script}
use Rattle.script_lines.specs.Grammar.{IsOfGops}
use Rattle.session_script.specs.Calls.{own_picture, plain_picture, plain_plane}
use Rattle.session_script.specs.Jobs.{is_send}

same_number : (n : ℕ) → (n == n) ≡ true
same_number n = grind (arith, nat_tests)

plane_fits : (size : ℕ × ℕ) → has_size (plain_plane size) size ≡ true
plane_fits size = rw (same_number size.0, same_number size.1) refl

all_true : (a b c : Bool) → a ≡ true → b ≡ true → c ≡ true → IsTrue (a && b && c)
all_true a b c x y z = rw (x, y, z) refl

own_fits : (width height : ℕ) (chroma : ChromaSampling) → IsTrue (fits (plain_picture width height chroma) width height chroma)
own_fits width height Cs400 = plane_fits (width, height)
own_fits width height Cs420 = all_true _ _ _ (plane_fits (width, height)) (plane_fits (chroma_size width height Cs420)) (plane_fits (chroma_size width height Cs420))
own_fits width height Cs422 = all_true _ _ _ (plane_fits (width, height)) (plane_fits (chroma_size width height Cs422)) (plane_fits (chroma_size width height Cs422))
own_fits width height Cs444 = all_true _ _ _ (plane_fits (width, height)) (plane_fits (chroma_size width height Cs444)) (plane_fits (chroma_size width height Cs444))

abbrev value_of : Arc (Frame ℕ) Global → Frame ℕ
value_of frame = frame.value

module _ (frames : List (Arc (Frame ℕ) Global)) (count : ℕ) (enc : EncoderConfig) (sent : map (λ frame. frame.value) frames ≡ replicate count (own_picture enc)) where
  long : length frames ≡ count
  long = sym (length-map frames value_of) ∙ ap length sent ∙ length-replicate count (own_picture enc)

  pub all_fit : All (λ frame. IsTrue (fits frame.value enc.width enc.height enc.chroma_sampling)) frames
  all_fit = λ k d less.
      let within : k < count = omega (arith, less, long) in
      let own : (get_or frames k d).value ≡ own_picture enc =
      sym (get_or-map value_of frames k d d.value less) ∙ ap (λ (pictures : List (Frame ℕ)). get_or pictures k d.value) sent ∙ get_or-replicate count k (own_picture enc) d.value within in
      subst (λ (picture : Frame ℕ). IsTrue (fits picture enc.width enc.height enc.chroma_sampling)) (sym own) (own_fits enc.width enc.height enc.chroma_sampling)

  pub are_few : (script : Script) → IsOfGops script → count ≡ count_by is_send script.calls → length frames ≤ 2147483646
  are_few script gops is =
      let calls : length script.calls ≡ gops.frames + 1 =
      ap length gops.calls ∙ length-append (replicate gops.frames (Act Send)) (Act Flush ∷ []) ∙ ap (λ (n : ℕ). n + 1) (length-replicate gops.frames (Act Send)) in
      omega (arith, long, is, count_by-le-length is_send script.calls, calls, gops.few)
