-- Frames that are taken one after the other.
use Rattle.std.proofs.Common.{◌≡◌, ℕ, ◌+◌, ◌<◌, ◌≤◌, List, [], ◌∷◌, ◌++◌, length, map, get_or, Option, Some, None, Result, Ok, Err, refl, sym, ap, ◌∙◌, subst, inl, inr, append-nil, length-append, arith}
use Rattle.std.specs.Prelude.{⊤, OnErr, All, Bool, true, false, IsTrue, nat_le, ◌&&◌, ◌||◌, if◌then◌else◌}
use Rattle.std.specs.Option.{option_map}
use Rattle.std.specs.declared.alloc.Global.{Global}
use Rattle.std.specs.declared.sync.Arc.{Arc}
use Rattle.std.proofs.lemmas.Bool.{leb-false}
use Rattle.std.proofs.lemmas.List.{length-map, map-append}
use Rattle.std.proofs.lemmas.Option.{none-some, slice_get-get_or, slice_get-map}
use Rattle.av1_frame.specs.declared.frame.Frame.{Frame}
use Rattle.av1_frame.specs.Planes.{fits}
use Rattle.av1_settings.specs.declared.encoder.EncoderConfig.{EncoderConfig}
use Rattle.av1_settings.specs.declared.status.EncoderStatus.{EncoderStatus}
use Rattle.av1_settings.specs.declared.status.EncoderStatus.TheVariants.{EnoughData, FrameSizeMismatch}
use Rattle.session_channels.specs.Ends.{FrameMessage}
use Rattle.session_channels.specs.Queues.{Queue}
use Rattle.gop_board.proofs.Gathers.{push-cases}
use Rattle.gop_channel.specs.Messages.{TakesAll}
use Rattle.gop_channel.specs.Taking.{AreAccepted, Took, is_enough, pictures, refusal}
use Rattle.gop_channel.proofs.Messaging.{takes-none, takes-then}

-- ---- what isn't refused

-- where the answer is none, the first test fails and the second holds
none-means : (enough fit : Bool) → ◌≡◌ {A = Option EncoderStatus} (if enough then Some EnoughData else if fit then None else Some FrameSizeMismatch) None →
    (enough ≡ false) × (fit ≡ true)
none-means true fit is = absurd (none-some _ (sym is))
none-means false true is = (refl, refl)
none-means false false is = absurd (none-some _ (sym is))

second-false : (a b : Bool) → (a || b) ≡ false → b ≡ false
second-false true b is = cc
second-false false b is = is

module _ {T : Type 0} (enc : EncoderConfig) where
  accepted-fit : (frames : ℕ) (picture : Frame T) → refusal enc frames picture ≡ None → IsTrue (fits picture enc.width enc.height enc.chroma_sampling)
  accepted-fit frames picture is = (none-means (is_enough enc frames) (fits picture enc.width enc.height enc.chroma_sampling) is).1

  accepted-below : (frames : ℕ) (picture : Frame T) → refusal enc frames picture ≡ None → frames < 2147483646
  accepted-below frames picture is =
      let open_yet = (none-means (is_enough enc frames) (fits picture enc.width enc.height enc.chroma_sampling) is).0 in
      leb-false 2147483646 frames (second-false (enc.still_picture && nat_le 1 frames) (nat_le 2147483646 frames) open_yet)

  module _ (frames : List (Arc (Frame T) Global)) (accepted : AreAccepted enc (map (λ frame. frame.value) frames)) where
    accepted-at : (place : ℕ) (default : Arc (Frame T) Global) → place < length frames → refusal enc place (get_or frames place default).value ≡ None
    accepted-at place default less =
        accepted place (get_or frames place default).value
        (slice_get-map (λ (frame : Arc (Frame T) Global). frame.value) frames place
        ∙ ap (λ (o : Option (Arc (Frame T) Global)). option_map (λ frame. frame.value) o) (slice_get-get_or frames place default less))

    pub all-fit : All (λ frame. IsTrue (fits frame.value enc.width enc.height enc.chroma_sampling)) frames
    all-fit = λ place default less. accepted-fit place (get_or frames place default).value (accepted-at place default less)

    pub few-enough : length frames ≤ 2147483646
    few-enough = few frames accepted-at
      where
        few : (all : List (Arc (Frame T) Global)) →
            ((place : ℕ) (default : Arc (Frame T) Global) → place < length all → refusal enc place (get_or all place default).value ≡ None) →
            length all ≤ 2147483646
        few [] at = omega arith
        few (first ∷ rest) at =
            let below = accepted-below (length rest) (get_or (first ∷ rest) (length rest) first).value (at (length rest) first (omega arith)) in
            omega (arith, below)

-- what is said of a frame behind the pictures of so many
pub said-of : {T : Type 0} (enc : EncoderConfig) (frames : List (Arc (Frame T) Global)) (count : ℕ) (picture seen : Frame T) (answer reason : Option EncoderStatus) →
    answer ≡ refusal enc count seen → count ≡ length frames → seen ≡ picture → answer ≡ reason →
    refusal enc (length (map (λ frame. frame.value) frames)) picture ≡ reason
said-of {T} enc frames count picture seen answer reason said many same so =
    ap (λ (n : ℕ). refusal enc n picture) (length-map frames (λ (frame : Arc (Frame T) Global). frame.value) ∙ sym many)
    ∙ ap (λ (p : Frame T). refusal enc count p) (sym same) ∙ sym said ∙ so

-- what isn't refused for any reason isn't refused
pub none-said : (answer : Option EncoderStatus) → ((status : EncoderStatus) → answer ≡ Some status → ⊥) → answer ≡ None
none-said None not_some = refl
none-said (Some status) not_some = absurd (not_some status refl)

-- one picture more
pub pictures-push : {T : Type 0} (frames all : List (Arc (Frame T) Global)) (frame : Arc (Frame T) Global) → all ≡ frames ++ frame ∷ [] →
    map (λ one. one.value) frames ++ frame.value ∷ [] ≡ map (λ one. one.value) all
pictures-push {T} frames all frame is =
    sym (map-append (λ (one : Arc (Frame T) Global). one.value) frames (frame ∷ []))
    ∙ ap (λ (l : List (Arc (Frame T) Global)). map (λ one. one.value) l) (sym is)

pub one-longer : {T : Type 0} (frames all : List (Arc (Frame T) Global)) (frame : Arc (Frame T) Global) (count : ℕ) → all ≡ frames ++ frame ∷ [] →
    length frames ≡ count → length all ≡ count + 1
one-longer {T} frames all frame count is many =
    ap (λ (l : List (Arc (Frame T) Global)). length l) is ∙ length-append frames (frame ∷ []) ∙ ap (λ (n : ℕ). n + 1) many

-- what stands where a call failed
pub on-err : {A E : Type 0} (P : Type 0) (result : Result A E) → P → OnErr result P
on-err P (Ok done) holds = tt
on-err P (Err error) holds = holds

-- ---- frame by frame

module _ {Q T : Type 0} (contents : Q → Option (List (FrameMessage T ⊤))) (queue : Q → Queue) (enc : EncoderConfig) where
  pub took-none : (a : Q) → Took enc (TakesAll contents queue a a) [] None
  took-none a = record {
    messages = [];
    takes_them = takes-none contents queue a;
    are_taken = refl;
    are_accepted = λ place picture is. absurd (none-some picture is);
  }

  module _ (a b c : Q) (frames : List (Frame T)) (t : Took enc (TakesAll contents queue a b) frames None) where
    -- the queue is closed
    pub took-all : TakesAll contents queue b c [] → Took enc (TakesAll contents queue a c) frames None
    took-all next = record {
      messages = t.messages;
      takes_them = subst (λ (l : List (FrameMessage T ⊤)). TakesAll contents queue a c l) (append-nil t.messages)
          (takes-then contents queue a b c t.messages [] t.takes_them next);
      are_taken = t.are_taken;
      are_accepted = t.are_accepted;
    }

    module _ (message : FrameMessage T ⊤) (next : TakesAll contents queue b c (message ∷ [])) where
      both : TakesAll contents queue a c (t.messages ++ message ∷ [])
      both = takes-then contents queue a b c t.messages (message ∷ []) t.takes_them next

      one-more : pictures (t.messages ++ message ∷ []) ≡ frames ++ (message.0).value ∷ []
      one-more =
          map-append (λ (m : FrameMessage T ⊤). (m.0).value) t.messages (message ∷ [])
          ∙ ap (λ (l : List (Frame T)). l ++ (message.0).value ∷ []) t.are_taken

      -- a frame that is accepted
      pub took-more : refusal enc (length frames) (message.0).value ≡ None → Took enc (TakesAll contents queue a c) (frames ++ (message.0).value ∷ []) None
      took-more is = record {
        messages = t.messages ++ message ∷ [];
        takes_them = both;
        are_taken = one-more;
        are_accepted = λ place picture there. elim (push-cases frames (message.0).value place picture there) [
          | inl earlier ↦ t.are_accepted place picture earlier
          | inr last ↦ subst (λ (n : ℕ). refusal enc n picture ≡ None) (sym last.0)
              (subst (λ (p : Frame T). refusal enc (length frames) p ≡ None) last.1 is)
        ];
      }

      -- a frame that is refused
      pub took-refused : (status : EncoderStatus) → refusal enc (length frames) (message.0).value ≡ Some status →
          Took enc (TakesAll contents queue a c) frames (Some status)
      took-refused status is = record {
        messages = t.messages ++ message ∷ [];
        takes_them = both;
        are_taken = ((message.0).value, one-more, is);
        are_accepted = t.are_accepted;
      }
