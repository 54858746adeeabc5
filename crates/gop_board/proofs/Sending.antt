-- The calls of a job, frame by frame.
use Rattle.std.proofs.Common.{◌≡◌, ℕ, ◌+◌, ◌-◌, ◌<◌, ◌≤◌, false, Global, List, [], ◌∷◌, ◌++◌, map, length, take, replicate, None, refl, sym, ap, ◌∙◌, subst, zero-le, arith, append_assoc, get_or}
use Rattle.std.specs.Prelude.{⊤}
use Rattle.std.specs.declared.sync.Arc.{Arc}
use Rattle.std.proofs.lemmas.List.{length-append, map-append, take_all}
use Rattle.av1_frame.specs.declared.frame.Frame.{Frame}
use Rattle.av1_settings.specs.declared.encoder.EncoderConfig.{EncoderConfig}
use Rattle.av1_settings.specs.Settings.{interval_of}
use Rattle.pyramid.specs.declared.schedule.Schedule.{Schedule}
use Rattle.pyramid.specs.Numbers.{Numbers, ahead}
use Rattle.pyramid.specs.Schedules.{IsSchedule}
use Rattle.pyramid.specs.Settings.{numbers_of}
use Rattle.session_core.specs.declared.call.Call.{Call}
use Rattle.session_core.specs.declared.call.Call.TheVariants.{Send, Flush, Receive}
use Rattle.gop_board.specs.JobCalls.{AreJobCalls, done_before, job_plan, sends_from}
use Rattle.gop_board.specs.JobSchedules.{IsJobSchedule}
use Rattle.gop_board.proofs.Splitting.{taken-next}

-- the receives before the send of a number
abbrev pub receives_at : {T : Type 0} → EncoderConfig → ℕ → List (Call T ⊤)
receives_at enc number = replicate (done_before enc number - done_before enc (number - 1)) Receive

-- a frame more behind the others
sends-push : {T : Type 0} (enc : EncoderConfig) (frames : List (Arc (Frame T) Global)) (frame : Arc (Frame T) Global) (number at : ℕ) → number + length frames ≡ at →
    sends_from enc number (frames ++ frame ∷ []) ≡ sends_from enc number frames ++ (receives_at enc at ++ Send frame None ∷ [])
sends-push {T} enc [] frame number at is =
    let same : number ≡ at = omega arith in
    ap (λ (n : ℕ). receives_at {T = T} enc n ++ Send frame None ∷ []) same
sends-push {T} enc (one ∷ frames) frame number at is =
    let next : number + 1 + length frames ≡ at = omega arith in
    ap (λ (l : List (Call T ⊤)). receives_at enc number ++ (Send one None ∷ l)) (sends-push enc frames frame (number + 1) at next)
    ∙ sym (append_assoc (receives_at enc number) (Send one None ∷ sends_from enc (number + 1) frames) (receives_at enc at ++ Send frame None ∷ []))

-- the first so many of the frames are sent, each behind its receives
pub record HasSent {T : Type 0} (enc : EncoderConfig) (pictures : List (Frame T)) (number : ℕ) (calls : List (Call T ⊤)) (schedule : Schedule) : Type 0 where
  pub frames : List (Arc (Frame T) Global)
  pub pictures_are : map (λ frame. frame.value) frames ≡ take number pictures
  pub count : length frames ≡ number
  pub calls_are : calls ≡ sends_from enc 0 frames
  pub scheduled : IsJobSchedule enc number false (done_before enc (number - 1)) schedule

-- none is
pub sent-none : {T : Type 0} (enc : EncoderConfig) (pictures : List (Frame T)) (calls : List (Call T ⊤)) (schedule later : Schedule) (numbers : Numbers) (interval : ℕ) →
    calls ≡ [] → numbers ≡ numbers_of enc → interval ≡ interval_of enc.max_key_frame_interval → IsSchedule numbers interval 0 false [] 0 schedule →
    ((numbers : Numbers) (interval frames : ℕ) (keys : List ℕ) (commands : ℕ) → frames ≤ 0 + ahead numbers →
    IsSchedule numbers interval frames false keys commands schedule → IsSchedule numbers interval frames false (keys ++ 0 ∷ []) commands later) →
    HasSent enc pictures 0 calls later
sent-none enc pictures calls schedule later numbers interval none is_numbers is_interval new noted = record {
  frames = [];
  pictures_are = refl;
  count = refl;
  calls_are = none;
  scheduled = subst (λ (i : ℕ). IsSchedule (numbers_of enc) i 0 false (0 ∷ []) 0 later) is_interval
      (subst (λ (n : Numbers). IsSchedule n interval 0 false (0 ∷ []) 0 later) is_numbers (noted numbers interval 0 [] 0 zero-le new));
}

-- one more
pub sent-one : {T : Type 0} (enc : EncoderConfig) (pictures : List (Frame T)) (number : ℕ) (first now next : List (Call T ⊤)) (frame : Arc (Frame T) Global) (schedule later : Schedule) →
    HasSent enc pictures number first schedule → take (number + 1) pictures ≡ take number pictures ++ frame.value ∷ [] →
    now ≡ first ++ receives_at enc number → next ≡ now ++ Send frame None ∷ [] →
    IsJobSchedule enc (number + 1) false (done_before enc number) later → HasSent enc pictures (number + 1) next later
sent-one {T} enc pictures number first now next frame schedule later so picture received sent scheduled = record {
  frames = so.frames ++ frame ∷ [];
  pictures_are = map-append (λ (one : Arc (Frame T) Global). one.value) so.frames (frame ∷ []) ∙ ap (λ (l : List (Frame T)). l ++ frame.value ∷ []) so.pictures_are ∙ sym picture;
  count = length-append so.frames (frame ∷ []) ∙ ap (λ (n : ℕ). n + 1) so.count;
  calls_are = sent ∙ ap (λ (l : List (Call T ⊤)). l ++ Send frame None ∷ []) (received ∙ ap (λ (l : List (Call T ⊤)). l ++ receives_at enc number) so.calls_are)
      ∙ append_assoc (sends_from enc 0 so.frames) (receives_at enc number) (Send frame None ∷ [])
      ∙ sym (sends-push enc so.frames frame 0 number (omega (arith, so.count)));
  scheduled = let same : number ≡ number + 1 - 1 = omega arith in subst (λ (n : ℕ). IsJobSchedule enc (number + 1) false (done_before enc n) later) same scheduled;
}

-- all are, and the rest of the calls stands behind
pub sent-all : {T : Type 0} (enc : EncoderConfig) (pictures : List (Frame T)) (number end : ℕ) (first now calls : List (Call T ⊤)) (schedule : Schedule) →
    HasSent enc pictures number first schedule → number ≡ end → length pictures ≡ end → now ≡ first ++ Flush ∷ [] →
    calls ≡ now ++ replicate (length (job_plan enc end) - done_before enc (end - 1)) Receive → AreJobCalls enc pictures calls
sent-all {T} enc pictures number end first now calls schedule so all count flushed received = record {
  frames = so.frames;
  pictures_are = so.pictures_are ∙ take_all number pictures (omega (arith, all, count));
  calls_are = received ∙ ap (λ (l : List (Call T ⊤)). l ++ last end) (flushed ∙ ap (λ (l : List (Call T ⊤)). l ++ Flush ∷ []) so.calls_are)
      ∙ append_assoc (sends_from enc 0 so.frames) (Flush ∷ []) (last end)
      ∙ ap (λ (n : ℕ). sends_from enc 0 so.frames ++ (Flush ∷ last n)) (sym (so.count ∙ all));
}
  where
    last : ℕ → List (Call T ⊤)
    last n = replicate (length (job_plan enc n) - done_before enc (n - 1)) Receive

-- the next frame, in a slice of the job's frames
pub sent-frame : {T : Type 0} (frames slice : List (Arc (Frame T) Global)) (number : ℕ) (frame d : Arc (Frame T) Global) → slice ≡ frames → number < length slice →
    frame.value ≡ d.value → d ≡ get_or slice number d →
    take (number + 1) (map (λ one. one.value) frames) ≡ take number (map (λ one. one.value) frames) ++ frame.value ∷ []
sent-frame {T} frames slice number frame d is within same at =
    subst (λ (l : List (Arc (Frame T) Global)). take (number + 1) (map (λ one. one.value) l) ≡ take number (map (λ one. one.value) l) ++ frame.value ∷ []) is
    (taken-next slice number frame d within (same ∙ ap (λ (one : Arc (Frame T) Global). one.value) at))
