-- The jobs of frames, and a whole run of them.
use Rattle.std.proofs.Common.{◌≡◌, ◌⊎◌, ℕ, zero, suc, ◌+◌, ◌<◌, ◌≤◌, List, [], ◌∷◌, ◌++◌, length, map, Option, Some, None, Result, Ok, Err, refl, sym, ap, ◌∙◌, subst, inl, inr, length-append, arith}
use Rattle.std.specs.Prelude.{⊤, All, IsTrue, IsOk, IfErr, IfSome, flat_map, slice_get}
use Rattle.std.specs.List.{AllZip}
use Rattle.std.specs.declared.alloc.Global.{Global}
use Rattle.std.specs.declared.sync.Arc.{Arc}
use Rattle.std.proofs.lemmas.List.{get_or_append_left, get_or-append-add, get_or-map, length-map}
use Rattle.std.proofs.lemmas.List.Elements.{All-map}
use Rattle.std.proofs.lemmas.Bool.{cases_lt}
use Rattle.std.proofs.lemmas.Option.{none-some, same_Some}
use Rattle.av1_frame.specs.declared.frame.Frame.{Frame}
use Rattle.av1_frame.specs.Planes.{fits}
use Rattle.av1_settings.specs.declared.encoder.EncoderConfig.{EncoderConfig}
use Rattle.quantizers.specs.Tables.{Tables}
use Rattle.session_core.specs.declared.packet.Packet.{Packet}
use Rattle.session_core.specs.Sessions.{entries_of}
use Rattle.session_core.specs.Told.{CoderTold, FailsBehind}
use Rattle.gop_board.specs.declared.encode.GopError.{GopError}
use Rattle.gop_board.specs.declared.encode.GopError.TheVariants.{Invalid, CoderFault, OutOfMemory as NoMemory}
use Rattle.gop_board.specs.declared.job.Job.{Job}
use Rattle.gop_board.specs.declared.job_result.JobResult.{JobResult}
use Rattle.gop_board.specs.declared.job_result.JobResult.TheVariants.{Packets, Fault, OutOfMemory}
use Rattle.gop_board.specs.Encoding.{IsJobsCause, IsLeastFault, JoinsPackets, NoneFails, TellsFails}
use Rattle.gop_board.specs.Gathering.{IsGathered, first_fault}
use Rattle.gop_board.specs.Jobs.{AreJobs, pictures}
use Rattle.gop_board.specs.JobSessions.{GavePackets, IsSession, MetFault}
use Rattle.gop_board.specs.Makers.{MakerTold}
use Rattle.gop_board.specs.Packets.{numbered}
use Rattle.gop_board.specs.Workers.{AreFitting, EachJob, IsResultOf}
use Rattle.gop_board.specs.declared.gathered.Gathered.{Gathered}
use Rattle.gop_board.specs.declared.gathered.JobFault.{JobFault}
use Rattle.gop_board.proofs.FaultsApart.{apart, one-command}
use Rattle.gop_board.proofs.Gathers.{HasMemory, IsGathering, first-at, parts-join, parts_of, zip-at, zip-of}

-- ---- what holds of all frames holds of a job's

All-left : {X : Type 0} (P : X → Type 0) (xs ys : List X) → All P (xs ++ ys) → All P xs
All-left {X} P xs ys all = λ k d less.
    let within : k < length (xs ++ ys) = omega (arith, length-append xs ys) in
    subst P (get_or_append_left xs ys d k less) (all k d within)

All-right : {X : Type 0} (P : X → Type 0) (xs ys : List X) → All P (xs ++ ys) → All P ys
All-right {X} P xs ys all = λ k d less.
    let within : length xs + k < length (xs ++ ys) = omega (arith, length-append xs ys) in
    subst P (get_or-append-add xs ys k d) (all (length xs + k) d within)

All-unmap : {X Y : Type 0} (P : X → Type 0) (f : Y → X) (ys : List Y) → All P (map f ys) → All (λ y. P (f y)) ys
All-unmap P f ys all = λ k d less.
    let within : k < length (map f ys) = omega (arith, length-map ys f) in
    subst P (get_or-map f ys k d (f d) less) (all k (f d) within)

module _ {T : Type 0} where
  All-part : (P : Frame T → Type 0) (jobs : List (Job T)) (place : ℕ) (job : Job T) → slice_get jobs place ≡ Some job → All P (flat_map pictures jobs) → All P (pictures job)
  All-part P [] place job is all = absurd (none-some job is)
  All-part P (first ∷ jobs) zero job is all =
      subst (λ (one : Job T). All P (pictures one)) (same_Some first job is) (All-left P (pictures first) (flat_map pictures jobs) all)
  All-part P (first ∷ jobs) (suc place) job is all = All-part P jobs place job is (All-right P (pictures first) (flat_map pictures jobs) all)

  part-length : (jobs : List (Job T)) (place : ℕ) (job : Job T) → slice_get jobs place ≡ Some job → length (pictures job) ≤ length (flat_map pictures jobs)
  part-length [] place job is = absurd (none-some job is)
  part-length (first ∷ jobs) zero job is =
      let same : length (pictures first) ≡ length (pictures job) = ap (λ (one : Job T). length (pictures one)) (same_Some first job is) in
      omega (arith, length-append (pictures first) (flat_map pictures jobs), same)
  part-length (first ∷ jobs) (suc place) job is =
      let rest = part-length jobs place job is in
      omega (arith, length-append (pictures first) (flat_map pictures jobs), rest)

  module _ (enc : EncoderConfig) (frames : List (Arc (Frame T) Global)) (jobs : List (Job T)) (are : AreJobs (map (λ frame. frame.value) frames) jobs) where
    pub jobs-numbers : EachJob (λ place job. job.number ≡ place) jobs
    jobs-numbers place job is = (are.each place job is).number

    pub jobs-fitting : All (λ frame. IsTrue (fits frame.value enc.width enc.height enc.chroma_sampling)) frames → length frames ≤ 2147483646 →
        EachJob (λ place job. AreFitting enc job.frames) jobs
    jobs-fitting fit few place job is =
        let Fits : Frame T → Type 0 = λ frame. IsTrue (fits frame enc.width enc.height enc.chroma_sampling) in
        let all : All Fits (map (λ frame. frame.value) frames) = All-map Fits (λ (frame : Arc (Frame T) Global). frame.value) frames fit in
        let joined : All Fits (flat_map pictures jobs) = subst (λ (l : List (Frame T)). All Fits l) (sym are.joined) all in
        let most = part-length jobs place job is in
        let count : length (flat_map pictures jobs) ≡ length (map (λ (frame : Arc (Frame T) Global). frame.value) frames) = ap (λ (l : List (Frame T)). length l) are.joined in
        record {
          fit = All-unmap Fits (λ (frame : Arc (Frame T) Global). frame.value) job.frames (All-part Fits jobs place job is joined);
          few = omega (arith, most, count, length-map frames (λ (frame : Arc (Frame T) Global). frame.value), length-map job.frames (λ (frame : Arc (Frame T) Global). frame.value));
        }

-- ---- what is made of all results

module _ {T C : Type 0} (enc : EncoderConfig) (tables : Tables) (ahead : ℕ → ℕ → MakerTold T) (told : C → CoderTold T) (jobs : List (Job T)) where
  gave-all : (number : ℕ) (some : List (Job T)) (results : List (JobResult T C)) → first_fault number results ≡ None → HasMemory results →
      AllZip (IsSession enc tables ahead told) some results →
      AllZip (λ job part. GavePackets enc tables (ahead job.number job.first) (pictures job) part) some (parts_of results)
  gave-all number [] [] none memory all = tt
  gave-all number [] (result ∷ results) none memory all = absurd all
  gave-all number (job ∷ some) [] none memory all = absurd all
  gave-all number (job ∷ some) (Packets packets ∷ results) none memory all =
      (all.0, gave-all (number + 1) some results none (λ place. memory (suc place)) all.1)
  gave-all number (job ∷ some) (Fault command coder ∷ results) none memory all = absurd (none-some _ (sym none))
  gave-all number (job ∷ some) (OutOfMemory ∷ results) none memory all = absurd (memory 0 refl)

  -- ---- the least fault, where the first failing calls are told

  module _ (results : List (JobResult T C)) (each : AllZip (IsSession enc tables ahead told) jobs results) (place command : ℕ) (coder : C)
      (fault : slice_get results place ≡ Some (Fault command coder))
      (least : (before : ℕ) → before < place → (packets : List (Packet T ⊤)) × (slice_get results before ≡ Some (Packets packets))) (tells : TellsFails ahead)
      (at : ℕ) (job : Job T) (other : ℕ) (other_coder : CoderTold T) (is : slice_get jobs at ≡ Some job)
      (met : MetFault enc tables (ahead job.number job.first) (pictures job) other other_coder) where
    met-by : (one : Job T) → one ≡ job → MetFault enc tables (ahead one.number one.first) (pictures one) other other_coder
    met-by one same = subst (λ (j : Job T). MetFault enc tables (ahead j.number j.first) (pictures j) other other_coder) (sym same) met

    not-before : at < place → ⊥
    not-before less =
        let gave = least at less in
        let its = zip-at (IsSession enc tables ahead told) jobs results at (Packets gave.0) each gave.1 in
        apart enc tables (ahead its.0.number its.0.first) (pictures its.0) gave.0 other other_coder (tells its.0.number its.0.first) its.2
        (met-by its.0 (same_Some its.0 job (sym its.1 ∙ is)))

    same-command : at ≡ place → other ≡ command
    same-command here =
        let its = zip-at (IsSession enc tables ahead told) jobs results place (Fault command coder) each fault in
        let there : slice_get jobs place ≡ Some job = subst (λ (n : ℕ). slice_get jobs n ≡ Some job) here is in
        one-command enc tables (ahead its.0.number its.0.first) (pictures its.0) other command other_coder (told coder) (tells its.0.number its.0.first)
        (met-by its.0 (same_Some its.0 job (sym its.1 ∙ there))) its.2

    told-least : (place ≤ at) × (at ≡ place → other ≡ command)
    told-least = (elim (cases_lt at place) [ inl less ↦ absurd (not-before less) | inr from ↦ from ], same-command)

  -- what was gathered from as many results as there are jobs
  pub gathered-of : (count : ℕ) (gathered : Gathered T C) → IsGathering (IsResultOf enc tables ahead told jobs) count gathered → count ≡ length jobs →
      IsGathered enc tables ahead told jobs gathered
  gathered-of count gathered g every = record {
    results = g.results;
    each = zip-of (IsSession enc tables ahead told) jobs g.results (g.count ∙ every) g.each;
    memory = g.memory;
    packets = g.packets;
    fault = g.fault;
  }

  module _ (gathered : Gathered T C) (g : IsGathered enc tables ahead told jobs gathered) where
    pub whole-of : (packets : List (Packet T ⊤)) → gathered.packets ≡ packets → gathered.fault ≡ None → JoinsPackets enc tables ahead jobs packets
    whole-of packets same none = record {
      parts = parts_of g.results;
      each = gave-all 0 jobs g.results (sym g.fault ∙ none) g.memory g.each;
      joined = sym same ∙ g.packets ∙ ap (λ (l : List (Packet T ⊤)). numbered l) (parts-join 0 g.results (sym g.fault ∙ none) g.memory);
    }

    pub least-of : (fault : JobFault C) → gathered.fault ≡ Some fault → IsLeastFault enc tables ahead told jobs fault.job fault.command fault.coder
    least-of fault met =
        let first = first-at 0 g.results fault g.memory (sym g.fault ∙ met) in
        let here : first.place ≡ fault.job = omega (arith, first.job) in
        record {
          results = g.results;
          each = g.each;
          fault = subst (λ (n : ℕ). slice_get g.results n ≡ Some (Fault fault.command fault.coder)) here first.there;
          least = λ before less. first.least before (omega (arith, less, here));
          memory = g.memory;
          told_least = told-least g.results g.each fault.job fault.command fault.coder
              (subst (λ (n : ℕ). slice_get g.results n ≡ Some (Fault fault.command fault.coder)) here first.there)
              (λ before less. first.least before (omega (arith, less, here)));
        }

  -- ---- no fault where none is told

  never-met : NoneFails ahead → (job : Job T) (command : ℕ) (coder : C) → MetFault enc tables (ahead job.number job.first) (pictures job) command (told coder) → ⊥
  never-met none job command coder met =
      let fails : met.before.coder.fails_after ≡ Some None =
      subst (λ (o : Option (Option ℕ)). IfSome o (λ fails. met.before.coder.fails_after ≡ Some fails)) (none job.number job.first) met.fresh.coder.fails_after in
      subst (λ (o : Option (Option ℕ)). FailsBehind o (length (entries_of met.session.fails.turns ++ met.session.fails.trials))) fails met.session.fails.stopped.reached

  pub never-faulted : NoneFails ahead → (place command : ℕ) (coder : C) → IsLeastFault enc tables ahead told jobs place command coder → ⊥
  never-faulted none place command coder fault =
      let at = zip-at (IsSession enc tables ahead told) jobs fault.results place (Fault command coder) fault.each fault.fault in
      never-met none at.0 command coder at.2

  -- a run that can't fail ends with packets or for want of memory
  pub finishes : (result : Result (List (Packet T ⊤)) (GopError C)) → IfErr result (IsJobsCause enc tables ahead told jobs) → NoneFails ahead →
      IsOk result ⊎ (result ≡ Err NoMemory)
  finishes (Ok packets) cause none = inl refl
  finishes (Err (Invalid invalid)) cause none = absurd cause
  finishes (Err (CoderFault job command coder)) cause none = absurd (never-faulted none job command coder cause)
  finishes (Err NoMemory) cause none = inr refl
