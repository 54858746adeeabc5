-- How a run ends, by what was put, refused and coded.
use Rattle.std.proofs.Common.{◌≡◌, ◌⊎◌, ℕ, suc, ◌+◌, List, [], ◌∷◌, ◌++◌, Option, Some, None, Result, Ok, Err, refl, sym, ap, ◌∙◌, subst, inl, inr, arith}
use Rattle.std.specs.Prelude.{⊤, Bool, true, false, MatchBool, flat_map, take}
use Rattle.std.specs.List.{AllZip}
use Rattle.std.proofs.lemmas.Option.{none-some, same_Some}
use Rattle.av1_frame.specs.declared.frame.Frame.{Frame}
use Rattle.av1_settings.specs.declared.encoder.EncoderConfig.{EncoderConfig}
use Rattle.av1_settings.specs.declared.status.EncoderStatus.{EncoderStatus}
use Rattle.quantizers.specs.Tables.{Tables}
use Rattle.session_core.specs.declared.packet.Packet.{Packet}
use Rattle.session_core.specs.Sessions.{IsPrefix}
use Rattle.session_core.specs.Told.{CoderTold}
use Rattle.session_channels.specs.declared.fault.ChannelFault.{ChannelFault}
use Rattle.session_channels.specs.declared.fault.ChannelFault.TheVariants.{Coder, FrameRefused, PassData, PassDataMissing, PassDataKind, PassDataEnded, PacketsClosed, OutOfMemory}
use Rattle.session_channels.specs.Ends.{FrameMessage}
use Rattle.gop_board.specs.declared.gathered.Gathered.{Gathered}
use Rattle.gop_board.specs.declared.gathered.JobFault.{JobFault}
use Rattle.gop_board.specs.declared.job.Job.{Job}
use Rattle.gop_board.specs.declared.job_result.JobResult.{JobResult}
use Rattle.gop_board.specs.declared.job_result.JobResult.TheVariants.{Packets, Fault, OutOfMemory as RanOut}
use Rattle.gop_board.specs.Encoding.{JoinsPackets}
use Rattle.gop_board.specs.Gathering.{IsGathered, first_fault}
use Rattle.gop_board.specs.Jobs.{pictures}
use Rattle.gop_board.specs.JobSessions.{GavePackets, IsSession}
use Rattle.gop_board.specs.Makers.{MakerTold}
use Rattle.gop_board.specs.Packets.{numbered, packets_before_fault}
use Rattle.gop_board.proofs.Encodes.{least-of, whole-of}
use Rattle.gop_board.proofs.Gathers.{HasMemory, zip-at}
use Rattle.gop_channel.specs.declared.gop_end.GopEnd.{GopEnd}
use Rattle.gop_channel.specs.Driving.{AreCoded, AreUpToFault, BeginUpToFault, Coding, Drives, IsFault, IsOutcome, end_of, ends_by}
use Rattle.gop_channel.specs.Messages.{PutsFirst}
use Rattle.gop_channel.specs.Taking.{Took}

-- ---- the packets of the jobs before the first that failed

module _ {T C : Type 0} (enc : EncoderConfig) (tables : Tables) (ahead : ℕ → ℕ → MakerTold T) (told : C → CoderTold T) where
  -- those of the first so many jobs
  record FirstGave (jobs : List (Job T)) (results : List (JobResult T C)) (count : ℕ) : Type 0 where
    pub parts : List (List (Packet T ⊤))
    pub each : AllZip (λ job part. GavePackets enc tables (ahead job.number job.first) (pictures job) part) (take count jobs) parts
    pub joined : packets_before_fault results ≡ flat_map (λ part. part) parts

  one-more : (job : Job T) (jobs : List (Job T)) (packets : List (Packet T ⊤)) (results : List (JobResult T C)) (count : ℕ) →
      GavePackets enc tables (ahead job.number job.first) (pictures job) packets → FirstGave jobs results count →
      FirstGave (job ∷ jobs) (Packets packets ∷ results) (suc count)
  one-more job jobs packets results count gave first = record {
    parts = packets ∷ first.parts;
    each = (gave, first.each);
    joined = ap (λ (l : List (Packet T ⊤)). packets ++ l) first.joined;
  }

  first-gave : (number : ℕ) (jobs : List (Job T)) (results : List (JobResult T C)) (fault : JobFault C) → first_fault number results ≡ Some fault →
      HasMemory results → AllZip (IsSession enc tables ahead told) jobs results → (count : ℕ) × (fault.job ≡ number + count) × FirstGave jobs results count
  first-gave number jobs [] fault is memory all = absurd (none-some fault is)
  first-gave number [] (result ∷ results) fault is memory all = absurd all
  first-gave number (job ∷ jobs) (Packets packets ∷ results) fault is memory all =
      let rest = first-gave (number + 1) jobs results fault is (λ place. memory (suc place)) all.1 in
      (suc rest.0, omega (arith, rest.1), one-more job jobs packets results rest.0 all.0 rest.2)
  first-gave number (job ∷ jobs) (Fault command coder ∷ results) fault is memory all =
      let same : ◌≡◌ {A = JobFault C} (record { job = number; command = command; coder = coder }) fault = same_Some _ fault is in
      let here : number ≡ number + 0 = omega arith in
      (0, ap (λ (f : JobFault C). f.job) (sym same) ∙ here, record { parts = []; each = tt; joined = refl })
  first-gave number (job ∷ jobs) (RanOut ∷ results) fault is memory all = absurd (memory 0 refl)

  before-of : (jobs : List (Job T)) (gathered : Gathered T C) → IsGathered enc tables ahead told jobs gathered → (fault : JobFault C) →
      gathered.fault ≡ Some fault → JoinsPackets enc tables ahead (take fault.job jobs) gathered.packets
  before-of jobs gathered g fault met =
      let gave = first-gave 0 jobs g.results fault (sym g.fault ∙ met) g.memory g.each in
      let here : gave.0 ≡ fault.job = omega (arith, gave.1) in
      record {
        parts = gave.2.parts;
        each = subst (λ (n : ℕ). AllZip (λ job part. GavePackets enc tables (ahead job.number job.first) (pictures job) part) (take n jobs) gave.2.parts)
            here gave.2.each;
        joined = g.packets ∙ ap (λ (l : List (Packet T ⊤)). numbered l) gave.2.joined;
      }

-- ---- ends

module _ {T C : Type 0} (coding : Coding T C) (takes : List (FrameMessage T ⊤) → Type 0) (puts : List (Packet T ⊤) → Type 0) (ended closed : Type 0)
    (frames : List (Frame T)) (refused : Option EncoderStatus) (took : Took coding.enc takes frames refused) where
  -- memory runs out
  pub runs-out : (packets : List (Packet T ⊤)) → puts packets → (packets ≡ []) ⊎ BeginUpToFault coding frames packets →
      Drives coding takes puts ended closed (ends_by OutOfMemory)
  runs-out packets put begin = record {
    frames = frames;
    refused = refused;
    took = took;
    packets = packets;
    puts_them = put;
    outcome = (refl, begin);
    exactly = λ status is. inr refl;
    complete = λ none faultless open_yet. inr refl;
  }

  module _ (gathered : Gathered T C) (coded : AreCoded coding frames gathered) where
    all-of : AreUpToFault coding frames gathered.packets
    all-of = record { gathered = gathered; coded = coded; packets_are = refl }

    first-of : (first : List (Packet T ⊤)) → IsPrefix first gathered.packets → BeginUpToFault coding frames first
    first-of first begins = (gathered.packets, all-of, begins)

    pub runs-out-behind : PutsFirst puts gathered.packets → Drives coding takes puts ended closed (ends_by OutOfMemory)
    runs-out-behind put = runs-out put.0 put.2 (inr (first-of put.0 put.1))

    -- a frame was refused
    refuses : (status : EncoderStatus) → refused ≡ Some status → (all : Bool) →
        MatchBool all (puts gathered.packets) (PutsFirst puts gathered.packets × closed) →
        Drives coding takes puts ended closed (ends_by (FrameRefused status))
    refuses status is true put = record {
      frames = frames;
      refused = refused;
      took = took;
      packets = gathered.packets;
      puts_them = put;
      outcome = (refl, is, inl all-of);
      exactly = λ other other_is. inl (ap (λ (s : EncoderStatus). ends_by (FrameRefused s)) (same_Some status other (sym is ∙ other_is)));
      complete = λ none faultless open_yet. absurd (none-some status (sym none ∙ is));
    }
    refuses status is false put = record {
      frames = frames;
      refused = refused;
      took = took;
      packets = put.0.0;
      puts_them = put.0.2;
      outcome = (refl, is, inr (put.1, first-of put.0.0 put.0.1));
      exactly = λ other other_is. inl (ap (λ (s : EncoderStatus). ends_by (FrameRefused s)) (same_Some status other (sym is ∙ other_is)));
      complete = λ none faultless open_yet. absurd (none-some status (sym none ∙ is));
    }

    module _ (none : refused ≡ None) where
      not-refused : (status : EncoderStatus) → refused ≡ Some status → ⊥
      not-refused status is = none-some status (sym none ∙ is)

      -- the queue of packets is closed
      closes : PutsFirst puts gathered.packets × closed → Drives coding takes puts ended closed (ends_by PacketsClosed)
      closes put = record {
        frames = frames;
        refused = refused;
        took = took;
        packets = put.0.0;
        puts_them = put.0.2;
        outcome = (refl, none, put.1, first-of put.0.0 put.0.1);
        exactly = λ status is. absurd (not-refused status is);
        complete = λ same faultless open_yet. absurd (open_yet put.1);
      }

      -- a coder failed
      fails : puts gathered.packets → (fault : JobFault C) → gathered.fault ≡ Some fault →
          Drives coding takes puts ended closed (Err (record { fault = Coder fault.command; coder = Some fault.coder }))
      fails put fault met =
          let least = least-of coding.enc coding.tables coding.ahead coding.told coded.jobs gathered coded.gave fault met in
          record {
            frames = frames;
            refused = refused;
            took = took;
            packets = gathered.packets;
            puts_them = put;
            outcome = (
              fault.coder,
              refl,
              none,
              record {
                jobs = coded.jobs;
                split = coded.split;
                number = fault.job;
                fault = least;
                joins = before-of coding.enc coding.tables coding.ahead coding.told coded.jobs gathered coded.gave fault met;
              },
            );
            exactly = λ status is. absurd (not-refused status is);
            complete = λ same faultless open_yet.
                let at = zip-at (IsSession coding.enc coding.tables coding.ahead coding.told) coded.jobs least.results fault.job
                (Fault fault.command fault.coder) least.each least.fault in
                absurd (faultless coded.jobs fault.job at.0 fault.command (coding.told fault.coder) coded.split at.1 at.2);
          }

      -- all is well
      finishes : puts gathered.packets → gathered.fault ≡ None → ended → Drives coding takes puts ended closed (Ok tt)
      finishes put well over = record {
        frames = frames;
        refused = refused;
        took = took;
        packets = gathered.packets;
        puts_them = put;
        outcome = (
          over,
          none,
          record {
            jobs = coded.jobs;
            split = coded.split;
            joins = whole-of coding.enc coding.tables coding.ahead coding.told coded.jobs gathered coded.gave gathered.packets refl well;
          },
        );
        exactly = λ status is. absurd (not-refused status is);
        complete = λ same faultless open_yet. inl refl;
      }

    pub ends-so : (reason : Option EncoderStatus) → refused ≡ reason → (reason ≡ None → ended) → (all : Bool) →
        MatchBool all (puts gathered.packets) (PutsFirst puts gathered.packets × closed) → (fault : Option (JobFault C)) → gathered.fault ≡ fault →
        Drives coding takes puts ended closed (end_of all reason fault)
    ends-so (Some status) is over all put fault met = refuses status is all put
    ends-so None is over false put fault met = closes is put
    ends-so None is over true put None met = finishes is put met (over refl)
    ends-so None is over true put (Some fault) met = fails is put fault met

-- the same of a result that is so

module _ {T C : Type 0} (coding : Coding T C) (takes : List (FrameMessage T ⊤) → Type 0) (puts : List (Packet T ⊤) → Type 0) (ended closed : Type 0)
    (frames : List (Frame T)) (refused : Option EncoderStatus) (took : Took coding.enc takes frames refused) (result : Result (Unit {0}) (GopEnd C)) where
  so : (other : Result (Unit {0}) (GopEnd C)) → result ≡ other → Drives coding takes puts ended closed other → Drives coding takes puts ended closed result
  so other is drives = subst (λ (r : Result (Unit {0}) (GopEnd C)). Drives coding takes puts ended closed r) (sym is) drives

  pub out-so : puts [] → result ≡ ends_by OutOfMemory → Drives coding takes puts ended closed result
  out-so put is = so (ends_by OutOfMemory) is (runs-out coding takes puts ended closed frames refused took [] put (inl refl))

  module _ (gathered : Gathered T C) (coded : AreCoded coding frames gathered) where
    pub out-behind-so : PutsFirst puts gathered.packets → result ≡ ends_by OutOfMemory → Drives coding takes puts ended closed result
    out-behind-so put is =
        so (ends_by OutOfMemory) is (runs-out-behind coding takes puts ended closed frames refused took gathered coded put)

    pub ended-so : (refused ≡ None → ended) → (all : Bool) → MatchBool all (puts gathered.packets) (PutsFirst puts gathered.packets × closed) →
        result ≡ end_of all refused gathered.fault → Drives coding takes puts ended closed result
    ended-so over all put is =
        so (end_of all refused gathered.fault) is
        (ends-so coding takes puts ended closed frames refused took gathered coded refused refl over all put gathered.fault refl)

-- ---- what was put is put behind it all

module _ {T C : Type 0} (coding : Coding T C) (closed later : Type 0) (still : closed → later) where
  fault-still : (frames : List (Frame T)) (refused : Option EncoderStatus) (packets : List (Packet T ⊤)) (fault : ChannelFault) (kept : Option C) →
      IsFault coding frames refused closed packets fault kept → IsFault coding frames refused later packets fault kept
  fault-still frames refused packets (Coder command) kept is = is
  fault-still frames refused packets (FrameRefused status) kept is = (
    is.0,
    is.1,
    (elim is.2 [ inl all ↦ inl all | inr first ↦ inr (still first.0, first.1) ]),
  )
  fault-still frames refused packets PacketsClosed kept is = (is.0, is.1, still is.2, is.3)
  fault-still frames refused packets OutOfMemory kept is = is
  fault-still frames refused packets (PassData refusal) kept is = is
  fault-still frames refused packets PassDataMissing kept is = is
  fault-still frames refused packets PassDataKind kept is = is
  fault-still frames refused packets (PassDataEnded total) kept is = is

  outcome-still : (frames : List (Frame T)) (refused : Option EncoderStatus) (ended : Type 0) (packets : List (Packet T ⊤))
      (result : Result (Unit {0}) (GopEnd C)) → IsOutcome coding frames refused ended closed packets result →
      IsOutcome coding frames refused ended later packets result
  outcome-still frames refused ended packets (Ok done) is = is
  outcome-still frames refused ended packets (Err end) is = fault-still frames refused packets end.fault end.coder is

  pub drives-still : (takes : List (FrameMessage T ⊤) → Type 0) (puts puts_later : List (Packet T ⊤) → Type 0) (ended : Type 0)
      (result : Result (Unit {0}) (GopEnd C)) → ((packets : List (Packet T ⊤)) → puts packets → puts_later packets) →
      Drives coding takes puts ended closed result → Drives coding takes puts_later ended later result
  drives-still takes puts puts_later ended result put d = record {
    frames = d.frames;
    refused = d.refused;
    took = d.took;
    packets = d.packets;
    puts_them = put d.packets d.puts_them;
    outcome = outcome-still d.frames d.refused ended d.packets result d.outcome;
    exactly = d.exactly;
    complete = λ none faultless open_yet. d.complete none faultless (λ was. open_yet (still was));
  }
