-- The packets of results in order, and their new numbers.
use Rattle.std.specs.Prelude.{ℕ, ◌≡◌, ◌+◌, ◌<◌, List, [], ◌∷◌, ◌++◌, map, flat_map, ⊤}
use Rattle.std.specs.List.{range_with_len}
use Rattle.session_core.specs.declared.packet.Packet.{Packet}
use Rattle.session_core.specs.Sessions.{IsPrefix}
use Rattle.gop_board.specs.declared.core_state.CoreStep.{CoreStep}
use Rattle.gop_board.specs.declared.job_result.JobResult.{JobResult}
use Rattle.gop_board.specs.declared.job_result.JobResult.TheVariants.{Packets, Fault, OutOfMemory}
use Rattle.gop_board.specs.Core.{opening}
use Rattle.gop_board.specs.CoreRuns.{collected_in}

-- these packets with the numbers from `number` on
abbrev pub numbered_from : {T : Type 0} → ℕ → List (Packet T ⊤) → List (Packet T ⊤)
numbered_from number [] = []
numbered_from number (packet ∷ packets) =
    record packet { input_frameno = number } ∷ numbered_from (number + 1) packets

abbrev pub numbered : {T : Type 0} → List (Packet T ⊤) → List (Packet T ⊤)
numbered packets = numbered_from 0 packets

-- the packets of results, up to the first that has none
abbrev pub packets_before_fault : {T C : Type 0} → List (JobResult T C) → List (Packet T ⊤)
packets_before_fault [] = []
packets_before_fault (Packets packets ∷ results) = packets ++ packets_before_fault results
packets_before_fault (Fault command coder ∷ results) = []
packets_before_fault (OutOfMemory ∷ results) = []

-- each result that belongs to a job and is a list of packets is that job's
abbrev pub ArePacketsOf : {T C : Type 0} → (ℕ → JobResult T C → Type 0) →
    (ℕ → List (Packet T ⊤)) → Type 0
ArePacketsOf {T} belongs packets_of =
    (job : ℕ) (packets : List (Packet T ⊤)) → belongs job (Packets packets) →
    packets ≡ packets_of job

-- whatever steps are tried, the packets of the collected results, up to the first that has none,
-- begin those of all jobs
abbrev pub CollectedPacketsAreInOrder : {T C : Type 0} → ℕ →
    (ℕ → JobResult T C → Type 0) → Type 0
CollectedPacketsAreInOrder {T} {C} jobs belongs =
    (packets_of : ℕ → List (Packet T ⊤)) (result_of : ℕ → JobResult T C) (steps : List CoreStep) →
    ArePacketsOf belongs packets_of → ((job : ℕ) → job < jobs → belongs job (result_of job)) →
    IsPrefix (numbered (packets_before_fault (map result_of (collected_in (opening jobs) steps))))
    (numbered (flat_map packets_of (range_with_len 0 jobs)))
