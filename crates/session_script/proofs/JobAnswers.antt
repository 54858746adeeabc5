-- What jobs come to.
use Rattle.std.proofs.Common.{◌≡◌, ◌≢◌, ℕ, true, false, [], Option, None, Some, refl, arith}
use Rattle.std.specs.Option.{option_map}
use Rattle.scripted.specs.CoderLog.{told_first}
use Rattle.scripted.specs.DetectorLog.{asked_first}
use Rattle.scripted.specs.ScalesLog.{scaled_first}
use Rattle.session_core.specs.Told.{Heard, heard}
use Rattle.session_script.specs.declared.outcome.Account.{Account}
use Rattle.session_script.specs.declared.outcome.Account.TheVariants.{Turns, Summary, Passes, Packets}
use Rattle.session_script.specs.declared.outcome.Outcome.{Outcome}
use Rattle.session_script.specs.declared.outcome.Outcome.TheVariants.{Done, Unwritten}
use Rattle.session_script.specs.declared.words.Task.TheVariants.{Gops}
use Rattle.session_script.specs.Outcomes.{IsAccountOf, IsOfKind, IsRun, IsSourceOutcome, Span, pass_of, passes_in, session_in, status_of, transcript_of}

-- where no single session is run, what its coder, its detector and its mean scales tell is nothing
pub nobody : Heard ℕ
nobody = heard (told_first [] []) (asked_first []) (scaled_first [])

-- before its text is written the sink didn't fail
pub not_unwritten : (source : Span) (heard : Heard ℕ) (workers : ℕ) (outcome : Outcome) → IsSourceOutcome source heard (Gops workers) outcome →
    status_of outcome ≢ 6
not_unwritten source heard workers (Unwritten account) h = absurd h
not_unwritten source heard workers outcome h = λ e. omega arith

none_done : (workers : ℕ) (account : Account) → IsAccountOf (Gops workers) account → (session_in account ≡ None) × (passes_in account ≡ None)
none_done workers (Packets packets) h = (refl, refl)
none_done workers (Turns transcript options) h = let never : true ≡ false = h.one in cc
none_done workers (Summary transcript) h = let never : true ≡ false = h.one in cc
none_done workers (Passes transcript options) h = let never : true ≡ false = h.two in cc

none_of : (workers : ℕ) (outcome : Outcome) → IsOfKind (Gops workers) outcome → (transcript_of outcome ≡ None) × (pass_of outcome ≡ None)
none_of workers (Done account) h = none_done workers account h
none_of workers (Unwritten account) h = none_done workers account h
none_of workers outcome h = (refl, refl)

pub no_session : (workers : Option ℕ) (source sink : Span) (heard : Heard ℕ) (outcome : Outcome) → IsRun (option_map Gops workers) source sink heard outcome →
    (transcript_of outcome ≡ None) × (pass_of outcome ≡ None)
no_session None source sink heard outcome run = rw run.cause (refl, refl)
no_session (Some workers) source sink heard outcome run = none_of workers outcome (run.kind (Gops workers) refl)
