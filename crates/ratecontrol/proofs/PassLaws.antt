-- Parts of the state that change with what was given.
use Rattle.std.proofs.Common.{◌≡◌, ℕ, Bool, true, cond, sym, ◌∙◌, ap, ℤ, is_some}
use Rattle.std.specs.Prelude.{Option, Some, None, Result, Ok, Err, MatchResult, IfErr, IsSome, []}
use Rattle.coding_base.specs.declared.memory.OutOfMemory.{OutOfMemory}
use Rattle.pass_data.specs.declared.given.Header.{Header}
use Rattle.pass_data.specs.Given.{Given}
use Rattle.ratecontrol.specs.Rate.{Rate}
use Rattle.ratecontrol.specs.Passes.{with_buffer, room_for, set_up_by, with_given}

pub window_taken : (r : Result (Unit {0}) OutOfMemory) (rate : Rate) (new : Given) (delay : ℤ) (capacity : ℕ) → rate.set_delay ≡ Some delay → capacity ≡ room_for delay
    → MatchResult r (λ _. new ≡ record rate.given { is_finite = true; window = record { held = []; capacity = capacity } }) (λ _. new ≡ rate.given)
    → MatchResult r (λ _. record rate { given = new } ≡ record rate { given = with_buffer rate.set_delay rate.given }) (λ _. record rate { given = new } ≡ rate)
window_taken (Ok x) rate new delay capacity set room h =
    ap (λ (g : Given). record rate { given = g })
    (h ∙ (ap (λ n. record rate.given { is_finite = true; window = record { held = []; capacity = n } }) room ∙ sym (ap (λ o. with_buffer o rate.given) set)))
window_taken (Err x) rate new delay capacity set room h = ap (λ (g : Given). record rate { given = g }) h

pub window_wanted : (r : Result (Unit {0}) OutOfMemory) (o : Option ℤ) (delay : ℤ) → o ≡ Some delay → IfErr r (λ _. IsSome o)
window_wanted (Ok x) o delay set = tt
window_wanted (Err x) o delay set = ap is_some set

pub given_is : (old mid new : Rate) (had : Bool) (header : Option Header) (g : Given) → mid ≡ record old { given = g } → had ≡ is_some old.given.header
    → header ≡ cond had None mid.given.header → new ≡ set_up_by header mid → new ≡ with_given g old
given_is old mid new had header g is had_is header_is came =
    let own : header ≡ cond (is_some old.given.header) None g.header =
    header_is ∙ (ap (λ b. cond b None mid.given.header) had_is ∙ ap (λ (r : Rate). cond (is_some old.given.header) None r.given.header) is) in
    came ∙ (ap (λ (r : Rate). set_up_by header r) is ∙ ap (λ (o : Option Header). set_up_by o (record old { given = g })) own)
