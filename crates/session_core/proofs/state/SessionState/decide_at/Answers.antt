use Rattle.std.proofs.Common.{◌≤◌, ◌<◌, ◌-◌, Bool, cond, length, [], ◌∷◌, refl, sym, ap, subst, arith}
use Rattle.session_core.specs.States.{TakesKeys}
use Rattle.session_core.proofs.Deciding.{decided-one}
use Rattle.session_core.proofs.Scheduling.{takes-none}
use Rattle.session_core.proofs.StateLemmas.{forced-read}
use Rattle.session_core.proofs.state.SessionState.decide_at.Goals as goal

pub returns-in_ok-note_key-clause-decided : goal.returns-in_ok-note_key-clause-decided
returns-in_ok-note_key-clause-decided g c =
    let p = c.args.position in
    let self = c.args.self.now in
    let waits : self.packets ≤ p = omega arith in
    let within : p - self.packets < length self.waiting.items = omega arith in
    decided-one c.args.mode self _ _ _ _ p c.index.result.now.forced c.in_ok-key.key refl c.in_ok-push.ensures.items
    (ap (λ (b : Bool). cond b p self.last_key) (sym c.if-key.true))
    (subst (λ (b : Bool). TakesKeys p (cond b (p ∷ []) []) self.schedule c.note_key.new.self) (sym c.if-key.true) c.in_ok-note_key.ensures.noted)
    c.requires.last_key c.requires.in_order c.requires.next
    (sym (forced-read self p c.index.result.now waits within c.index.ensures))
    c.in_ok-key.ensures.key c.in_ok-key.ensures.asked c.in_ok-key.ensures.ahead

pub returns-else-key-clause-decided : goal.returns-else-key-clause-decided
returns-else-key-clause-decided g c =
    let p = c.args.position in
    let self = c.args.self.now in
    let waits : self.packets ≤ p = omega arith in
    let within : p - self.packets < length self.waiting.items = omega arith in
    decided-one c.args.mode self _ _ _ _ p c.index.result.now.forced c.in_ok-key.key refl c.in_ok-push.ensures.items
    (ap (λ (b : Bool). cond b p self.last_key) (sym c.if-key.false))
    (subst (λ (b : Bool). TakesKeys p (cond b (p ∷ []) []) self.schedule self.schedule) (sym c.if-key.false) (takes-none p self.schedule))
    c.requires.last_key c.requires.in_order c.requires.next
    (sym (forced-read self p c.index.result.now waits within c.index.ensures))
    c.in_ok-key.ensures.key c.in_ok-key.ensures.asked c.in_ok-key.ensures.ahead
