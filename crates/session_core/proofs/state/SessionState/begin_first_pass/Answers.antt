use Rattle.session_core.proofs.Passing.{passes-are}
use Rattle.session_core.proofs.Scheduling.{keeps-opening, kept-begun, scheduled-opening}
use Rattle.session_core.proofs.state.SessionState.begin_first_pass.Goals as goal

pub invariant_of-guess : goal.invariant_of-guess
invariant_of-guess g c = record { opens = ∣ scheduled-opening c.args.enc.now c.args.self.now c.requires.kept c.requires.opens ∣₁ }

pub returns-clause-passes : goal.returns-clause-passes
returns-clause-passes g c =
    passes-are _ _ _ _ c.begin_first_pass.new.self (c.begin_first_pass.ensures.keeps _ _ _ (keeps-opening c.args.enc.now c.args.self.now c.requires.kept c.requires.opens))

pub returns-clause-kept : goal.returns-clause-kept
returns-clause-kept g c =
    kept-begun c.args.enc.now c.args.self.now _ c.begin_first_pass.new.self c.requires.kept c.requires.opens c.begin_first_pass.ensures.tables
    (c.begin_first_pass.ensures.keeps _ _ _ (keeps-opening c.args.enc.now c.args.self.now c.requires.kept c.requires.opens))
