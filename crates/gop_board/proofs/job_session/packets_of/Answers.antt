use Rattle.std.proofs.Common.{◌≡◌, ◌++◌, ◌∷◌, [], List, ap, sym, ◌∙◌, append_assoc, append-nil, arith}
use Rattle.std.specs.Prelude.{⊤}
use Rattle.std.proofs.lemmas.List.{nil_from_length}
use Rattle.session_core.specs.declared.packet.Packet.{Packet}
use Rattle.session_core.specs.declared.transcript.Turn.{Turn}
use Rattle.session_core.specs.Sessions.{packets_of}
use Rattle.session_core.specs.Taken.{packet_of}
use Rattle.gop_board.proofs.JobRuns.{packets-push}
use Rattle.gop_board.proofs.job_session.packets_of.Goals as goal

pub loop-turn-init : goal.loop-turn-init
loop-turn-init g c = (tt, tt, c.new-packets.ensures, c.into_iter-turn-iterator.ensures.into_iter_gives.0 ∙ c.into_vec-turn-items.ensures)

pub loop-turn-preserved : goal.loop-turn-preserved
loop-turn-preserved g c = (
  tt,
  tt,
  c.in_ok-add_packet.ensures
      ∙ ap (λ (packets : List (Packet g.row.T.Denot ⊤)). packets ++ packet_of c.in-Some.turn.reply) c.loop-turn.invariant.2
      ∙ sym (packets-push c.loop-turn.yielded c.in-Some.turn),
  append_assoc c.loop-turn.yielded (c.in-Some.turn ∷ []) c.next.new.self.rest.items
      ∙ ap (λ (rest : List (Turn g.row.T.Denot ⊤)). c.loop-turn.yielded ++ rest) (sym c.in-Some.ensures.steps.0) ∙ c.loop-turn.invariant.3,
)

pub returns : goal.returns
returns g c =
    let none : c.loop-turn.turn-iterator.rest.items ≡ [] = nil_from_length _ (omega (arith, c.in-None.ensures.steps.0)) in
    c.loop-turn.invariant.2
    ∙ ap (λ (turns : List (Turn g.row.T.Denot ⊤)). packets_of turns)
    (sym (append-nil c.loop-turn.yielded) ∙ ap (λ (rest : List (Turn g.row.T.Denot ⊤)). c.loop-turn.yielded ++ rest) (sym none) ∙ c.loop-turn.invariant.3)
