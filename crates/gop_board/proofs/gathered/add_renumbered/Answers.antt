use Rattle.std.proofs.Common.{◌++◌, ◌∷◌, [], List, length, ap, sym, ◌∙◌, append_assoc}
use Rattle.std.specs.Prelude.{⊤}
use Rattle.session_core.specs.declared.packet.Packet.{Packet}
use Rattle.gop_board.proofs.Gathers.{renumber-push}
use Rattle.gop_board.proofs.gathered.add_renumbered.Goals as goal

pub loop-packet-preserved : goal.loop-packet-preserved
loop-packet-preserved g c = (
  tt,
  tt,
  c.in_ok-push.ensures.ok
      ∙ ap (λ (l : List (Packet g.row.T.Denot ⊤)). l ++ (record c.in-Some.packet { input_frameno = c.len.result }) ∷ []) c.loop-packet.invariant.2
      ∙ renumber-push c.args.packets.now c.loop-packet.yielded c.in-Some.packet c.len.result
      (c.len.ensures ∙ ap (λ (l : List (Packet g.row.T.Denot ⊤)). length l) c.loop-packet.invariant.2),
  append_assoc c.loop-packet.yielded (c.in-Some.packet ∷ []) c.next.new.self.rest.items
      ∙ ap (λ (rest : List (Packet g.row.T.Denot ⊤)). c.loop-packet.yielded ++ rest) (sym c.in-Some.ensures.steps.0) ∙ c.loop-packet.invariant.3,
)
