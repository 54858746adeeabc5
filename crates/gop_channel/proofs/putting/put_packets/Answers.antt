use Rattle.std.proofs.Common.{◌++◌, ◌∷◌, [], List, ap, sym, ◌∙◌, append_assoc}
use Rattle.std.specs.Prelude.{⊤}
use Rattle.session_core.specs.declared.packet.Packet.{Packet}
use Rattle.gop_channel.proofs.Messaging.{done-of, packets-more}
use Rattle.gop_channel.proofs.putting.put_packets.Goals as goal

pub loop-packet-preserved : goal.loop-packet-preserved
loop-packet-preserved g c = (
  tt,
  tt,
  packets-more g.P.Put.contents g.P.Put.queue c.args.queue.now c.loop-packet.queue c.put_message.new.queue c.loop-packet.yielded c.in-Some.packet
      c.loop-packet.invariant.2 (done-of c.in_ok-put_message.field-0 _ _ c.if-not-branch.false c.in_ok-put_message.ensures.put),
  append_assoc c.loop-packet.yielded (c.in-Some.packet ∷ []) c.next.new.self.rest.items
      ∙ ap (λ (rest : List (Packet g.row.T.Denot ⊤)). c.loop-packet.yielded ++ rest) (sym c.in-Some.ensures.steps.0) ∙ c.loop-packet.invariant.3,
)
