use Rattle.std.proofs.Common.{ℕ, All, IsTrue, List, Global, subst}
use Rattle.std.specs.declared.sync.Arc.{Arc}
use Rattle.av1_frame.specs.declared.frame.Frame.{Frame}
use Rattle.av1_frame.specs.Planes.{fits}
use Rattle.gops_speed.proofs.encode.Goals as goal

pub encode_gops-requires-clause-fit : goal.encode_gops-requires-clause-fit
encode_gops-requires-clause-fit g c κs within =
    subst (λ (l : List (Arc (Frame ℕ) Global)). All (λ frame. IsTrue (fits frame.value c.with_encoder_config-cfg.result.enc.width c.with_encoder_config-cfg.result.enc.height c.with_encoder_config-cfg.result.enc.chroma_sampling)) l)
    c.deref.ensures.value (c.all_fit.ensures c.if-not-all_fit.false)
