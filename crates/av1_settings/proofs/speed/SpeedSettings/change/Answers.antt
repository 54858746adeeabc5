use Rattle.std.proofs.Common.{◌≡◌, refl, ap, sym, ◌∙◌, true, false, arith}
use Rattle.av1_settings.specs.Presets.{preset_change}
use Rattle.av1_settings.specs.declared.speed.SceneDetectionSpeed.TheVariants.{Fast}
use Rattle.av1_settings.proofs.speed.SpeedSettings.change.Goals as goal

pub returns-in-3 : goal.returns-in-3
unfolding preset_change
returns-in-3 c =
    let s = c.args.self.now in
    ap (λ range. record s { rdo_lookahead_frames = 30; partition = record s.partition { partition_range = range } })
    (c.new-self.ensures refl)
    ∙ ap (λ preset. preset_change preset s) (sym c.in-3.is)

pub returns-in-9 : goal.returns-in-9
unfolding preset_change
returns-in-9 c =
    let s = c.args.self.now in
    ap
    (λ range. record s {
      partition = record s.partition { partition_range = range };
      transform = record s.transform { enable_inter_tx_split = true };
    })
    (c.new-self-in-9.ensures refl)
    ∙ ap (λ preset. preset_change preset s) (sym c.in-9.is)

pub returns-in_default : goal.returns-in_default
unfolding preset_change
returns-in_default c =
    let s = c.args.self.now in
    let last : 10 ≡ c.args.preset = omega arith in
    ap
    (λ range. record s {
      scene_detection_mode = Fast;
      partition = record s.partition { partition_range = range };
      motion = record s.motion { use_satd_subpel = false };
    })
    (c.new-self-in_default.ensures refl)
    ∙ ap (λ preset. preset_change preset s) last
