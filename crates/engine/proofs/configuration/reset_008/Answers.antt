use mathlib.Core.Path.{ap, ◌∙◌}
use Rattle.base.specs.Bytes.{put}
use Rattle.registers.specs.Registers.{fresh008}
use Rattle.registers.specs.Layout.{config_bytes}
use Rattle.registers.specs.declared.Reg008.{Reg008}
use Rattle.registers.specs.declared.Config.{Config}
use Rattle.state.specs.Layout.{unpacked}
use Rattle.engine.specs.Laws.Stored.{cleared_by}
use Rattle.engine.proofs.configuration.reset_008.Goals as goal

pub returns : goal.returns
returns c = let a = c.args in
    let l = a.state.now in
    cleared_by (unpacked l) l _ c.requires.0
    (c.pack.ensures
    ∙ ap (λ (z : Reg008). put 0 (config_bytes (record { r008 = z; r010 = a.c.r010; r020 = a.c.r020 })) l) c.fresh.ensures
    ∙ ap (λ (z : Config). put 0 (config_bytes (record { r008 = fresh008; r010 = z.r010; r020 = z.r020 })) l)
    c.requires.1)
