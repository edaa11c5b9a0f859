-- P4 (01, Sound state: "Every call keeps it"): what is stated. The premise `handed_over` says that a command's bytes are below 256.
use Rattle.std.specs.Prelude.{true, List, ◌≡◌}
use Rattle.state.specs.Fresh.{fresh_state}
use Rattle.state.specs.Sound.{Sound}
use Rattle.rules.specs.Rules.Step.{World, Call, step, run, handed_over, all_handed}

-- "Every call keeps it" (01, Sound state): one call, a run, and the fresh state to begin with
pub record SoundKept : Type 0 where
  pub fresh : Sound fresh_state
  pub call : (w : World) (c : Call) → Sound w.state → handed_over c ≡ true → Sound (step w c).next.state
  pub calls : (w : World) (cs : List Call) → Sound w.state → all_handed cs ≡ true → Sound (run w cs).state
