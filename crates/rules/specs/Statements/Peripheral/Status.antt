-- Channel 0's bits of the status say what its next command gets.
use Rattle.std.specs.Prelude.{ℕ, true, false, List, ◌≡◌}
use Rattle.rules.specs.Rules.Channel.{peripheral}
use Rattle.rules.specs.Rules.Step.{World}
use Rattle.rules.specs.Statements.Fields.{is_posted, is_non_posted}
use Rattle.rules.specs.Statements.Sizes.{is_enabled}
use Rattle.rules.specs.Statements.Status.{status_bit, ShowsAvail, ShowsFree}

-- "0 PC_FREE (no write held), 1 NP_FREE (no request held), .. 4 PC_AVAIL (a completion is ready)" (01, Registers and status)
pub record Bits (w : World) (lent : List ℕ) : Type 0 where
  -- "4 PC_AVAIL (a completion is ready)", channel on or off
  pub pc_avail : ShowsAvail w lent 4 0x01
  -- "0 PC_FREE (no write held), 1 NP_FREE (no request held)", with channel 0 on
  pub pc_free : is_enabled peripheral w.state.config ≡ true → ShowsFree w lent 0 is_posted
  pub np_free : is_enabled peripheral w.state.config ≡ true → ShowsFree w lent 1 is_non_posted
  -- off: nothing is held
  pub off : is_enabled peripheral w.state.config ≡ false → (status_bit w 0 ≡ 1) × (status_bit w 1 ≡ 1)
