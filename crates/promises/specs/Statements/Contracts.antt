-- P2, and the link to the code: the contracts of the eleven calls, named as the crate espi has them. `Post` of a function is its `ensures`
-- at the arguments a, the result r and what stands behind the arguments at exit, s. Two outcomes that it allows for the same arguments are the same
-- (01, What each contract must settle), and each is the outcome of the call over bytes, `byte_step_value`, of which Lifted and Promises speak.
use Rattle.std.specs.Prelude.{ℕ, List, ◌≡◌}
use contract.Lifetimes.{Lfts}
use borrow.Fn.World.{ArgsD, ResD}
use denote.Triple.Clauses.{AtExit}
use Rattle.rules.specs.Rules.Reset as R
use Rattle.rules.specs.Rules.Peripheral as P
use Rattle.rules.specs.Rules.Wires as W
use Rattle.rules.specs.Rules.Channel.{peripheral, wires}
use Rattle.rules.specs.Rules.Step as S
use Rattle.rules.specs.Rules.Calls.{done, exchanged, stored, looked}
use Rattle.espi.specs.contracts.espi_start
use Rattle.espi.proofs.espi_start.Reads as Start
use Rattle.espi.specs.contracts.espi_reset
use Rattle.espi.proofs.espi_reset.Reads as EspiReset
use Rattle.espi.specs.contracts.espi_platform_reset
use Rattle.espi.proofs.espi_platform_reset.Reads as PlatformReset
use Rattle.espi.specs.contracts.espi_exchange
use Rattle.espi.proofs.espi_exchange.Reads as Exchange
use Rattle.espi.specs.contracts.espi_look
use Rattle.espi.proofs.espi_look.Reads as Look
use Rattle.espi.specs.contracts.espi_answer
use Rattle.espi.proofs.espi_answer.Reads as Answer
use Rattle.espi.specs.contracts.espi_take_write
use Rattle.espi.proofs.espi_take_write.Reads as TakeWrite
use Rattle.espi.specs.contracts.espi_set_wire
use Rattle.espi.proofs.espi_set_wire.Reads as SetWire
use Rattle.espi.specs.contracts.espi_read_wire
use Rattle.espi.proofs.espi_read_wire.Reads as ReadWire
use Rattle.espi.specs.contracts.espi_set_line
use Rattle.espi.proofs.espi_set_line.Reads as SetLine
use Rattle.espi.specs.contracts.espi_pulse_line
use Rattle.espi.proofs.espi_pulse_line.Reads as PulseLine
use Rattle.promises.specs.ByteRuns.{ByteWorld, byte_step_value, after_state, after_exchange, after_look, after_answer, after_take, after_word}

-- the state bytes and the stores that a call is lent ("Stores lent to a call", "State bytes lent", 01, What the engine covers)
abbrev pub lending : (state write read : List ℕ) → ByteWorld
lending state write read = record { state = state; write = write; read = read }

-- ---- any two outcomes coincide: the word, and each byte of each slice that the call may write

-- "Prove that any pair of outcomes allowed by it coincide" (01, What each contract must settle)
pub record OneOutcome : Type 0 where
  pub start : (κs : Lfts 1) (a : ArgsD espi_start.signature κs) (r r' : ResD espi_start.signature κs) (s s' : AtExit espi_start.ended κs)
      → Start.Post κs a r s → Start.Post κs a r' s' → (r ≡ r') × (s.0.now ≡ s'.0.now)
  pub espi_reset : (κs : Lfts 1) (a : ArgsD espi_reset.signature κs) (r r' : ResD espi_reset.signature κs) (s s' : AtExit espi_reset.ended κs)
      → EspiReset.Post κs a r s → EspiReset.Post κs a r' s' → (r ≡ r') × (s.0.now ≡ s'.0.now)
  pub platform_reset : (κs : Lfts 1) (a : ArgsD espi_platform_reset.signature κs) (r r' : ResD espi_platform_reset.signature κs)
      (s s' : AtExit espi_platform_reset.ended κs)
      → PlatformReset.Post κs a r s → PlatformReset.Post κs a r' s' → (r ≡ r') × (s.0.now ≡ s'.0.now)
  pub exchange : (κs : Lfts 5) (a : ArgsD espi_exchange.signature κs) (r r' : ResD espi_exchange.signature κs) (s s' : AtExit espi_exchange.ended κs)
      → Exchange.Post κs a r s → Exchange.Post κs a r' s'
      → (r ≡ r') × (s.0.now ≡ s'.0.now) × (s.1.1.0.now ≡ s'.1.1.0.now) × (s.1.1.1.0.now ≡ s'.1.1.1.0.now)
  pub look : (κs : Lfts 2) (a : ArgsD espi_look.signature κs) (r r' : ResD espi_look.signature κs) (s s' : AtExit espi_look.ended κs)
      → Look.Post κs a r s → Look.Post κs a r' s' → (r ≡ r') × (s.1.0.now ≡ s'.1.0.now)
  pub answer : (κs : Lfts 3) (a : ArgsD espi_answer.signature κs) (r r' : ResD espi_answer.signature κs) (s s' : AtExit espi_answer.ended κs)
      → Answer.Post κs a r s → Answer.Post κs a r' s' → (r ≡ r') × (s.0.now ≡ s'.0.now) × (s.1.0.now ≡ s'.1.0.now)
  pub take_write : (κs : Lfts 3) (a : ArgsD espi_take_write.signature κs) (r r' : ResD espi_take_write.signature κs) (s s' : AtExit espi_take_write.ended κs)
      → TakeWrite.Post κs a r s → TakeWrite.Post κs a r' s' → (r ≡ r') × (s.0.now ≡ s'.0.now) × (s.1.1.0.now ≡ s'.1.1.0.now)
  pub set_wire : (κs : Lfts 1) (a : ArgsD espi_set_wire.signature κs) (r r' : ResD espi_set_wire.signature κs) (s s' : AtExit espi_set_wire.ended κs)
      → SetWire.Post κs a r s → SetWire.Post κs a r' s' → (r ≡ r') × (s.0.now ≡ s'.0.now)
  pub read_wire : (κs : Lfts 1) (a : ArgsD espi_read_wire.signature κs) (r r' : ResD espi_read_wire.signature κs) (s s' : AtExit espi_read_wire.ended κs)
      → ReadWire.Post κs a r s → ReadWire.Post κs a r' s' → r ≡ r'
  pub set_line : (κs : Lfts 1) (a : ArgsD espi_set_line.signature κs) (r r' : ResD espi_set_line.signature κs) (s s' : AtExit espi_set_line.ended κs)
      → SetLine.Post κs a r s → SetLine.Post κs a r' s' → (r ≡ r') × (s.0.now ≡ s'.0.now)
  pub pulse_line : (κs : Lfts 1) (a : ArgsD espi_pulse_line.signature κs) (r r' : ResD espi_pulse_line.signature κs) (s s' : AtExit espi_pulse_line.ended κs)
      → PulseLine.Post κs a r s → PulseLine.Post κs a r' s' → (r ≡ r') × (s.0.now ≡ s'.0.now)

-- ---- what a contract allows is the outcome of the call over bytes; stores that a call is not lent are any

-- "For every input, refusals too, the contract of a public function determines result, state and each byte of each lent store" (01, What each contract
-- must settle): those of `byte_step_value`
pub record AreByteSteps : Type 0 where
  pub start : (κs : Lfts 1) (a : ArgsD espi_start.signature κs) (r : ResD espi_start.signature κs) (s : AtExit espi_start.ended κs) (write read : List ℕ)
      → Start.Post κs a r s
      → let v = lending a.0.now write read in after_state v (done r s.0.now) ≡ byte_step_value v (S.reset R.start)
  pub espi_reset : (κs : Lfts 1) (a : ArgsD espi_reset.signature κs) (r : ResD espi_reset.signature κs) (s : AtExit espi_reset.ended κs) (write read : List ℕ)
      → EspiReset.Post κs a r s
      → let v = lending a.0.now write read in after_state v (done r s.0.now) ≡ byte_step_value v (S.reset R.espi_reset)
  pub platform_reset : (κs : Lfts 1) (a : ArgsD espi_platform_reset.signature κs) (r : ResD espi_platform_reset.signature κs)
      (s : AtExit espi_platform_reset.ended κs) (write read : List ℕ) → PlatformReset.Post κs a r s
      → let v = lending a.0.now write read in after_state v (done r s.0.now) ≡ byte_step_value v (S.reset R.platform_reset)
  pub exchange : (κs : Lfts 5) (a : ArgsD espi_exchange.signature κs) (r : ResD espi_exchange.signature κs) (s : AtExit espi_exchange.ended κs)
      → Exchange.Post κs a r s
      → let v = lending a.0.now a.1.1.1.0.now a.1.1.1.1.0.now in
      after_exchange v (exchanged r s.0.now s.1.1.0.now s.1.1.1.0.now) ≡ byte_step_value v (S.exchange a.1.0.now a.1.1.0.now)
  pub look : (κs : Lfts 2) (a : ArgsD espi_look.signature κs) (r : ResD espi_look.signature κs) (s : AtExit espi_look.ended κs) (write read : List ℕ)
      → Look.Post κs a r s
      → let v = lending a.0.now write read in after_look v (looked r s.1.0.now) ≡ byte_step_value v (S.board peripheral (P.look a.1.0.now))
  pub answer : (κs : Lfts 3) (a : ArgsD espi_answer.signature κs) (r : ResD espi_answer.signature κs) (s : AtExit espi_answer.ended κs) (write : List ℕ)
      → Answer.Post κs a r s
      → let v = lending a.0.now write a.1.0.now in
      after_answer v (stored r s.0.now s.1.0.now) ≡ byte_step_value v (S.board peripheral (P.answer a.1.1.0 a.1.1.1.0 a.1.1.1.1.0.now))
  pub take_write : (κs : Lfts 3) (a : ArgsD espi_take_write.signature κs) (r : ResD espi_take_write.signature κs) (s : AtExit espi_take_write.ended κs)
      (read : List ℕ) → TakeWrite.Post κs a r s
      → let v = lending a.0.now a.1.0.now read in
      after_take v (stored r s.0.now s.1.1.0.now) ≡ byte_step_value v (S.board peripheral (P.take_write a.1.1.0.now))
  pub set_wire : (κs : Lfts 1) (a : ArgsD espi_set_wire.signature κs) (r : ResD espi_set_wire.signature κs) (s : AtExit espi_set_wire.ended κs)
      (write read : List ℕ) → SetWire.Post κs a r s
      → let v = lending a.0.now write read in
      after_state v (done r s.0.now) ≡ byte_step_value v (S.board wires (W.set_wire a.1.0 a.1.1.0 a.1.1.1.0))
  pub read_wire : (κs : Lfts 1) (a : ArgsD espi_read_wire.signature κs) (r : ResD espi_read_wire.signature κs) (s : AtExit espi_read_wire.ended κs)
      (write read : List ℕ) → ReadWire.Post κs a r s
      → let v = lending a.0.now write read in after_word v r ≡ byte_step_value v (S.board wires (W.read_wire a.1.0 a.1.1.0))
  pub set_line : (κs : Lfts 1) (a : ArgsD espi_set_line.signature κs) (r : ResD espi_set_line.signature κs) (s : AtExit espi_set_line.ended κs)
      (write read : List ℕ) → SetLine.Post κs a r s
      → let v = lending a.0.now write read in after_state v (done r s.0.now) ≡ byte_step_value v (S.board wires (W.set_line a.1.0 a.1.1.0))
  pub pulse_line : (κs : Lfts 1) (a : ArgsD espi_pulse_line.signature κs) (r : ResD espi_pulse_line.signature κs) (s : AtExit espi_pulse_line.ended κs)
      (write read : List ℕ) → PulseLine.Post κs a r s
      → let v = lending a.0.now write read in after_state v (done r s.0.now) ≡ byte_step_value v (S.board wires (W.pulse_line a.1.0))
