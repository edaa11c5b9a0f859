-- The code of each of the eleven calls meets its contract: `statement` is the checker's own, that the function's routine, run on anything that its types
-- allow, ends and gives what its `ensures` says; `Contracts` of promises says what that is in bytes.
use Rattle.espi.proofs.espi_start.Statement as Start
use Rattle.espi.proofs.espi_reset.Statement as EspiReset
use Rattle.espi.proofs.espi_platform_reset.Statement as PlatformReset
use Rattle.espi.proofs.espi_exchange.Statement as Exchange
use Rattle.espi.proofs.espi_look.Statement as Look
use Rattle.espi.proofs.espi_answer.Statement as Answer
use Rattle.espi.proofs.espi_take_write.Statement as TakeWrite
use Rattle.espi.proofs.espi_set_wire.Statement as SetWire
use Rattle.espi.proofs.espi_read_wire.Statement as ReadWire
use Rattle.espi.proofs.espi_set_line.Statement as SetLine
use Rattle.espi.proofs.espi_pulse_line.Statement as PulseLine

-- "Any bytes on the bus, any board call, any state handed in: the engine ends and does nothing undefined" (00, demand 1); "None may lack a contract on its
-- outcome" (01, What each contract must settle)
pub record CodeMeets (M : Type 1) : Type 2 where
  pub start : Start.statement M
  pub espi_reset : EspiReset.statement M
  pub platform_reset : PlatformReset.statement M
  pub exchange : Exchange.statement M
  pub look : Look.statement M
  pub answer : Answer.statement M
  pub take_write : TakeWrite.statement M
  pub set_wire : SetWire.statement M
  pub read_wire : ReadWire.statement M
  pub set_line : SetLine.statement M
  pub pulse_line : PulseLine.statement M
