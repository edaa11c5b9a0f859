-- The code of each function that C links meets its contract, as `CodeMeets` of code says of the calls that they pass on.
use Rattle.espi_c.proofs.espi_start.Statement as Start
use Rattle.espi_c.proofs.espi_reset.Statement as EspiReset
use Rattle.espi_c.proofs.espi_platform_reset.Statement as PlatformReset
use Rattle.espi_c.proofs.espi_exchange.Statement as Exchange
use Rattle.espi_c.proofs.espi_look.Statement as Look
use Rattle.espi_c.proofs.espi_answer.Statement as Answer
use Rattle.espi_c.proofs.espi_take_write.Statement as TakeWrite
use Rattle.espi_c.proofs.espi_set_wire.Statement as SetWire
use Rattle.espi_c.proofs.espi_read_wire.Statement as ReadWire
use Rattle.espi_c.proofs.espi_set_line.Statement as SetLine
use Rattle.espi_c.proofs.espi_pulse_line.Statement as PulseLine
use Rattle.espi_c.proofs.espi_start.Met as StartMet
use Rattle.espi_c.proofs.espi_reset.Met as EspiResetMet
use Rattle.espi_c.proofs.espi_platform_reset.Met as PlatformResetMet
use Rattle.espi_c.proofs.espi_exchange.Met as ExchangeMet
use Rattle.espi_c.proofs.espi_look.Met as LookMet
use Rattle.espi_c.proofs.espi_answer.Met as AnswerMet
use Rattle.espi_c.proofs.espi_take_write.Met as TakeWriteMet
use Rattle.espi_c.proofs.espi_set_wire.Met as SetWireMet
use Rattle.espi_c.proofs.espi_read_wire.Met as ReadWireMet
use Rattle.espi_c.proofs.espi_set_line.Met as SetLineMet
use Rattle.espi_c.proofs.espi_pulse_line.Met as PulseLineMet

-- "Any bytes on the bus, any board call, any state handed in: the engine ends and does nothing undefined" (00, demand 1); "None may lack a contract on its
-- outcome" (01, What each contract must settle)
pub record ExportsMeet (M : Type 1) : Type 2 where
  pub start : Start.statement M
  pub espi_reset : EspiReset.statement M
  pub platform_reset : PlatformReset.statement M
  pub exchange : Exchange.statement M
  pub look : Look.statement M
  pub answer : Answer.statement M
  pub take_write : TakeWrite.statement M
  pub set_wire : SetWire.statement M
  pub read_wire : ReadWire.statement M
  pub set_line : SetLine.statement M
  pub pulse_line : PulseLine.statement M

pub exports_meet : {M : Type 1} → ExportsMeet M
exports_meet =
    record {
      start = StartMet.met;
      espi_reset = EspiResetMet.met;
      platform_reset = PlatformResetMet.met;
      exchange = ExchangeMet.met;
      look = LookMet.met;
      answer = AnswerMet.met;
      take_write = TakeWriteMet.met;
      set_wire = SetWireMet.met;
      read_wire = ReadWireMet.met;
      set_line = SetLineMet.met;
      pulse_line = PulseLineMet.met;
    }
