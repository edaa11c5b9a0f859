-- The code: the routine of each of the eleven calls meets its contract. These are the checker's theorems of the functions, cited by name.
use Rattle.espi.proofs.espi_start.Met as Start
use Rattle.espi.proofs.espi_reset.Met as EspiReset
use Rattle.espi.proofs.espi_platform_reset.Met as PlatformReset
use Rattle.espi.proofs.espi_exchange.Met as Exchange
use Rattle.espi.proofs.espi_look.Met as Look
use Rattle.espi.proofs.espi_answer.Met as Answer
use Rattle.espi.proofs.espi_take_write.Met as TakeWrite
use Rattle.espi.proofs.espi_set_wire.Met as SetWire
use Rattle.espi.proofs.espi_read_wire.Met as ReadWire
use Rattle.espi.proofs.espi_set_line.Met as SetLine
use Rattle.espi.proofs.espi_pulse_line.Met as PulseLine
use Rattle.code.specs.Met.{CodeMeets}

pub code_meets : {M : Type 1} → CodeMeets M
code_meets =
    record {
      start = Start.met;
      espi_reset = EspiReset.met;
      platform_reset = PlatformReset.met;
      exchange = Exchange.met;
      look = Look.met;
      answer = Answer.met;
      take_write = TakeWrite.met;
      set_wire = SetWire.met;
      read_wire = ReadWire.met;
      set_line = SetLine.met;
      pulse_line = PulseLine.met;
    }
