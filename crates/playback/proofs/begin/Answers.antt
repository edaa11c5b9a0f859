use Rattle.playback.specs.Playing.{begun_good}
use Rattle.playback.proofs.begin.Goals as goal

pub returns-in-Some : goal.returns-in-Some
returns-in-Some c = begun_good _ _ _ _ _ _ _ c.read.ensures c.in-Some.is c.espi_start.ensures
