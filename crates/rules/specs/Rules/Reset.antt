-- What resets every channel (01, Requests, answers, pieces; Wires): a start and the two resets.

-- the board side's "start, eSPI reset, platform reset" (01, What the engine covers)
pub data Reset : Type 0 where
  start espi_reset platform_reset : Reset
