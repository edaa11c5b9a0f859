-- `crc::crc_word` meets its contract: brought down to a byte.
use native.Mathlib.Omega.{arith}
use Rattle.crc.proofs.Steps.{fold32_lt, fold16_lt, word-step, word-step_lt}
use Rattle.crc.proofs.crc_word.Goals as goal

pub times-t-requires : goal.times-t-requires
times-t-requires c =
    ((omega arith, omega arith), (omega arith, omega (arith, fold16_lt (fold32_lt (omega arith) c.fold.ensures) c.fold-2.ensures)))

pub overflow_cast-result : goal.overflow_cast-result
overflow_cast-result c =
    record {
      fits =
          word-step_lt {w = c.args.w} (omega arith)
          c.fold.ensures c.fold-2.ensures
          c.times-t.ensures
          c.fold-3.ensures c.fold-4.ensures c.fold-5.ensures;
    }

pub returns : goal.returns
returns c =
    word-step {w = c.args.w} (omega arith)
    c.fold.ensures c.fold-2.ensures
    c.times-t.ensures
    c.fold-3.ensures c.fold-4.ensures c.fold-5.ensures
