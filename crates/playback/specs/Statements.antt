-- What is claimed of play: the lines joined are the text's definition, for every file. Proved in Proofs.
use Rattle.std.specs.Prelude.{ℕ, zero, suc, ◌≤◌, List, [], ◌∷◌, ◌++◌, ◌≡◌, length, take}
use Rattle.base.specs.AllBytes.{AllBytes}
use Rattle.state.specs.Layout.{state_length}
use Rattle.rules.specs.Rules.Step.{reply_length, write_length, read_length}
use Rattle.promises.specs.ByteRuns.{ByteWorld}
use Rattle.housefile.specs.Format.{bad, read}
use Rattle.playback.specs.Lines.{bad_line}
use Rattle.playback.specs.Play.{zeros, bytes, text_of, play_entry, begin_on}
use Rattle.playback.specs.declared.Place.{Place}

-- what a program says that plays n entries from a place on, each with the bytes that the last one left, and writes each line (02, Q-2: "one line per entry")
unfoldable pub said_from : ℕ → (file : List ℕ) → Place → ByteWorld → (reply line : List ℕ) → List ℕ
said_from zero file p v reply line = []
said_from (suc n) file p v reply line =
    let x = play_entry file p v.state reply v.write v.read line in
    take x.said.size x.line ++ said_from n file x.said.next (bytes x.state x.write x.read) x.reply x.line

-- .. and one that begins, on any bytes for the state and the reply, with stores of its own (02, Q-2: "Play begins from start"; docs/DECISIONS.md, 59)
unfoldable pub said : (file state reply line : List ℕ) → List ℕ
said file state reply line =
    let b = begin_on file state line in
    take b.said.size b.line
    ++ said_from b.said.next.left file b.said.next (bytes b.state (zeros write_length) (zeros read_length)) reply b.line

-- a bad file: no entry is to come, the state is as it was ("refused before the first entry runs"), and "the only line is "bad capture"" (02, Q-2)
pub record Untouched (file state line : List ℕ) : Type 0 where
  pub none : (begin_on file state line).said.next.left ≡ 0
  pub stays : (begin_on file state line).state ≡ state
  pub only : take (begin_on file state line).said.size (begin_on file state line).line ≡ bad_line

-- "one line per entry", or "the only line is "bad capture"" (02, Q-2); "The file 01 00 00 02 00 25 FB prints one line, "1 0 0807003A""
pub record Told : Type 0 where
  pub text : (file state reply line : List ℕ) → AllBytes file → state_length ≤ length state → reply_length ≤ length reply
      → said file state reply line ≡ text_of (read file)
  pub refused : (file state line : List ℕ) → read file ≡ bad → Untouched file state line
  pub example : text_of (read (0x01 ∷ 0x00 ∷ 0x00 ∷ 0x02 ∷ 0x00 ∷ 0x25 ∷ 0xFB ∷ []))
      ≡ 0x31 ∷ 0x20 ∷ 0x30 ∷ 0x20 ∷ 0x30 ∷ 0x38 ∷ 0x30 ∷ 0x37 ∷ 0x30 ∷ 0x30 ∷ 0x33 ∷ 0x41 ∷ 0x0A ∷ []
