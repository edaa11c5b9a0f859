-- A call's word has the number of its rows: a board call's by its channel.
use Rattle.std.specs.Prelude.{ℕ, ◌%◌, true, List, ◌≡◌}
use Rattle.std.proofs.Common.{arith}
use Rattle.registers.specs.declared.Config.{Config}
use Rattle.state.specs.Layout.{unpacked}
use Rattle.rules.specs.Rules.Channel.{Channel, peripheral, wires, Part, Board, part, out_of, settle}
use Rattle.rules.specs.Rules.Calls.{word}
use Rattle.rules.specs.Statements.Rows.{Row, first_of}
use Rattle.rules.specs.Statements.FirstApplies.{board_rows}
use Rattle.rules.proofs.Proofs.Rows.{numbered, first_small}
use Rattle.rules.proofs.Proofs.Cases.{settled}
use Rattle.rules.proofs.Proofs.Peripheral.Rows as P
use Rattle.rules.proofs.Proofs.Wires.Rows as W

-- the number stands in the word's bits 7:0
module _ (n : ℕ) (rows : List Row) (h : numbered rows ≡ true) (e : n ≡ first_of rows) where
  pub as_word : n % 256 ≡ first_of rows
  as_word = omega (arith, first_small rows h)

  pub in_word : (v : ℕ) → word n v % 256 ≡ first_of rows
  in_word v = omega (arith, first_small rows h)

-- ---- the board's calls: a channel's number is that of its rows

pub settle-number : (k : Channel) (c : Config) (p : Part k) (o : Board k) → (out_of k (settle k c p o)).number ≡ first_of (board_rows k c p o)
settle-number peripheral c p o = P.settle-number p (settled peripheral c p o)
settle-number wires c p o = W.settle-number c p (settled wires c p o)

module _ (st : List ℕ) where
  abbrev c : Config
  c = (unpacked st).config

  pub own : (k : Channel) (o : Board k) → numbered (board_rows k c (part k (unpacked st)) o) ≡ true
      → (out_of k (settle k c (part k (unpacked st)) o)).number % 256 ≡ first_of (board_rows k c (part k (unpacked st)) o)
  own k o h = as_word _ (board_rows k c (part k (unpacked st)) o) h (settle-number k c (part k (unpacked st)) o)
