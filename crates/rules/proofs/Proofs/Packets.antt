-- P23, the rows of GET_VWIRE: a packet is not computed going round all senders. Those that do not wait are passed over by a law, and once it is full no more
-- are asked.
use Rattle.std.specs.Prelude.{ℕ, zero, suc, ◌+◌, ◌-◌, ◌<◌, Bool, true, false, not, ◌≡◌, leb, take, drop, replicate, set}
use mathlib.Core.List.{List, [], ◌∷◌}
use Rattle.std.proofs.Math.Path.{refl, ap}
use Rattle.std.proofs.Common.{◌∙◌, arith, lt-ltb}
use Rattle.std.proofs.lemmas.Bool.{not-true}
use Rattle.base.specs.Pick.{pick}
use Rattle.base.specs.Bytes.{over}
use Rattle.crc.specs.Crc.{crc, crc_from, crc_byte, shifts, crc_bit}
use Rattle.registers.specs.Registers.{fresh_config, write_at}
use Rattle.wires.specs.Below.{any, at_every}
use Rattle.wires.specs.Turn.{after, turn, sizes}
use Rattle.wires.specs.Lines.{no_bits_value, with_bit, any_bit, set_line, pulse_line}
use Rattle.wires.specs.Senders as A
use Rattle.wires.specs.Senders.{AllWires, sent_from, after_sent, entries, pair_bytes, sender_size, waiting, any_pending}
use Rattle.wires.specs.Round.{turn_full}
use Rattle.wires.specs.Sent.{size-some, sent_none}
use Rattle.command.specs.Needs.{all_ff}
use Rattle.command.specs.Decode.{admit}
use Rattle.command.specs.declared.Command.TheVariants as C
use Rattle.command.specs.declared.WiresCommand.TheVariants.{GetVwire}
use Rattle.peripheral.specs.Upward.{upward}
use Rattle.state.specs.Fresh.{fresh_state}
use Rattle.state.specs.Status.{status}
use Rattle.rules.specs.Rules.Wires as W
use Rattle.rules.specs.Rules.Channel.{wires}
use Rattle.rules.specs.Rules.Lift.{lift}
use Rattle.rules.specs.Rules.Exchange as E
use Rattle.rules.specs.Rules.Reply.{closed, reply_bytes}
use Rattle.rules.specs.Rules.Step.{World, Outcome, performed, served, step, run}
use Rattle.rules.specs.Statements.Plans.{Admits}
use Rattle.rules.specs.Statements.WireEvents.{count_of}
use Rattle.rules.specs.Statements.Vectors.{on1, send, set_wire, three_wait, get_vwire, fresh, rows, Holds}
use Rattle.rules.proofs.Proofs.Cases.{exchange_long}
use Rattle.rules.proofs.Proofs.Plans.{plan_admitted}

-- ---- going round

-- one sender asked
turn_next : (size : ℕ → ℕ) (waits : ℕ → Bool) (n left room i : ℕ)
    → turn size waits n (suc left) room i
    ≡ pick (waits i) (pick (leb (size i) room) (i ∷ turn size waits n left (room - size i) (after n i)) []) (turn size waits n left room (after n i))
unfolding turn
turn_next size waits n left room i = refl

-- j that do not wait passed over
turn_skips : (size : ℕ → ℕ) (waits : ℕ → Bool) (n left room j i : ℕ) → i + j < n → ((k : ℕ) → k < j → waits (i + k) ≡ false)
    → turn size waits n (j + left) room i ≡ turn size waits n left room (i + j)
unfolding after
turn_skips size waits n left room zero i h f =
    let a : 0 + left ≡ left = omega arith in
    let b : i + 0 ≡ i = omega arith in
    rw (a, b)
turn_skips size waits n left room (suc j) i h f =
    let a : suc j + left ≡ suc (j + left) = omega arith in
    let b : i + suc j ≡ suc i + j = omega arith in
    let z : i + 0 ≡ i = omega arith in
    let off : waits i ≡ false = ap waits (omega arith) ∙ f 0 (omega arith) in
    let taken = pick (leb (size i) room) (i ∷ turn size waits n (j + left) (room - size i) (after n i)) [] in
    ap (λ (x : ℕ). turn size waits n x room i) a ∙ turn_next size waits n (j + left) room i
    ∙ ap (λ (t : Bool). pick t taken (turn size waits n (j + left) room (after n i))) off
    ∙ ap (λ (t : Bool). turn size waits n (j + left) room (pick t (suc i) 0)) (lt-ltb (suc i) n (omega arith))
    ∙ turn_skips size waits n left room j (suc i) (omega arith) (λ k l. ap waits (omega arith) ∙ f (suc k) (omega arith))
    ∙ ap (turn size waits n left room) (omega arith)

-- ---- a world with channel 1's register written, and these wires

abbrev world : ℕ → AllWires → World
world v w =
    record {
      state = record { config = write_at fresh_config 0x020 v; peripheral = fresh_state.peripheral; wires = w };
      write = replicate 256 0;
      read = replicate 4096 0;
    }

-- a GET_VWIRE there
module _ (v : ℕ) (w : AllWires) (is : Admits (world v w).state get_vwire (C.Wires GetVwire)) where
  abbrev at : World
  at = world v w

  got-is : (l : List ℕ) → A.sent w (count_of at) ≡ l → step at (send get_vwire) ≡ performed at get_vwire (lift wires at.state (W.sent_out w (count_of at) l))
  unfolding W.get_vwire
  got-is l e =
      exchange_long at get_vwire (replicate 263 0) refl ∙ ap (performed at get_vwire) (plan_admitted wires at.state get_vwire GetVwire is)
      ∙ ap (λ (x : List ℕ). performed at get_vwire (lift wires at.state (W.sent_out w (count_of at) x))) e

  module _ (k : ℕ) (ks : List ℕ) (e : A.sent w (count_of at) ≡ k ∷ ks) where
    got_number : (step at (send get_vwire)).number ≡ 0
    unfolding performed lift
    got_number = ap (λ (o : Outcome). o.number) (got-is (k ∷ ks) e)

    got_reply : (step at (send get_vwire)).reply
        ≡ closed (0x08 ∷ (entries w (k ∷ ks) - 1) ∷ pair_bytes w (k ∷ ks)) (status (world v (after_sent w (k ∷ ks))).state)
    unfolding performed lift reply_bytes
    got_reply =
        ap (λ (o : Outcome). o.reply) (got-is (k ∷ ks) e)
        ∙ ap (λ (l : List ℕ). closed (0x08 ∷ (entries w l - 1) ∷ pair_bytes w l) (status (world v (after_sent w (k ∷ ks))).state)) e

    got_next : (step at (send get_vwire)).next ≡ world v (after_sent w (k ∷ ks))
    unfolding performed lift over
    got_next = ap (λ (o : Outcome). o.next) (got-is (k ∷ ks) e)

  module _ (e : A.sent w (count_of at) ≡ []) where
    none_number : (step at (send get_vwire)).number ≡ 1
    unfolding performed lift
    none_number = ap (λ (o : Outcome). o.number) (got-is [] e)

    none_reply : (step at (send get_vwire)).reply ≡ closed (0x03 ∷ []) (status at.state)
    unfolding performed lift reply_bytes
    none_reply = ap (λ (o : Outcome). o.reply) (got-is [] e)

-- ---- SCI# set to 0: group 6 alone, at an operating count of 1

abbrev sci : AllWires
sci =
    record {
      groups =
          record {
            level = 0x0 ∷ 0x0 ∷ 0xC ∷ 0x0 ∷ 0x6 ∷ 0x6 ∷ [];
            pending = false ∷ false ∷ false ∷ false ∷ true ∷ false ∷ [];
            place = 256;
          };
      lines = record { level = no_bits_value; waits = no_bits_value; edges = no_bits_value };
    }

sci-world : run fresh (send on1 ∷ set_wire 6 0 0 ∷ []) ≡ world 0x00000001 sci
unfolding step run performed served over crc crc_from crc_byte shifts crc_bit after with_bit any_bit set_line pulse_line admit all_ff status
    any_pending any lift
    W.setting W.setting_line W.pulsing_line W.settle E.set_configuration E.decide E.exchange closed reply_bytes
sci-world = refl

sci_admits : Admits (world 0x00000001 sci).state get_vwire (C.Wires GetVwire)
unfolding admit all_ff crc crc_from crc_byte shifts crc_bit
sci_admits = refl

sci-sent : A.sent sci 1 ≡ 258 ∷ []
unfolding sent_from after
sci-sent =
    let size = sender_size sci in
    let waits = waiting sci in
    turn_next size waits 259 258 1 256 ∙ turn_next size waits 259 257 1 257 ∙ turn_next size waits 259 256 1 258
    ∙ ap (λ (l : List ℕ). 258 ∷ l) (turn_full size waits 259 256 0 (size-some sci))

sci-bytes : closed (0x08 ∷ (entries sci (258 ∷ []) - 1) ∷ pair_bytes sci (258 ∷ [])) (status (world 0x00000001 (after_sent sci (258 ∷ []))).state)
    ≡ 0x08 ∷ 0x00 ∷ 0x06 ∷ 0xF6 ∷ 0x07 ∷ 0x00 ∷ 0x41 ∷ []
unfolding closed crc crc_from crc_byte shifts crc_bit status upward any_pending any sizes pair_bytes after_sent after with_bit
sci-bytes = refl

pub from_6 : Holds (take 1 (drop 6 rows))
unfolding rows
from_6 = (
  ap (λ (x : World). (step x (send get_vwire)).number) sci-world ∙ got_number 0x00000001 sci sci_admits 258 [] sci-sent,
  (ap (λ (x : World). (step x (send get_vwire)).reply) sci-world ∙ got_reply 0x00000001 sci sci_admits 258 [] sci-sent ∙ sci-bytes, tt),
)

-- ---- line 1 raised, an edge of line 130, bit 0 of group 5 set, at an operating count of 2 (02, Q-4)

-- the wires before, between and after: which waits, which edges, group 5's mark, the place
abbrev three : (waits edges : List ℕ) → Bool → ℕ → AllWires
three waits edges five place =
    record {
      groups =
          record {
            level = 0x0 ∷ 0x0 ∷ 0xC ∷ 0x1 ∷ 0x7 ∷ 0x6 ∷ [];
            pending = false ∷ false ∷ false ∷ five ∷ false ∷ false ∷ [];
            place = place;
          };
      lines = record { level = set no_bits_value 0 0x02; waits = waits; edges = edges };
    }

abbrev wires₁ : AllWires
wires₁ = three (set (set no_bits_value 0 0x02) 16 0x04) (set no_bits_value 16 0x04) true 256

abbrev wires₂ : AllWires
wires₂ = three (set no_bits_value 16 0x04) (set no_bits_value 16 0x04) false 2

abbrev wires₃ : AllWires
wires₃ = three no_bits_value no_bits_value false 131

admits : (w : AllWires) → Admits (world 0x00010001 w).state get_vwire (C.Wires GetVwire)
unfolding admit all_ff crc crc_from crc_byte shifts crc_bit
admits w = refl

-- group 5, and line 1 behind it
sent₁ : A.sent wires₁ 2 ≡ 257 ∷ 1 ∷ []
unfolding sent_from after
sent₁ =
    let size = sender_size wires₁ in
    let waits = waiting wires₁ in
    turn_next size waits 259 258 2 256 ∙ turn_next size waits 259 257 2 257
    ∙ ap (λ (l : List ℕ). 257 ∷ l)
    (turn_next size waits 259 256 1 258 ∙ turn_next size waits 259 255 1 0 ∙ turn_next size waits 259 254 1 1
    ∙ ap (λ (l : List ℕ). 1 ∷ l) (turn_full size waits 259 254 2 (size-some wires₁)))

-- the edge of line 130
sent₂ : A.sent wires₂ 2 ≡ 130 ∷ []
unfolding sent_from after
sent₂ =
    let size = sender_size wires₂ in
    let waits = waiting wires₂ in
    turn_skips size waits 259 131 2 128 2 (omega arith) (λ k l. not-true _ (at_every 128 (λ (x : ℕ). not (waits (2 + x))) refl k l))
    ∙ turn_next size waits 259 130 2 130 ∙ ap (λ (l : List ℕ). 130 ∷ l) (turn_full size waits 259 130 131 (size-some wires₂))

quiet₃ : any_pending wires₃ ≡ false
unfolding any_pending any
quiet₃ = refl

sent₃ : A.sent wires₃ 2 ≡ []
sent₃ = sent_none wires₃ 2 (omega arith) quiet₃

left₁ : after_sent wires₁ (257 ∷ 1 ∷ []) ≡ wires₂
unfolding after_sent after with_bit
left₁ = refl

left₂ : after_sent wires₂ (130 ∷ []) ≡ wires₃
unfolding after_sent after with_bit
left₂ = refl

world₁ : run fresh (three_wait []) ≡ world 0x00010001 wires₁
unfolding step run performed served over crc crc_from crc_byte shifts crc_bit after with_bit any_bit set_line pulse_line admit all_ff status
    any_pending any lift
    W.setting W.setting_line W.pulsing_line W.settle E.set_configuration E.decide E.exchange closed reply_bytes
world₁ = refl

world₂ : run fresh (three_wait (send get_vwire ∷ [])) ≡ world 0x00010001 wires₂
unfolding run
world₂ =
    ap (λ (x : World). (step x (send get_vwire)).next) world₁ ∙ got_next 0x00010001 wires₁ (admits wires₁) 257 (1 ∷ []) sent₁ ∙ ap (world 0x00010001) left₁

world₃ : run fresh (three_wait (send get_vwire ∷ send get_vwire ∷ [])) ≡ world 0x00010001 wires₃
unfolding run
world₃ =
    ap (λ (x : World). (step x (send get_vwire)).next) world₂ ∙ got_next 0x00010001 wires₂ (admits wires₂) 130 [] sent₂ ∙ ap (world 0x00010001) left₂

bytes₁ : closed (0x08 ∷ (entries wires₁ (257 ∷ 1 ∷ []) - 1) ∷ pair_bytes wires₁ (257 ∷ 1 ∷ [])) (status (world 0x00010001 wires₂).state)
    ≡ 0x08 ∷ 0x01 ∷ 0x05 ∷ 0xF1 ∷ 0x00 ∷ 0x81 ∷ 0x47 ∷ 0x00 ∷ 0xF1 ∷ []
unfolding closed crc crc_from crc_byte shifts crc_bit status upward any_pending any sizes pair_bytes
bytes₁ = refl

bytes₂ : closed (0x08 ∷ (entries wires₂ (130 ∷ []) - 1) ∷ pair_bytes wires₂ (130 ∷ [])) (status (world 0x00010001 wires₃).state)
    ≡ 0x08 ∷ 0x01 ∷ 0x01 ∷ 0x82 ∷ 0x01 ∷ 0x02 ∷ 0x07 ∷ 0x00 ∷ 0x96 ∷ []
unfolding closed crc crc_from crc_byte shifts crc_bit status upward any_pending any sizes pair_bytes
bytes₂ = refl

bytes₃ : closed (0x03 ∷ []) (status (world 0x00010001 wires₃).state) ≡ 0x03 ∷ 0x07 ∷ 0x00 ∷ 0xD6 ∷ []
unfolding closed crc crc_from crc_byte shifts crc_bit status upward any_pending any
bytes₃ = refl

-- a packet's reply, with the wires that it leaves named
reply_as : (w u : AllWires) (k : ℕ) (ks reply : List ℕ) → A.sent w 2 ≡ k ∷ ks → after_sent w (k ∷ ks) ≡ u
    → closed (0x08 ∷ (entries w (k ∷ ks) - 1) ∷ pair_bytes w (k ∷ ks)) (status (world 0x00010001 u).state) ≡ reply
    → (step (world 0x00010001 w) (send get_vwire)).reply ≡ reply
reply_as w u k ks reply e f g =
    got_reply 0x00010001 w (admits w) k ks e
    ∙ ap (λ (x : AllWires). closed (0x08 ∷ (entries w (k ∷ ks) - 1) ∷ pair_bytes w (k ∷ ks)) (status (world 0x00010001 x).state)) f ∙ g

pub from_38 : Holds (take 3 (drop 38 rows))
unfolding rows
from_38 = (
  ap (λ (x : World). (step x (send get_vwire)).number) world₁ ∙ got_number 0x00010001 wires₁ (admits wires₁) 257 (1 ∷ []) sent₁,
  (
    ap (λ (x : World). (step x (send get_vwire)).reply) world₁ ∙ reply_as wires₁ wires₂ 257 (1 ∷ []) _ sent₁ left₁ bytes₁,
    (
      ap (λ (x : World). (step x (send get_vwire)).number) world₂ ∙ got_number 0x00010001 wires₂ (admits wires₂) 130 [] sent₂,
      (
        ap (λ (x : World). (step x (send get_vwire)).reply) world₂ ∙ reply_as wires₂ wires₃ 130 [] _ sent₂ left₂ bytes₂,
        (
          ap (λ (x : World). (step x (send get_vwire)).number) world₃ ∙ none_number 0x00010001 wires₃ (admits wires₃) sent₃,
          (ap (λ (x : World). (step x (send get_vwire)).reply) world₃ ∙ none_reply 0x00010001 wires₃ (admits wires₃) sent₃ ∙ bytes₃, tt),
        ),
      ),
    ),
  ),
)
