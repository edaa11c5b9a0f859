-- P23: the starred table, by computing. With Packets the one file that unfolds every definition.
use Rattle.std.specs.Prelude.{ℕ, zero, suc, List, [], ◌∷◌, refl, take, drop}
use Rattle.base.specs.Bytes.{over}
use Rattle.crc.specs.Crc.{crc, crc_from, crc_byte, shifts, crc_bit}
use Rattle.registers.specs.Registers.{size_of}
use Rattle.wires.specs.Turn.{after, turn, sizes}
use Rattle.wires.specs.Below.{any}
use Rattle.wires.specs.Groups.{put_pairs}
use Rattle.wires.specs.Lines.{with_bit, any_bit, set_line, pulse_line}
use Rattle.wires.specs.Senders.{sent_from, after_sent, pair_bytes, any_pending}
use Rattle.wires.specs.Transitions.{values_given, transitions, third_transition}
use Rattle.pieces.specs.Marks.{mark_of}
use Rattle.pieces.specs.Pieces.{next_size, next_mark}
use Rattle.command.specs.Needs.{all_ff}
use Rattle.command.specs.Decode.{admit}
use Rattle.peripheral.specs.Upward.{upward, handed}
use Rattle.state.specs.Status.{status}
use Rattle.rules.specs.Rules.Peripheral as P
use Rattle.rules.specs.Rules.Wires as W
use Rattle.rules.specs.Rules.Lift.{lift}
use Rattle.rules.specs.Rules.Exchange as E
use Rattle.rules.specs.Rules.Reply.{closed, reply_bytes}
use Rattle.rules.specs.Rules.Step.{performed, served, step, run}
use Rattle.rules.specs.Statements.Vectors.{Row, rows, Holds}
use Rattle.rules.proofs.Proofs.Packets.{from_6, from_38}

-- a fact, and those after it: a row's number, its reply, the next row's
infixr 20 ◌and◌
◌and◌ : {A B : Type 0} → A → B → A × B
a and b = (a, b)

-- the first rows of a table, and the rest
joined : (n : ℕ) (l : List Row) → Holds (take n l) → Holds (drop n l) → Holds l
joined zero l a b = b
joined (suc n) [] a b = a
joined (suc n) (r ∷ rs) a b = (a.0, (a.1.0, joined n rs a.1.1 b))

-- ---- rows by computing; those of GET_VWIRE: Proofs/Packets

from_0 : Holds (take 6 (drop 0 rows))
unfolding rows step run performed served over crc crc_from crc_byte shifts crc_bit size_of after turn sizes put_pairs any with_bit any_bit set_line
    pulse_line sent_from
    after_sent pair_bytes any_pending values_given transitions third_transition mark_of next_size next_mark all_ff admit upward handed status lift
    P.post P.ask P.get_pc
    P.answer_to P.taken P.settle W.put_vwire W.get_vwire W.setting W.setting_line W.pulsing_line W.settle E.set_configuration E.decide E.exchange
    closed reply_bytes
from_0 = refl and refl and refl and refl and refl and refl and refl and refl and refl and refl and refl and refl and tt

from_7 : Holds (take 8 (drop 7 rows))
unfolding rows step run performed served over crc crc_from crc_byte shifts crc_bit size_of after turn sizes put_pairs any with_bit any_bit set_line
    pulse_line sent_from
    after_sent pair_bytes any_pending values_given transitions third_transition mark_of next_size next_mark all_ff admit upward handed status lift
    P.post P.ask P.get_pc
    P.answer_to P.taken P.settle W.put_vwire W.get_vwire W.setting W.setting_line W.pulsing_line W.settle E.set_configuration E.decide E.exchange
    closed reply_bytes
from_7 = refl and refl and refl and refl and refl and refl and refl and refl and refl and refl and refl and refl and refl and refl and refl and refl and tt

from_15 : Holds (take 8 (drop 15 rows))
unfolding rows step run performed served over crc crc_from crc_byte shifts crc_bit size_of after turn sizes put_pairs any with_bit any_bit set_line
    pulse_line sent_from
    after_sent pair_bytes any_pending values_given transitions third_transition mark_of next_size next_mark all_ff admit upward handed status lift
    P.post P.ask P.get_pc
    P.answer_to P.taken P.settle W.put_vwire W.get_vwire W.setting W.setting_line W.pulsing_line W.settle E.set_configuration E.decide E.exchange
    closed reply_bytes
from_15 = refl and refl and refl and refl and refl and refl and refl and refl and refl and refl and refl and refl and refl and refl and refl and refl and tt

from_23 : Holds (take 8 (drop 23 rows))
unfolding rows step run performed served over crc crc_from crc_byte shifts crc_bit size_of after turn sizes put_pairs any with_bit any_bit set_line
    pulse_line sent_from
    after_sent pair_bytes any_pending values_given transitions third_transition mark_of next_size next_mark all_ff admit upward handed status lift
    P.post P.ask P.get_pc
    P.answer_to P.taken P.settle W.put_vwire W.get_vwire W.setting W.setting_line W.pulsing_line W.settle E.set_configuration E.decide E.exchange
    closed reply_bytes
from_23 = refl and refl and refl and refl and refl and refl and refl and refl and refl and refl and refl and refl and refl and refl and refl and refl and tt

from_31 : Holds (take 7 (drop 31 rows))
unfolding rows step run performed served over crc crc_from crc_byte shifts crc_bit size_of after turn sizes put_pairs any with_bit any_bit set_line
    pulse_line sent_from
    after_sent pair_bytes any_pending values_given transitions third_transition mark_of next_size next_mark all_ff admit upward handed status lift
    P.post P.ask P.get_pc
    P.answer_to P.taken P.settle W.put_vwire W.get_vwire W.setting W.setting_line W.pulsing_line W.settle E.set_configuration E.decide E.exchange
    closed reply_bytes
from_31 = refl and refl and refl and refl and refl and refl and refl and refl and refl and refl and refl and refl and refl and refl and tt

pub rows_hold : Holds rows
unfolding rows
rows_hold =
    joined 6 (drop 0 rows) from_0
    (joined 1 (drop 6 rows) from_6
    (joined 8 (drop 7 rows) from_7
    (joined 8 (drop 15 rows) from_15
    (joined 8 (drop 23 rows) from_23
    (joined 7 (drop 31 rows) from_31
    (joined 3 (drop 38 rows) from_38 (tt)))))))
