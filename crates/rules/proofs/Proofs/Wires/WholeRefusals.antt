-- P5 of the exported calls of channel 1.
use Rattle.std.specs.Prelude.{ℕ, Bool, true, false, not, List, ◌≢◌, ◌≡◌, refl, ltb, length}
use Rattle.base.specs.Pick.{pick, pick_ind}
use Rattle.wires.specs.Groups.{defined_bit, read_wire as read_wire_of}
use Rattle.state.specs.Layout.{state_length, unpacked, holds}
use Rattle.rules.specs.Rules.Wires as W
use Rattle.rules.specs.Rules.Channel.{wires}
use Rattle.rules.specs.Rules.Lift as M
use Rattle.rules.specs.Rules.Calls.{word, kept, Done, done, set_wire_call, read_wire_call, set_line_call, pulse_line_call}
use Rattle.rules.specs.Statements.Refusals.{number_of}
use Rattle.rules.proofs.Proofs.Refusals.{board_settled}
use Rattle.rules.proofs.Proofs.WholeCalls.{number_word, done_refuses, past_state, DonePast}

-- a call of the board that is lent the state alone
module _ (st : List ℕ) (o : W.Board) where
  abbrev asked : Done
  asked =
      let p = M.settled wires (unpacked st) o in
      pick (ltb (length st) state_length) (done 10 st) (pick (not (holds st)) (done 11 st) (done p.number (kept p.next st)))

  asked_refuses : number_of asked.word ≢ 0 → asked ≡ done (number_of asked.word) st
  asked_refuses =
      let Q : Done → Type 0 = λ x. number_of x.word ≢ 0 → x ≡ done (number_of x.word) st in
      let p = M.settled wires (unpacked st) o in
      pick_ind Q (ltb (length st) state_length) {x = done 10 st} (λ _ _. refl)
      λ long. pick_ind Q (not (holds st)) {x = done 11 st} (λ _ _. refl) λ ok. done_refuses st long ok p.number p refl (board_settled wires (unpacked st) o)

  asked-bytes : DonePast st asked
  asked-bytes =
      pick_ind (DonePast st) (ltb (length st) state_length) (λ _. refl)
      λ _. pick_ind (DonePast st) (not (holds st)) (λ _. refl) λ _. past_state (M.settled wires (unpacked st) o).next st

pub set_refuses : (st : List ℕ) (index bit value : ℕ)
    → number_of (set_wire_call st index bit value).word ≢ 0
    → set_wire_call st index bit value ≡ done (number_of (set_wire_call st index bit value).word) st
unfolding set_wire_call
set_refuses st index bit value = asked_refuses st (W.set_wire index bit value)

pub line_refuses : (st : List ℕ) (line level : ℕ)
    → number_of (set_line_call st line level).word ≢ 0 → set_line_call st line level ≡ done (number_of (set_line_call st line level).word) st
unfolding set_line_call
line_refuses st line level = asked_refuses st (W.set_line line level)

pub pulse_refuses : (st : List ℕ) (line : ℕ)
    → number_of (pulse_line_call st line).word ≢ 0 → pulse_line_call st line ≡ done (number_of (pulse_line_call st line).word) st
unfolding pulse_line_call
pulse_refuses st line = asked_refuses st (W.pulse_line line)

pub read_refuses : (st : List ℕ) (index bit : ℕ) → number_of (read_wire_call st index bit) ≢ 0
    → read_wire_call st index bit ≡ number_of (read_wire_call st index bit)
unfolding read_wire_call
read_refuses st index bit =
    let Q : ℕ → Type 0 = λ x. number_of x ≢ 0 → x ≡ number_of x in
    pick_ind Q (ltb (length st) state_length) {x = 10} (λ _ _. refl)
    λ _. pick_ind Q (not (holds st)) {x = 11} (λ _ _. refl)
    λ _. by_test (defined_bit index bit) (read_wire_of (unpacked st).wires.groups index bit)
  where
    by_test : (t : Bool) (v : ℕ) → number_of (word (pick t 0 22) (pick t v 0)) ≢ 0
        → word (pick t 0 22) (pick t v 0) ≡ number_of (word (pick t 0 22) (pick t v 0))
    by_test true v ne = absurd (ne (number_word 0 v refl))
    by_test false v ne = refl

pub set-bytes : (st : List ℕ) (index bit value : ℕ) → DonePast st (set_wire_call st index bit value)
unfolding set_wire_call
set-bytes st index bit value = asked-bytes st (W.set_wire index bit value)

pub line_bytes : (st : List ℕ) (line level : ℕ) → DonePast st (set_line_call st line level)
unfolding set_line_call
line_bytes st line level = asked-bytes st (W.set_line line level)

pub pulse_bytes : (st : List ℕ) (line : ℕ) → DonePast st (pulse_line_call st line)
unfolding pulse_line_call
pulse_bytes st line = asked-bytes st (W.pulse_line line)
