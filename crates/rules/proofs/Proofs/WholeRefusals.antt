-- P5 proved of the eleven calls over lent bytes.
use Rattle.std.specs.Prelude.{ℕ, zero, suc, ◌/◌, true, not, List, ◌≢◌, ◌≡◌, refl, ltb, length, drop}
use Rattle.std.proofs.Common.{sym, arith, ltb-true}
use Rattle.base.specs.Pick.{pick_ind}
use Rattle.base.specs.Bytes.{drop-over}
use Rattle.state.specs.Fresh.{fresh_state}
use Rattle.state.specs.State.{State}
use Rattle.state.specs.Layout.{state_length, unpacked, holds}
use Rattle.rules.specs.Rules.Reset.{Reset, espi_reset, platform_reset}
use Rattle.rules.specs.Rules.Exchange as E
use Rattle.rules.specs.Rules.Reply.{reply_bytes}
use Rattle.rules.specs.Rules.Step.{read_length, write_length, reply_length}
use Rattle.rules.specs.Rules.Calls as X
use Rattle.rules.specs.Rules.Calls.{word, Done, Exchanged, done, exchange_call, exchange_planned, start_call, reset_call, espi_reset_call, platform_reset_call}
use Rattle.rules.specs.Statements.Refusals.{posted_length, number_of, ExchangeRefusal, CallsRefuse, CallsKeepBytes}
use Rattle.rules.proofs.Proofs.Refusals.{PlanAs, exchange_turned, exchange_keeps, past_kept}
use Rattle.rules.specs.Rules.Plan.{Plan}
use Rattle.rules.proofs.Proofs.WholeCalls.{planned_refuses, past_state, DonePast}
use Rattle.rules.proofs.Proofs.Peripheral.WholeRefusals as P₁
use Rattle.rules.proofs.Proofs.Wires.WholeRefusals as W₁

-- ---- refusals

exchange_refuses : (st command reply write read : List ℕ)
    → ExchangeRefusal (number_of (exchange_call st command reply write read).word) st reply write (exchange_call st command reply write read)
unfolding exchange_call
exchange_refuses st command reply write read =
    let Q : Exchanged → Type 0 = λ x. ExchangeRefusal (number_of x.word) st reply write x in
    pick_ind Q (ltb (length st) state_length) (λ _. refl)
    λ long. pick_ind Q (ltb (length reply) reply_length) (λ _. refl)
    λ _. pick_ind Q (ltb (length write) write_length) (λ _. refl)
    λ _. pick_ind Q (ltb (length read) read_length) (λ _. refl)
    λ _. pick_ind Q (not (holds st)) (λ _. refl)
    λ ok. planned_refuses st long ok command reply write read _ (E.exchange (unpacked st) command) refl (exchange_turned (unpacked st) command)

reset_refuses : (r : Reset) (st : List ℕ) → number_of (reset_call r st).word ≢ 0 → reset_call r st ≡ done (number_of (reset_call r st).word) st
unfolding reset_call
reset_refuses r st =
    let Q : Done → Type 0 = λ x. number_of x.word ≢ 0 → x ≡ done (number_of x.word) st in
    pick_ind Q (ltb (length st) state_length) {x =
    done 10 st} (λ _ _. refl) λ _. pick_ind Q (not (holds st)) {x = done 11 st} (λ _ _. refl) λ _ ne. absurd (ne refl)

start_refuses : (st : List ℕ) → number_of (start_call st).word ≢ 0 → start_call st ≡ done (number_of (start_call st).word) st
unfolding start_call
start_refuses st =
    let Q : Done → Type 0 = λ x. number_of x.word ≢ 0 → x ≡ done (number_of x.word) st in
    pick_ind Q (ltb (length st) state_length) {x = done 10 st} (λ _ _. refl) λ _ ne. absurd (ne refl)

pub calls_refuse : CallsRefuse
unfolding espi_reset_call platform_reset_call
calls_refuse =
    record {
      exchange = exchange_refuses;
      start = start_refuses;
      espi_reset = reset_refuses espi_reset;
      platform_reset = reset_refuses platform_reset;
      look = P₁.look_refuses;
      answer = P₁.answer_refuses;
      take_write = P₁.take_refuses;
      set_wire = W₁.set_refuses;
      read_wire = W₁.read_refuses;
      set_line = W₁.line_refuses;
      pulse_line = W₁.pulse_refuses;
    }

-- ---- the bytes past what a call writes

pub planned_small : (n : ℕ) (s : State) (p : Plan) → PlanAs n s p → ltb n 256 ≡ true
planned_small zero s p h = refl
planned_small (suc zero) s p h = refl
planned_small (suc (suc zero)) s p h = refl
planned_small (suc (suc (suc n))) s p h = h.1

value_word : (n v : ℕ) → ltb n 256 ≡ true → word n v / 256 ≡ v
value_word n v h = omega (arith, ltb-true n 256 h)

-- an exchange's slices, past what it writes
record ExchangePast (command st reply write : List ℕ) (x : Exchanged) : Type 0 where
  at_state : drop state_length x.state ≡ drop state_length st
  at_reply : drop (x.word / 256) x.reply ≡ drop (x.word / 256) reply
  at_write : drop (posted_length command) x.write ≡ drop (posted_length command) write

exchange-bytes : (st command reply write read : List ℕ) → ExchangePast command st reply write (exchange_call st command reply write read)
unfolding exchange_call exchange_planned
exchange-bytes st command reply write read =
    let Q = ExchangePast command st reply write in
    let p = E.exchange (unpacked st) command in
    let r = reply_bytes p.reply (unpacked st).wires read in
    let v : word p.number (length r) / 256 ≡ length r = value_word p.number (length r)
    (planned_small p.number (unpacked st) p (exchange_turned (unpacked st) command)) in
    pick_ind Q (ltb (length st) state_length) (λ _. as_it_was 10)
    λ _. pick_ind Q (ltb (length reply) reply_length) (λ _. as_it_was 10)
    λ _. pick_ind Q (ltb (length write) write_length) (λ _. as_it_was 10)
    λ _. pick_ind Q (ltb (length read) read_length) (λ _. as_it_was 10)
    λ _. pick_ind Q (not (holds st)) (λ _. as_it_was 11)
    λ _. record {
      at_state = past_state p.next st;
      at_reply = drop-over r reply (word p.number (length r) / 256) (sym v);
      at_write = past_kept p command write (posted_length command) (exchange_keeps (unpacked st) command);
    }
  where
    as_it_was : (n : ℕ) → ExchangePast command st reply write (X.exchanged n st reply write)
    as_it_was n = record { at_state = refl; at_reply = refl; at_write = refl }

reset-bytes : (r : Reset) (st : List ℕ) → DonePast st (reset_call r st)
unfolding reset_call
reset-bytes r st =
    pick_ind (DonePast st) (ltb (length st) state_length) (λ _. refl)
    λ _. pick_ind (DonePast st) (not (holds st)) (λ _. refl) λ _. past_state (E.was_reset r (unpacked st)) st

start_bytes : (st : List ℕ) → DonePast st (start_call st)
unfolding start_call
start_bytes st = pick_ind (DonePast st) (ltb (length st) state_length) (λ _. refl) λ _. past_state fresh_state st

pub calls_keep-bytes : CallsKeepBytes
unfolding espi_reset_call platform_reset_call
calls_keep-bytes =
    record {
      exchange_state = λ st command reply write read. (exchange-bytes st command reply write read).at_state;
      exchange_reply = λ st command reply write read. (exchange-bytes st command reply write read).at_reply;
      exchange_write = λ st command reply write read. (exchange-bytes st command reply write read).at_write;
      start = start_bytes;
      espi_reset = reset-bytes espi_reset;
      platform_reset = reset-bytes platform_reset;
      look = P₁.look_bytes;
      answer_state = λ st read serial success bytes. (P₁.answer-bytes st read serial success bytes).at_state;
      answer_read = λ st read serial success bytes. (P₁.answer-bytes st read serial success bytes).at_store;
      take_state = λ st write report. (P₁.take-bytes st write report).at_state;
      take_report = λ st write report. (P₁.take-bytes st write report).at_store;
      set_wire = W₁.set-bytes;
      set_line = W₁.line_bytes;
      pulse_line = W₁.pulse_bytes;
    }
