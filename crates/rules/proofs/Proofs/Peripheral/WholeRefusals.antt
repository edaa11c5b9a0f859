-- P5 of the exported calls of channel 0.
use Rattle.std.specs.Prelude.{ℕ, ◌≤◌, not, List, ◌≢◌, ◌≡◌, refl, ltb, length, drop, Option, Some, None}
use Rattle.std.proofs.Common.{zero-le, le_refl}
use Rattle.base.specs.Pick.{pick_ind}
use Rattle.base.specs.Bytes.{over, over_none}
use Rattle.peripheral.specs.declared.Np.{Np}
use Rattle.peripheral.specs.declared.Np.TheVariants.{Free, Waiting, Ready, Failed}
use Rattle.peripheral.specs.declared.Posted.{Posted}
use Rattle.state.specs.Layout.{state_length, unpacked, holds}
use Rattle.rules.specs.Rules.Peripheral as P
use Rattle.rules.specs.Rules.Channel.{peripheral}
use Rattle.rules.specs.Rules.Lift as M
use Rattle.rules.specs.Rules.Step.{read_length, write_length, look_length, take_length}
use Rattle.rules.specs.Rules.Calls as X
use Rattle.rules.specs.Rules.Calls.{word, Stored, Looked, look_call, answer_call, take_write_call}
use Rattle.rules.specs.Statements.Refusals.{answer_bytes, number_of}
use Rattle.rules.proofs.Proofs.Channels.{board_settles}
use Rattle.rules.proofs.Proofs.Refusals.{board_settled, board_keeps, past_over, past_kept}
use Rattle.rules.proofs.Proofs.WholeCalls.{stored_refuses, report_refuses, past_state, StoredPast}

pub look_refuses : (st report : List ℕ) → number_of (look_call st report).word ≢ 0
    → look_call st report ≡ X.looked (number_of (look_call st report).word) report
unfolding look_call
look_refuses st report =
    let Q : Looked → Type 0 = λ x. number_of x.word ≢ 0 → x ≡ X.looked (number_of x.word) report in
    pick_ind Q (ltb (length st) state_length) {x = X.looked 10 report} (λ _ _. refl)
    λ _. pick_ind Q (ltb (length report) look_length) {x = X.looked 10 report} (λ _ _. refl)
    λ _. pick_ind Q (not (holds st)) {x = X.looked 11 report} (λ _ _. refl)
    λ _. by_request (unpacked st).peripheral.request (unpacked st).peripheral.serial
  where
    by_request : (np : Np) (serial : ℕ) → number_of (P.look_number np) ≢ 0
        → X.looked (P.look_number np) (over (P.look_report np serial) report) ≡ X.looked (number_of (P.look_number np)) report
    by_request Free serial ne = rw over_none
    by_request (Waiting q) serial ne = absurd (ne refl)
    by_request (Ready q k) serial ne = rw over_none
    by_request (Failed q) serial ne = rw over_none

pub answer_refuses : (st read : List ℕ) (serial success : ℕ) (bytes : List ℕ)
    → number_of (answer_call st read serial success bytes).word ≢ 0
    → answer_call st read serial success bytes ≡ X.stored (number_of (answer_call st read serial success bytes).word) st read
unfolding answer_call
answer_refuses st read serial success bytes =
    let Q : Stored → Type 0 = λ x. number_of x.word ≢ 0 → x ≡ X.stored (number_of x.word) st read in
    let p = M.settled peripheral (unpacked st) (P.answer serial success bytes) in
    pick_ind Q (ltb (length st) state_length) {x = X.stored 10 st read} (λ _ _. refl)
    λ long. pick_ind Q (ltb (length read) read_length) {x = X.stored 10 st read} (λ _ _. refl)
    λ _. pick_ind Q (not (holds st)) {x = X.stored 11 st read} (λ _ _. refl)
    λ ok. stored_refuses st long ok bytes read p.number p refl (board_settled peripheral (unpacked st) (P.answer serial success bytes))

pub take_refuses : (st write report : List ℕ)
    → number_of (take_write_call st write report).word ≢ 0
    → take_write_call st write report ≡ X.stored (number_of (take_write_call st write report).word) st report
unfolding take_write_call
take_refuses st write report =
    let Q : Stored → Type 0 = λ x. number_of x.word ≢ 0 → x ≡ X.stored (number_of x.word) st report in
    pick_ind Q (ltb (length st) state_length) {x = X.stored 10 st report} (λ _ _. refl)
    λ long. pick_ind Q (ltb (length write) write_length) {x = X.stored 10 st report} (λ _ _. refl)
    λ _. pick_ind Q (ltb (length report) take_length) {x = X.stored 10 st report} (λ _ _. refl)
    λ _. pick_ind Q (not (holds st)) {x = X.stored 11 st report} (λ _ _. refl)
    λ ok. report_refuses st long ok peripheral (P.take_write report) report (board_settles peripheral (unpacked st) (P.take_write report))

pub look_bytes : (st report : List ℕ) → drop look_length (look_call st report).report ≡ drop look_length report
unfolding look_call
look_bytes st report =
    let Q : Looked → Type 0 = λ x. drop look_length x.report ≡ drop look_length report in
    pick_ind Q (ltb (length st) state_length) (λ _. refl)
    λ _. pick_ind Q (ltb (length report) look_length) (λ _. refl)
    λ _. pick_ind Q (not (holds st)) (λ _. refl)
    λ _. past_over (P.look_report (unpacked st).peripheral.request (unpacked st).peripheral.serial) report look_length
    (by_request (unpacked st).peripheral.request (unpacked st).peripheral.serial)
  where
    by_request : (np : Np) (serial : ℕ) → length (P.look_report np serial) ≤ look_length
    by_request Free serial = zero-le
    by_request (Waiting q) serial = le_refl 19
    by_request (Ready q k) serial = zero-le
    by_request (Failed q) serial = zero-le

pub answer-bytes : (st read : List ℕ) (serial success : ℕ) (bytes : List ℕ)
    → StoredPast st read (answer_bytes (P.answer serial success bytes)) (answer_call st read serial success bytes)
unfolding answer_call
answer-bytes st read serial success bytes =
    let n = answer_bytes (P.answer serial success bytes) in
    let p = M.settled peripheral (unpacked st) (P.answer serial success bytes) in
    let Q = StoredPast st read n in
    pick_ind Q (ltb (length st) state_length) (λ _. record { at_state = refl; at_store = refl })
    λ _. pick_ind Q (ltb (length read) read_length) (λ _. record { at_state = refl; at_store = refl })
    λ _. pick_ind Q (not (holds st)) (λ _. record { at_state = refl; at_store = refl })
    λ _. record { at_state = past_state p.next st; at_store = past_kept p bytes read n (board_keeps peripheral (unpacked st) (P.answer serial success bytes)) }

pub take-bytes : (st write report : List ℕ) → StoredPast st report take_length (take_write_call st write report)
unfolding take_write_call
take-bytes st write report =
    let Q = StoredPast st report take_length in
    pick_ind Q (ltb (length st) state_length) (λ _. record { at_state = refl; at_store = refl })
    λ _. pick_ind Q (ltb (length write) write_length) (λ _. record { at_state = refl; at_store = refl })
    λ _. pick_ind Q (ltb (length report) take_length) (λ _. record { at_state = refl; at_store = refl })
    λ _. pick_ind Q (not (holds st)) (λ _. record { at_state = refl; at_store = refl })
    λ _. record {
      at_state = past_state (M.settled peripheral (unpacked st) (P.take_write report)).next st;
      at_store = past_over (P.take_report (unpacked st).peripheral.write) report take_length (by_write (unpacked st).peripheral.write);
    }
  where
    by_write : (t : Option Posted) → length (P.take_report t) ≤ take_length
    by_write None = zero-le
    by_write (Some x) = le_refl 10
