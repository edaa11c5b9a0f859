-- All that channel 0 does, each with the tests that led to it (01, Replies and refusals; Requests, answers, pieces). The statements read
-- this law and unfold no decision.
pub mod Effects
pub mod SoundMeans
pub mod Makes
pub mod Rows
pub mod Status
pub mod Steps
use Rattle.std.specs.Prelude.{ℕ, Bool, true, false, ◌&&◌, List, [], ◌∷◌, ◌≡◌, eqb, length, Some, None}
use Rattle.registers.specs.Registers.{payload_size}
use Rattle.registers.specs.declared.Config.{Config}
use Rattle.peripheral.specs.Upward.{upward, handed}
use Rattle.peripheral.specs.Status.{pc_free, np_free}
use Rattle.peripheral.specs.declared.Request.{Request}
use Rattle.peripheral.specs.declared.Np.{Np}
use Rattle.peripheral.specs.declared.Np.TheVariants.{Free, Waiting, Ready, Failed}
use Rattle.peripheral.specs.declared.Posted.{Posted}
use Rattle.peripheral.specs.declared.Peripheral.{Peripheral}
use Rattle.peripheral.specs.declared.Completion.{Completion}
use Rattle.peripheral.specs.Sound.{within}
use Rattle.rules.specs.Rules.Plan.{PeripheralChange}
use Rattle.rules.specs.Rules.Numbers.{no_such_request, count_wrong, nothing_there}
use Rattle.rules.specs.Rules.Out.{fatal, accept, defer, number, keep, kept_from}
use Rattle.rules.specs.Rules.Peripheral.{Act, posts, asks, gets, Board, look, answer, take_write, change, with_request, holding, asking, emptied, size_for, succeeded, answer_length, bytes_for}
use Rattle.rules.specs.declared.Body.TheVariants as B

-- ---- commands

-- 1: "posted write while one is held, non-posted while one is held, GET_PC with no completion ready", "too large; boundary crossed" (01, Replies and
-- refusals); posted: "One posted write is held with its payload size"; asked: "Accepting it replies DEFER" (01, Requests, answers, pieces); handedOver: "the
-- next N accepted GET_PC commands hand over the answer's pieces" (00, demand 3)
pub data Did (c : Config) (p : Peripheral) : Act → PeripheralChange → Type 0 where
  write_held : {A L from : ℕ} → pc_free p.write ≡ false → Did c p (posts A L from) (change p fatal)
  write_large : {A L from : ℕ} → pc_free p.write ≡ true → within A L (payload_size c.r010) ≡ false → Did c p (posts A L from) (change p fatal)
  posted : {A L from : ℕ} → pc_free p.write ≡ true → within A L (payload_size c.r010) ≡ true
      → Did c p (posts A L from) (change (holding p A L (payload_size c.r010)) (accept B.Nothing (kept_from from L)))
  request_held : {q : Request} → np_free p.request ≡ false → Did c p (asks q) (change p fatal)
  request_large : {q : Request} → np_free p.request ≡ true → within q.address q.length (size_for q.kind q) ≡ false → Did c p (asks q) (change p fatal)
  asked : {q : Request} → np_free p.request ≡ true → within q.address q.length (size_for q.kind q) ≡ true
      → Did c p (asks q) (change (asking p q) defer)
  none_ready : upward p.request ≡ [] → Did c p gets (change p fatal)
  handed_over : {k : Completion} {ks : List Completion} → upward p.request ≡ k ∷ ks
      → Did c p gets (change (with_request p (handed p.request)) (accept (B.Piece k) None))

-- ---- the board's calls

-- "no unanswered request" is 20 of an answer, 23 of a look (01, Replies and refusals)
abbrev pub unanswered : Np → Bool
unanswered Free = false
unanswered (Waiting q) = true
unanswered (Ready q sent) = false
unanswered (Failed q) = false

-- 20: "no unanswered request with this serial"; 21: "byte count wrong"; 23: "no write to take, or no unanswered request to look at" (01, Replies and
-- refusals); "Looking .. changes nothing"; "Success copies exactly L bytes", "failure has 0"; the take "frees the place" (01, Requests, answers, pieces)
pub data Settled (p : Peripheral) : Board → PeripheralChange → Type 0 where
  look_done : {report : List ℕ} {q : Request} → p.request ≡ Waiting q → Settled p (look report) (change p (number 0))
  no_look : {report : List ℕ} → unanswered p.request ≡ false → Settled p (look report) (change p (number nothing_there))
  no_such : {serial success : ℕ} {bytes : List ℕ} → unanswered p.request && eqb serial p.serial ≡ false
      → Settled p (answer serial success bytes) (change p (number no_such_request))
  miscounted : {serial success : ℕ} {bytes : List ℕ} {q : Request} → p.request ≡ Waiting q → serial ≡ p.serial
      → eqb (length bytes) (bytes_for q (succeeded success)) ≡ false → Settled p (answer serial success bytes) (change p (number count_wrong))
  succeeds : {serial success : ℕ} {bytes : List ℕ} {q : Request} → p.request ≡ Waiting q → serial ≡ p.serial → succeeded success ≡ true
      → length bytes ≡ answer_length q.kind q
      → Settled p (answer serial success bytes) (change (with_request p (Ready q 0)) (keep (kept_from 0 (answer_length q.kind q))))
  fails : {serial success : ℕ} {bytes : List ℕ} {q : Request} → p.request ≡ Waiting q → serial ≡ p.serial → succeeded success ≡ false
      → length bytes ≡ 0 → Settled p (answer serial success bytes) (change (with_request p (Failed q)) (keep None))
  no_take : {report : List ℕ} → p.write ≡ None → Settled p (take_write report) (change p (number nothing_there))
  took : {report : List ℕ} {x : Posted} → p.write ≡ Some x → Settled p (take_write report) (change (emptied p) (keep None))
