-- Channel 0's rows of the table of effects, from its law.
use Rattle.std.specs.Prelude.{ℕ, ◌+◌, ◌≤◌, Bool, true, false, List, [], ◌∷◌, ◌≡◌, refl, eqb, length}
use Rattle.std.proofs.Common.{true≢false, sym, ap, ◌∙◌, arith, length-take, length-drop}
use Rattle.std.proofs.Math.Seq.{take-length}
use Rattle.std.proofs.lemmas.Bool.{not-false, not-true}
use Rattle.base.specs.Pick.{pick}
use Rattle.base.specs.Bytes.{over}
use Rattle.registers.specs.Registers.{size_of}
use Rattle.registers.specs.declared.Config.{Config}
use Rattle.pieces.specs.Pieces.{next_size}
use Rattle.peripheral.specs.Upward.{handed, after_success}
use Rattle.peripheral.specs.declared.Kind.{Kind}
use Rattle.peripheral.specs.declared.Kind.TheVariants as R
use Rattle.peripheral.specs.declared.Request.{Request}
use Rattle.peripheral.specs.declared.Np.{Np}
use Rattle.peripheral.specs.declared.Np.TheVariants.{Free, Waiting, Ready, Failed}
use Rattle.peripheral.specs.declared.Peripheral.{Peripheral}
use Rattle.rules.specs.Rules.Plan.{PeripheralChange}
use Rattle.rules.specs.Rules.Peripheral as P
use Rattle.rules.specs.Rules.Channel.{peripheral}
use Rattle.rules.specs.Statements.Fields.{byte, is_channel0, access_length, data_from, written_data}
use Rattle.rules.specs.Statements.Reads as S
use Rattle.rules.specs.Statements.Peripheral as L
use Rattle.rules.specs.Statements.Peripheral.Effects.{after_completion, completed, command_part, command_write, answered_with, request_now, board_part, board_read, switched}
use Rattle.rules.proofs.Proofs.Fields.{asked_not_posted}
use Rattle.rules.specs.Statements.ConfigWrites.{turns}
use Rattle.rules.proofs.Proofs.Becomes.{Becomes}

-- ---- commands

-- a posted write has all its data
pub data_length : (b : List ℕ) → data_from b + access_length b ≤ length b → length (written_data b) ≡ access_length b
data_length b h = simp (length-take, length-drop) (omega arith)

handed_as : (n : Np) → handed n ≡ completed n
unfolding handed next_size
handed_as Free = refl
handed_as (Waiting q) = refl
handed_as (Ready q sent) = by_kind q.kind
  where
    by_kind : (k : Kind) → after_success k q sent ≡ after_completion k q sent
    by_kind R.MemoryRead = refl
    by_kind R.IoRead = refl
    by_kind R.IoWrite = refl
handed_as (Failed q) = refl

module _ (c : Config) (p : Peripheral) (b : List ℕ) where
  pub command_row : {a : P.Act} {x : PeripheralChange} → L.Did c p a x → S.Peripheral c b a → Becomes peripheral (command_part c p b) (command_write b) b x
  unfolding size_of over
  command_row (L.write_held e) r z = absurd (omega arith)
  command_row (L.write_large e f) r z = absurd (omega arith)
  command_row (L.posted e f) (S.Peripheral.posts h n) z = (rw h, λ l. rw (h, data_length b n))
  command_row (L.request_held e) r z = absurd (omega arith)
  command_row (L.request_large e f) r z = absurd (omega arith)
  command_row (L.asked e f) (S.Peripheral.asks h) z = (rw (asked_not_posted (byte b 0) h, h), λ l. rw (asked_not_posted (byte b 0) h))
  command_row (L.none_ready e) r z = absurd (omega arith)
  command_row (L.handed_over e) (S.Peripheral.gets h) z = (rw (h, handed_as p.request), λ l. rw h)

pub command_own : {c : Config} {b : List ℕ} {a : P.Act} → S.Peripheral c b a → is_channel0 (byte b 0) ≡ true
command_own (S.Peripheral.posts h n) = rw h
command_own (S.Peripheral.asks h) = rw (asked_not_posted _ h, h)
command_own (S.Peripheral.gets h) = rw h

-- ---- the board's calls

pub no_bytes : (l : List ℕ) → length l ≡ 0 → l ≡ []
no_bytes [] e = refl
no_bytes (x ∷ xs) e = absurd (omega arith)

-- the request that waits, answered
answered_as_lem : (p : Peripheral) {q : Request} (failed t : Bool) → p.request ≡ Waiting q → failed ≡ t
    → P.with_request p (pick t (Failed q) (Ready q 0)) ≡ request_now p (answered_with failed p.request)
answered_as_lem p {q} failed t e f = ap (request_now p) (sym (ap (answered_with failed) e ∙ ap (λ (u : Bool). answered_with u (Waiting q)) f))

pub board_row : {p : Peripheral} {o : P.Board} {x : PeripheralChange} → L.Settled p o x → Becomes peripheral (board_part p o) (board_read o) (P.given o) x
unfolding over
board_row (L.look_done e) z = (refl, λ l. refl)
board_row (L.no_look e) z = absurd (omega arith)
board_row (L.no_such e) z = absurd (omega arith)
board_row (L.miscounted e f g) z = absurd (omega arith)
board_row {p} (L.succeeds {success = n} {bytes = bytes} e f g h) z = (answered_as_lem p (eqb n 0) false e (not-true _ g), λ l. rw (← h, take-length bytes))
board_row {p} (L.fails {success = n} {bytes = bytes} e f g h) z = (answered_as_lem p (eqb n 0) true e (not-false _ g), λ l. rw (no_bytes bytes h))
board_row (L.no_take e) z = absurd (omega arith)
board_row (L.took e) z = (refl, λ l. refl)

-- ---- an edge of the enable bit

pub edge_row : (was is : Bool) (p : Peripheral) → P.enable_edge was is p ≡ switched was is p
edge_row true true p = refl
edge_row true false p = refl
edge_row false true p = refl
edge_row false false p = refl

pub no_turn : (was is : Bool) (p : Peripheral) → turns peripheral was is ≡ false → switched was is p ≡ p
no_turn true true p e = refl
no_turn true false p e = absurd (true≢false e)
no_turn false true p e = refl
no_turn false false p e = refl

pub switched-same : (t : Bool) (p : Peripheral) → switched t t p ≡ p
switched-same true p = refl
switched-same false p = refl
