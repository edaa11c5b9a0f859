-- Channel 0 is lawful, and what its commands and calls keep of their data.
use Rattle.std.specs.Prelude.{ℕ, ◌≤◌, Bool, true, false, not, List, [], ◌≡◌, refl, eqb, length}
use Rattle.std.proofs.Common.{zero-le, true≢false, sym, ap, le_refl, arith}
use Rattle.base.specs.Pick.{pick}
use Rattle.registers.specs.declared.Config.{Config}
use Rattle.peripheral.specs.declared.Np.{Np}
use Rattle.peripheral.specs.declared.Np.TheVariants.{Free, Waiting, Ready, Failed}
use Rattle.peripheral.specs.declared.Peripheral.{Peripheral}
use Rattle.rules.specs.Rules.Plan.{PeripheralChange}
use Rattle.rules.specs.Rules.Peripheral as P₀
use Rattle.rules.specs.Rules.Channel.{peripheral}
use Rattle.rules.specs.Statements.Fields.{access_length}
use Rattle.rules.specs.Statements.Peripheral as P
use Rattle.rules.specs.Statements.Channels as L
use Rattle.rules.specs.Statements.Channels.{Acts, Settles}
use Rattle.rules.specs.Statements.Reads as R
use Rattle.rules.specs.Statements.Refusals.{posted_length, answer_bytes, kept_count}

pub acts : {c : Config} {p : Peripheral} {a : P₀.Act} {x : PeripheralChange} → P.Did c p a x → Acts peripheral p a x
acts (P.write_held e) = L.Acts.refused
acts (P.write_large e f) = L.Acts.refused
acts (P.posted e f) = L.Acts.accepted _ _ _ refl refl
acts (P.request_held e) = L.Acts.refused
acts (P.request_large e f) = L.Acts.refused
acts (P.asked e f) = L.Acts.accepted _ _ _ refl refl
acts (P.none_ready e) = L.Acts.refused
acts (P.handed_over e) = L.Acts.accepted _ _ _ refl refl

no_report : (n : Np) (serial : ℕ) → P.unanswered n ≡ false → P₀.look_report n serial ≡ []
no_report Free serial e = refl
no_report (Waiting q) serial e = absurd (true≢false e)
no_report (Ready q sent) serial e = refl
no_report (Failed q) serial e = refl

pub settles : {p : Peripheral} {o : P₀.Board} {x : PeripheralChange} → P.Settled p o x → Settles peripheral p o x
settles (P.look_done e) = L.Settles.accepted _ _ refl
settles {p} (P.no_look e) = L.Settles.refused 23 (omega arith) (omega arith) (no_report p.request p.serial e) refl
settles (P.no_such e) = L.Settles.refused 20 (omega arith) (omega arith) refl refl
settles (P.miscounted e f g) = L.Settles.refused 21 (omega arith) (omega arith) refl refl
settles (P.succeeds e f g h) = L.Settles.accepted _ _ refl
settles (P.fails e f g h) = L.Settles.accepted _ _ refl
settles (P.no_take e) = L.Settles.refused 23 (omega arith) (omega arith) (ap P₀.take_report e) refl
settles (P.took e) = L.Settles.accepted _ _ refl

-- the data of a posted write; no other command has any for the write store
abbrev data_of : P₀.Act → ℕ
data_of (P₀.posts address length from) = length
data_of (P₀.asks q) = 0
data_of P₀.gets = 0

pub acts_keep : {c : Config} {p : Peripheral} {a : P₀.Act} {x : PeripheralChange} → P.Did c p a x → kept_count x.out.kept ≤ data_of a
acts_keep (P.write_held e) = zero-le
acts_keep (P.write_large e f) = zero-le
acts_keep (P.posted e f) = le_refl _
acts_keep (P.request_held e) = zero-le
acts_keep (P.request_large e f) = zero-le
acts_keep (P.asked e f) = zero-le
acts_keep (P.none_ready e) = zero-le
acts_keep (P.handed_over e) = zero-le

pub posted_data : {c : Config} {b : List ℕ} {a : P₀.Act} → R.Peripheral c b a → data_of a ≤ posted_length b
posted_data {c} {b} (R.posts e l) = rw e (le_refl (access_length b))
posted_data {c} {b} (R.asks e) = zero-le
posted_data {c} {b} (R.Peripheral.gets e) = zero-le

-- what an answer keeps: its bytes, where it is a success
success_bytes_lem : (n m : ℕ) (t : Bool) → not t ≡ true → m ≡ n → n ≤ pick t 0 m
success_bytes_lem n m true e f = absurd (true≢false (sym e))
success_bytes_lem n m false e f = omega arith

pub settled-keep : {p : Peripheral} {o : P₀.Board} {x : PeripheralChange} → P.Settled p o x → kept_count x.out.kept ≤ answer_bytes o
settled-keep (P.look_done e) = zero-le
settled-keep (P.no_look e) = zero-le
settled-keep (P.no_such e) = zero-le
settled-keep (P.miscounted e f g) = zero-le
settled-keep (P.succeeds {serial} {success} {bytes} {q} e f g h) = success_bytes_lem _ (length bytes) (eqb success 0) g h
settled-keep (P.fails e f g h) = zero-le
settled-keep (P.no_take e) = zero-le
settled-keep (P.took e) = zero-le
