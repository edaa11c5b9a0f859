-- A reply by its parts: message, status low byte first, CRC; the status word; and data kept in a store.
use Rattle.std.specs.Prelude.{ℕ, ◌+◌, ◌-◌, ◌*◌, ◌/◌, ◌%◌, ◌≤◌, ◌<◌, false, List, [], ◌∷◌, ◌++◌, ◌≡◌, ltb, length, drop}
use Rattle.std.proofs.Common.{append_assoc, sym, ◌∙◌, arith, length-append, length-drop, get_or-append-add, ltb-false, le-ltb}
use Rattle.base.specs.Bytes.{low2, over, bit_below, bit}
use Rattle.crc.specs.Crc.{crc}
use Rattle.wires.specs.Senders.{any_pending}
use Rattle.peripheral.specs.Status.{pc_free, np_free, pc_avail}
use Rattle.state.specs.Status.{status}
use Rattle.state.specs.State.{State}
use Rattle.rules.specs.Rules.Reply.{closed}
use Rattle.rules.specs.Statements.Requests.{status_in}

pub closed_as : (m : List ℕ) (t : ℕ) → closed m t ≡ m ++ (t % 256 ∷ t / 256 % 256 ∷ crc (m ++ low2 t) ∷ [])
unfolding closed
closed_as m t = append_assoc m (low2 t) _

pub closed-length : (m : List ℕ) (t : ℕ) → length (closed m t) ≡ length m + 3
unfolding closed
closed-length m t = simp length-append (omega arith)

-- ---- the status

-- the four bits that change
pub status-bits : (s : State)
    → (bit (pc_free s.peripheral.write) ≤ 1) × (bit (np_free s.peripheral.request) ≤ 1)
    × (bit (pc_avail s.peripheral.request) ≤ 1) × (bit (any_pending s.wires) ≤ 1)
status-bits s = (
  bit_below (pc_free s.peripheral.write),
  bit_below (np_free s.peripheral.request),
  bit_below (pc_avail s.peripheral.request),
  bit_below
      (any_pending s.wires),
)

-- it has two bytes
pub status_small : (s : State) → status s < 65536
unfolding status
status_small s = omega (arith, status-bits s)

-- the status stands before the CRC byte
status-at : (m : List ℕ) (a b x : ℕ) → status_in (m ++ (a ∷ b ∷ x ∷ [])) ≡ a + b * 256
status-at m a b x =
    let t = a ∷ b ∷ x ∷ [] in
    let n = length-append m t in
    let low : length (m ++ t) - 3 ≡ length m + 0 = omega arith in
    let high : length (m ++ t) - 2 ≡ length m + 1 = omega arith in
    rw (low, high, get_or-append-add m t 0 0, get_or-append-add m t 1 0)

pub status_in_lem : (m : List ℕ) (s : State) → status_in (closed m (status s)) ≡ status s
status_in_lem m s =
    let v = status s in
    rw (closed_as m v) (status-at m (v % 256) (v / 256 % 256) (crc (m ++ low2 v)) ∙ omega (arith, status_small s))

-- ---- what is kept

-- data laid over a store that is long enough leaves it so
pub over_long : (d l : List ℕ) (n : ℕ) → ltb (length l) n ≡ false → ltb (length (over d l)) n ≡ ltb (length l) n
unfolding over
over_long d l n e =
    let m : n ≤ length (d ++ drop (length d) l) = simp (length-append, length-drop) (omega (arith, ltb-false (length l) n e)) in
    le-ltb (length (d ++ drop (length d) l)) n m ∙ sym e
