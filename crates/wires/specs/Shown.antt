-- The status word after groups are stored: that of the groups stored, and of the lines as they stand.
use Rattle.std.specs.Prelude.{ℕ, ◌+◌, ◌*◌, ◌<◌, ◌≤◌, Bool, ◌||◌, ◌≡◌, refl, eqb, take}
use mathlib.Core.List.{List, ◌++◌, append_assoc}
use Rattle.std.proofs.Common.{sym, ap₂, ◌∙◌, arith}
use Rattle.std.proofs.Math.Path.{ap}
use Rattle.std.proofs.Math.ListN.{length, get_or, drop}
use Rattle.std.proofs.Math.Seq.{length-take-le}
use Rattle.base.specs.Bytes.{bit, put}
use Rattle.base.specs.Numbers.{past}
use Rattle.wires.specs.Groups.{mark_at}
use Rattle.wires.specs.Lines.{Lines, any_bit}
use Rattle.wires.specs.Senders.{with_groups, wires_status}
use Rattle.wires.specs.Layout.{wires_bytes, all_in, mark_back}
use Rattle.wires.specs.MapBytes.{lines_beside}
use Rattle.wires.specs.Pending.{pending_is}
use Rattle.wires.specs.declared.Wires.{Wires}

module _ (l : List ℕ) (byte : (k : ℕ) → get_or l k 0 < 256) (long : 174 ≤ length l) (g : Wires) where
  -- each byte of the groups stands where it was put
  at : (i k : ℕ) → i ≡ 64 + k → get_or (put 64 (wires_bytes g) l) i 0 ≡ get_or (wires_bytes g ++ drop (64 + length (wires_bytes g)) l) k 0
  unfolding put
  at i k e =
      ap (λ (z : List ℕ). get_or z i 0) (append_assoc (take 64 l) (wires_bytes g) (drop (64 + length (wires_bytes g)) l))
      ∙ past (take 64 l) (wires_bytes g ++ drop (64 + length (wires_bytes g)) l) i k (omega (arith, length-take-le 64 l (omega arith), e))

  mark : (i k : ℕ) → i ≡ 64 + k → (b : Bool) → get_or (wires_bytes g ++ drop (64 + length (wires_bytes g)) l) k 0 ≡ bit b
      → eqb (get_or (put 64 (wires_bytes g) l) i 0) 1 ≡ b
  mark i k e b f = ap (λ (n : ℕ). eqb n 1) (at i k e ∙ f) ∙ mark_back b

  pub status-groups : wires_status (all_in (put 64 (wires_bytes g) l)) ≡ wires_status (with_groups (all_in l) g)
  status-groups =
      let m = put 64 (wires_bytes g) l in
      ap (λ (b : Bool). 4 + bit b * 64)
      (pending_is (all_in m)
      ∙ ap₂ (λ (x y : Bool). x || y) (ap (λ (z : Lines). any_bit z.waits) (lines_beside l byte long g))
      (ap₂ (λ (x y : Bool). x || y) (mark 72 8 (omega arith) (mark_at g 4) refl)
      (ap₂ (λ (x y : Bool). x || y) (mark 73 9 (omega arith) (mark_at g 5) refl) (mark 74 10 (omega arith) (mark_at g 6) refl)))
      ∙ sym (pending_is (with_groups (all_in l) g)))
