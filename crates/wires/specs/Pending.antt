-- Something waits to be sent: a line, or one of the groups that go up.
use Rattle.std.specs.Prelude.{ℕ, ◌<◌, Bool, true, false, ◌&&◌, ◌||◌, ◌≡◌, refl}
use Rattle.std.proofs.Common.{sym, ap, ◌∙◌, lt-ltb}
use Rattle.base.specs.Pick.{pick}
use Rattle.wires.specs.Below.{any, any_at, at-any, any-suc}
use Rattle.wires.specs.Table.{group_at}
use Rattle.wires.specs.Groups.{mark_at}
use Rattle.wires.specs.Lines.{line_bit, any_bit}
use Rattle.wires.specs.LineWords.{same_off}
use Rattle.wires.specs.Senders.{AllWires, waiting, any_pending}

-- tests that are the same below n
any_same : (n : ℕ) (f g : ℕ → Bool) → ((k : ℕ) → k < n → f k ≡ g k) → any n f ≡ any n g
any_same n f g h =
    same_off (any n f) (any n g) (λ e. at-any n g (λ k b. sym (h k b) ∙ any_at n f e k b)) (λ e. at-any n f (λ k b. h k b ∙ any_at n g e k b))

line_waiting : (w : AllWires) (k : ℕ) → k < 256 → waiting w k ≡ line_bit w.lines.waits k
line_waiting w k h = ap (λ (t : Bool). pick t (line_bit w.lines.waits k) (mark_at w.groups (group_at k))) (lt-ltb k 256 h)

group_last : (a b c d : Bool) → ((a || b) || c) || d ≡ a || (b || (c || d))
group_last true b c d = refl
group_last false true c d = refl
group_last false false c d = refl

pub pending_is : (w : AllWires) → any_pending w ≡ any_bit w.lines.waits || (mark_at w.groups 4 || (mark_at w.groups 5 || mark_at w.groups 6))
unfolding any_pending any_bit
pending_is w =
    any-suc 258 (waiting w)
    ∙ ap (λ (t : Bool). t || waiting w 258) (any-suc 257 (waiting w) ∙ ap (λ (t : Bool). t || waiting w 257) (any-suc 256 (waiting w)))
    ∙ group_last (any 256 (waiting w)) (waiting w 256) (waiting w 257) (waiting w 258)
    ∙ ap (λ (t : Bool). t || (waiting w 256 || (waiting w 257 || waiting w 258)))
    (any_same 256 (waiting w) (line_bit w.lines.waits) (line_waiting w))

-- the test of the groups' bytes and that of the lines', grouped as "Sound state" is (01, Sound state)
pub both_hold : (a b c : Bool) → (a && b) && c ≡ a && (b && c)
both_hold true b c = refl
both_hold false b c = refl
