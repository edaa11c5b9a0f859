-- `crc::crc_few` meets its contract: the bytes make one number.
use Prim.Native.Nat.{ℕ, ◌+◌, ◌-◌, ◌*◌, ◌/◌, ◌^◌, ◌<◌, ◌≤◌}
use mathlib.Core.Path.{◌≡◌, sym, ap, ap₂, ◌∙◌}
use native.Mathlib.Omega.{arith}
use native.Mathlib.Nat.{zero-add}
use lib.ListN.{length, get_or, drop_of_length-le}
use lib.Pow.{shr-shr}
use Rattle.crc.specs.Crc.{shifts, crc_from}
use Rattle.crc.specs.Residue.{residue}
use Rattle.crc.specs.Turns.{word, word_add}
use Rattle.crc.proofs.Turns.{word-front, first_from}
use Rattle.crc.proofs.crc_few.Goals as goal

pub returns : goal.returns
unfolding crc_from
returns c =
    let s = c.args.s.now in
    let known = c.type_inv.s in
    let bytes : (j : ℕ) → get_or s j 0 < 256 = λ j. omega (arith, known j) in
    let n = length s in
    let e : n - 4 + 4 ≡ n = omega arith in
    let high =
    ap (λ (x : ℕ). x / 256 / 2 ^ (56 - 8 * n)) c.word4.ensures
    ∙ shr-shr (word 4 0 s) 8 (56 - 8 * n)
    ∙ word-front s bytes (n - 4) (8 - n) 4 (8 + (56 - 8 * n)) 0 (omega arith) (omega arith) in
    let whole =
    ap₂ (λ (x y : ℕ). x * 4294967296 + y) high (c.word4-2.ensures ∙ ap (λ (k : ℕ). word 4 k s) (sym (zero-add (n - 4))))
    ∙ sym (word_add s (n - 4) 4 0)
    ∙ ap (λ (k : ℕ). word k 0 s) e in
    let h : n ≤ n = omega arith in
    let first = first_from s bytes n (omega arith) (omega arith) (omega arith) in
    c.crc_word.ensures ∙ ap (λ (w : ℕ). shifts 8 (residue w)) (c.halves.ensures ∙ whole) ∙ (rw (drop_of_length-le s h) at first)
