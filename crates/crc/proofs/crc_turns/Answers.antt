-- `crc::crc_turns` meets its contract: the bytes that are left make the whole of the two numbers now.
use Prim.Native.Nat.{ℕ, zero, suc, ◌+◌, ◌-◌, ◌*◌, ◌/◌, ◌%◌, ◌<◌, ◌≤◌}
use mathlib.Core.Path.{refl, ap, ap₂, ◌∙◌}
use native.Mathlib.Omega.{arith}
use lib.ListN.{drop_of_length-le, get_or}
use lib.Bits.{bit_xor, xor_lt}
use Rattle.std.specs.Prelude.{List, [], ◌≡◌, length, take, drop}
use Rattle.std.specs.Simd.{first_chunks}
use Rattle.std.proofs.Common.{drop-drop, length-drop}
use Rattle.std.proofs.lemmas.List.{get_or-drop, get_or-take, take_rest}
use Rattle.base.proofs.Chunks.{chunk_at}
use Rattle.crc.specs.Crc.{shifts, crc_from}
use Rattle.crc.specs.Turns.{word, pair}
use Rattle.crc.proofs.Steps.{fold32_lt, pair_step}
use Rattle.crc.proofs.Turns.{start_from, turn-from}
use Rattle.crc.proofs.crc_turns.Goals as goal

-- a word in it is one of the whole
word_in : (n at p : ℕ) (s : List ℕ) → at + n ≤ 16 → word n at (take 16 (drop p s)) ≡ word n (p + at) s
unfolding word
word_in zero at p s h = refl
word_in (suc n) at p s h =
    let e : p + (at + n) ≡ p + at + n = omega arith in
    ap₂ (λ (x y : ℕ). x * 256 + y) (word_in n at p s (omega (arith, h)))
    (get_or-take 16 (drop p s) (at + n) 0 (omega (arith, h)) ∙ get_or-drop p s (at + n) 0 ∙ ap (λ (i : ℕ). get_or s i 0) e)

pub loop-turn-init : goal.loop-turn-init
loop-turn-init c =
    let s = c.args.s.now in
    let k = c.type_inv.s in
    let n = (length s - 1) % 16 + 1 in
    let e : c.saturating_sub.result ≡ n - 8 = omega arith in
    let z : n + 0 ≡ n = omega arith in (
      (omega arith, omega arith),
      ap (λ (i : ℕ). crc_from (shifts 8 (pair c.front-a.result c.lower-b.result)) (drop i s)) z
          ∙ start_from s (λ j. omega (arith, k j)) n _ _ (omega arith) (omega arith) (omega arith)
          (c.front-a.ensures ∙ ap (λ (i : ℕ). word i 0 s) e) c.lower-b.ensures,
    )

pub loop-turn-preserved : goal.loop-turn-preserved
loop-turn-preserved c =
    let l = c.loop-turn in
    let s = c.args.s.now in
    let k = c.type_inv.s in
    let n = (length s - 1) % 16 + 1 in
    let i = l.turn-index in
    let rest = take (length s - n) (drop n s) in
    let r : rest ≡ drop n s = take_rest s n in
    let d : length rest ≡ length s - n = ap length r ∙ length-drop n s in
    let m = length rest / 16 in
    let f : c.as_chunks.result.0.now ≡ first_chunks 16 m rest = c.as_chunks.ensures.front in
    let g : length c.as_chunks.result.0.now ≡ m = c.as_chunks.ensures.front_len in
    let h : i < m = omega (arith, c.loop-turn-test.true, g) in
    let t =
    ap (λ (x : List (List ℕ)). get_or x i []) f
    ∙ chunk_at 16 m i rest h
    ∙ ap (λ (x : List ℕ). take 16 (drop (16 * i) x)) r
    ∙ ap (take 16) (drop-drop (16 * i) n s) in
    let p = n + 16 * i in
    let z : p + 0 ≡ p = omega arith in
    let q : n + 16 * (i + 1) ≡ p + 16 = omega arith in
    let wa = c.word8.ensures ∙ ap (word 8 0) t ∙ word_in 8 0 p s (omega arith) ∙ ap (λ (x : ℕ). word 8 x s) z in
    let wb = c.word8-in-loop-turn.ensures ∙ ap (word 8 8) t ∙ word_in 8 8 p s (omega arith) in
    let ea = ap₂ bit_xor c.double.ensures wa in
    let eb = ap₂ bit_xor c.double-in-loop-turn.ensures wb in
    let u = bit_xor c.double.result c.word8.result in
    let v = bit_xor c.double-in-loop-turn.result c.word8-in-loop-turn.result in (
      (
        xor_lt 64 c.double.result c.word8.result (omega arith) (omega arith),
        xor_lt 64 c.double-in-loop-turn.result c.word8-in-loop-turn.result (omega arith) (omega arith),
      ),
      ap (λ (x : ℕ). crc_from (shifts 8 (pair u v)) (drop x s)) q
          ∙ turn-from s (λ j. omega (arith, k j)) l.a l.b _ _ p l.invariant.0.0 l.invariant.0.1 (omega (arith, h, d)) ea eb
          ∙ l.invariant.1,
    )

pub times-requires : goal.times-requires
times-requires c =
    let l = c.loop-turn in
    ((omega arith, omega arith), (omega arith, omega (arith, fold32_lt l.invariant.0.0 c.fold.ensures)))

pub returns : goal.returns
unfolding crc_from
returns c =
    let l = c.loop-turn in
    let s = c.args.s.now in
    let n = (length s - 1) % 16 + 1 in
    let h : length s ≤ n + 16 * l.turn-index = omega arith in
    c.crc_word.ensures
    ∙ ap (shifts 8) (pair_step l.invariant.0.0 l.invariant.0.1 c.fold.ensures c.times.ensures)
    ∙ (rw (drop_of_length-le s h) at l.invariant.1)
