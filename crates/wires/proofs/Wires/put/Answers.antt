-- `wires::Wires::put` meets its contract: it goes over the bytes by two, and ends where the steps of the definition do.
use Prim.Native.Nat.{ℕ, ◌+◌, ◌*◌, ◌/◌, ◌<◌, ◌≤◌}
use mathlib.Core.List.{List, []}
use mathlib.Core.Path.{◌≡◌, sym, ap, ap₂, ◌∙◌}
use native.Mathlib.Omega.{arith}
use lib.ListN.{length, drop, get_or}
use borrow.Author.Tests.{eq-eqb}
use Rattle.std.specs.Simd.{first_chunks}
use Rattle.std.proofs.lemmas.List.{get_or-drop, get_or-take}
use Rattle.base.specs.Pick.{and_true}
use Rattle.base.proofs.Chunks.{chunk_at}
use Rattle.wires.specs.declared.Course.{Course}
use Rattle.wires.specs.Course.{past_pair, past_pairs, pair_next, pairs-done}
use Rattle.wires.proofs.WholePacket.{put-done, put_third}
use borrow.Author.Rules.{rules}
use Rattle.wires.proofs.Wires.put.Goals as goal

-- a byte of the i-th pair is one of the whole
byte_in : (pairs : List (List ℕ)) (bytes : List ℕ) (i k : ℕ) → pairs ≡ first_chunks 2 (length bytes / 2) bytes → i < length bytes / 2 → k < 2
    → get_or (get_or pairs i []) k 0 ≡ get_or bytes (i * 2 + k) 0
byte_in pairs bytes i k e h hk =
    let p : 2 * i + k ≡ i * 2 + k = omega arith in
    ap (λ (x : List (List ℕ)). get_or (get_or x i []) k 0) e
    ∙ ap (λ (x : List ℕ). get_or x k 0) (chunk_at 2 (length bytes / 2) i bytes h)
    ∙ get_or-take 2 (drop (2 * i) bytes) k 0 hk
    ∙ get_or-drop (2 * i) bytes k 0
    ∙ ap (λ (j : ℕ). get_or bytes j 0) p

-- after the last pair
past_all : (course end : Course) (bytes : List ℕ) (i : ℕ) → length bytes / 2 ≤ i → past_pairs course (drop (i * 2) bytes) ≡ end → course ≡ end
past_all course end bytes i h f = sym (pairs-done course bytes i (omega (arith, h))) ∙ f

pub loop-index-preserved : goal.loop-index-preserved
loop-index-preserved c =
    let l = c.loop-index in
    let s = c.args.bytes.now in
    let i = l.index-index in
    let f = c.as_chunks.ensures.front in
    let h : i < length s / 2 = omega (arith, c.loop-index-test.true, c.as_chunks.ensures.front_len) in
    let z : i * 2 + 0 ≡ i * 2 = omega arith in
    let a = byte_in _ s i 0 f h (omega arith) ∙ ap (λ (j : ℕ). get_or s j 0) z in
    let b = byte_in _ s i 1 f h (omega arith) in
    ap (λ (v : Course). past_pairs v (drop ((i + 1) * 2) s)) (c.past-course.ensures ∙ ap₂ (past_pair l.course) a b)
    ∙ sym (pair_next l.course s i (omega (arith, h)))
    ∙ l.invariant

pub returns-then-course-ne0 : goal.returns-then-course-ne0
returns-then-course-ne0 c =
    let l = c.loop-index in
    let a = c.args in
    let levels : length a.self.level ≡ 6 = search rules in
    let marks : length a.self.pending ≡ 6 = search rules in
    let h : length a.bytes.now / 2 ≤ l.index-index = omega (arith, c.loop-index-test.false, c.as_chunks.ensures.front_len) in
    put_third a.self (and_true (eq-eqb _ 6 levels) (eq-eqb _ 6 marks)) c.requires a.bytes.now l.course _
    (past_all l.course _ a.bytes.now l.index-index h l.invariant) c.if-course-ne0.true c.with_levels-next.ensures

pub returns : goal.returns
returns c =
    let l = c.loop-index in
    let a = c.args in
    let levels : length a.self.level ≡ 6 = search rules in
    let marks : length a.self.pending ≡ 6 = search rules in
    let h : length a.bytes.now / 2 ≤ l.index-index = omega (arith, c.loop-index-test.false, c.as_chunks.ensures.front_len) in
    put-done a.self (and_true (eq-eqb _ 6 levels) (eq-eqb _ 6 marks)) c.requires a.bytes.now l.course _
    (past_all l.course _ a.bytes.now l.index-index h l.invariant) (omega (arith, c.if-course-ne0.false)) c.with_levels-next.ensures
