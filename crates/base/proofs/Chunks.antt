-- The chunks of a list: the k-th of n elements each begins at n * k.
use Rattle.std.specs.Prelude.{ℕ, zero, suc, ◌+◌, ◌*◌, ◌<◌, List, [], ◌≡◌, get_or, take, drop}
use Rattle.std.specs.Simd.{first_chunks}
use Rattle.std.proofs.Common.{ap, ◌∙◌, arith, drop-drop}

pub chunk_at : (n m k : ℕ) (l : List ℕ) → k < m → get_or (first_chunks n m l) k [] ≡ take n (drop (n * k) l)
chunk_at n zero k l h = absurd (omega (arith, h))
chunk_at n (suc m) zero l h =
    let e : 0 ≡ n * 0 = omega arith in
    ap (λ (i : ℕ). take n (drop i l)) e
chunk_at n (suc m) (suc k) l h =
    let e : n + n * k ≡ n * suc k = omega arith in
    chunk_at n m k (drop n l) (omega (arith, h)) ∙ ap (take n) (drop-drop (n * k) n l ∙ ap (λ (i : ℕ). drop i l) e)
