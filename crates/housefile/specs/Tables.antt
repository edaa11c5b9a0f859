-- The first rows of a table, row after row: what the loops of the reader and the writer keep.
use Rattle.std.specs.Prelude.{ℕ, zero, suc, ◌+◌, ◌*◌, ◌<◌, ◌≤◌, Bool, true, false, ◌&&◌, List, [], ◌∷◌, ◌++◌, ◌≡◌, refl, length, get_or, take, drop, Option, Some, None}
use Rattle.std.proofs.Math.Bool.{and-true, and_assoc}
use Rattle.std.proofs.Common.{true≢false, append-nil, sym, ap, ◌∙◌, zero-add, add-one, arith, take-append-drop, ne_eqb}
use Rattle.base.specs.Pick.{pick}
use Rattle.base.specs.Bytes.{low2, over, put, put-over, put_first, put-put}
use Rattle.housefile.specs.Kinds.{kind_of, row_fits_value}
use Rattle.housefile.specs.Format.{total, all_fit, rows_begin, row, row_at}
use Rattle.housefile.specs.Laws.{total_next, fit_at}
use Rattle.housefile.specs.declared.Kind.TheVariants.{TakeWrite}
use Rattle.housefile.specs.declared.Row.{Row}

-- how long the bodies of the first n rows are together, if each row may stand (02, Q-2)
abbrev pub sizes_of : (ℕ → Row) → ℕ → Option ℕ
sizes_of rows n = pick (all_fit rows n 0) (Some (total rows n 0)) None

-- n rows from row i on, as bytes (02, Q-2)
unfoldable pub row_bytes : (ℕ → Row) → (n i : ℕ) → List ℕ
row_bytes rows zero i = []
row_bytes rows (suc n) i = (rows i).kind ∷ low2 (rows i).length ++ row_bytes rows n (suc i)

-- "The house file starts with its contents": count and rows (02, Q-2)
abbrev pub contents_bytes : (ℕ → Row) → ℕ → List ℕ
contents_bytes rows n = low2 n ++ row_bytes rows n 0

-- ---- a kind, and a row

-- a byte above 5 is the last kind's
pub last_kind : (byte : ℕ)
    → (((((Unit {0} × (byte ≡ 0 → ⊥)) × (byte ≡ 1 → ⊥)) × (byte ≡ 2 → ⊥)) × (byte ≡ 3 → ⊥)) × (byte ≡ 4 → ⊥)) × (byte ≡ 5 → ⊥)
    → TakeWrite ≡ kind_of byte
last_kind byte ((((((_, a), b), d), e), f), g) =
    simp (ne_eqb byte 0 a, ne_eqb byte 1 b, ne_eqb byte 2 d, ne_eqb byte 3 e, ne_eqb byte 4 f, ne_eqb byte 5 g)

-- a row whose bytes are named by their places
pub row_read : (file : List ℕ) (i r : ℕ)
    → r ≡ get_or file (rows_begin + 3 * i + 1) 0 + get_or file (rows_begin + 3 * i + 2) 0 * 256 → row (get_or file (rows_begin + 3 * i) 0) r ≡ row_at file i
row_read file i r e =
    ap (row (get_or file (rows_begin + 3 * i) 0))
    (e ∙ ap (λ (k : ℕ). get_or file (rows_begin + 3 * i + 1) 0 + get_or file k 0 * 256) (omega arith))

-- ---- a row more

fit_next : (rows : ℕ → Row) (n i : ℕ) → all_fit rows (suc n) i ≡ (all_fit rows n i && row_fits_value (rows (i + n)))
unfolding all_fit
fit_next rows zero i = and-true (row_fits_value (rows i)) ∙ ap (λ (k : ℕ). row_fits_value (rows k)) (omega arith)
fit_next rows (suc n) i =
    ap (λ (b : Bool). row_fits_value (rows i) && b)
    (fit_next rows n (suc i) ∙ ap (λ (k : ℕ). all_fit rows n (suc i) && row_fits_value (rows k)) (omega arith))
    ∙ sym (and_assoc (row_fits_value (rows i)) (all_fit rows n (suc i)) (row_fits_value (rows (i + suc n))))

-- whether each of the first i rows may stand, and how long their bodies are together, of rows that may not stand too; and both with the next row, since no
-- body is longer than a 16-bit length says (02, Q-2)
pub row_more : (rows : ℕ → Row) (i t : ℕ) (f : Bool) (r : Row)
    → (f ≡ all_fit rows i 0) × (t ≡ total rows i 0) × (t ≤ 65535 * i) → (r ≡ rows i) × (r.length < 65536)
    → ((f && row_fits_value r) ≡ all_fit rows (i + 1) 0) × (t + r.length ≡ total rows (i + 1) 0) × (t + r.length ≤ 65535 * (i + 1))
row_more rows i t f r (fit, sum, most) (row, short) =
    let e : row_fits_value r ≡ row_fits_value (rows i) = ap row_fits_value row in
    let l : r.length ≡ (rows i).length = ap (λ (x : Row). x.length) row in (
      rw (add-one i, fit_next rows i 0, zero-add, fit, e) refl,
      rw (add-one i, total_next rows i 0, zero-add) (omega (arith, sum, l)),
      omega (arith, most, short),
    )

-- what the loops over rows keep: each of the first i may stand, and so long are their bodies; none is longer than a 16-bit length says (02, Q-2)
pub record Kept (rows : ℕ → Row) (i t : ℕ) : Type 0 where
  pub fit : all_fit rows i 0 ≡ true
  pub sum : t ≡ total rows i 0
  pub most : t ≤ 65535 * i

pub none_yet : (rows : ℕ → Row) → Kept rows 0 0
unfolding total all_fit
none_yet rows = record { fit = refl; sum = refl; most = omega arith }

-- with the next row, which may stand
pub one_more : (rows : ℕ → Row) (i t : ℕ) (r : Row)
    → Kept rows i t → (r ≡ rows i) × (r.length < 65536) → row_fits_value r ≡ true → Kept rows (i + 1) (t + r.length)
one_more rows i t r k is f =
    let (fit, sum, most) = row_more rows i t true r (sym k.fit, k.sum, k.most) is in
    record { fit = sym fit ∙ f; sum = sum; most = most }

-- .. which may not, so not all n may
pub one_wrong : (rows : ℕ → Row) (n i : ℕ) (r : Row) → i < n → r ≡ rows i → row_fits_value r ≡ false → None ≡ sizes_of rows n
one_wrong rows n i r l row f = go (all_fit rows n 0) refl
  where
    go : (b : Bool) → all_fit rows n 0 ≡ b → None ≡ pick b (Some (total rows n 0)) None
    go true e = absurd (true≢false (sym (fit_at rows n i e l) ∙ ap row_fits_value (sym row) ∙ f))
    go false e = refl

-- what the sizes say
pub sizes_none : (rows : ℕ → Row) (n : ℕ) → None ≡ sizes_of rows n → all_fit rows n 0 ≡ false
sizes_none rows n h = go (all_fit rows n 0) h
  where
    go : (b : Bool) → None ≡ pick b (Some (total rows n 0)) None → b ≡ false
    go true e = cc
    go false e = refl

pub sizes_some : (rows : ℕ → Row) (n t : ℕ) → Some t ≡ sizes_of rows n → (all_fit rows n 0 ≡ true) × (t ≡ total rows n 0)
sizes_some rows n t h = go (all_fit rows n 0) h
  where
    go : (b : Bool) → Some t ≡ pick b (Some (total rows n 0)) None → (b ≡ true) × (t ≡ total rows n 0)
    go true e = (refl, cc)
    go false e = cc

-- ---- their bytes

pub length-rows : (rows : ℕ → Row) (n i : ℕ) → length (row_bytes rows n i) ≡ 3 * n
unfolding row_bytes
length-rows rows zero i = refl
length-rows rows (suc n) i = omega (arith, length-rows rows n (suc i))

rows_next : (rows : ℕ → Row) (n i k : ℕ) → i + n ≡ k → row_bytes rows (suc n) i ≡ row_bytes rows n i ++ ((rows k).kind ∷ low2 (rows k).length)
unfolding row_bytes
rows_next rows zero i k e = ap (λ (j : ℕ). (rows j).kind ∷ low2 (rows j).length) (omega arith)
rows_next rows (suc n) i k e = ap (λ (l : List ℕ). (rows i).kind ∷ low2 (rows i).length ++ l) (rows_next rows n (suc i) k (omega arith))

-- what the loop that writes rows keeps: the first i stand behind the count (02, Q-2)
abbrev pub Put : (ℕ → Row) → ℕ → (before now : List ℕ) → Type 0
Put rows i before now = now ≡ put rows_begin (row_bytes rows i 0) before

pub put_none : (rows : ℕ → Row) (l : List ℕ) → Put rows 0 l l
unfolding put row_bytes
put_none rows l = sym (ap (λ (z : List ℕ). z ++ drop rows_begin l) (append-nil (take rows_begin l)) ∙ take-append-drop rows_begin l)

pub put_row : (rows : ℕ → Row) (i : ℕ) (l now next bytes : List ℕ) → rows_begin ≤ length l
    → Put rows i l now → bytes ≡ (rows i).kind ∷ low2 (rows i).length → next ≡ put (rows_begin + 3 * i) bytes now → Put rows (i + 1) l next
put_row rows i l now next bytes h e b n =
    let r = ap (λ (z : List ℕ). row_bytes rows i 0 ++ z) b ∙ sym (rows_next rows i 0 i (zero-add i)) ∙ ap (λ (k : ℕ). row_bytes rows k 0) (sym (add-one i)) in
    n
    ∙ ap (put (rows_begin + 3 * i) bytes) e
    ∙ put-put rows_begin (rows_begin + 3 * i) (row_bytes rows i 0) bytes l h (omega (arith, length-rows rows i 0))
    ∙ ap (λ (z : List ℕ). put rows_begin z l) r

-- and with all of them the contents are whole
pub put_whole : (rows : ℕ → Row) (n : ℕ) (l start end count : List ℕ)
    → count ≡ low2 n → start ≡ put 0 count l → Put rows n start end → end ≡ over (contents_bytes rows n) l
put_whole rows n l start end count c s e =
    e
    ∙ ap (put rows_begin (row_bytes rows n 0)) (s ∙ put_first count l ∙ ap (λ (z : List ℕ). over z l) c)
    ∙ put-over (low2 n) (row_bytes rows n 0) l rows_begin refl
