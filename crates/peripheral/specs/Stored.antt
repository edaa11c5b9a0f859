-- One queue's bytes put at their place are the whole channel's, where the others stand already; the status is read off the bytes.
use Rattle.std.specs.Prelude.{◌≡◌, ℕ, ◌+◌, ◌≤◌, List, [], ◌∷◌, ◌++◌, length, take, drop, slice_index, slice_index_or, refl, Option, Some, None}
use Rattle.std.proofs.Common.{append_assoc, append-nil, sym, ap, ◌∙◌, arith, length-take-le}
use Rattle.base.specs.Pick.{pick}
use Rattle.base.specs.Bytes.{low4, number4, put, put_into}
use Rattle.base.specs.Numbers.{length_join, past}
use Rattle.peripheral.specs.Upward.{upward, first_of, handed}
use Rattle.peripheral.specs.Status.{pc_free, np_free, some, pc_avail, peripheral_status}
use Rattle.peripheral.specs.Layout.{write_bytes_value, np_bytes, handed_bytes, peripheral_bytes, posted_in, write_of, request_in, np_of, write_in, peripheral_in}
use Rattle.peripheral.specs.Packing.{write-length, np_length, peripheral_length}
use Rattle.peripheral.specs.declared.Request.{Request}
use Rattle.peripheral.specs.declared.Np.{Np}
use Rattle.peripheral.specs.declared.Np.TheVariants.{Free, Waiting, Ready, Failed}
use Rattle.peripheral.specs.declared.Completion.{Completion}
use Rattle.peripheral.specs.declared.Peripheral.{Peripheral}
use Rattle.peripheral.specs.declared.Posted.{Posted}

-- the channel's bytes stand at their place in l
pub record Stands (p : Peripheral) (l : List ℕ) : Type 0 where
  pub front : List ℕ
  pub behind : List ℕ
  pub at : length front ≡ 12
  pub is : l ≡ front ++ (peripheral_bytes p ++ behind)

module _ (p q : Peripheral) (l : List ℕ) (h : Stands p l) where
  -- a, y and b are the channel's bytes; v comes instead of y
  stored : (a y v b : List ℕ) (at : ℕ)
      → peripheral_bytes p ≡ a ++ (y ++ b)
      → peripheral_bytes q ≡ a ++ (v ++ b)
      → length (h.front ++ a) ≡ at
      → length v ≡ length y
      → put at v l ≡ put 12 (peripheral_bytes q) l
  stored a y v b at ep eq n m =
      let f = h.front in
      let t = h.behind in
      let apart : l ≡ (f ++ a) ++ (y ++ (b ++ t)) =
      h.is
      ∙ ap (λ (z : List ℕ). f ++ (z ++ t)) ep
      ∙ ap (λ (z : List ℕ). f ++ z) (append_assoc a (y ++ b) t ∙ ap (λ (z : List ℕ). a ++ z) (append_assoc y b t))
      ∙ sym (append_assoc f a (y ++ (b ++ t))) in
      ap (put at v) apart
      ∙ put_into (f ++ a) y v (b ++ t) at n m
      ∙ append_assoc f a (v ++ (b ++ t))
      ∙ ap (λ (z : List ℕ). f ++ z) (sym (append_assoc a (v ++ b) t ∙ ap (λ (z : List ℕ). a ++ z) (append_assoc v b t)))
      ∙ ap (λ (z : List ℕ). f ++ (z ++ t)) (sym eq)
      ∙ sym (put_into f (peripheral_bytes p) (peripheral_bytes q) t 12 h.at (peripheral_length q ∙ sym (peripheral_length p)))
      ∙ ap (put 12 (peripheral_bytes q)) (sym h.is)

module _ (p : Peripheral) (l : List ℕ) (h : Stands p l) where
  pub stored-write : (w : Option Posted)
      → put 12 (write_bytes_value w) l ≡ put 12 (peripheral_bytes (record { write = w; request = p.request; serial = p.serial })) l
  stored-write w =
      stored p (record { write = w; request = p.request; serial = p.serial }) l h [] (write_bytes_value p.write) (write_bytes_value w)
      (np_bytes p.request ++ low4 p.serial) 12
      refl refl (ap length (append-nil h.front) ∙ h.at) (write-length w ∙ sym (write-length p.write))

  pub stored_request : (n : Np) → put 29 (np_bytes n) l ≡ put 12 (peripheral_bytes (record { write = p.write; request = n; serial = p.serial })) l
  stored_request n =
      stored p (record { write = p.write; request = n; serial = p.serial }) l h (write_bytes_value p.write) (np_bytes p.request) (np_bytes n)
      (low4 p.serial) 29
      refl refl (length_join h.front (write_bytes_value p.write) 12 17 h.at (write-length p.write)) (np_length n ∙ sym (np_length p.request))

  -- a request under a serial of its own
  pub stored-asking : (n : Np) (k : ℕ) → put 29 (np_bytes n ++ low4 k) l ≡ put 12 (peripheral_bytes (record { write = p.write; request = n; serial = k })) l
  stored-asking n k =
      let a = write_bytes_value p.write in
      let y = np_bytes p.request ++ low4 p.serial in
      let v = np_bytes n ++ low4 k in
      stored p (record { write = p.write; request = n; serial = k }) l h a y v [] 29
      (ap (λ (z : List ℕ). a ++ z) (sym (append-nil y))) (ap (λ (z : List ℕ). a ++ z) (sym (append-nil v)))
      (length_join h.front a 12 17 h.at (write-length p.write))
      (length_join (np_bytes n) (low4 k) 31 4 (np_length n) refl ∙ sym
      (length_join (np_bytes p.request) (low4 p.serial) 31 4 (np_length p.request) refl))

-- ---- the status bits of what was put: each is in its queue's first byte

abbrev phase : Np → ℕ
phase Free = 0
phase (Waiting q) = 1
phase (Ready q sent) = 2
phase (Failed q) = 3

phase-at : (x t : List ℕ) (n : Np) → length x ≡ 29 → slice_index (x ++ (np_bytes n ++ t)) 29 ≡ phase n
phase-at x t Free h = past x (np_bytes Free ++ t) 29 0 (omega arith)
phase-at x t (Waiting q) h = past x (np_bytes (Waiting q) ++ t) 29 0 (omega arith)
phase-at x t (Ready q sent) h = past x (np_bytes (Ready q sent) ++ t) 29 0 (omega arith)
phase-at x t (Failed q) h = past x (np_bytes (Failed q) ++ t) 29 0 (omega arith)

bits_at : (n : Np) (q : Request) (sent : ℕ) → (np_free (np_of (phase n) q sent) ≡ np_free n) × (pc_avail (np_of (phase n) q sent) ≡ pc_avail n)
unfolding upward
bits_at Free q sent = (refl, refl)
bits_at (Waiting r) q sent = (refl, refl)
bits_at (Ready r k) q sent = (refl, refl)
bits_at (Failed r) q sent = (refl, refl)

free_at : (x t : List ℕ) (w : Option Posted) → length x ≡ 12 → pc_free (write_in (x ++ (write_bytes_value w ++ t))) ≡ pc_free w
free_at x t None h = ap (λ (n : ℕ). pc_free (write_of n (posted_in (x ++ (write_bytes_value None ++ t)))))
    (past x (write_bytes_value None ++ t) 12 0 (omega arith))
free_at x t (Some w) h = ap (λ (n : ℕ). pc_free (write_of n (posted_in (x ++ (write_bytes_value (Some w) ++ t)))))
    (past x (write_bytes_value (Some w) ++ t) 12 0 (omega arith))

status-at : (x t : List ℕ) (q : Peripheral) → length x ≡ 12 → peripheral_status (peripheral_in (x ++ (peripheral_bytes q ++ t))) ≡ peripheral_status q
status-at x t q h =
    let b = write_bytes_value q.write in
    let c = np_bytes q.request in
    let d = low4 q.serial in
    let m = x ++ (peripheral_bytes q ++ t) in
    let e₁ : m ≡ x ++ (b ++ (c ++ (d ++ t))) = ap (λ (z : List ℕ). x ++ z) (append_assoc b (c ++ d) t ∙ ap (λ (z : List ℕ). b ++ z) (append_assoc c d t)) in
    let e₂ : m ≡ (x ++ b) ++ (c ++ (d ++ t)) = e₁ ∙ sym (append_assoc x b (c ++ (d ++ t))) in
    let k : slice_index_or m 29 0 ≡ phase q.request =
    ap (λ (z : List ℕ). slice_index z 29) e₂ ∙ phase-at (x ++ b) (d ++ t) q.request (length_join x b 12 17 h (write-length q.write)) in
    let f = bits_at q.request (request_in m) (number4 56 m) in
    rw (
      ap (λ (z : List ℕ). pc_free (write_in z)) e₁ ∙ free_at x (c ++ (d ++ t)) q.write h,
      ap (λ (n : ℕ). np_free (np_of n (request_in m) (number4 56 m))) k ∙ f.0,
      ap (λ (n : ℕ). pc_avail (np_of n (request_in m) (number4 56 m))) k ∙ f.1,
    )

pub status-stored : (q : Peripheral) (l : List ℕ) → 12 ≤ length l → peripheral_status (peripheral_in (put 12 (peripheral_bytes q) l)) ≡ peripheral_status q
unfolding put
status-stored q l h =
    let t = drop (12 + length (peripheral_bytes q)) l in
    ap (λ (z : List ℕ). peripheral_status (peripheral_in z)) (append_assoc (take 12 l) (peripheral_bytes q) t)
    ∙ status-at (take 12 l) t q (length-take-le 12 l h)

-- ---- what a hand-over leaves, by what is handed over

left_none : (cs : List Completion) (a l : List ℕ) → first_of cs ≡ None → pick (some cs) a l ≡ l
left_none [] a l e = refl
left_none (c ∷ cs) a l e = let z : ◌≡◌ {A = ℕ} 0 1 = cc in absurd (omega arith)

left_one : (cs : List Completion) (c : Completion) (a l : List ℕ) → first_of cs ≡ Some c → pick (some cs) a l ≡ a
left_one [] c a l e = let z : ◌≡◌ {A = ℕ} 0 1 = cc in absurd (omega arith)
left_one (x ∷ cs) c a l e = refl

module _ (n : Np) (l : List ℕ) where
  pub handed_none : first_of (upward n) ≡ None → handed_bytes n l ≡ l
  handed_none e = left_none (upward n) (put 29 (np_bytes (handed n)) l) l e

  pub handed-one : (c : Completion) → first_of (upward n) ≡ Some c → handed_bytes n l ≡ put 29 (np_bytes (handed n)) l
  handed-one c e = left_one (upward n) c (put 29 (np_bytes (handed n)) l) l e
