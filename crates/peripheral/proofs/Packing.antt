-- A sound channel's bytes give it back behind whatever stands before them, and are below 256; what such numbers give is within its widths.
-- ---- lengths
use Rattle.std.specs.Prelude.{◌≡◌, ℕ, ◌^◌, ◌<◌, true, List, ◌++◌, length, Option, Some, None}
use Rattle.std.proofs.Common.{append_assoc, sym, ap, ◌∙◌, arith, ltb-true}
use Rattle.base.specs.Pick.{and_left, and_right}
use Rattle.base.specs.Bytes.{low4, number4}
use Rattle.base.specs.Numbers.{length_join, past, number4_past}
use Rattle.base.proofs.Numbers.{back4, back8}
use Rattle.base.specs.AllBytes.{AllBytes, all_cons, all_append, all-low4}
use Rattle.peripheral.specs.declared.Request.{Request}
use Rattle.peripheral.specs.declared.Np.{Np}
use Rattle.peripheral.specs.declared.Np.TheVariants.{Free, Waiting, Ready, Failed}
use Rattle.peripheral.specs.declared.Peripheral.{Peripheral}
use Rattle.peripheral.specs.declared.Posted.{Posted}
use Rattle.peripheral.specs.Sound.{sound_request, sound_write, fits_request, fits_write, fits_peripheral}
use Rattle.peripheral.specs.Facts.{MadeRequest}
use Rattle.peripheral.proofs.Facts.{waiting_request, failed_request, ready_request, held-write}
use Rattle.peripheral.specs.Layout.{write_bytes_value, request_bytes, np_bytes, peripheral_bytes, write_of, posted_in, request_in, write_in, np_in, peripheral_in}
use Rattle.peripheral.specs.Packing.{all-write, all_numbers, all_request, kind_back, np_length, posted_at, request_at, write-length}

-- ---- what a packed part gives back

write-back : (p t : List ℕ) (w : Option Posted) → length p ≡ 12 → sound_write w ≡ true → fits_write w ≡ true → write_in (p ++ (write_bytes_value w ++ t)) ≡ w
write-back p t None h s f = ap (λ (n : ℕ). write_of n (posted_in (p ++ (write_bytes_value None ++ t))))
    (past p (write_bytes_value None ++ t) 12 0 (omega arith))
write-back p t (Some w) h s f =
    let m = held-write w s in
    let l = write_bytes_value (Some w) ++ t in
    ap (λ (n : ℕ). write_of n (posted_in (p ++ l))) (past p l 12 0 (omega arith))
    ∙ ap Some
    (posted_at p l h
    ∙ rw (
      back8 w.address (ltb-true _ _ f),
      back4 w.length (omega (arith, m.most)),
      back4 w.payload (omega (arith, m.payload.most)),
    ))

module _ (p t : List ℕ) (h : length p ≡ 29) where
  request_back : (phase : ℕ) (q : Request) (sent : ℕ) → MadeRequest q → q.address < 2 ^ 64 → request_in (p ++ (request_bytes phase q sent ++ t)) ≡ q
  request_back phase q sent m a =
      request_at p (request_bytes phase q sent ++ t) h
      ∙ rw (
        kind_back q.kind,
        back8 q.address a,
        back4 q.length (omega (arith, m.most)),
        back4 q.payload (omega (arith, m.payload.most)),
        back4 q.readsize (omega (arith, m.readsize.most)),
        back4 q.bytes m.bytes,
      )

  sent_back : (phase : ℕ) (q : Request) (sent : ℕ) → sent < 2 ^ 32 → number4 56 (p ++ (request_bytes phase q sent ++ t)) ≡ sent
  sent_back phase q sent s = number4_past p (request_bytes phase q sent ++ t) 56 27 (omega arith) ∙ back4 sent s

  np_back : (n : Np) → sound_request n ≡ true → fits_request n ≡ true → np_in (p ++ (np_bytes n ++ t)) ≡ n
  np_back Free s f = rw (past p (np_bytes Free ++ t) 29 0 (omega arith))
  np_back (Waiting q) s f =
      rw (past p (np_bytes (Waiting q) ++ t) 29 0 (omega arith)) (ap Waiting (request_back 1 q 0 (waiting_request q s) (ltb-true _ _ f)))
  np_back (Ready q sent) s f =
      let r = ready_request q sent s in
      rw (past p (np_bytes (Ready q sent) ++ t) 29 0 (omega arith), sent_back 2 q sent (omega (arith, r.short, r.made.most)))
      (ap (λ (z : Request). Ready z sent) (request_back 2 q sent r.made (ltb-true _ _ f)))
  np_back (Failed q) s f =
      rw (past p (np_bytes (Failed q) ++ t) 29 0 (omega arith)) (ap Failed (request_back 3 q 0 (failed_request q s) (ltb-true _ _ f)))

pub peripheral_back : (p t : List ℕ) (q : Peripheral) → length p ≡ 12 → sound_request q.request ≡ true → sound_write q.write ≡ true
    → fits_peripheral q ≡ true
    → peripheral_in (p ++ (peripheral_bytes q ++ t)) ≡ q
peripheral_back p t q h sr sw f =
    let b = write_bytes_value q.write in
    let c = np_bytes q.request in
    let d = low4 q.serial in
    let l₂ : length (p ++ b) ≡ 29 = length_join p b 12 17 h (write-length q.write) in
    let l₃ : length ((p ++ b) ++ c) ≡ 60 = length_join (p ++ b) c 29 31 l₂ (np_length q.request) in
    let f₁ = and_right (fits_request q.request) _ f in
    let e₁ : p ++ ((b ++ (c ++ d)) ++ t) ≡ p ++ (b ++ (c ++ (d ++ t))) = ap (λ (z : List ℕ). p ++ z)
    (append_assoc b (c ++ d) t ∙ ap (λ (z : List ℕ). b ++ z) (append_assoc c d t)) in
    let e₂ = e₁ ∙ sym (append_assoc p b (c ++ (d ++ t))) in
    let e₃ = e₂ ∙ sym (append_assoc (p ++ b) c (d ++ t)) in
    rw (
      ap write_in e₁ ∙ write-back p (c ++ (d ++ t)) q.write h sw (and_left (fits_write q.write) _ f₁),
      ap np_in e₂ ∙ np_back (p ++ b) (d ++ t) l₂ q.request sr (and_left (fits_request q.request) _ f),
      ap (number4 60) e₃ ∙ number4_past ((p ++ b) ++ c) (d ++ t) 60 0 (omega arith) ∙ back4 q.serial (ltb-true _ _ (and_right (fits_write q.write) _ f₁)),
    )

-- ---- bytes below 256

all_np : (n : Np) → sound_request n ≡ true → AllBytes (np_bytes n)
all_np Free e = all_cons (omega arith) (all_cons (omega arith) (all_cons (omega arith) (all_numbers 0 0 0 0 0 0)))
all_np (Waiting q) e = all_request 1 q 0 (omega arith) (waiting_request q e)
all_np (Ready q sent) e = all_request 2 q sent (omega arith) (ready_request q sent e).made
all_np (Failed q) e = all_request 3 q 0 (omega arith) (failed_request q e)

pub all_peripheral : (p : Peripheral) → sound_request p.request ≡ true → AllBytes (peripheral_bytes p)
all_peripheral p e =
    all_append (write_bytes_value p.write) (all-write p.write) (all_append (np_bytes p.request) (all_np p.request e) (all-low4 p.serial))
