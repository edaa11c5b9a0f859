-- The test of the bytes as they stand: what passes is packed again to the same bytes, and every packed channel passes.
use Rattle.std.specs.Prelude.{◌≡◌, ℕ, zero, suc, ◌<◌, Bool, true, ◌&&◌, List, ◌∷◌, ◌++◌, length, ◌==◌, nat_le, slice_index, refl, Option, Some, None}
use Rattle.std.proofs.Common.{true≢false, append_assoc, sym, ap, ◌∙◌, arith, eqb-true, leb-true}
use Rattle.base.specs.Pick.{and_left, and_right, and_true}
use Rattle.base.specs.Bytes.{low4, low8, number4}
use Rattle.base.specs.Numbers.{length_join, join, past, number4_past, listed}
use Rattle.base.proofs.Numbers.{low4-number4, low8-number8}
use Rattle.peripheral.specs.declared.Kind.{Kind}
use Rattle.peripheral.specs.declared.Kind.TheVariants.{MemoryRead, IoRead, IoWrite}
use Rattle.peripheral.specs.declared.Request.{Request}
use Rattle.peripheral.specs.declared.Np.{Np}
use Rattle.peripheral.specs.declared.Np.TheVariants.{Free, Waiting, Ready, Failed}
use Rattle.peripheral.specs.declared.Posted.{Posted}
use Rattle.peripheral.specs.declared.Peripheral.{Peripheral}
use Rattle.peripheral.specs.Layout.{write_bytes_value, kind_number, number_bytes, np_bytes, peripheral_bytes, posted_in, write_of, kind_of, request_in, np_of, peripheral_in, tidy_write, blank, tidy_request, tidy_peripheral}
use Rattle.peripheral.specs.Packing.{write-length, posted_at, request_at}

-- ---- what passes is packed again to the same numbers

write_again : (n : ℕ) (w : Posted) → tidy_write n w ≡ true → write_bytes_value (write_of n w) ≡ n ∷ (low8 w.address ++ (low4 w.length ++ low4 w.payload))
write_again zero w e =
    let e₁ = and_right (w.address == 0) _ e in
    rw (
      eqb-true w.address 0 (and_left (w.address == 0) _ e),
      eqb-true w.length 0 (and_left (w.length == 0) _ e₁),
      eqb-true w.payload 0 (and_right (w.length == 0) _ e₁),
    )
write_again (suc zero) w e = refl
write_again (suc (suc n)) w e = absurd (true≢false (sym e))

kind_again : (n : ℕ) → nat_le n 2 ≡ true → kind_number (kind_of n) ≡ n
kind_again zero e = refl
kind_again (suc zero) e = refl
kind_again (suc (suc zero)) e = refl
kind_again (suc (suc (suc n))) e = absurd (omega (arith, leb-true (suc (suc (suc n))) 2 e))

blank_again : (kind : ℕ) (q : Request) (sent : ℕ) → blank kind q sent ≡ true → np_bytes Free ≡ number_bytes 0 kind q sent
blank_again kind q sent e =
    let e₁ = and_right (kind == 0) _ e in
    let e₂ = and_right (q.tag == 0) _ e₁ in
    let e₃ = and_right (q.address == 0) _ e₂ in
    let e₄ = and_right (q.length == 0 && q.payload == 0) _ e₃ in
    let f = and_left (q.length == 0 && q.payload == 0) _ e₃ in
    let g = and_left (q.readsize == 0 && q.bytes == 0) _ e₄ in
    rw (
      eqb-true kind 0 (and_left (kind == 0) _ e),
      eqb-true q.tag 0 (and_left (q.tag == 0) _ e₁),
      eqb-true q.address 0 (and_left (q.address == 0) _ e₂),
      eqb-true q.length 0 (and_left (q.length == 0) _ f),
      eqb-true q.payload 0 (and_right (q.length == 0) _ f),
      eqb-true q.readsize 0 (and_left (q.readsize == 0) _ g),
      eqb-true q.bytes 0 (and_right (q.readsize == 0) _ g),
      eqb-true sent 0 (and_right (q.readsize == 0 && q.bytes == 0) _ e₄),
    )

module _ (kind : ℕ) (q : Request) (h : q.kind ≡ kind_of kind) where
  numbered : (phase sent : ℕ) → nat_le kind 2 ≡ true → number_bytes phase (kind_number q.kind) q sent ≡ number_bytes phase kind q sent
  numbered phase sent e = ap (λ (k : ℕ). number_bytes phase k q sent) (ap kind_number h ∙ kind_again kind e)

  unsent : (phase sent : ℕ) → nat_le kind 2 && (sent == 0) ≡ true → number_bytes phase (kind_number q.kind) q 0 ≡ number_bytes phase kind q sent
  unsent phase sent e =
      numbered phase 0 (and_left (nat_le kind 2) _ e) ∙ ap (number_bytes phase kind q) (sym (eqb-true sent 0 (and_right (nat_le kind 2) _ e)))

  request_again : (phase sent : ℕ) → tidy_request phase kind q sent ≡ true → np_bytes (np_of phase q sent) ≡ number_bytes phase kind q sent
  request_again zero sent e = blank_again kind q sent e
  request_again (suc zero) sent e = unsent 1 sent e
  request_again (suc (suc zero)) sent e = numbered 2 sent e
  request_again (suc (suc (suc zero))) sent e = unsent 3 sent e
  request_again (suc (suc (suc (suc n)))) sent e = absurd (true≢false (sym e))

pub peripheral_again : (l : List ℕ) → ((k : ℕ) → slice_index l k < 256) → tidy_peripheral l ≡ true → peripheral_bytes (peripheral_in l) ≡ listed 52 12 l
peripheral_again l byte e =
    let t = tidy_write (slice_index l 12) (posted_in l) in
    let four = low4-number4 l byte in
    let eight = low8-number8 l byte in
    join
    (write_again (slice_index l 12) (posted_in l) (and_left t _ e) ∙ ap (λ (z : List ℕ). slice_index l 12 ∷ z) (join (eight 13) (join (four 21) (four 25))))
    (join
    (request_again (slice_index l 30) (request_in l) refl (slice_index l 29) (number4 56 l) (and_right t _ e)
    ∙ ap (λ (z : List ℕ). slice_index l 29 ∷ slice_index l 30 ∷ slice_index l 31 ∷ z)
    (join (eight 32) (join (four 40) (join (four 44) (join (four 48) (join (four 52) (four 56)))))))
    (four 60))

-- ---- a packed channel passes

write-tidy : (p t : List ℕ) (w : Option Posted) → length p ≡ 12 → tidy_write (slice_index (p ++ (write_bytes_value w ++ t)) 12)
    (posted_in (p ++ (write_bytes_value w ++ t))) ≡ true
write-tidy p t None h =
    let l = write_bytes_value None ++ t in
    ap (tidy_write (slice_index (p ++ l) 12)) (posted_at p l h) ∙ rw (past p l 12 0 (omega arith))
write-tidy p t (Some w) h = rw (past p (write_bytes_value (Some w) ++ t) 12 0 (omega arith))

kind_tidy : (k : Kind) → nat_le (kind_number k) 2 ≡ true
kind_tidy MemoryRead = refl
kind_tidy IoRead = refl
kind_tidy IoWrite = refl

abbrev request_test : List ℕ → Bool
request_test l = tidy_request (slice_index l 29) (slice_index l 30) (request_in l) (number4 56 l)

module _ (p t : List ℕ) (h : length p ≡ 29) where
  phase-at : (l : List ℕ) → slice_index (p ++ l) 29 ≡ slice_index l 0
  phase-at l = past p l 29 0 (omega arith)

  kind_at : (l : List ℕ) → slice_index (p ++ l) 30 ≡ slice_index l 1
  kind_at l = past p l 30 1 (omega arith)

  sent-at : (l : List ℕ) → number4 56 (p ++ l) ≡ number4 27 l
  sent-at l = number4_past p l 56 27 (omega arith)

  request_tidy : (n : Np) → request_test (p ++ (np_bytes n ++ t)) ≡ true
  request_tidy Free =
      let l = np_bytes Free ++ t in
      ap (λ (q : Request). tidy_request (slice_index (p ++ l) 29) (slice_index (p ++ l) 30) q (number4 56 (p ++ l))) (request_at p l h)
      ∙ rw (phase-at l, kind_at l, sent-at l)
  request_tidy (Waiting q) = let l = np_bytes (Waiting q) ++ t in rw (phase-at l, kind_at l, sent-at l) (and_true (kind_tidy q.kind) refl)
  request_tidy (Ready q sent) = let l = np_bytes (Ready q sent) ++ t in rw (phase-at l, kind_at l) (kind_tidy q.kind)
  request_tidy (Failed q) = let l = np_bytes (Failed q) ++ t in rw (phase-at l, kind_at l, sent-at l) (and_true (kind_tidy q.kind) refl)

pub peripheral_tidy : (p t : List ℕ) (q : Peripheral) → length p ≡ 12 → tidy_peripheral (p ++ (peripheral_bytes q ++ t)) ≡ true
peripheral_tidy p t q h =
    let b = write_bytes_value q.write in
    let c = np_bytes q.request in
    let d = low4 q.serial in
    let e₁ : p ++ ((b ++ (c ++ d)) ++ t) ≡ p ++ (b ++ (c ++ (d ++ t))) = ap (λ (z : List ℕ). p ++ z)
    (append_assoc b (c ++ d) t ∙ ap (λ (z : List ℕ). b ++ z) (append_assoc c d t)) in
    let l₂ : length (p ++ b) ≡ 29 = length_join p b 12 17 h (write-length q.write) in
    ap tidy_peripheral e₁
    ∙ and_true (write-tidy p (c ++ (d ++ t)) q.write h)
    (ap request_test (sym (append_assoc p b (c ++ (d ++ t)))) ∙ request_tidy (p ++ b) (d ++ t) l₂ q.request)
