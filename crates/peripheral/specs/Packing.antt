-- A sound channel's bytes give it back behind whatever stands before them, and are below 256; what such numbers give is within its widths.
use Rattle.std.specs.Prelude.{◌≡◌, ℕ, zero, suc, ◌+◌, ◌^◌, ◌<◌, ◌≤◌, true, List, ◌++◌, length, slice_index, refl, Option, Some, None}
use Rattle.std.proofs.Common.{arith, lt-ltb}
use Rattle.base.specs.Pick.{and_true}
use Rattle.base.specs.Bytes.{low4, low8, number4, number8}
use Rattle.base.specs.Numbers.{length_join, past, number4_past, number8_past, four_same, eight_same, number4_lt, number8_lt}
use Rattle.base.specs.AllBytes.{AllBytes, all_cons, all-low4, then4, then8}
use Rattle.peripheral.specs.declared.Kind.{Kind}
use Rattle.peripheral.specs.declared.Kind.TheVariants.{MemoryRead, IoRead, IoWrite}
use Rattle.peripheral.specs.declared.Request.{Request}
use Rattle.peripheral.specs.declared.Np.{Np}
use Rattle.peripheral.specs.declared.Np.TheVariants.{Free, Waiting, Ready, Failed}
use Rattle.peripheral.specs.declared.Posted.{Posted}
use Rattle.peripheral.specs.declared.Peripheral.{Peripheral}
use Rattle.peripheral.specs.Sound.{fits_request, fits_write, fits_peripheral}
use Rattle.peripheral.specs.Facts.{MadeRequest}
use Rattle.peripheral.specs.Layout.{write_bytes_value, kind_number, request_bytes, np_bytes, peripheral_bytes, write_of, kind_of, np_of, posted_in, request_in, peripheral_in}

-- ---- lengths

pub write-length : (w : Option Posted) → length (write_bytes_value w) ≡ 17
write-length None = refl
write-length (Some w) = refl

pub np_length : (n : Np) → length (np_bytes n) ≡ 31
np_length Free = refl
np_length (Waiting q) = refl
np_length (Ready q sent) = refl
np_length (Failed q) = refl

pub peripheral_length : (p : Peripheral) → length (peripheral_bytes p) ≡ 52
peripheral_length p =
    length_join (write_bytes_value p.write) (np_bytes p.request ++ low4 p.serial) 17 35 (write-length p.write)
    (length_join (np_bytes p.request) (low4 p.serial) 31 4 (np_length p.request) refl)

-- ---- parts that stand behind others

module _ (p l : List ℕ) where
  pub posted_at : length p ≡ 12 → posted_in (p ++ l) ≡ record { address = number8 1 l; length = number4 9 l; payload = number4 13 l }
  posted_at h = rw (number8_past p l 13 1 (omega arith), number4_past p l 21 9 (omega arith), number4_past p l 25 13 (omega arith))

  pub request_at : length p ≡ 29
      → request_in (p ++ l)
      ≡ record {
        kind =
            kind_of (slice_index l 1);
        tag = slice_index l 2;
        address = number8 3 l;
        length = number4 11 l;
        payload = number4 15 l;
        readsize = number4 19 l;
        bytes
            = number4 23 l;
      }
  request_at h =
      rw (
        past p l 30 1 (omega arith),
        past p l 31 2 (omega arith),
        number8_past p l 32 3 (omega arith),
        number4_past p l 40 11 (omega arith),
        number4_past p l 44 15 (omega arith),
        number4_past p l 48 19 (omega arith),
        number4_past p l 52 23 (omega arith),
      )

-- ---- what a packed part gives back

pub kind_back : (k : Kind) → kind_of (kind_number k) ≡ k
kind_back MemoryRead = refl
kind_back IoRead = refl
kind_back IoWrite = refl

-- ---- bytes below 256

pub all-write : (w : Option Posted) → AllBytes (write_bytes_value w)
all-write None = all_cons (omega arith) (then8 0 (then4 0 (all-low4 0)))
all-write (Some w) = all_cons (omega arith) (then8 w.address (then4 w.length (all-low4 w.payload)))

kind_small : (k : Kind) → kind_number k < 256
kind_small MemoryRead = omega arith
kind_small IoRead = omega arith
kind_small IoWrite = omega arith

pub all_numbers : (a b c d e f : ℕ) → AllBytes (low8 a ++ (low4 b ++ (low4 c ++ (low4 d ++ (low4 e ++ low4 f)))))
all_numbers a b c d e f = then8 a (then4 b (then4 c (then4 d (then4 e (all-low4 f)))))

pub all_request : (phase : ℕ) (q : Request) (sent : ℕ) → phase < 256 → MadeRequest q → AllBytes (request_bytes phase q sent)
all_request phase q sent h m =
    all_cons h (all_cons (kind_small q.kind)
    (all_cons (omega (arith, m.tag)) (all_numbers q.address q.length q.payload q.readsize q.bytes sent)))

-- ---- what bytes make fits

write-fits : (n : ℕ) (w : Posted) → w.address < 2 ^ 64 → fits_write (write_of n w) ≡ true
write-fits zero w h = refl
write-fits (suc n) w h = lt-ltb _ _ h

np_fits : (n : ℕ) (q : Request) (sent : ℕ) → q.address < 2 ^ 64 → fits_request (np_of n q sent) ≡ true
np_fits zero q sent h = refl
np_fits (suc zero) q sent h = lt-ltb _ _ h
np_fits (suc (suc zero)) q sent h = lt-ltb _ _ h
np_fits (suc (suc (suc n))) q sent h = lt-ltb _ _ h

pub peripheral_in_fits : (l : List ℕ) → ((k : ℕ) → slice_index l k < 256) → fits_peripheral (peripheral_in l) ≡ true
peripheral_in_fits l byte =
    and_true (np_fits (slice_index l 29) (request_in l) (number4 56 l) (number8_lt l byte 32))
    (and_true (write-fits (slice_index l 12) (posted_in l) (number8_lt l byte 13)) (lt-ltb _ _ (number4_lt l byte 60)))

-- ---- bytes past the channel's do not matter

module _ (a b : List ℕ) (e : (k : ℕ) → k < 64 → slice_index a k ≡ slice_index b k) where
  four : (at : ℕ) → at + 4 ≤ 64 → number4 at a ≡ number4 at b
  four = four_same a b 64 e

  eight : (at : ℕ) → at + 8 ≤ 64 → number8 at a ≡ number8 at b
  eight = eight_same a b 64 e

  posted_same : posted_in a ≡ posted_in b
  posted_same = rw (eight 13 (omega arith), four 21 (omega arith), four 25 (omega arith))

  request_same : request_in a ≡ request_in b
  request_same =
      rw (
        e 30 (omega arith),
        e 31 (omega arith),
        eight 32 (omega arith),
        four 40 (omega arith),
        four 44 (omega arith),
        four 48 (omega arith),
        four 52 (omega arith),
      )

  pub peripheral_same : peripheral_in a ≡ peripheral_in b
  peripheral_same = rw (e 12 (omega arith), posted_same, e 29 (omega arith), request_same, four 56 (omega arith), four 60 (omega arith))
