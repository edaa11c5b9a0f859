-- What the soundness test of the channel says, part by part: the facts that readers of a sound state cite.
use Rattle.std.specs.Prelude.{◌≡◌, ℕ, ◌+◌, ◌*◌, ◌%◌, ◌^◌, ◌<◌, ◌≤◌, Bool, true, false, ◌&&◌, ◌||◌, ltb, ◌⊎◌, ◌==◌, nat_lt, refl, Option, Some, None}
use Rattle.std.proofs.Common.{true≢false, inl, inr, sym, subst, arith, eqb-true, ltb-true, lt-ltb, eq-eqb}
use Rattle.std.proofs.lemmas.Bool.{eqb-false}
use Rattle.base.specs.Pick.{or_either, pick_ind, and_left, and_right, and_true}
use Rattle.registers.specs.Registers.{payload_legal, read_legal}
use Rattle.registers.specs.Sizes.{payload_cases, read_cases}
use Rattle.pieces.specs.Pieces.{next_size}
use Rattle.pieces.specs.Blocks.{Block, block_bits}
use Rattle.pieces.specs.Edges.{next_ok}
use Rattle.peripheral.specs.Upward.{next_of, handed, after_piece, after_success}
use Rattle.peripheral.specs.Status.{pc_free, np_free}
use Rattle.peripheral.specs.declared.Kind.{Kind}
use Rattle.peripheral.specs.declared.Kind.TheVariants.{MemoryRead, IoRead, IoWrite}
use Rattle.peripheral.specs.declared.Request.{Request}
use Rattle.peripheral.specs.declared.Np.{Np}
use Rattle.peripheral.specs.declared.Np.TheVariants.{Free, Waiting, Ready, Failed}
use Rattle.peripheral.specs.declared.Posted.{Posted}
use Rattle.peripheral.specs.declared.Peripheral.{Peripheral}
use Rattle.peripheral.specs.Sound.{short_size, io_made, made_as_value, request_made, sent_right, sound_request, sound_write, nothing_held, sound_peripheral, fits_request}

-- ---- sizes

pub record LegalPayload (p : ℕ) : Type 0 where
  pub least : 64 ≤ p
  pub most : p ≤ 256
  pub block : Block p

pub legal_payload : (p : ℕ) → payload_legal p ≡ true → LegalPayload p
legal_payload =
    payload_cases LegalPayload (is (omega arith) (omega arith) (block_bits 6 refl)) (is (omega arith) (omega arith) (block_bits 7 refl))
    (is (omega arith) (omega arith) (block_bits 8 refl))
  where
    is : {p : ℕ} → 64 ≤ p → p ≤ 256 → Block p → LegalPayload p
    is l m b = record { least = l; most = m; block = b }

pub record LegalRead (p : ℕ) : Type 0 where
  pub least : 64 ≤ p
  pub most : p ≤ 4096
  pub block : Block p

pub legal_read : (p : ℕ) → read_legal p ≡ true → LegalRead p
legal_read =
    read_cases LegalRead (is (omega arith) (omega arith) (block_bits 6 refl)) (is (omega arith) (omega arith) (block_bits 7 refl))
    (is (omega arith) (omega arith) (block_bits 8 refl)) (is (omega arith) (omega arith) (block_bits 9 refl))
    (is (omega arith) (omega arith) (block_bits 10 refl)) (is (omega arith) (omega arith) (block_bits 11 refl))
    (is (omega arith) (omega arith) (block_bits 12 refl))
  where
    is : {p : ℕ} → 64 ≤ p → p ≤ 4096 → Block p → LegalRead p
    is l m b = record { least = l; most = m; block = b }

pub payload_block : (p : ℕ) → payload_legal p ≡ true → Block p
payload_block p e = (legal_payload p e).block

pub read_block : (p : ℕ) → read_legal p ≡ true → Block p
read_block p e = (legal_read p e).block

-- ---- a request that a command makes, by its kind

pub record MadeMemoryRead (q : Request) : Type 0 where
  pub least : 1 ≤ q.length
  pub in_block : q.address % q.readsize + q.length ≤ q.readsize
  pub tag : q.tag < 16
  pub bytes : q.bytes ≡ 0

pub record MadeIo (q : Request) : Type 0 where
  pub tag : q.tag ≡ 0
  pub address : q.address < 2 ^ 16
  pub lengths : (q.length ≡ 1) ⊎ ((q.length ≡ 2) ⊎ (q.length ≡ 4))
  pub least : 1 ≤ q.length
  pub most : q.length ≤ 4

pub record MadeIoRead (q : Request) : Type 0 where
  pub io : MadeIo q
  pub in_block : q.address % q.readsize + q.length ≤ q.readsize
  pub bytes : q.bytes ≡ 0

pub record MadeIoWrite (q : Request) : Type 0 where
  pub io : MadeIo q
  pub in_block : q.address % q.payload + q.length ≤ q.payload
  pub bytes : q.bytes < 2 ^ (8 * q.length)

pub made_io : (q : Request) → io_made q ≡ true → MadeIo q
made_io q e = first (or_either (L == 1) (L == 2 || L == 4) (and_right (nat_lt q.address (2 ^ 16)) _ e₁))
  where
    L : ℕ
    L = q.length

    e₁ : ltb q.address (2 ^ 16) && short_size L ≡ true
    e₁ = and_right (q.tag == 0) _ e

    made : (L ≡ 1) ⊎ ((L ≡ 2) ⊎ (L ≡ 4)) → 1 ≤ L → L ≤ 4 → MadeIo q
    made c l m =
        record {
          tag = eqb-true q.tag 0 (and_left (q.tag == 0) _ e);
          address = ltb-true q.address (2 ^ 16) (and_left (nat_lt q.address (2 ^ 16)) _ e₁);
          lengths = c;
          least = l;
          most = m;
        }

    second : ((L == 2) ≡ true) ⊎ ((L == 4) ≡ true) → MadeIo q
    second (inl k) = let h = eqb-true L 2 k in made (inr (inl h)) (omega arith) (omega arith)
    second (inr k) = let h = eqb-true L 4 k in made (inr (inr h)) (omega arith) (omega arith)

    first : ((L == 1) ≡ true) ⊎ (L == 2 || (L == 4) ≡ true) → MadeIo q
    first (inl k) = let h = eqb-true L 1 k in made (inl h) (omega arith) (omega arith)
    first (inr k) = second (or_either (L == 2) (L == 4) k)

-- ---- a request that a command makes, whatever its kind

pub record MadeRequest (q : Request) : Type 0 where
  pub payload : LegalPayload q.payload
  pub readsize : LegalRead q.readsize
  pub as_kind : made_as_value q.kind q ≡ true
  pub least : 1 ≤ q.length
  pub most : q.length ≤ 4096
  pub tag : q.tag < 16
  pub bytes : q.bytes < 2 ^ 32

pub record Common (q : Request) : Type 0 where
  pub least : 1 ≤ q.length
  pub most : q.length ≤ 4096
  pub tag : q.tag < 16
  pub bytes : q.bytes < 2 ^ 32

-- the bytes of an I/O write fit in four
pub bytes_fit : (b L : ℕ) → b < 2 ^ (8 * L) → (L ≡ 1) ⊎ ((L ≡ 2) ⊎ (L ≡ 4)) → b < 2 ^ 32
bytes_fit b L h (inl e) = omega (arith, subst (λ (n : ℕ). b < 2 ^ (8 * n)) e h)
bytes_fit b L h (inr (inl e)) = omega (arith, subst (λ (n : ℕ). b < 2 ^ (8 * n)) e h)
bytes_fit b L h (inr (inr e)) = subst (λ (n : ℕ). b < 2 ^ (8 * n)) e h

-- ---- a request answered with success, `sent` bytes of it gone

pub record ReadyRequest (q : Request) (sent : ℕ) : Type 0 where
  pub made : MadeRequest q
  pub right : sent_right q.kind q sent ≡ true
  pub short : sent < q.length
  pub edge : (sent ≡ 0) ⊎ ((q.address + sent) % q.payload ≡ 0)
  pub next_least : 1 ≤ next_of q sent
  pub next_most_lem : next_of q sent ≤ 256
  pub next_end : sent + next_of q sent ≤ q.length

pub record Sent (q : Request) (sent : ℕ) : Type 0 where
  pub short : sent < q.length
  pub edge : (sent ≡ 0) ⊎ ((q.address + sent) % q.payload ≡ 0)

sent-read : (q : Request) (sent : ℕ) → sent_right MemoryRead q sent ≡ true → Sent q sent
sent-read q sent e =
    record {
      short = ltb-true sent q.length (and_left (nat_lt sent q.length) _ e);
      edge = go
          (or_either (sent == 0) _ (and_right (nat_lt sent q.length) _ e));
    }
  where
    go : ((sent == 0) ≡ true) ⊎ (((q.address + sent) % q.payload == 0) ≡ true) → (sent ≡ 0) ⊎ ((q.address + sent) % q.payload ≡ 0)
    go (inl h) = inl (eqb-true sent 0 h)
    go (inr h) = inr (eqb-true _ 0 h)

-- "bytes sent are 0 unless a read was answered"
pub sent-write : (q : Request) (sent : ℕ) → sent_right IoWrite q sent ≡ true → sent ≡ 0
sent-write q sent e = eqb-true sent 0 e

pub sent_of : (k : Kind) (q : Request) (sent : ℕ) → 1 ≤ q.length → sent_right k q sent ≡ true → Sent q sent
sent_of MemoryRead q sent l e = sent-read q sent e
sent_of IoRead q sent l e = sent-read q sent e
sent_of IoWrite q sent l e = let z = sent-write q sent e in record { short = omega arith; edge = inl z }

pub next_most : (A L P s : ℕ) → next_size A L P s ≤ P
unfolding next_size
next_most A L P s = omega arith

-- ---- a posted write that a command makes

pub record MadeWrite (w : Posted) : Type 0 where
  pub payload : LegalPayload w.payload
  pub least : 1 ≤ w.length
  pub most : w.length ≤ 256
  pub in_block : w.address % w.payload + w.length ≤ w.payload

-- ---- "no queue is held while channel 0 is off"

pub record NothingHeld (p : Peripheral) : Type 0 where
  pub write : p.write ≡ None
  pub request : p.request ≡ Free

no_write : (w : Option Posted) → pc_free w ≡ true → w ≡ None
no_write None e = refl
no_write (Some w) e = absurd (true≢false (sym e))

pub no_request : (n : Np) → np_free n ≡ true → n ≡ Free
no_request Free e = refl
no_request (Waiting q) e = absurd (true≢false (sym e))
no_request (Ready q sent) e = absurd (true≢false (sym e))
no_request (Failed q) e = absurd (true≢false (sym e))

pub nothing_held_lem : (p : Peripheral) → nothing_held p ≡ true → NothingHeld p
nothing_held_lem p e =
    record {
      write = no_write p.write (and_left (pc_free p.write) _ e);
      request = no_request p.request (and_right (pc_free p.write) _ e);
    }

-- ---- the channel of a sound state, conjunct by conjunct

pub record SoundOf (on : Bool) (p : Peripheral) : Type 0 where
  pub held : on || nothing_held p ≡ true
  pub request : sound_request p.request ≡ true
  pub write : sound_write p.write ≡ true

pub sound_of : (on : Bool) (p : Peripheral) → sound_peripheral on p ≡ true → SoundOf on p
sound_of on p e =
    let r = and_right (on || nothing_held p) _ e in
    record {
      held = and_left (on || nothing_held p) _ e;
      request = and_left (sound_request p.request) _ r;
      write = and_right (sound_request p.request) _ r;
    }

pub off_of : (on : Bool) (p : Peripheral) → sound_peripheral on p ≡ true → on ≡ false → NothingHeld p
off_of on p e off = nothing_held_lem p (subst (λ (t : Bool). t || nothing_held p ≡ true) off (sound_of on p e).held)

-- ---- an answered request

pub ready_made : (q : Request) (sent : ℕ) → request_made q ≡ true → sent_right q.kind q sent ≡ true → sound_request (Ready q sent) ≡ true
unfolding sound_request
ready_made q sent e f = and_true e f

pub free_made : sound_request Free ≡ true
unfolding sound_request
free_made = refl

pub sent_none : (k : Kind) (q : Request) → 1 ≤ q.length → sent_right k q 0 ≡ true
sent_none MemoryRead q h = and_true (lt-ltb 0 q.length h) refl
sent_none IoRead q h = and_true (lt-ltb 0 q.length h) refl
sent_none IoWrite q h = refl

-- ---- what is held once a completion is handed over is sound, and fits

edge_right : (q : Request) (sent : ℕ) → sent < q.length → (q.address + sent) % q.payload ≡ 0 → sent_right MemoryRead q sent ≡ true
edge_right q sent h e = and_true (lt-ltb _ _ h) (go (sent == 0))
  where
    go : (t : Bool) → t || ((q.address + sent) % q.payload == 0) ≡ true
    go true = refl
    go false = eq-eqb _ 0 e

-- the place after a piece that is not the last
pub after-piece : (q : Request) (sent : ℕ) → ReadyRequest q sent → ((sent + next_of q sent == q.length) ≡ false)
    → sent_right MemoryRead q (sent + next_of q sent) ≡ true
after-piece q sent r e =
    let n = next_ok q.address q.length q.payload sent (omega (arith, r.made.payload.least)) r.short (eqb-false _ _ e) in
    edge_right q (sent + next_of q sent) n.0 n.1

pub handed-fits : (n : Np) → fits_request n ≡ true → fits_request (handed n) ≡ true
unfolding handed
handed-fits Free e = e
handed-fits (Waiting q) e = e
handed-fits (Failed q) e = refl
handed-fits (Ready q sent) e = go q.kind
  where
    piece : fits_request (after_piece q sent) ≡ true
    piece = pick_ind (λ (n : Np). fits_request n ≡ true) (sent + next_of q sent == q.length) (λ t. refl) (λ f. e)

    go : (k : Kind) → fits_request (after_success k q sent) ≡ true
    go MemoryRead = piece
    go IoRead = piece
    go IoWrite = refl
