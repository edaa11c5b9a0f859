-- What the soundness test of the channel says, part by part: the facts that readers of a sound state cite.
-- ---- sizes
use Rattle.std.specs.Prelude.{◌≡◌, ℕ, ◌+◌, ◌%◌, ◌≤◌, true, ◌==◌, nat_le, nat_lt, refl, Some}
use Rattle.std.proofs.Common.{ap, ◌∙◌, arith, eqb-true, ltb-true, leb-true}
use Rattle.base.specs.Pick.{pick_ind, and_left, and_right}
use Rattle.registers.specs.Registers.{payload_legal, read_legal}
use Rattle.pieces.specs.Edges.{next_le, next_pos}
use Rattle.peripheral.specs.Upward.{next_of, handed, after_piece, after_success}
use Rattle.peripheral.specs.declared.Kind.{Kind}
use Rattle.peripheral.specs.declared.Kind.TheVariants.{MemoryRead, IoRead, IoWrite}
use Rattle.peripheral.specs.declared.Request.{Request}
use Rattle.peripheral.specs.declared.Np.{Np}
use Rattle.peripheral.specs.declared.Np.TheVariants.{Free, Waiting, Ready, Failed}
use Rattle.peripheral.specs.declared.Posted.{Posted}
use Rattle.peripheral.specs.Sound.{within, io_made, made_as_value, request_made, sent_right, sound_request, sound_write}
use Rattle.peripheral.specs.Facts.{Common, MadeIoRead, MadeIoWrite, MadeMemoryRead, MadeRequest, MadeWrite, ReadyRequest, after-piece, bytes_fit, free_made, legal_payload, legal_read, made_io, next_most, ready_made, sent_of}

pub within_block : (A L B : ℕ) → within A L B ≡ true → A % B + L ≤ B
within_block A L B e = leb-true (A % B + L) B e

-- ---- a request that a command makes, by its kind

pub made_memory_read : (q : Request) → made_as_value MemoryRead q ≡ true → MadeMemoryRead q
made_memory_read q e =
    let w = within q.address q.length q.readsize in
    let e₁ = and_right (nat_le 1 q.length) _ e in
    let e₂ = and_right w _ e₁ in
    record {
      least = leb-true 1 q.length (and_left (nat_le 1 q.length) _ e);
      in_block = within_block _ _ _ (and_left w _ e₁);
      tag = ltb-true q.tag 16 (and_left (nat_lt q.tag 16) _ e₂);
      bytes = eqb-true q.bytes 0 (and_right (nat_lt q.tag 16) _ e₂);
    }

pub made_io_read : (q : Request) → made_as_value IoRead q ≡ true → MadeIoRead q
made_io_read q e =
    let w = within q.address q.length q.readsize in
    let e₁ = and_right (io_made q) _ e in
    record { io = made_io q (and_left (io_made q) _ e); in_block = within_block _ _ _ (and_left w _ e₁); bytes = eqb-true q.bytes 0 (and_right w _ e₁) }

pub made_io_write : (q : Request) → made_as_value IoWrite q ≡ true → MadeIoWrite q
made_io_write q e =
    let w = within q.address q.length q.payload in
    let e₁ = and_right (io_made q) _ e in
    record { io = made_io q (and_left (io_made q) _ e); in_block = within_block _ _ _ (and_left w _ e₁); bytes = ltb-true q.bytes _ (and_right w _ e₁) }

-- ---- a request that a command makes, whatever its kind

common : (k : Kind) (q : Request) → q.readsize ≤ 4096 → made_as_value k q ≡ true → Common q
common MemoryRead q r e =
    let m = made_memory_read q e in
    record { least = m.least; most = omega (arith, m.in_block); tag = m.tag; bytes = omega (arith, m.bytes) }
common IoRead q r e =
    let m = made_io_read q e in
    record { least = m.io.least; most = omega (arith, m.io.most); tag = omega (arith, m.io.tag); bytes = omega (arith, m.bytes) }
common IoWrite q r e =
    let m = made_io_write q e in
    record {
      least = m.io.least;
      most = omega (arith, m.io.most);
      tag = omega (arith, m.io.tag);
      bytes = bytes_fit q.bytes q.length m.bytes m.io.lengths;
    }

pub request_made_lem : (q : Request) → request_made q ≡ true → MadeRequest q
request_made_lem q e =
    let e₁ = and_right (payload_legal q.payload) _ e in
    let r = legal_read q.readsize (and_left (read_legal q.readsize) _ e₁) in
    let k = and_right (read_legal q.readsize) _ e₁ in
    let c = common q.kind q r.most k in
    record {
      payload = legal_payload q.payload (and_left (payload_legal q.payload) _ e);
      readsize = r;
      as_kind = k;
      least = c.least;
      most = c.most;
      tag = c.tag;
      bytes = c.bytes;
    }

-- ---- a request answered with success, `sent` bytes of it gone

pub ready_request : (q : Request) (sent : ℕ) → sound_request (Ready q sent) ≡ true → ReadyRequest q sent
unfolding sound_request
ready_request q sent e =
    let m = request_made_lem q (and_left (request_made q) _ e) in
    let r = and_right (request_made q) _ e in
    let s = sent_of q.kind q sent m.least r in
    record {
      made = m;
      right = r;
      short = s.short;
      edge = s.edge;
      next_least = next_pos q.address q.length q.payload sent (omega (arith, m.payload.least)) s.short;
      next_most_lem = omega (arith, m.payload.most, next_most q.address q.length q.payload sent);
      next_end = next_le q.address q.length q.payload sent s.short;
    }

pub waiting_request : (q : Request) → sound_request (Waiting q) ≡ true → MadeRequest q
unfolding sound_request
waiting_request q e = request_made_lem q e

pub failed_request : (q : Request) → sound_request (Failed q) ≡ true → MadeRequest q
unfolding sound_request
failed_request q e = request_made_lem q e

-- ---- a posted write that a command makes

pub held-write : (w : Posted) → sound_write (Some w) ≡ true → MadeWrite w
unfolding sound_write
held-write w e =
    let p = legal_payload w.payload (and_left (payload_legal w.payload) _ e) in
    let e₁ = and_right (payload_legal w.payload) _ e in
    let b = within_block w.address w.length w.payload (and_right (nat_le 1 w.length) _ e₁) in
    record { payload = p; least = leb-true 1 w.length (and_left (nat_le 1 w.length) _ e₁); most = omega (arith, b, p.most); in_block = b }

-- ---- what is held once a completion is handed over is sound, and fits

pub handed-sound : (n : Np) → sound_request n ≡ true → sound_request (handed n) ≡ true
unfolding handed sound_request
handed-sound Free e = e
handed-sound (Waiting q) e = e
handed-sound (Failed q) e = free_made
handed-sound (Ready q sent) e = go q.kind refl
  where
    made : request_made q ≡ true
    made = and_left (request_made q) _ e

    piece : (k : Kind) → q.kind ≡ k → ((s : ℕ) → sent_right k q s ≡ sent_right MemoryRead q s) → sound_request (after_piece q sent) ≡ true
    piece k h same =
        pick_ind (λ (n : Np). sound_request n ≡ true) (sent + next_of q sent == q.length)
        (λ t. free_made)
        (λ f. ready_made q _ made (ap (λ (z : Kind). sent_right z q (sent + next_of q sent)) h ∙ same _ ∙ after-piece q sent (ready_request q sent e) f))

    go : (k : Kind) → q.kind ≡ k → sound_request (after_success k q sent) ≡ true
    go MemoryRead h = piece MemoryRead h (λ s. refl)
    go IoRead h = piece IoRead h (λ s. refl)
    go IoWrite h = free_made
