-- The test of channel 0 says its clauses of "Sound state", both ways.
use Rattle.std.specs.Prelude.{ℕ, zero, suc, ◌+◌, ◌/◌, ◌%◌, ◌^◌, ◌<◌, Bool, true, false, ◌||◌, ◌≡◌, refl, eqb, ltb, Option, Some, None}
use Rattle.std.proofs.Common.{sym, ap, subst, ◌∙◌, arith, ltb-true, eq-eqb, lt-ltb, le-leb}
use Rattle.std.proofs.Math.Nat.{mul-mod_left}
use Rattle.base.specs.Pick.{and_left, and_right, and_true}
use Rattle.registers.specs.Sizes.{payload_coded, read_coded}
use Rattle.registers.specs.Registers.{payload_legal, read_legal}
use Rattle.registers.specs.Laws.{sizes, payload_cases, read_cases}
use Rattle.pieces.specs.Pieces.{blocks, edge}
use Rattle.pieces.specs.Edges.{edge_of_lem, edge-zero, edge_whole}
use Rattle.peripheral.specs.Status.{pc_free, np_free}
use Rattle.peripheral.specs.declared.Kind.{Kind}
use Rattle.peripheral.specs.declared.Kind.TheVariants.{MemoryRead, IoRead, IoWrite}
use Rattle.peripheral.specs.declared.Request.{Request}
use Rattle.peripheral.specs.declared.Np.{Np}
use Rattle.peripheral.specs.declared.Np.TheVariants.{Free, Waiting, Ready, Failed}
use Rattle.peripheral.specs.declared.Peripheral.{Peripheral}
use Rattle.peripheral.specs.declared.Posted.{Posted}
use Rattle.peripheral.specs.Facts.{off_of, ReadyRequest, legal_payload, sent-write}
use Rattle.peripheral.proofs.Facts.{ready_request, held-write, made_memory_read, made_io_read, made_io_write}
use Rattle.peripheral.specs.Sound.{made_as_value, request_made, sent_right, sound_request, sound_write, nothing_held, sound_peripheral, fits_request, fits_write, fits_peripheral}
use Rattle.rules.specs.Statements.Peripheral.SoundMeans.{Coded, MadeAs, Made, RequestMade, WriteMade, ReadSent, SentAs, BytesSent, Clauses}
use Rattle.rules.proofs.Proofs.Peripheral.Sound.{peripheral_ok, memory_read_test, io_read_test, io_write_test}

or_right : (a : Bool) {b : Bool} → b ≡ true → a || b ≡ true
or_right true e = refl
or_right false e = e

-- ---- sizes

payload_code : (p : ℕ) → payload_legal p ≡ true → Coded 3 p
payload_code =
    payload_cases (Coded 3)
    (1, omega arith, omega arith, sym sizes.0)
    (2, omega arith, omega arith, sym sizes.1)
    (3, omega arith, omega arith, sym sizes.2)

read_code_lem : (p : ℕ) → read_legal p ≡ true → Coded 7 p
read_code_lem =
    read_cases (Coded 7)
    (1, omega arith, omega arith, sym sizes.0)
    (2, omega arith, omega arith, sym sizes.1)
    (3, omega arith, omega arith, sym sizes.2)
    (4, omega arith, omega arith, sym sizes.3)
    (5, omega arith, omega arith, sym sizes.4)
    (6, omega arith, omega arith, sym sizes.5)
    (7, omega arith, omega arith, sym sizes.6)

code_payload : (p : ℕ) → Coded 3 p → payload_legal p ≡ true
code_payload p c = subst (λ (x : ℕ). payload_legal x ≡ true) (sym c.3) (payload_coded c.0 c.1 c.2)

code_read : (p : ℕ) → Coded 7 p → read_legal p ≡ true
code_read p c = subst (λ (x : ℕ). read_legal x ≡ true) (sym c.3) (read_coded c.0 c.1 c.2)

-- ---- requests and writes

made_as : (k : Kind) (q : Request) → made_as_value k q ≡ true → MadeAs k q
made_as MemoryRead q e = made_memory_read q e
made_as IoRead q e = made_io_read q e
made_as IoWrite q e = made_io_write q e

as_made : (k : Kind) (q : Request) → MadeAs k q → made_as_value k q ≡ true
as_made MemoryRead q m = memory_read_test q m
as_made IoRead q m = io_read_test q m
as_made IoWrite q m = io_write_test q m

made : (q : Request) → request_made q ≡ true → ltb q.address (2 ^ 64) ≡ true → Made q
made q e f =
    let e₁ = and_right (payload_legal q.payload) _ e in
    record {
      payload = payload_code q.payload (and_left (payload_legal q.payload) _ e);
      readsize = read_code_lem q.readsize (and_left (read_legal q.readsize) _ e₁);
      address = ltb-true _ _ f;
      as_kind = made_as q.kind q (and_right (read_legal q.readsize) _ e₁);
    }

pub made_test : (q : Request) → Made q → request_made q ≡ true
made_test q m = and_true (code_payload _ m.payload) (and_true (code_read _ m.readsize) (as_made q.kind q m.as_kind))

request_made_lem : (n : Np) → sound_request n ≡ true → fits_request n ≡ true → RequestMade n
unfolding sound_request
request_made_lem Free e f = tt
request_made_lem (Waiting q) e f = made q e f
request_made_lem (Ready q sent) e f = made q (and_left (request_made q) _ e) f
request_made_lem (Failed q) e f = made q e f

write-made : (w : Option Posted) → sound_write w ≡ true → fits_write w ≡ true → WriteMade w
unfolding sound_write
write-made None e f = tt
write-made (Some w) e f =
    let m = held-write w e in
    record { payload = payload_code w.payload (and_left (payload_legal w.payload) _ e); address = ltb-true _ _ f; least = m.least; in_block = m.in_block }

pub write_test : (w : Option Posted) → WriteMade w → sound_write w ≡ true
unfolding sound_write
write_test None m = refl
write_test (Some w) m = and_true (code_payload _ m.payload) (and_true (le-leb _ _ m.least) (le-leb _ _ m.in_block))

-- ---- bytes sent

-- the start of a read and a block's edge within it are the pieces' edges
read-sent : (q : Request) (sent : ℕ) → ReadyRequest q sent → ReadSent q sent
read-sent q sent r =
    record { at_edge = edge_of_lem q.address q.length q.payload sent (omega (arith, r.made.payload.least)) r.short r.edge; short = r.short }

sent_as : (k : Kind) (q : Request) (sent : ℕ) → ReadyRequest q sent → sent_right k q sent ≡ true → SentAs k q sent
sent_as MemoryRead q sent r e = read-sent q sent r
sent_as IoRead q sent r e = read-sent q sent r
sent_as IoWrite q sent r e = sent-write q sent e

bytes-sent : (n : Np) → sound_request n ≡ true → BytesSent n
bytes-sent Free e = tt
bytes-sent (Waiting q) e = tt
bytes-sent (Ready q sent) e = let r = ready_request q sent e in sent_as q.kind q sent r r.right
bytes-sent (Failed q) e = tt

edge_test : (A L P k : ℕ) → 0 < P → 0 < L → k < blocks A L P → eqb (edge A L P k) 0 || eqb ((A + edge A L P k) % P) 0 ≡ true
edge_test A L P zero p l h = rw (edge-zero A L P)
edge_test A L P (suc k) p l h =
    or_right (eqb (edge A L P (suc k)) 0) (eq-eqb _ 0 (ap (λ (x : ℕ). x % P) (edge_whole A L P p l k h) ∙ mul-mod_left (A / P + suc k) P))

read-sent_test : (q : Request) (sent : ℕ) → 0 < q.payload → ReadSent q sent → sent_right MemoryRead q sent ≡ true
read-sent_test q sent p r =
    let l : 0 < q.length = omega (arith, r.short) in
    and_true (lt-ltb _ _ r.short)
    (subst (λ (n : ℕ). eqb n 0 || eqb ((q.address + n) % q.payload) 0 ≡ true) (sym r.at_edge.2)
    (edge_test q.address q.length q.payload r.at_edge.0 p l r.at_edge.1))

sent_test : (k : Kind) (q : Request) (sent : ℕ) → 0 < q.payload → SentAs k q sent → sent_right k q sent ≡ true
sent_test MemoryRead q sent p r = read-sent_test q sent p r
sent_test IoRead q sent p r = read-sent_test q sent p r
sent_test IoWrite q sent p r = eq-eqb sent 0 r

request_test_lem : (n : Np) → RequestMade n → BytesSent n → sound_request n ≡ true
unfolding sound_request
request_test_lem Free m b = refl
request_test_lem (Waiting q) m b = made_test q m
request_test_lem (Ready q sent) m b =
    let p = legal_payload q.payload (code_payload q.payload m.payload) in
    and_true (made_test q m) (sent_test q.kind q sent (omega (arith, p.least)) b)
request_test_lem (Failed q) m b = made_test q m

-- ---- the channel

held_test : (on : Bool) (p : Peripheral) → (on ≡ false → p.request ≡ Free) → (on ≡ false → p.write ≡ None) → on || nothing_held p ≡ true
held_test true p r w = refl
held_test false p r w = and_true (ap pc_free (w refl)) (ap np_free (r refl))

pub clauses : (on : Bool) (p : Peripheral) → sound_peripheral on p ≡ true → fits_peripheral p ≡ true → Clauses on p
clauses on p e f =
    let k = peripheral_ok on p e f in
    record {
      request = request_made_lem p.request k.request.right k.request.fit;
      write = write-made p.write k.write.right k.write.fit;
      sent = bytes-sent p.request k.request.right;
      no_request_lem = λ off. (off_of on p e off).request;
      no_write_lem = λ off. (off_of on p e off).write;
    }

pub peripheral_clause : (on : Bool) (p : Peripheral) → Clauses on p → sound_peripheral on p ≡ true
peripheral_clause on p c =
    and_true (held_test on p c.no_request_lem c.no_write_lem) (and_true (request_test_lem p.request c.request c.sent) (write_test p.write c.write))
