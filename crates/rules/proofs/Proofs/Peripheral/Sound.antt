-- Channel 0 of a sound state: after a command made a request or a write, an answer, a hand-over, a take, an edge, a reset.
use Rattle.std.specs.Prelude.{ℕ, ◌^◌, ◌≤◌, ◌<◌, Bool, true, false, ◌&&◌, ◌||◌, List, ◌≡◌, refl, Option, Some, None}
use Rattle.std.proofs.Common.{inl, inr, sym, ap, subst, mod-lt, arith, lit<, ltb-true, lt-ltb, le-leb, leb-true, eq-eqb}
use Rattle.base.specs.Pick.{and_left, and_right, and_true}
use Rattle.registers.specs.Registers.{payload_size, read_size, payload_legal, read_legal, reachable}
use Rattle.registers.specs.Laws.{payload_legal_lem, read_legal_lem, reachable_r010}
use Rattle.registers.specs.declared.Config.{Config}
use Rattle.command.specs.Facts.{IsBytes, SizeFits, PeripheralNumbers}
use Rattle.command.specs.declared.Access.TheVariants.{IoRead, IoWrite, MemoryRead, MemoryWrite}
use Rattle.command.specs.declared.PeripheralCommand.{PeripheralCommand}
use Rattle.command.specs.declared.PeripheralCommand.TheVariants.{PutPc, GetPc, PutNp, Short}
use Rattle.peripheral.specs.Queues.{idle}
use Rattle.peripheral.specs.Status.{pc_free, np_free}
use Rattle.peripheral.specs.Upward.{handed}
use Rattle.peripheral.specs.declared.Kind.TheVariants as R
use Rattle.peripheral.specs.declared.Request.{Request}
use Rattle.peripheral.specs.declared.Np.{Np}
use Rattle.peripheral.specs.declared.Np.TheVariants.{Free, Waiting, Ready, Failed}
use Rattle.peripheral.specs.declared.Posted.{Posted}
use Rattle.peripheral.specs.declared.Peripheral.{Peripheral}
use Rattle.peripheral.specs.Facts.{sound_of, sent_none, MadeMemoryRead, MadeIo, MadeIoRead, MadeIoWrite, handed-fits}
use Rattle.peripheral.proofs.Facts.{waiting_request, handed-sound}
use Rattle.peripheral.specs.Sound.{within, short_size, io_made, made_as_value, request_made, write_made, sound_request, sound_write, nothing_held, sound_peripheral, fits_request, fits_write, fits_peripheral}
use Rattle.rules.specs.Rules.Plan.{PeripheralChange}
use Rattle.rules.specs.Rules.Reset.{Reset, start, espi_reset, platform_reset}
use Rattle.rules.specs.Rules.Peripheral as P₀
use Rattle.rules.specs.Rules.Peripheral.{Act, posts, asks, gets, Board, request_of, bytes_of, size_for, holding, asking, with_request, emptied}
use Rattle.rules.specs.Statements.Peripheral.{Did, write_held, write_large, posted, request_held, request_large, asked, none_ready, handed_over, Settled, look_done, no_look, no_such, miscounted, succeeds, fails, no_take, took}
use Rattle.rules.proofs.Proofs.SoundBytes.{io_bytes_lem}

pub record RequestOk (n : Np) : Type 0 where
  pub right : sound_request n ≡ true
  pub fit : fits_request n ≡ true

pub record WriteOk (w : Option Posted) : Type 0 where
  pub right : sound_write w ≡ true
  pub fit : fits_write w ≡ true

pub record PeripheralOk (on : Bool) (p : Peripheral) : Type 0 where
  pub off : on || nothing_held p ≡ true
  pub request : RequestOk p.request
  pub write : WriteOk p.write
  pub serial : p.serial < 2 ^ 32

-- ---- the tests say it, both ways

pub peripheral_ok : (on : Bool) (p : Peripheral) → sound_peripheral on p ≡ true → fits_peripheral p ≡ true → PeripheralOk on p
peripheral_ok on p e f =
    let s = sound_of on p e in
    let g = and_right (fits_request p.request) _ f in
    record {
      off = s.held;
      request = record { right = s.request; fit = and_left (fits_request p.request) _ f };
      write = record { right = s.write; fit = and_left (fits_write p.write) _ g };
      serial = ltb-true _ _ (and_right (fits_write p.write) _ g);
    }

module _ (on : Bool) (p : Peripheral) (h : PeripheralOk on p) where
  pub ok_sound : sound_peripheral on p ≡ true
  ok_sound = and_true h.off (and_true h.request.right h.write.right)

  pub ok_fits : fits_peripheral p ≡ true
  ok_fits = and_true h.request.fit (and_true h.write.fit (lt-ltb _ _ h.serial))

-- ---- nothing held, and a channel that is on

pub free_ok : RequestOk Free
unfolding sound_request
free_ok = record { right = refl; fit = refl }

pub empty_ok : WriteOk None
unfolding sound_write
empty_ok = record { right = refl; fit = refl }

or_true : (on : Bool) → on || true ≡ true
or_true true = refl
or_true false = refl

pub idle_ok : (on : Bool) {n : ℕ} → n < 2 ^ 32 → PeripheralOk on (idle n)
idle_ok on h = record { off = or_true on; request = free_ok; write = empty_ok; serial = h }

pub held_on : {on : Bool} (t : Bool) → on ≡ true → on || t ≡ true
held_on {on} t e = subst (λ (x : Bool). x || t ≡ true) (sym e) refl

-- ---- the tests hold of what a command makes

short-size : {n : ℕ} → SizeFits n → short_size n ≡ true
short-size (inl e) = subst (λ (m : ℕ). short_size m ≡ true) (sym e) refl
short-size (inr (inl e)) = subst (λ (m : ℕ). short_size m ≡ true) (sym e) refl
short-size (inr (inr e)) = subst (λ (m : ℕ). short_size m ≡ true) (sym e) refl

pub short_range : {n : ℕ} → SizeFits n → (1 ≤ n) × (n ≤ 4)
short_range (inl e) = (omega arith, omega arith)
short_range (inr (inl e)) = (omega arith, omega arith)
short_range (inr (inr e)) = (omega arith, omega arith)

pub io_of : (q : Request) → q.tag ≡ 0 → q.address < 2 ^ 16 → SizeFits q.length → MadeIo q
io_of q t a z = let r = short_range z in record { tag = t; address = a; lengths = z; least = r.0; most = r.1 }

io_test : (q : Request) → MadeIo q → io_made q ≡ true
io_test q m = and_true (eq-eqb _ _ m.tag) (and_true (lt-ltb _ _ m.address) (short-size m.lengths))

pub memory_read_test : (q : Request) → MadeMemoryRead q → made_as_value R.MemoryRead q ≡ true
memory_read_test q m = and_true (le-leb _ _ m.least) (and_true (le-leb _ _ m.in_block) (and_true (lt-ltb _ _ m.tag) (eq-eqb _ _ m.bytes)))

pub io_read_test : (q : Request) → MadeIoRead q → made_as_value R.IoRead q ≡ true
io_read_test q m = and_true (io_test q m.io) (and_true (le-leb _ _ m.in_block) (eq-eqb _ _ m.bytes))

pub io_write_test : (q : Request) → MadeIoWrite q → made_as_value R.IoWrite q ≡ true
io_write_test q m = and_true (io_test q m.io) (and_true (le-leb _ _ m.in_block) (lt-ltb _ _ m.bytes))

-- ---- the queues

-- nothing sent is short of the whole, since a request has a byte
pub ready_ok : (q : Request) → RequestOk (Waiting q) → RequestOk (Ready q 0)
unfolding sound_request
ready_ok q h = record { right = and_true h.right (sent_none q.kind q (waiting_request q h.right).least); fit = h.fit }

pub failed_ok : (q : Request) → RequestOk (Waiting q) → RequestOk (Failed q)
unfolding sound_request
failed_ok q h = record { right = h.right; fit = h.fit }

pub handed_ok : (n : Np) → RequestOk n → RequestOk (handed n)
handed_ok n h = record { right = handed-sound n h.right; fit = handed-fits n h.fit }

pub waiting_ok : (q : Request) → request_made q ≡ true → q.address < 2 ^ 64 → RequestOk (Waiting q)
unfolding sound_request
waiting_ok q m a = record { right = m; fit = lt-ltb _ _ a }

pub held_ok : (w : Posted) → write_made w ≡ true → w.address < 2 ^ 64 → WriteOk (Some w)
unfolding sound_write
held_ok w m a = record { right = m; fit = lt-ltb _ _ a }

or_second : (on a b : Bool) → on || (a && b) ≡ true → on || b ≡ true
or_second true a b e = refl
or_second false a b e = and_right a b e

-- ---- the channel with one queue changed; it is on, or the queue is emptied

module _ {on : Bool} {p : Peripheral} (h : PeripheralOk on p) where
  pub holding_ok : (A L P : ℕ) → on ≡ true → WriteOk (Some (record { address = A; length = L; payload = P })) → PeripheralOk on (holding p A L P)
  holding_ok A L P e w = record { off = held_on _ e; request = h.request; write = w; serial = h.serial }

  pub asking_ok : (q : Request) → on ≡ true → RequestOk (Waiting q) → PeripheralOk on (asking p q)
  asking_ok q e r = record { off = held_on _ e; request = r; write = h.write; serial = mod-lt _ (lit< tt) }

  pub request_ok : (n : Np) → on ≡ true → RequestOk n → PeripheralOk on (with_request p n)
  request_ok n e r = record { off = held_on _ e; request = r; write = h.write; serial = h.serial }

  -- a held request stays held
  pub phase_ok : (n : Np) → np_free n ≡ np_free p.request → RequestOk n → PeripheralOk on (with_request p n)
  phase_ok n e r =
      record { off = subst (λ (t : Bool). on || (pc_free p.write && t) ≡ true) (sym e) h.off; request = r; write = h.write; serial = h.serial }

  pub emptied_ok : PeripheralOk on (emptied p)
  emptied_ok = record { off = or_second on (pc_free p.write) (np_free p.request) h.off; request = h.request; write = empty_ok; serial = h.serial }

-- ---- what an admitted command asks for

pub record Posts (A L : ℕ) : Type 0 where
  pub some : 1 ≤ L
  pub address : A < 2 ^ 64

pub record Asks (c : Config) (q : Request) : Type 0 where
  pub payload : q.payload ≡ payload_size c.r010
  pub readsize : q.readsize ≡ read_size c.r010
  pub address : q.address < 2 ^ 64
  pub made : within q.address q.length (size_for q.kind q) ≡ true → made_as_value q.kind q ≡ true

abbrev pub ActFits : Config → Act → Type 0
ActFits c (posts A L from) = Posts A L
ActFits c (asks q) = Asks c q
ActFits c gets = Unit {0}

pub act-fits : (c : Config) (o : PeripheralCommand) (b : List ℕ) → IsBytes b → PeripheralNumbers o → ActFits c (P₀.act_of c o b)
act-fits c (PutPc h) b bytes f = record { some = f.some; address = f.address }
act-fits c GetPc b bytes f = tt
act-fits c (PutNp h) b bytes f =
    let q = request_of c R.MemoryRead h.address h.length h.tag 0 in
    record {
      payload = refl;
      readsize = refl;
      address = f.address;
      made = λ w. memory_read_test q (record { least = f.some; in_block = leb-true _ _ w; tag = f.tag; bytes = refl });
    }
act-fits c (Short IoRead p) b bytes f =
    let q = request_of c R.IoRead p.address p.size 0 0 in
    record {
      payload = refl;
      readsize = refl;
      address = omega (arith, f.address);
      made = λ w. io_read_test q (record { io = io_of q refl f.address f.size; in_block = leb-true _ _ w; bytes = refl });
    }
act-fits c (Short IoWrite p) b bytes f =
    let q = request_of c R.IoWrite p.address p.size 0 (bytes_of p.size b) in
    record {
      payload = refl;
      readsize = refl;
      address = omega (arith, f.address);
      made = λ w. io_write_test q (record { io = io_of q refl f.address f.size; in_block = leb-true _ _ w; bytes = io_bytes_lem p.size b bytes f.size });
    }
act-fits c (Short MemoryRead p) b bytes f =
    let q = request_of c R.MemoryRead p.address p.size 0 0 in
    record {
      payload = refl;
      readsize = refl;
      address = omega (arith, f.address);
      made = λ w. memory_read_test q (record { least = (short_range f.size).0; in_block = leb-true _ _ w; tag = lit< tt; bytes = refl });
    }
act-fits c (Short MemoryWrite p) b bytes f = record { some = (short_range f.size).0; address = omega (arith, f.address) }

-- ---- commands and board calls keep the channel sound

legal_request : (c : Config) (q : Request) → reachable c ≡ true → Asks c q → made_as_value q.kind q ≡ true → request_made q ≡ true
legal_request c q r h m =
    and_true
    (subst (λ (n : ℕ). payload_legal n ≡ true) (sym h.payload) (payload_legal_lem c.r010 (reachable_r010 c r)))
    (and_true (subst (λ (n : ℕ). read_legal n ≡ true) (sym h.readsize) (read_legal_lem c.r010 (reachable_r010 c r))) m)

module _ {on : Bool} {c : Config} {p : Peripheral} (reached : reachable c ≡ true) (h : PeripheralOk on p) where
  pub acts_ok : {a : Act} {x : PeripheralChange} → on ≡ true → ActFits c a → Did c p a x → PeripheralOk on x.next
  acts_ok e f (write_held d) = h
  acts_ok e f (write_large d g) = h
  acts_ok e f (posted {A} {L} d g) =
      let P = payload_size c.r010 in
      holding_ok h A L P e (held_ok (record { address = A; length = L; payload = P })
      (and_true (payload_legal_lem c.r010 (reachable_r010 c reached)) (and_true (le-leb 1 L f.some) g)) f.address)
  acts_ok e f (request_held d) = h
  acts_ok e f (request_large d g) = h
  acts_ok e f (asked {q} d g) = asking_ok h q e (waiting_ok q (legal_request c q reached f (f.made g)) f.address)
  acts_ok e f (none_ready d) = h
  acts_ok e f (handed_over d) = request_ok h _ e (handed_ok _ h.request)

pub settled_ok : {on : Bool} {p : Peripheral} {o : Board} {x : PeripheralChange} → PeripheralOk on p → Settled p o x → PeripheralOk on x.next
settled_ok h (look_done e) = h
settled_ok h (no_look e) = h
settled_ok h (no_such e) = h
settled_ok h (miscounted e f g) = h
settled_ok h (succeeds {q = q} e f g l) = phase_ok h (Ready q 0) (ap np_free (sym e)) (ready_ok q (subst RequestOk e h.request))
settled_ok h (fails {q = q} e f g l) = phase_ok h (Failed q) (ap np_free (sym e)) (failed_ok q (subst RequestOk e h.request))
settled_ok h (no_take e) = h
settled_ok h (took e) = emptied_ok h

-- ---- edges and resets: "drop held write, request and completions"

pub edge_ok : (was is : Bool) (p : Peripheral) → PeripheralOk was p → PeripheralOk is (P₀.enable_edge was is p)
edge_ok true true p h = h
edge_ok true false p h = idle_ok false h.serial
edge_ok false true p h = record { off = refl; request = h.request; write = h.write; serial = h.serial }
edge_ok false false p h = h

pub reset_ok : {was : Bool} (is : Bool) (r : Reset) (p : Peripheral) → PeripheralOk was p → PeripheralOk is (P₀.reset r p)
reset_ok is start p h = idle_ok is (lit< tt)
reset_ok is espi_reset p h = idle_ok is h.serial
reset_ok is platform_reset p h = idle_ok is h.serial
