-- A command for every request and every write that the clauses allow: PUT_NP of type 02h, a short I/O access, PUT_PC of type 03h, on a state whose
-- 010h has the recorded sizes. Back by soundness, which every call keeps.
use Rattle.std.specs.Prelude.{ℕ, zero, suc, ◌+◌, ◌*◌, ◌/◌, ◌%◌, ◌^◌, ◌≤◌, ◌<◌, Bool, true, false, ◌||◌, not, List, [], ◌∷◌, ◌++◌, ◌⊎◌, ◌≡◌, eqb, ltb, length, replicate, Option, Some, None}
use Rattle.std.proofs.Common.{inl, inr, sym, subst, ◌∙◌, mod-lt, arith, lt-ltb, le-ltb, ne_eqb, eq-eqb, eqb-true, le-leb}
use Rattle.std.proofs.Math.Path.{refl, ap}
use Rattle.std.proofs.lemmas.List.{length-replicate}
use Rattle.std.proofs.lemmas.Bool.{eqb-false}
use Rattle.base.specs.Pick.{pick, pick_ind, and_true}
use Rattle.base.specs.Bytes.{low2, low4, number8}
use Rattle.base.proofs.Numbers.{back4, back8}
use Rattle.base.specs.AllBytes.{AllBytes, all_none, all_cons, then4}
use Rattle.registers.specs.Registers.{bits, size_of, fresh010, fresh_config, write_at, forbidden010, operating_count}
use Rattle.registers.specs.Laws.{fits_fresh, reachable-fresh, fits-write}
use Rattle.registers.proofs.Laws.{on0-written, payload_written, read-written}
use Rattle.registers.proofs.Laws.{reachable-write}
use Rattle.registers.specs.declared.Config.{Config}
use Rattle.wires.specs.Senders.{fresh_all}
use Rattle.peripheral.specs.Queues.{idle}
use Rattle.peripheral.specs.Facts.{MadeMemoryRead, MadeIo, MadeIoRead, MadeIoWrite, MadeRequest, MadeWrite}
use Rattle.peripheral.proofs.Facts.{request_made_lem, held-write}
use Rattle.peripheral.specs.declared.Kind.{Kind}
use Rattle.peripheral.specs.declared.Kind.TheVariants.{MemoryRead, IoRead, IoWrite}
use Rattle.peripheral.specs.declared.Request.{Request}
use Rattle.peripheral.specs.declared.Np.{Np}
use Rattle.peripheral.specs.declared.Np.TheVariants.{Free, Waiting, Ready, Failed}
use Rattle.peripheral.specs.declared.Posted.{Posted}
use Rattle.state.specs.State.{State}
use Rattle.state.specs.Sound.{Sound}
use Rattle.rules.specs.Rules.Peripheral.{request_of}
use Rattle.rules.specs.Rules.Channel.{Channel, peripheral, wires, part, on}
use Rattle.rules.specs.Rules.Step.{World, exchange, Outcome, step, run, performed, short_stores, are_bytes}
use Rattle.rules.specs.Statements.Sizes.{payload_of, read_size_of, is_enabled}
use Rattle.rules.specs.Statements.Fields.{byte, is_posted, is_non_posted, high_first, low_first, put_length, access_address, access_length, access_tag}
use Rattle.rules.specs.Statements.Reads.{request_in}
use Rattle.rules.specs.Statements.Requests as R
use Rattle.rules.specs.Statements.Requests.{Event, event, is_ask, without, held, serial_of}
use Rattle.rules.specs.Statements.Events.{unended}
use Rattle.rules.specs.Statements.PostedWrites.{posting}
use Rattle.rules.specs.Statements.Rows.{first_of}
use Rattle.rules.specs.Statements.FirstApplies.{command_rows}
use Rattle.rules.specs.Statements.Peripheral.Rows.{fits_size}
use Rattle.rules.specs.Statements.Peripheral.SoundMeans.{MadeAs, Made, PostedMade, RequestMade, WriteMade}
use Rattle.rules.specs.Statements.Peripheral.Makes.{Accepting, after_it, MakesRequest, MakesWrite, RequestBy, WriteBy, Makes}
use Rattle.rules.proofs.Proofs.Cases.{exchange_long}
use Rattle.rules.proofs.Proofs.FirstApplies.{command_number}
use Rattle.rules.proofs.Proofs.Requests.{asked-event}
use Rattle.rules.proofs.Proofs.View.{view_as}
use Rattle.rules.proofs.Proofs.Asked.{asked_as}
use Rattle.rules.proofs.Proofs.Answers.{serial_given}
use Rattle.rules.proofs.Proofs.PostedWrites.{posted_writes}
use Rattle.rules.proofs.Proofs.Sizes.{on_as}
use Rattle.rules.proofs.Proofs.SoundParts.{PartOk, parts, whole}
use Rattle.rules.proofs.Proofs.Sound.{sound-step}
use Rattle.rules.proofs.Proofs.SoundMeans.{sound_clauses}
use Rattle.rules.proofs.Proofs.Peripheral.Sound.{idle_ok}
use Rattle.rules.proofs.Proofs.Peripheral.SoundMeans.{made_test, write_test}
use Rattle.rules.proofs.Proofs.Peripheral.Rows.{fits-within}
use Rattle.rules.proofs.Proofs.Wires.Sound.{fresh_ok}

-- ---- a state with these size codes in 010h, channel 0 on, nothing held

record Codes (p m : ℕ) : Type 0 where
  payload_least : 1 ≤ p
  payload_most : p ≤ 3
  read_least : 1 ≤ m
  read_most : m ≤ 7

module _ (p m : ℕ) (h : Codes p m) where
  abbrev written : ℕ
  written = m * 4096 + p * 256 + 1

  abbrev config : Config
  config = write_at fresh_config 0x010 written

  payload_bits : bits 10 8 written ≡ p
  payload_bits = omega (arith, h.payload_most)

  read-bits : bits 14 12 written ≡ m
  read-bits = omega (arith, h.payload_most, h.read_most)

  allowed : forbidden010 written ≡ false
  allowed =
      rw (payload_bits, read-bits, ne_eqb m 0 (λ e. omega (arith, h.read_least)), ne_eqb p 0 (λ e. omega (arith, h.payload_least)), le-ltb 3 p h.payload_most)

  enabled : is_enabled peripheral config ≡ true
  enabled = sym (on_as peripheral config) ∙ on0-written fresh010 written ∙ eq-eqb (written % 2) 1 (omega arith)

  payload_is : payload_of config ≡ size_of p
  unfolding size_of
  payload_is = payload_written fresh010 written ∙ ap size_of payload_bits

  read_is : read_size_of config ≡ size_of m
  unfolding size_of
  read_is = read-written fresh010 written ∙ ap size_of read-bits

  module _ (n : ℕ) (small : n < 2 ^ 32) where
    abbrev waits_for : State
    waits_for = record { config = config; peripheral = idle n; wires = fresh_all }

    part_ok : (k : Channel) → PartOk k config (part k waits_for)
    part_ok peripheral = idle_ok (on peripheral config) small
    part_ok wires = fresh_ok (on wires config) (operating_count config.r020)

    sound : Sound waits_for
    sound =
        whole (record {
          config = record {
            right = reachable-write fresh_config 0x010 written reachable-fresh allowed;
            fit = fits-write fresh_config 0x010 written fits_fresh (omega (arith, h.payload_most, h.read_most));
          };
          each = part_ok;
        })

-- ---- a sound state accepts a command to which no row applies, with stores that are long enough

abbrev zeros : ℕ → List ℕ
zeros n = replicate n 0

zeros_long : (n : ℕ) → n ≤ length (zeros n)
zeros_long n = omega (arith, length-replicate {A = ℕ} n 0)

long_stores : (s : State) (reply write read : List ℕ) → 263 ≤ length reply → 256 ≤ length write → 4096 ≤ length read
    → short_stores reply (record { state = s; write = write; read = read }) ≡ false
long_stores s reply write read h k l = rw (le-ltb (length reply) 263 h, le-ltb (length write) 256 k, le-ltb (length read) 4096 l)

module _ (s : State) (so : Sound s) (b : List ℕ) (bytes : are_bytes b ≡ true) (none : first_of (command_rows s b) ≡ 0) where
  abbrev here : World
  here = record { state = s; write = zeros 256; read = zeros 4096 }

  number-here : (step here (exchange b (zeros 263))).number ≡ 0
  unfolding performed
  number-here =
      ap (λ (o : Outcome). o.number)
      (exchange_long here b (zeros 263) (long_stores s (zeros 263) (zeros 256) (zeros 4096) (zeros_long 263) (zeros_long 256) (zeros_long 4096)))
      ∙ command_number s so.is_sound b ∙ none

  abbrev accepting : Accepting
  accepting = record { world = here; command = b; reply = zeros 263; sound = so; bytes = bytes; number = number-here }

  -- a request is then held as its bytes ask it, with the next serial
  module _ (asks : is_non_posted (byte b 0) ≡ true) where
    asked : event here (exchange b (zeros 263)) ≡ R.asks
    asked = asked-event s b (zeros 263) (step here (exchange b (zeros 263))) (eq-eqb (step here (exchange b (zeros 263))).number 0 number-here) asks

    held-here : held (after_it accepting) ≡ Waiting (request_in s.config b)
    held-here = asked_as (view_as here (exchange b (zeros 263)) asked)

    serial_here : serial_of (after_it accepting) ≡ (s.peripheral.serial + 1) % 2 ^ 32
    serial_here =
        serial_given here (exchange b (zeros 263))
        ∙ ap (λ (e : Event). pick (is_ask e) ((s.peripheral.serial + 1) % 2 ^ 32) s.peripheral.serial) asked

    makes_request : (q : Request) (n : ℕ) → request_in s.config b ≡ q → (s.peripheral.serial + 1) % 2 ^ 32 ≡ n → MakesRequest q n
    unfolding size_of
    makes_request q n e f =
        record {
          by = accepting;
          asks = asks;
          payload = ap (λ (x : Request). x.payload) (sym e);
          readsize = ap (λ (x : Request). x.readsize) (sym e);
          holds = held-here ∙ ap Waiting e;
          serial = serial_here ∙ f;
        }

  makes_write : (t : Posted) → is_posted (byte b 0) ≡ true → posting here b ≡ t → MakesWrite t
  unfolding run unended without
  makes_write t posts e =
      record {
        by = accepting;
        posts = posts;
        payload = ap (λ (x : Posted). x.payload) (sym e);
        holds =
            (posted_writes here b (zeros 263) (record { posted = posts; number = number-here }) []).held
            (record { unended = refl; untaken = refl }) ∙ ap Some e;
      }

-- ---- the rows of form and credit compute away: what is left are the enable bit and the size

accepts : (enable fits : Bool) → enable ≡ true → fits ≡ true → ◌≡◌ {A = ℕ} (pick (not enable) 14 (pick (not fits) 1 0)) 0
accepts enable fits e f = rw (e, f)

-- .. and, of PUT_PC, the length
accepts_long : (len whole : ℕ) (enable fits : Bool) → 4 ≤ len → len ≡ whole → enable ≡ true → fits ≡ true
    → ◌≡◌ {A = ℕ} (pick (eqb len 0) 12 (pick (not enable) 14 (pick (ltb len 2) 12 (pick (ltb len 4 || false) 12
    (pick (not (eqb len whole)) 12 (pick (not fits) 1 0)))))) 0
accepts_long len whole enable fits h e f g =
    rw (ne_eqb len 0 (λ z. omega arith), f, le-ltb len 2 (omega arith), le-ltb len 4 h, eq-eqb len whole e, g)

fits_as : {A L B : ℕ} (A' L' B' : ℕ) → A' ≡ A → L' ≡ L → B' ≡ B → 1 ≤ L → 0 < B → A % B + L ≤ B → fits_size A' L' B' ≡ true
fits_as {A} {L} {B} A' L' B' e f g l p h = rw (e, f, g) (sym (fits-within A L B l p) ∙ le-leb (A % B + L) B h)

-- ---- numbers in a command, and back

-- eight bytes, high byte first, and what follows
abbrev high8 : ℕ → List ℕ → List ℕ
high8 v rest =
    v / 72057594037927936 % 256 ∷ v / 281474976710656 % 256 ∷ v / 1099511627776 % 256 ∷ v / 4294967296 % 256
    ∷ v / 16777216 % 256 ∷ v / 65536 % 256 ∷ v / 256 % 256 ∷ v % 256 ∷ rest

high8-back : (v x y z t : ℕ) (rest : List ℕ) → v < 2 ^ 64 → high_first 8 4 (x ∷ y ∷ z ∷ t ∷ high8 v rest) ≡ v
high8-back v x y z t rest h = turned _ _ _ _ _ _ _ _ ∙ back8 v h
  where
    turned : (a b c d e f g i : ℕ) → high_first 8 0 (i ∷ g ∷ f ∷ e ∷ d ∷ c ∷ b ∷ a ∷ []) ≡ number8 0 (a ∷ b ∷ c ∷ d ∷ e ∷ f ∷ g ∷ i ∷ [])
    turned a b c d e f g i = omega arith

-- "tag (4 bits) with length bits 11:8, then length 7:0"; "Length 0 means 4,096"
abbrev tag_byte : ℕ → ℕ → ℕ
tag_byte tag L = tag * 16 + L / 256 % 16

length_back : (L tag : ℕ) → 1 ≤ L → L ≤ 4096 → pick (eqb (tag_byte tag L % 16 * 256 + L % 256) 0) 4096 (tag_byte tag L % 16 * 256 + L % 256) ≡ L
length_back L tag l m =
    let n = tag_byte tag L % 16 * 256 + L % 256 in
    let e : n ≡ L % 4096 = omega arith in
    pick_ind (λ (k : ℕ). k ≡ L) (eqb n 0) (λ t. omega (arith, eqb-true n 0 t)) (λ f. omega (arith, eqb-false n 0 f))

-- lists of bytes
low_then : {l : List ℕ} (v : ℕ) → AllBytes l → AllBytes (v % 256 ∷ l)
low_then v e = all_cons (mod-lt v (omega arith)) e

high8-then : {l : List ℕ} (v : ℕ) → AllBytes l → AllBytes (high8 v l)
high8-then v e = low_then _ (low_then _ (low_then _ (low_then _ (low_then _ (low_then _ (low_then _ (low_then _ e)))))))

zero-bytes : (n : ℕ) → AllBytes (zeros n)
zero-bytes zero = all_none
zero-bytes (suc n) = all_cons (omega arith) (zero-bytes n)

are_bytes_lem : (b : List ℕ) → AllBytes b → are_bytes b ≡ true
unfolding are_bytes
are_bytes_lem [] h = refl
are_bytes_lem (x ∷ xs) h = and_true (lt-ltb x 256 (h.byte 0)) (are_bytes_lem xs (record { byte = λ k. h.byte (suc k) }))

-- ---- requests

same_request : (q : Request) (k : Kind) (A L tag P R bytes : ℕ)
    → k ≡ q.kind → A ≡ q.address → L ≡ q.length → tag ≡ q.tag → P ≡ q.payload → R ≡ q.readsize → bytes ≡ q.bytes
    → record { kind = k; address = A; length = L; tag = tag; payload = P; readsize = R; bytes = bytes } ≡ q
same_request q k A L tag P R bytes a b c d e f g = rw (a, b, c, d, e, f, g)

module _ (q : Request) (made : Made q) (n : ℕ) (small : n < 2 ^ 32) where
  abbrev ask_codes : Codes made.payload.0 made.readsize.0
  ask_codes =
      record {
        payload_least = made.payload.1;
        payload_most = made.payload.2;
        read_least = made.readsize.1;
        read_most = made.readsize.2;
      }

  abbrev ask_config : Config
  ask_config = config made.payload.0 made.readsize.0 ask_codes

  ask_payload : payload_of ask_config ≡ q.payload
  ask_payload = payload_is made.payload.0 made.readsize.0 ask_codes ∙ sym made.payload.3

  ask-read : read_size_of ask_config ≡ q.readsize
  ask-read = read_is made.payload.0 made.readsize.0 ask_codes ∙ sym made.readsize.3

  -- the last serial given before
  abbrev before : ℕ
  before = (n + 4294967295) % 2 ^ 32

  before_small : before < 2 ^ 32
  before_small = mod-lt (n + 4294967295) (omega arith)

  abbrev ask_state : State
  ask_state = waits_for made.payload.0 made.readsize.0 ask_codes before before_small

  ask_facts : MadeRequest q
  ask_facts = request_made_lem q (made_test q made)

  -- the rows that are left of a command
  abbrev Rows : (b : List ℕ) (A L size : ℕ) → Type 0
  Rows b A L size = first_of (command_rows ask_state b) ≡ pick (not (is_enabled peripheral ask_config)) 14 (pick (not (fits_size A L size)) 1 0)

  -- a command that asks for it, of a size that fits: rows and request are what its bytes compute to
  made_by : (b : List ℕ) (k : Kind) (A L tag bytes size : ℕ) {B : ℕ} → AllBytes b → is_non_posted (byte b 0) ≡ true
      → Rows b A L size → request_in ask_config b ≡ request_of ask_config k A L tag bytes
      → k ≡ q.kind → A ≡ q.address → L ≡ q.length → tag ≡ q.tag → bytes ≡ q.bytes → size ≡ B → 0 < B → q.address % B + q.length ≤ B
      → MakesRequest q n
  unfolding size_of
  made_by b k A L tag bytes size are asks rows is e₁ e₂ e₃ e₄ e₅ e₆ some fits =
      makes_request ask_state (sound made.payload.0 made.readsize.0 ask_codes before before_small) b (are_bytes_lem b are)
      (rows ∙ accepts (is_enabled peripheral ask_config) (fits_size A L size) (enabled made.payload.0 made.readsize.0 ask_codes)
      (fits_as A L size e₂ e₃ e₆ ask_facts.least some fits))
      asks q n (is ∙ same_request q k A L tag _ _ bytes e₁ e₂ e₃ e₄ ask_payload ask-read e₅) (omega (arith, small))

  -- "PUT_NP takes .. 02h (8)"
  abbrev read_command : List ℕ
  read_command = 0x02 ∷ 0x02 ∷ tag_byte q.tag q.length ∷ q.length % 256 ∷ high8 q.address (0 ∷ [])

  memory_read : MemoryRead ≡ q.kind → MadeMemoryRead q → MakesRequest q n
  memory_read k r =
      made_by read_command MemoryRead (access_address read_command) (access_length read_command) (access_tag read_command) 0 (read_size_of ask_config)
      (all_cons (omega arith) (all_cons (omega arith) (all_cons (omega (arith, r.tag)) (low_then q.length (high8-then q.address (zero-bytes 1))))))
      refl refl refl k
      (high8-back q.address 2 2 (tag_byte q.tag q.length) (q.length % 256) (0 ∷ []) made.address)
      (length_back q.length q.tag r.least ask_facts.most) (omega (arith, r.tag)) (sym r.bytes)
      ask-read (omega (arith, ask_facts.readsize.least)) r.in_block

  -- a short access: 2 address bytes, then what follows
  abbrev short : ℕ → List ℕ → List ℕ
  short op rest = op ∷ q.address / 256 % 256 ∷ q.address % 256 ∷ rest

  abbrev ShortMade : (k : Kind) (size : ℕ) → Type 0
  ShortMade k size = (op L bytes : ℕ) (rest : List ℕ) → op < 256 → AllBytes rest → is_non_posted op ≡ true
      → Rows (short op rest) (high_first 2 1 (short op rest)) L size
      → request_in ask_config (short op rest) ≡ request_of ask_config k (high_first 2 1 (short op rest)) L 0 bytes
      → q.length ≡ L → bytes ≡ q.bytes → MakesRequest q n

  short-made : (k : Kind) (size : ℕ) {B : ℕ} → MadeIo q → k ≡ q.kind → size ≡ B → 0 < B → q.address % B + q.length ≤ B → ShortMade k size
  short-made k size io same e some fits op L bytes rest h are asks rows is f g =
      made_by (short op rest) k (high_first 2 1 (short op rest)) L 0 bytes size
      (all_cons h (low_then (q.address / 256) (low_then q.address are))) asks rows is
      same (omega (arith, io.address)) (sym f) (sym io.tag) g e some fits

  -- "short I/O read 40h+c"
  io_read_lem : IoRead ≡ q.kind → MadeIoRead q → MakesRequest q n
  io_read_lem k r = by r.io.lengths
    where
      of : ShortMade IoRead (read_size_of ask_config)
      of = short-made IoRead (read_size_of ask_config) r.io k ask-read (omega (arith, ask_facts.readsize.least)) r.in_block

      by : (q.length ≡ 1) ⊎ ((q.length ≡ 2) ⊎ (q.length ≡ 4)) → MakesRequest q n
      by (inl e) = of 0x40 1 0 (zeros 1) (omega arith) (zero-bytes 1) refl refl refl e (sym r.bytes)
      by (inr (inl e)) = of 0x41 2 0 (zeros 1) (omega arith) (zero-bytes 1) refl refl refl e (sym r.bytes)
      by (inr (inr e)) = of 0x43 4 0 (zeros 1) (omega arith) (zero-bytes 1) refl refl refl e (sym r.bytes)

  -- "I/O write 44h+c", its data low byte first
  io_write : IoWrite ≡ q.kind → MadeIoWrite q → MakesRequest q n
  io_write k r = by r.io.lengths
    where
      v : ℕ
      v = q.bytes

      of : ShortMade IoWrite (payload_of ask_config)
      of = short-made IoWrite (payload_of ask_config) r.io k ask_payload (omega (arith, ask_facts.payload.least)) r.in_block

      below : {L : ℕ} → q.length ≡ L → v < 2 ^ (8 * L)
      below e = subst (λ (L : ℕ). v < 2 ^ (8 * L)) e r.bytes

      by : (q.length ≡ 1) ⊎ ((q.length ≡ 2) ⊎ (q.length ≡ 4)) → MakesRequest q n
      by (inl e) =
          let rest : List ℕ = v % 256 ∷ zeros 1 in
          of 0x44 1 (low_first 1 3 (short 0x44 rest)) rest (omega arith) (low_then v (zero-bytes 1)) refl refl refl e (omega (arith, below e))
      by (inr (inl e)) =
          let rest : List ℕ = low2 v ++ zeros 1 in
          of 0x45 2 (low_first 2 3 (short 0x45 rest)) rest (omega arith) (low_then v (low_then (v / 256) (zero-bytes 1))) refl refl refl e
          (omega (arith, below e))
      by (inr (inr e)) =
          let rest : List ℕ = low4 v ++ zeros 1 in
          of 0x47 4 (low_first 4 3 (short 0x47 rest)) rest (omega arith) (then4 v (zero-bytes 1)) refl refl refl e (omega arith ∙ back4 v (below e))

request_by : (k : Kind) (q : Request) (n : ℕ) → n < 2 ^ 32 → k ≡ q.kind → (made : Made q) → MadeAs k q → MakesRequest q n
request_by MemoryRead q n small e made a = memory_read q made n small e a
request_by IoRead q n small e made a = io_read_lem q made n small e a
request_by IoWrite q n small e made a = io_write q made n small e a

-- ---- a write: PUT_PC of type 03h, its data zeros

same_write : (t : Posted) (A L P : ℕ) → A ≡ t.address → L ≡ t.length → P ≡ t.payload → record { address = A; length = L; payload = P } ≡ t
same_write t A L P e f g = rw (e, f, g)

module _ (t : Posted) (made : PostedMade t) where
  abbrev write_codes : Codes made.payload.0 1
  write_codes = record { payload_least = made.payload.1; payload_most = made.payload.2; read_least = omega arith; read_most = omega arith }

  abbrev write_config : Config
  write_config = config made.payload.0 1 write_codes

  abbrev write_state : State
  write_state = waits_for made.payload.0 1 write_codes 0 (omega arith)

  -- with the CRC byte
  abbrev write_command : List ℕ
  write_command = 0x00 ∷ 0x03 ∷ tag_byte 0 t.length ∷ t.length % 256 ∷ high8 t.address (zeros (suc t.length))

  write_facts : MadeWrite t
  write_facts = held-write t (write_test (Some t) made)

  write_payload : payload_of write_config ≡ t.payload
  write_payload = payload_is made.payload.0 1 write_codes ∙ sym made.payload.3

  write-length : put_length write_command ≡ t.length
  write-length = length_back t.length 0 made.least (omega (arith, write_facts.most))

  write_address : access_address write_command ≡ t.address
  write_address = high8-back t.address 0 3 (tag_byte 0 t.length) (t.length % 256) (zeros (suc t.length)) made.address

  write_none : first_of (command_rows write_state write_command) ≡ 0
  write_none =
      accepts_long (length write_command) (12 + put_length write_command + 1) (is_enabled peripheral write_config)
      (fits_size (access_address write_command) (put_length write_command) (payload_of write_config))
      (omega arith) (omega (arith, write-length, length-replicate {A = ℕ} t.length 0)) (enabled made.payload.0 1 write_codes)
      (fits_as (access_address write_command) (put_length write_command) (payload_of write_config) write_address write-length write_payload
      made.least (omega (arith, write_facts.payload.least)) made.in_block)

  write_bytes : AllBytes write_command
  write_bytes =
      all_cons (omega arith)
      (all_cons (omega arith) (all_cons (omega (arith, write_facts.most)) (low_then t.length (high8-then t.address (zero-bytes (suc t.length))))))

  write_by : MakesWrite t
  write_by =
      makes_write write_state (sound made.payload.0 1 write_codes 0 (omega arith)) write_command (are_bytes_lem write_command write_bytes) write_none t refl
      (same_write t (access_address write_command) (access_length write_command) (payload_of write_config) write_address write-length write_payload)

-- ---- back: every call keeps the state sound

after-sound : (a : Accepting) → Sound (after_it a).state
after-sound a = sound-step a.world (exchange a.command a.reply) a.sound a.bytes

request_back : (q : Request) (n : ℕ) → MakesRequest q n → Made q × (n < 2 ^ 32)
request_back q n m =
    let s = after-sound m.by in
    let c = (sound_clauses (after_it m.by).state s.is_sound s.is_fit).of_channel_lem peripheral in
    (subst RequestMade m.holds c.request, subst (λ (x : ℕ). x < 2 ^ 32) m.serial ((parts s).each peripheral).serial)

write-back : (t : Posted) → MakesWrite t → PostedMade t
write-back t m =
    let s = after-sound m.by in
    subst WriteMade m.holds ((sound_clauses (after_it m.by).state s.is_sound s.is_fit).of_channel_lem peripheral).write

-- ---- what a sound state holds

request_held_lem : (n : ℕ) → n < 2 ^ 32 → (np : Np) → RequestMade np → RequestBy np n
request_held_lem n small Free m = tt
request_held_lem n small (Waiting q) m = request_by q.kind q n small refl m m.as_kind
request_held_lem n small (Ready q sent) m = request_by q.kind q n small refl m m.as_kind
request_held_lem n small (Failed q) m = request_by q.kind q n small refl m m.as_kind

write-held : (x : Option Posted) → WriteMade x → WriteBy x
write-held None m = tt
write-held (Some t) m = write_by t m

held_in : (s : State) → Sound s → RequestBy s.peripheral.request s.peripheral.serial × WriteBy s.peripheral.write
held_in s so =
    let c = (sound_clauses s so.is_sound so.is_fit).of_channel_lem peripheral in
    let p = s.peripheral in
    (request_held_lem p.serial ((parts so).each peripheral).serial p.request c.request, write-held p.write c.write)

pub makes : Makes
makes =
    record {
      request = λ q n. (request_back q n, λ h. request_by q.kind q n h.1 refl h.0 h.0.as_kind);
      write = λ t. (write-back t, write_by t);
      held_request = λ s so. (held_in s so).0;
      held_write = λ s so. (held_in s so).1;
    }
