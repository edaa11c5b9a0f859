-- Channel 0's numbers are those of its rows: by its law, and by what the bytes of its commands are.
use Rattle.std.specs.Prelude.{ℕ, ◌+◌, ◌-◌, ◌*◌, ◌/◌, ◌%◌, ◌^◌, ◌≤◌, ◌<◌, Bool, true, false, ◌&&◌, ◌||◌, not, List, [], ◌∷◌, ◌≡◌, refl, eqb, leb, length, Option, Some, None}
use Rattle.std.proofs.Common.{true≢false, sym, ap, ◌∙◌, div-add-mod', arith, pow_pos, leb-true, leb-false, eq-eqb, ne_eqb, le-leb}
use Rattle.std.proofs.Math.Nat.{div-eq_of_lt-le, lt-div-mul-add}
use Rattle.std.proofs.lemmas.Bool.{eqb-false, not-true, not-false}
use Rattle.base.specs.Pick.{pick, pick_ind, and_true, taken, passed}
use Rattle.registers.specs.Registers.{bits, size_of, payload_size, read_size}
use Rattle.registers.specs.declared.Config.{Config}
use Rattle.peripheral.specs.Status.{pc_free, np_free, pc_avail, some}
use Rattle.peripheral.specs.Upward.{upward}
use Rattle.peripheral.specs.declared.Kind.{Kind}
use Rattle.peripheral.specs.declared.Kind.TheVariants as R
use Rattle.peripheral.specs.declared.Request.{Request}
use Rattle.peripheral.specs.declared.Np.{Np}
use Rattle.peripheral.specs.declared.Np.TheVariants.{Free, Waiting, Ready, Failed}
use Rattle.peripheral.specs.declared.Peripheral.{Peripheral}
use Rattle.peripheral.specs.declared.Posted.{Posted}
use Rattle.peripheral.specs.Sound.{within}
use Rattle.state.specs.State.{State}
use Rattle.rules.specs.Rules.Plan.{PeripheralChange}
use Rattle.rules.specs.Rules.Peripheral.{Act, posts, asks, gets, Board, size_for, succeeded, answer_length, bytes_for}
use Rattle.rules.specs.Statements.Fields.{byte, is_posted, is_non_posted, length_field, short_size, access_address, access_length}
use Rattle.rules.specs.Statements.Reads as Read
use Rattle.rules.specs.Statements.Reads.{request_in}
use Rattle.rules.specs.Statements.Rows.{first_of}
use Rattle.rules.specs.Statements.Sizes.{payload_of, read_size_of}
use Rattle.rules.specs.Statements.Peripheral as P
use Rattle.rules.specs.Statements.Peripheral.{unanswered}
use Rattle.rules.specs.Statements.Peripheral.Rows.{write_held, request_held, completion_ready, fits_size, success_bytes, bytes_wanted, board_rows}
use Rattle.rules.specs.Statements.FirstApplies.{all_sizes, later_rows}
use Rattle.rules.proofs.Proofs.Fields.{by_posted, by_asked}
use Rattle.rules.proofs.Proofs.Rows.{same_test}

-- ---- the tests of credit and size, as the rows have them

pub free_as : (t : Option Posted) → pc_free t ≡ not (write_held t)
free_as None = refl
free_as (Some x) = refl

pub idle_as : (np : Np) → np_free np ≡ not (request_held np)
idle_as Free = refl
idle_as (Waiting q) = refl
idle_as (Ready q k) = refl
idle_as (Failed q) = refl

pub avail_as : (np : Np) → pc_avail np ≡ completion_ready np
unfolding upward
avail_as Free = refl
avail_as (Waiting q) = refl
avail_as (Ready q k) = refl
avail_as (Failed q) = refl

-- "does not cross a block" as the size test has it
pub fits-within : (A L B : ℕ) → 1 ≤ L → 0 < B → within A L B ≡ fits_size A L B
fits-within A L B hl hb = go (leb (A % B + L) B) refl
  where
    whole : A / B * B + A % B ≡ A
    whole = div-add-mod' A B

    go : (t : Bool) → leb (A % B + L) B ≡ t → t ≡ fits_size A L B
    go true e =
        let h = leb-true (A % B + L) B e in
        let same : (A + L - 1) / B ≡ A / B = div-eq_of_lt-le B (omega (arith, whole)) (omega (arith, whole)) in
        sym (and_true (le-leb L B (omega arith)) (eq-eqb (A / B) ((A + L - 1) / B) (sym same)))
    go false e =
        let h = leb-false (A % B + L) B e in
        other (leb L B)
        (ne_eqb (A / B) ((A + L - 1) / B)
        (λ q. let lo : (A / B) * B + B ≤ A + L - 1 = omega (arith, whole) in
        let up : A + L - 1 < (A + L - 1) / B * B + B = lt-div-mul-add hb in
        omega (arith, rw (← q) at up)))
      where
        other : (t : Bool) {u : Bool} → u ≡ false → false ≡ t && u
        other true e = sym e
        other false e = refl

some-length : (n : ℕ) → 1 ≤ pick (eqb n 0) 4096 n
some-length n = pick_ind (λ (k : ℕ). 1 ≤ k) (eqb n 0) (λ _. omega arith) (λ e. omega (arith, eqb-false n 0 e))

some_size : (op : ℕ) → 1 ≤ short_size op
some_size op =
    pick_ind (λ (k : ℕ). 1 ≤ k) (eqb (op % 4) 0) (λ _. omega arith)
    (λ _. pick_ind (λ (k : ℕ). 1 ≤ k) (eqb (op % 4) 1) (λ _. omega arith) (λ _. omega arith))

-- no access is of nothing
some_access : (b : List ℕ) → 1 ≤ access_length b
some_access b =
    pick_ind (λ (k : ℕ). 1 ≤ k) (eqb (byte b 0) 0x00 || eqb (byte b 0) 0x02) (λ _. some-length (length_field b)) (λ _. some_size (byte b 0))

-- a size is the one that its code means
size_as : (b : List ℕ) (code : ℕ) → within (access_address b) (access_length b) (size_of code)
    ≡ fits_size (access_address b) (access_length b) (64 * 2 ^ (code - 1))
unfolding size_of
size_as b code = fits-within (access_address b) (access_length b) (64 * 2 ^ (code - 1)) (some_access b) (omega (arith, pow_pos (code - 1)))

-- ---- the number by the tests that led to it

abbrev number_for : Config → Peripheral → Act → ℕ
number_for c p (posts A L from) = pick (write_held p.write) 1 (pick (not (within A L (payload_size c.r010))) 1 0)
number_for c p (asks q) = pick (request_held p.request) 1 (pick (not (within q.address q.length (size_for q.kind q))) 1 0)
number_for c p gets = pick (not (completion_ready p.request)) 1 0

module _ (c : Config) (p : Peripheral) where
  no_write : pc_free p.write ≡ true → write_held p.write ≡ false
  no_write e = not-true _ (sym (free_as p.write) ∙ e)

  no_request : np_free p.request ≡ true → request_held p.request ≡ false
  no_request e = not-true _ (sym (idle_as p.request) ∙ e)

  did_number : {a : Act} {x : PeripheralChange} → P.Did c p a x → x.out.number ≡ number_for c p a
  did_number (P.write_held e) = taken 1 _ (not-false (write_held p.write) (sym (free_as p.write) ∙ e)) refl
  did_number (P.write_large e f) = passed 1 _ (no_write e) (taken 1 0 (ap not f) refl)
  did_number (P.posted e f) = passed 1 _ (no_write e) (passed 1 0 (ap not f) refl)
  did_number (P.request_held e) = taken 1 _ (not-false (request_held p.request) (sym (idle_as p.request) ∙ e)) refl
  did_number (P.request_large e f) = passed 1 _ (no_request e) (taken 1 0 (ap not f) refl)
  did_number (P.asked e f) = passed 1 _ (no_request e) (passed 1 0 (ap not f) refl)
  did_number (P.none_ready e) = taken 1 0 (ap not (sym (avail_as p.request) ∙ ap some e)) refl
  did_number (P.handed_over e) = passed 1 0 (ap not (sym (avail_as p.request) ∙ ap some e)) refl

-- ---- the rows of its commands: those of another opcode compute away

module _ (s : State) where
  abbrev c : Config
  c = s.config

  abbrev p : Peripheral
  p = s.peripheral

  pub posted_rows : (b : List ℕ) → is_posted (byte b 0) ≡ true → first_of (later_rows s b) ≡ pick (write_held p.write) 1 (first_of (all_sizes c b))
  posted_rows [] h = refl
  posted_rows (op ∷ r) h =
      by_posted (λ (x : ℕ). first_of (later_rows s (x ∷ r)) ≡ pick (write_held p.write) 1 (first_of (all_sizes c (x ∷ r))))
      refl refl refl refl op h

  pub asked-rows : (b : List ℕ) → is_non_posted (byte b 0) ≡ true → first_of (later_rows s b) ≡ pick (request_held p.request) 1 (first_of (all_sizes c b))
  asked-rows [] h = absurd (true≢false (sym h))
  asked-rows (op ∷ r) h =
      by_asked (λ (x : ℕ). first_of (later_rows s (x ∷ r)) ≡ pick (request_held p.request) 1 (first_of (all_sizes c (x ∷ r))))
      refl refl refl refl refl refl refl refl refl refl op h

  posted_size : (b : List ℕ) → is_posted (byte b 0) ≡ true → pick (not (fits_size (access_address b) (access_length b) (payload_of c))) 1 0
      ≡ first_of (all_sizes c b)
  posted_size [] h = refl
  posted_size (op ∷ r) h =
      by_posted (λ (x : ℕ). pick (not (fits_size (access_address (x ∷ r)) (access_length (x ∷ r)) (payload_of c))) 1 0 ≡ first_of (all_sizes c (x ∷ r)))
      refl refl refl refl op h

  module _ (b : List ℕ) where
    abbrev too_large_value : ℕ → ℕ
    too_large_value size = pick (not (within (access_address b) (access_length b) size)) 1 0

    read-size : too_large_value (read_size c.r010) ≡ pick (not (fits_size (access_address b) (access_length b) (read_size_of c))) 1 0
    read-size = ap (λ (t : Bool). pick (not t) 1 0) (size_as b (bits 14 12 c.r010.value))

    write-size : too_large_value (payload_size c.r010) ≡ pick (not (fits_size (access_address b) (access_length b) (payload_of c))) 1 0
    write-size = ap (λ (t : Bool). pick (not t) 1 0) (size_as b (bits 10 8 c.r010.value))

  abbrev AskedSize : List ℕ → Type 0
  AskedSize b = too_large_value b (size_for (request_in c b).kind (request_in c b)) ≡ first_of (all_sizes c b)

  asked-size : (b : List ℕ) → is_non_posted (byte b 0) ≡ true → AskedSize b
  asked-size [] h = absurd (true≢false (sym h))
  asked-size (op ∷ r) h =
      by_asked (λ (x : ℕ). AskedSize (x ∷ r)) (read-size (0x02 ∷ r))
      (read-size (0x40 ∷ r)) (read-size (0x41 ∷ r)) (read-size (0x43 ∷ r))
      (write-size (0x44 ∷ r)) (write-size (0x45 ∷ r)) (write-size (0x47 ∷ r))
      (read-size (0x48 ∷ r)) (read-size (0x49 ∷ r)) (read-size (0x4B ∷ r)) op h

  get_rows : (b : List ℕ) → byte b 0 ≡ 0x01 → pick (not (completion_ready p.request)) 1 0 ≡ first_of (later_rows s b)
  get_rows [] h = absurd (omega arith)
  get_rows (op ∷ r) h = rw h refl

  rows-number : (b : List ℕ) {a : Act} → Read.Peripheral c b a → number_for c p a ≡ first_of (later_rows s b)
  rows-number b (Read.Peripheral.posts h l) =
      same_test 1 (write_held p.write) (write_held p.write) refl (λ _. write-size b ∙ posted_size b h) ∙ sym (posted_rows b h)
  rows-number b (Read.Peripheral.asks h) =
      same_test 1 (request_held p.request) (request_held p.request) refl (λ _. asked-size b h) ∙ sym (asked-rows b h)
  rows-number b (Read.Peripheral.gets h) = get_rows b h

  pub act-number : (b : List ℕ) {a : Act} {x : PeripheralChange} → Read.Peripheral c b a → P.Did c p a x → x.out.number ≡ first_of (later_rows s b)
  act-number b r d = did_number c p d ∙ rows-number b r

-- ---- the board's calls

-- the count wanted, as the answer's test has it
wanted : (q : Request) (success : ℕ) → bytes_for q (succeeded success) ≡ bytes_wanted (Waiting q) success
wanted q success = ap (λ (n : ℕ). pick (succeeded success) n 0) (by_kind q.kind) ∙ turned (eqb success 0)
  where
    by_kind : (k : Kind) → answer_length k q ≡ success_bytes k q.length
    by_kind R.MemoryRead = refl
    by_kind R.IoRead = refl
    by_kind R.IoWrite = refl

    turned : (t : Bool) → pick (not t) (success_bytes q.kind q.length) 0 ≡ pick t 0 (success_bytes q.kind q.length)
    turned true = refl
    turned false = refl

module _ (p : Peripheral) where
  module _ {q : Request} (e : p.request ≡ Waiting q) where
    named : {serial : ℕ} → serial ≡ p.serial → not (unanswered p.request && eqb serial p.serial) ≡ false
    named f = ap not (and_true (ap unanswered e) (eq-eqb _ _ f))

    counted : (n success : ℕ) {t : Bool} → eqb n (bytes_for q (succeeded success)) ≡ t → not (eqb n (bytes_wanted p.request success)) ≡ not t
    counted n success f = ap not (ap (λ (r : Np). eqb n (bytes_wanted r success)) e ∙ ap (eqb n) (sym (wanted q success)) ∙ f)

  pub settle-number : {o : Board} {x : PeripheralChange} → P.Settled p o x → x.out.number ≡ first_of (board_rows p o)
  settle-number (P.look_done e) = passed 23 0 (ap (λ (r : Np). not (unanswered r)) e) refl
  settle-number (P.no_look e) = taken 23 0 (ap not e) refl
  settle-number (P.no_such e) = taken 20 _ (ap not e) refl
  settle-number (P.miscounted {success = t} {bytes = d} e f g) = passed 20 _ (named e f) (taken 21 0 (counted e (length d) t g) refl)
  settle-number (P.succeeds {success = t} {bytes = d} {q = q} e f g h) =
      passed 20 _ (named e f) (passed 21 0 (counted e (length d) t (eq-eqb _ _ (h ∙ ap (λ (u : Bool). pick u (answer_length q.kind q) 0) (sym g)))) refl)
  settle-number (P.fails {success = t} {bytes = d} {q = q} e f g h) =
      passed 20 _ (named e f) (passed 21 0 (counted e (length d) t (eq-eqb _ _ (h ∙ ap (λ (u : Bool). pick u (answer_length q.kind q) 0) (sym g)))) refl)
  settle-number (P.no_take e) = taken 23 0 (ap (λ (t : Option Posted). not (write_held t)) e) refl
  settle-number (P.took e) = passed 23 0 (ap (λ (t : Option Posted). not (write_held t)) e) refl
