-- From the answer of a request to its last completion (P15, P17), and all of demand 3 under one name.
use Rattle.std.specs.Prelude.{ℕ, ◌<◌, zero, suc, ◌+◌, ◌-◌, ◌*◌, ◌/◌, ◌%◌, ◌^◌, ◌≤◌, Bool, true, false, ◌||◌, List, [], ◌++◌, ◌∷◌, ◌≡◌, length, drop, eqb}
use Rattle.std.proofs.Common.{true≢false, ap, ◌∙◌, subst, sym, ap₂, arith, mod-eq_of_lt, length-drop, eq-eqb, ne_eqb}
use Rattle.std.proofs.Math.Path.{refl}
use Rattle.std.proofs.lemmas.List.{take-append-le, drop-append-le}
use Rattle.base.specs.Pick.{and_left, and_right, pick}
use Rattle.base.specs.Bytes.{over}
use Rattle.registers.specs.Registers.{size_of}
use Rattle.pieces.specs.Laws.{joined-pieces, next_size-edge, next_mark_edge}
use Rattle.pieces.specs.Pieces.{blocks, pieces, edge, piece, pieces_from, part, joined, next_size}
use Rattle.pieces.specs.Blocks.{blocks-suc, blocks_pos, blocks_64}
use Rattle.pieces.specs.Edges.{edge-zero, edge_le, edge_next, edge-all}
use Rattle.pieces.specs.Marks.{mark_type}
use Rattle.peripheral.specs.Upward.{handed, bare, upward, next_piece, success_of, after_piece, after_success}
use Rattle.peripheral.specs.declared.Np.TheVariants.{Waiting, Free, Ready, Failed}
use Rattle.peripheral.specs.declared.Request.{Request}
use Rattle.peripheral.specs.declared.Completion.{Completion}
use Rattle.peripheral.specs.declared.Kind.{Kind}
use Rattle.peripheral.specs.declared.Kind.TheVariants.{MemoryRead, IoRead, IoWrite}
use Rattle.peripheral.specs.Facts.{MadeRequest}
use Rattle.peripheral.proofs.Facts.{waiting_request}
use Rattle.state.specs.Facts.{sound_request_lem}
use Rattle.state.specs.Sound.{Sound}
use Rattle.rules.specs.Rules.Peripheral.{succeeded, bytes_for}
use Rattle.rules.specs.Rules.Channel.{peripheral}
use Rattle.rules.specs.Rules.Reply.{header_bytes, data_bytes}
use Rattle.rules.specs.Rules.Step.{World, Call, exchange, Outcome, step, handed_over, all_handed}
use Rattle.rules.specs.Statements.Fields.{byte, is_read, is_io_write, request_kind}
use Rattle.rules.specs.Statements.Reads.{request_in}
use Rattle.rules.specs.Statements.Events.{unended}
use Rattle.rules.specs.Statements.Requests.{tells, since, answers_with, held, read_handed_on}
use Rattle.rules.specs.Statements.View.{Move, told, answered_as}
use Rattle.rules.specs.Statements.Peripheral.SoundMeans.{MadeAs, Made, RequestMade}
use Rattle.rules.specs.Statements.Peripheral.Steps.{pieces_of, edge_of}
use Rattle.rules.specs.Statements.Demand3.{header, piece_body, Answered, HandsOver, Delivers, ReadAnswered, FailureAnswered, IoWriteAnswered, Demand3}
use Rattle.rules.proofs.Proofs.Fields.{by_asked}
use Rattle.rules.proofs.Proofs.Sound.{sound-step, sound-run}
use Rattle.rules.proofs.Proofs.SoundMeans.{sound_clauses}
use Rattle.rules.proofs.Proofs.Requests.{same_answer}
use Rattle.rules.proofs.Proofs.View.{view_as}
use Rattle.rules.proofs.Proofs.AfterEnd.{ended}
use Rattle.rules.proofs.Proofs.Owed.{Owes, joined_owed, body_of, datas, deliver}
use Rattle.rules.proofs.Proofs.Asked.{asked_as, kept, before, request_held_lem}

-- ---- what an answered request owes: a read its pieces, which `upward` hands over edge by edge, and any other one completion without data

-- the k-th piece as a completion
abbrev piece_at : (A L P tag : ℕ) → ℕ → Completion
piece_at A L P tag k = record { cycle = mark_type (piece A L P k).mark; tag = tag; length = (piece A L P k).size; from = (piece A L P k).from }

abbrev pub reading : Kind → Bool
reading MemoryRead = true
reading IoRead = true
reading IoWrite = false

success_read : (k : Kind) (q : Request) (s : ℕ) → reading k ≡ true → success_of k q s ≡ next_piece q s
success_read MemoryRead q s e = refl
success_read IoRead q s e = refl
success_read IoWrite q s e = absurd (true≢false (sym e))

after_read : (k : Kind) (q : Request) (s : ℕ) → reading k ≡ true → after_success k q s ≡ after_piece q s
after_read MemoryRead q s e = refl
after_read IoRead q s e = refl
after_read IoWrite q s e = absurd (true≢false (sym e))

from_is : (A L P k : ℕ) → edge A L P k ≡ (piece A L P k).from
unfolding piece
from_is A L P k = refl

abbrev pub read_piece : Request → ℕ → Completion
read_piece q k = piece_at q.address q.length q.payload q.tag k

module _ (q : Request) (r : reading q.kind ≡ true) (l : 0 < q.length) (p : 0 < q.payload) where
  pub piece_ready : (k : ℕ) → k < pieces_of q → upward (Ready q (edge_of q k)) ≡ read_piece q k ∷ []
  unfolding upward
  piece_ready k h =
      rw (success_read q.kind q (edge_of q k) r, next_size-edge _ _ _ p l k h, next_mark_edge _ _ _ p l k h, from_is q.address q.length q.payload k)

  pub piece-handed : (k : ℕ) → k < pieces_of q → handed (Ready q (edge_of q k)) ≡ pick (eqb (suc k) (pieces_of q)) Free (Ready q (edge_of q (suc k)))
  unfolding handed
  piece-handed k h = rw (after_read q.kind q (edge_of q k) r, ← edge_next _ _ _ p l k h, edge-all _ _ _ p l k h)

  pub owes_read : (n k : ℕ) → k + suc n ≡ pieces_of q → Owes (read_piece q) k (suc n) (Ready q (edge_of q k))
  owes_read zero k h = (piece_ready k (omega arith), rw (piece-handed k (omega arith), eq-eqb (suc k) (pieces_of q) (omega arith)))
  owes_read (suc n) k h =
      let more : handed (Ready q (edge_of q k)) ≡ Ready q (edge_of q (suc k)) =
      piece-handed k (omega arith) ∙ rw (ne_eqb (suc k) (pieces_of q) (λ e. omega arith)) in
      (piece_ready k (omega arith), subst (Owes (read_piece q) (suc k) (suc n)) (sym more) (owes_read n (suc k) (omega arith)))

read_owes : (q : Request) → reading q.kind ≡ true → 0 < q.length → 0 < q.payload
    → Owes (read_piece q) 0 (blocks q.address q.length q.payload) (Ready q 0)
read_owes q e l p =
    let A = q.address in
    let L = q.length in
    let P = q.payload in
    subst (λ (n : ℕ). Owes (read_piece q) 0 n (Ready q 0)) (sym (blocks-suc A L P))
    (subst (λ (s : ℕ). Owes (read_piece q) 0 (suc ((A + L - 1) / P - A / P)) (Ready q s)) (edge-zero A L P)
    (owes_read q e l p ((A + L - 1) / P - A / P) 0 (omega (arith, blocks-suc A L P))))

failure_owes : (q : Request) → Owes (λ j. bare 0x0E q) 0 1 (Failed q)
unfolding upward handed
failure_owes q = (refl, refl)

io_write_owes : (q : Request) → q.kind ≡ IoWrite → Owes (λ j. bare 0x06 q) 0 1 (Ready q 0)
unfolding upward handed
io_write_owes q e = (ap (λ (k : Kind). success_of k q 0 ∷ []) e, ap (λ (k : Kind). after_success k q 0) e)

-- ---- a piece's bytes

-- the length of a piece has no more than 12 bits, so that the header's fields hold it and the tag
header_is : (k : Completion) → k.tag < 16 → k.length < 4096 → header_bytes k ≡ header k.cycle k.tag k.length
header_is k t n = ap (λ (x : ℕ). k.cycle ∷ x ∷ k.length % 256 ∷ []) (rw (mod-eq_of_lt t, mod-eq_of_lt (small k.length n)))
  where
    small : (n : ℕ) → n < 4096 → n / 256 < 16
    small n h = omega arith

pub bare_body : (cycle : ℕ) (q : Request) (rd : List ℕ) → q.tag < 16 → body_of (bare cycle q) rd ≡ header cycle q.tag 0
bare_body cycle q rd t = ap (λ (z : List ℕ). z ++ []) (header_is (bare cycle q) t (omega arith))

part-is : (A L P tag k : ℕ) (rd : List ℕ) → data_bytes (piece_at A L P tag k) rd ≡ part rd (piece A L P k)
unfolding piece part
part-is A L P tag k rd = refl

size_most : (A L P k : ℕ) → 0 < P → 0 < L → k < blocks A L P → (piece A L P k).size ≤ P
unfolding next_size
size_most A L P k p l h = rw (← next_size-edge A L P p l k h) (omega arith)

pub piece_body_lem : (q : Request) (rd : List ℕ) → MadeRequest q → (k : ℕ) → k < pieces_of q
    → body_of (read_piece q k) rd ≡ piece_body q.address q.length q.payload q.tag rd k
piece_body_lem q rd m k h =
    let most = size_most q.address q.length q.payload k (omega (arith, m.payload.least)) m.least h in
    ap₂ (λ (x y : List ℕ). x ++ y) (header_is (read_piece q k) m.tag (omega (arith, most, m.payload.most)))
    (part-is q.address q.length q.payload q.tag k rd)

-- the read store has the answer at its start
part-over : (A L P k : ℕ) (d rd : List ℕ) → length d ≡ L → part (over d rd) (piece A L P k) ≡ part d (piece A L P k)
unfolding piece part over
part-over A L P k d rd e =
    let a : edge A L P k ≤ length d = omega (arith, edge_le A L P k) in
    let b : edge A L P (suc k) - edge A L P k ≤ length (drop (edge A L P k) d) = rw length-drop (omega (arith, edge_le A L P (suc k))) in
    rw (
      drop-append-le (edge A L P k) d (drop (length d) rd) a,
      take-append-le (edge A L P (suc k) - edge A L P k) (drop (edge A L P k) d)
          (drop (length d) rd) b,
    )

datas_are : (A L P tag : ℕ) (d rd : List ℕ) → length d ≡ L → (n k : ℕ) → datas (piece_at A L P tag) (over d rd) k n ≡ joined d (pieces_from A L P k n)
unfolding datas joined pieces_from
datas_are A L P tag d rd e zero k = refl
datas_are A L P tag d rd e (suc n) k =
    rw (part-is A L P tag k (over d rd), part-over A L P k d rd e, datas_are A L P tag d rd e n (suc k))

-- ---- how many pieces: the read passed the size test of its read request size

read-within : (k : Kind) (q : Request) → reading k ≡ true → MadeAs k q → q.address % q.readsize + q.length ≤ q.readsize
read-within MemoryRead q e m = m.in_block
read-within IoRead q e m = m.in_block
read-within IoWrite q e m = absurd (true≢false (sym e))

read_few : (q : Request) → reading q.kind ≡ true → 0 < q.length → Made q → (1 ≤ pieces_of q) × (pieces_of q ≤ 64)
unfolding size_of
read_few q e l m =
    let A = q.address in
    let L = q.length in
    let p = m.payload in
    let r = m.readsize in
    let fits : A % (64 * 2 ^ (r.0 - 1)) + L ≤ 64 * 2 ^ (r.0 - 1) =
    subst (λ (R : ℕ). A % R + L ≤ R) r.3 (read-within q.kind q e m.as_kind) in (
      blocks_pos A L q.payload,
      subst (λ (P : ℕ). blocks A L P ≤ 64) (sym p.3) (blocks_64 A L (p.0 - 1) (r.0 - 1) (omega (arith, r.2)) l fits),
    )

-- ---- the answer

-- an answer taken for the request q that w holds
record Takes (q : Request) (w : World) (success : ℕ) (d : List ℕ) (o : Outcome) : Type 0 where
  size : length d ≡ bytes_for q (succeeded success)
  request : held o.next ≡ answered_as q (succeeded success)
  read : o.next.read ≡ over d w.read

answered_as_lem : (q : Request) {w : World} {serial success : ℕ} {d : List ℕ} {o : Outcome} → held w ≡ Waiting q
    → Move w (answers_with serial success d) o tells
    → Takes q w success d o
answered_as_lem q {w} {serial} {success} {d} {o} h (told p m t e f a b i n v r z) =
    let x : p ≡ q = cc in
    let y = same_answer f in
    subst (λ (p : Request). Takes p w success d o) x
    (subst (λ (t : ℕ). Takes p w t d o) (sym y.success)
    (subst (λ (e : List ℕ). Takes p w t e o) (sym y.bytes) (record { size = i; request = n; read = r })))

-- a request, its answer, and the calls since
module _ (w : World) (b r : List ℕ) (xs : List Call) (serial success : ℕ) (d : List ℕ) (ys : List Call) (a : Answered w b r xs serial success d ys) where
  abbrev at : World
  at = since w (exchange b r) xs

  abbrev then : World
  then = (step (since w (exchange b r) xs) (answers_with serial success d)).next

  takes : Takes (request_in w.state.config b) at success d (step at (answers_with serial success d))
  takes = answered_as_lem _ (kept w b r xs a.asked).0 (view_as at (answers_with serial success d) a.answered)

  sound-asked : Sound (step w (exchange b r)).next.state
  unfolding all_handed
  sound-asked = sound-step w (exchange b r) a.sound (and_left (handed_over (exchange b r)) _ a.handed)

  made_as : Made (request_in w.state.config b)
  made_as =
      subst RequestMade (asked_as (view_as w (exchange b r) a.asked.accepted))
      ((sound_clauses _ sound-asked.is_sound sound-asked.is_fit).of_channel_lem peripheral).request

  made : MadeRequest (request_in w.state.config b)
  made = waiting_request _ (rw (asked_as (view_as w (exchange b r) a.asked.accepted)) at (sound_request_lem _ sound-asked.is_sound))

  sound-then : Sound then.state
  unfolding all_handed
  sound-then =
      sound-step at (answers_with serial success d)
      (sound-run (step w (exchange b r)).next xs sound-asked (and_right (handed_over (exchange b r)) _ a.handed)) refl

  -- a success, or a failure
  request_as : (t : Bool) → succeeded success ≡ t → held then ≡ answered_as (request_in w.state.config b) t
  request_as t e = rw e at takes.request

-- ---- a read

read_kind : (op : ℕ) → is_read op ≡ true → reading (request_kind op) ≡ true
read_kind op h =
    by_asked (λ (x : ℕ). is_read x ≡ true → reading (request_kind x) ≡ true) (λ _. refl) (λ _. refl) (λ _. refl) (λ _. refl)
    (λ e. absurd (true≢false (sym e))) (λ e. absurd (true≢false (sym e))) (λ e. absurd (true≢false (sym e))) (λ _. refl) (λ _. refl) (λ _. refl) op
    (ap (λ (t : Bool). t || is_io_write op) h) h

was_success : (q : Request) (t : Bool) (n : ℕ) → n ≡ bytes_for q t → n ≡ q.length → 0 < q.length → t ≡ true
was_success q true n e f l = refl
was_success q false n e f l = absurd (omega arith)

read_delivers : (q : Request) (d rd : List ℕ) (w : World) → (1 ≤ pieces_of q) × (pieces_of q ≤ 64) → MadeRequest q → length d ≡ q.length → Sound w.state
    → Owes (read_piece q) 0 (blocks q.address q.length q.payload) (held w) → w.read ≡ over d rd → (ys : List Call) → unended peripheral w ys ≡ true
    → read_handed_on w ys → all_handed ys ≡ true
    → HandsOver q.address q.length q.payload q.tag d w ys
unfolding pieces
read_delivers q d rd w few m size safe owes i ys u s t =
    record {
      few = few;
      pieces =
          deliver (read_piece q) N (piece_body q.address q.length q.payload q.tag d) w safe owes
          (λ j l. rw i (body j l)) ys u s t;
      whole = λ e.
          joined_owed (read_piece q) N w owes ys u s e
          ∙ rw i (datas_are q.address q.length q.payload q.tag d rd size N 0)
          ∙ joined-pieces q.address q.length q.payload pay m.least d size;
    }
  where
    N : ℕ
    N = blocks q.address q.length q.payload

    body : (j : ℕ) → j < N → body_of (read_piece q j) (over d rd) ≡ piece_body q.address q.length q.payload q.tag d j
    body j l =
        let p = piece q.address q.length q.payload j in
        piece_body_lem q (over d rd) m j l
        ∙ ap (λ (x : List ℕ). header (mark_type p.mark) q.tag p.size ++ x) (part-over q.address q.length q.payload j d rd size)

    pay : 0 < q.payload
    pay = omega (arith, m.payload.least)

pub read-answered : ReadAnswered
read-answered w b r xs serial success d ys a is size =
    let rd = (since w (exchange b r) xs).read in
    let q = request_in w.state.config b in
    let m = made w b r xs serial success d ys a in
    let ok : succeeded success ≡ true = was_success q (succeeded success) (length d) (takes w b r xs serial success d ys a).size size m.least in
    let few = read_few q (read_kind (byte b 0) is) m.least (made_as w b r xs serial success d ys a) in
    read_delivers q d rd (then w b r xs serial success d ys a) few m size (sound-then w b r xs serial success d ys a)
    (rw (request_as w b r xs serial success d ys a true ok) (read_owes q (read_kind (byte b 0) is) m.least (omega (arith, m.payload.least))))
    (takes w b r xs serial success d ys a).read ys a.unended a.handed_on a.handed_since

-- ---- a failure, and an I/O write: one completion without data

bare_delivers : (cycle : ℕ) (q : Request) (w : World) → q.tag < 16 → Sound w.state → Owes (λ j. bare cycle q) 0 1 (held w)
    → (ys : List Call) → unended peripheral w ys ≡ true → read_handed_on w ys → all_handed ys ≡ true → Delivers 1 (λ j. header cycle q.tag 0) w ys
bare_delivers cycle q w t safe owes ys x s i =
    deliver (λ j. bare cycle q) 1 (λ j. header cycle q.tag 0) w safe owes (λ j l. bare_body cycle q w.read t) ys x s i

io_kind : (op : ℕ) → is_io_write op ≡ true → request_kind op ≡ IoWrite
io_kind op h =
    by_asked (λ (x : ℕ). is_io_write x ≡ true → request_kind x ≡ IoWrite) (λ e. absurd (true≢false (sym e))) (λ e. absurd (true≢false (sym e)))
    (λ e. absurd (true≢false (sym e))) (λ e. absurd (true≢false (sym e))) (λ _. refl) (λ _. refl) (λ _. refl) (λ e. absurd (true≢false (sym e)))
    (λ e. absurd (true≢false (sym e))) (λ e. absurd (true≢false (sym e))) op (or_right (is_read op) h) h
  where
    or_right : (t : Bool) {u : Bool} → u ≡ true → t || u ≡ true
    or_right true e = refl
    or_right false e = e

pub failure_answered : FailureAnswered
failure_answered w b r xs serial success d ys a bad =
    let q = request_in w.state.config b in
    bare_delivers 0x0E q (then w b r xs serial success d ys a) (made w b r xs serial success d ys a).tag (sound-then w b r xs serial success d ys a)
    (rw (request_as w b r xs serial success d ys a false bad) (failure_owes q)) ys a.unended a.handed_on a.handed_since

pub io_write-answered : IoWriteAnswered
io_write-answered w b r xs serial success d ys a io ok =
    let q = request_in w.state.config b in
    bare_delivers 0x06 q (then w b r xs serial success d ys a) (made w b r xs serial success d ys a).tag (sound-then w b r xs serial success d ys a)
    (rw (request_as w b r xs serial success d ys a true ok) (io_write_owes q (io_kind (byte b 0) io))) ys a.unended a.handed_on a.handed_since

pub demand3 : Demand3
demand3 =
    record { before = before; held = request_held_lem; read = read-answered; failure = failure_answered; io_write_lem = io_write-answered; ended = ended }
