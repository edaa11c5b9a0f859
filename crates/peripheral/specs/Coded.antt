-- How the code decides what a definition says in another way: the laws that its proofs cite.
use Rattle.std.specs.Prelude.{◌≡◌, ℕ, zero, suc, ◌+◌, ◌*◌, ◌%◌, ◌^◌, ◌≤◌, Bool, true, false, not, ◌&&◌, ◌||◌, ◌⊎◌, List, ◌++◌, length, ◌==◌, ◌≢◌, nat_le, nat_lt, slice_index, refl, Option, Some, None}
use Rattle.std.proofs.Common.{append_assoc, sym, ap, subst, ◌∙◌, add_comm, add-zero, arith, eqb-true, eq-eqb, ne_eqb, lt-ltb, le-ltb, inl, inr}
use Rattle.std.proofs.lemmas.Bool.{not-true, not-false}
use Rattle.base.specs.Pick.{pick, and_right, taken, passed}
use Rattle.base.specs.Bytes.{bit, low4, number4, number8, put, put-put}
use Rattle.base.specs.Numbers.{length_join, none8}
use Rattle.pieces.specs.Marks.{mark_of, mark_type}
use Rattle.pieces.specs.Pieces.{next_mark}
use Rattle.pieces.specs.Blocks.{Block}
use Rattle.pieces.specs.Edges.{place_low}
use Rattle.pieces.specs.Laws.{next_mark_lem}
use Rattle.pieces.specs.declared.Mark.{Mark}
use Rattle.peripheral.specs.Upward.{next_of, next_piece, bare, success_of, upward, first_of, left_of, after_piece, after_success, handed}
use Rattle.peripheral.specs.Status.{pc_free, np_free, pc_avail, peripheral_status}
use Rattle.peripheral.specs.Sound.{short_size, io_made, request_made, sent_right, sound_request, sound_write, nothing_held}
use Rattle.peripheral.specs.Layout.{write_bytes_value, request_bytes, np_bytes, handed_bytes, peripheral_bytes, write_of, kind_of, np_of, posted_in, request_in, write_in, np_in, peripheral_in, tidy_write, tidy_request, blank_in, holds_write, holds_request, holds_peripheral}
use Rattle.peripheral.specs.Packing.{write-length, np_length}
use Rattle.peripheral.specs.declared.Kind.{Kind}
use Rattle.peripheral.specs.declared.Kind.TheVariants.{IoWrite}
use Rattle.peripheral.specs.declared.Request.{Request}
use Rattle.peripheral.specs.declared.Np.{Np}
use Rattle.peripheral.specs.declared.Np.TheVariants.{Free, Waiting, Ready, Failed}
use Rattle.peripheral.specs.declared.Completion.{Completion}
use Rattle.peripheral.specs.declared.Posted.{Posted}
use Rattle.peripheral.specs.declared.Peripheral.{Peripheral}

-- ---- guards: a call's answer x for the test t, and the guard `if !x`

pub refused : {x t : Bool} → x ≡ t → not x ≡ true → t ≡ false
refused {x} {t} e h = sym e ∙ not-true x h

pub admitted : {x t : Bool} → x ≡ t → not x ≡ false → t ≡ true
admitted {x} {t} e h = sym e ∙ not-false x h

-- ---- places in a block, by the low bits of an address

pub low_in : (A B : ℕ) → Block B → A % 4096 % B ≡ A % B
low_in A B h = ap (λ (n : ℕ). n % B) (sym (add-zero (A % 4096))) ∙ place_low A B 0 h.divides ∙ ap (λ (n : ℕ). n % B) (add-zero A)

pub edge_low : (A B s : ℕ) → Block B → (A % 4096 + s % 4096) % B ≡ (A + s) % B
edge_low A B s h =
    ap (λ (n : ℕ). n % B) (add_comm (A % 4096) (s % 4096)) ∙ place_low s B (A % 4096) h.divides
    ∙ ap (λ (n : ℕ). n % B) (add_comm s (A % 4096)) ∙ place_low A B s h.divides

-- ---- an I/O request

-- a length of 1, 2 or 4 that is neither 1 nor 2
pub four_left : (L : ℕ) → short_size L ≡ true → (L ≢ 1) → (L ≢ 2) → L ≡ 4
four_left L e one two =
    eqb-true L 4 (rw (ne_eqb L 1 one, ne_eqb L 2 two) at e)

pub io_short : (q : Request) → io_made q ≡ true → short_size q.length ≡ true
io_short q e = and_right (nat_lt q.address (2 ^ 16)) _ (and_right (q.tag == 0) _ e)

-- ---- handing over

-- the bytes of what is left, as the code decides it
module _ (q : Request) (gone : ℕ) (l l' bytes : List ℕ) (k : l' ≡ put 29 bytes l) where
  pub left-last : gone ≡ q.length → bytes ≡ np_bytes Free → l' ≡ put 29 (np_bytes (left_of q gone)) l
  left-last h e = k ∙ ap (λ (z : List ℕ). put 29 z l) (e ∙ ap np_bytes (taken Free (Ready q gone) (eq-eqb gone q.length h) refl))

  pub left_more : (gone ≢ q.length) → bytes ≡ request_bytes 2 q gone → l' ≡ put 29 (np_bytes (left_of q gone)) l
  left_more h e = k ∙ ap (λ (z : List ℕ). put 29 z l) (e ∙ ap np_bytes (passed Free (Ready q gone) (ne_eqb gone q.length h) refl))

-- a piece worked out once: its size, its mark, what is left
pub piece-handed : (q : Request) (sent n cycle : ℕ) (mark : Mark) (l l' : List ℕ)
    → n ≡ next_of q sent
    → mark ≡ mark_of (sent == 0) (sent + n == q.length)
    → cycle ≡ mark_type mark
    → l' ≡ put 29 (np_bytes (left_of q (sent + n))) l
    → (record { cycle = cycle; tag = q.tag; length = n; from = sent } ≡ next_piece q sent) × (l' ≡ put 29 (np_bytes (after_piece q sent)) l)
piece-handed q sent n cycle mark l l' en em ec k =
    let c = ec ∙ ap mark_type (em ∙ next_mark_lem q.address q.length q.payload sent en) in (
      ap (λ (x : ℕ). record { cycle = x; tag = q.tag; length = n; from = sent }) c
          ∙ ap (λ (y : ℕ). record { cycle = mark_type (next_mark q.address q.length q.payload sent); tag = q.tag; length = y; from = sent }) en,
      k ∙ ap (λ (z : ℕ). put 29 (np_bytes (left_of q (sent + z))) l) en,
    )

-- by the kind that it is
pub success_handed : (k k' : Kind) (q : Request) (sent : ℕ) (r : Completion) (l l' : List ℕ) → k ≡ k'
    → (r ≡ success_of k' q sent) × (l' ≡ put 29 (np_bytes (after_success k' q sent)) l)
    → (r ≡ success_of k q sent) × (l' ≡ put 29 (np_bytes (after_success k q sent)) l)
success_handed k k' q sent r l l' e h =
    subst (λ (z : Kind). (r ≡ success_of z q sent) × (l' ≡ put 29 (np_bytes (after_success z q sent)) l)) (sym e) h

-- by the phase that it is in
module _ (m n : Np) (l l' : List ℕ) (e : n ≡ m) where
  abbrev Handed : Option Completion → Np → Type 0
  Handed r z = (r ≡ first_of (upward z)) × (l' ≡ handed_bytes z l)

  from_case : (r : Option Completion) (z : Np) → n ≡ z → Handed r z → Handed r m
  from_case r z f h = subst (Handed r) (sym f ∙ e) h

  -- where nothing is ready
  pub none_handed : (n ≡ Free) ⊎ ((q : Request) × (n ≡ Waiting q)) → l' ≡ l → Handed None m
  unfolding upward
  none_handed (inl f) k = from_case None Free f (refl, k)
  none_handed (inr f) k = from_case None (Waiting f.0) f.1 (refl, k)

  pub free_handed : n ≡ Free → l' ≡ l → Handed None m
  free_handed f k = none_handed (inl f) k

  pub waiting-handed : (q : Request) → n ≡ Waiting q → l' ≡ l → Handed None m
  waiting-handed q f k = none_handed (inr (q, f)) k

  pub ready_handed : (q : Request) (sent : ℕ) (c : Completion) → n ≡ Ready q sent
      → (c ≡ success_of q.kind q sent) × (l' ≡ put 29 (np_bytes (after_success q.kind q sent)) l) → Handed (Some c) m
  unfolding upward handed
  ready_handed q sent c f h = from_case (Some c) (Ready q sent) f (ap Some h.0, h.1)

  pub failed_handed : (q : Request) (c : Completion) → n ≡ Failed q → (c ≡ bare 0x0E q) × (l' ≡ put 29 (np_bytes Free) l) → Handed (Some c) m
  unfolding upward handed
  failed_handed q c f h = from_case (Some c) (Failed q) f (ap Some h.0, h.1)

-- ---- what a byte says

pub kind_of_rest : (n : ℕ) → (n ≢ 0) → (n ≢ 1) → IoWrite ≡ kind_of n
kind_of_rest zero x y = absurd (x refl)
kind_of_rest (suc zero) x y = absurd (y refl)
kind_of_rest (suc (suc n)) x y = refl

pub write_of_rest : (n : ℕ) (w : Posted) → (n ≢ 0) → Some w ≡ write_of n w
write_of_rest zero w x = absurd (x refl)
write_of_rest (suc n) w x = refl

pub np_of_rest : (n : ℕ) (q : Request) (sent : ℕ) → (n ≢ 0) → (n ≢ 1) → (n ≢ 2) → Failed q ≡ np_of n q sent
np_of_rest zero q sent x y z = absurd (x refl)
np_of_rest (suc zero) q sent x y z = absurd (y refl)
np_of_rest (suc (suc zero)) q sent x y z = absurd (z refl)
np_of_rest (suc (suc (suc n))) q sent x y z = refl

-- ---- the bytes tested as they stand

module _ (l : List ℕ) (x : Bool) where
  pub write-at : (n : ℕ) → slice_index l 12 ≡ n → x ≡ (tidy_write n (posted_in l) && sound_write (write_of n (posted_in l))) → x ≡ holds_write l
  write-at n e h = subst (λ (k : ℕ). x ≡ (tidy_write k (posted_in l) && sound_write (write_of k (posted_in l)))) (sym e) h

  pub phase-at : (n : ℕ) → slice_index l 29 ≡ n
      → x ≡ (tidy_request n (slice_index l 30) (request_in l) (number4 56 l) && sound_request (np_of n (request_in l) (number4 56 l))) → x ≡ holds_request l
  phase-at n e h =
      subst (λ (k : ℕ). x ≡ (tidy_request k (slice_index l 30) (request_in l) (number4 56 l)
      && sound_request (np_of k (request_in l) (number4 56 l)))) (sym e) h

pub write_rest : (l : List ℕ) → (slice_index l 12 ≢ 0) → (slice_index l 12 ≢ 1) → false ≡ holds_write l
write_rest l = go (slice_index l 12)
  where
    go : (n : ℕ) → (n ≢ 0) → (n ≢ 1) → false ≡ (tidy_write n (posted_in l) && sound_write (write_of n (posted_in l)))
    go zero x y = absurd (x refl)
    go (suc zero) x y = absurd (y refl)
    go (suc (suc n)) x y = refl

pub phase_rest : (l : List ℕ) → (slice_index l 29 ≢ 0) → (slice_index l 29 ≢ 1) → (slice_index l 29 ≢ 2) → (slice_index l 29 ≢ 3) → false ≡ holds_request l
phase_rest l = go (slice_index l 29)
  where
    go : (n : ℕ) → (n ≢ 0) → (n ≢ 1) → (n ≢ 2) → (n ≢ 3)
        → false ≡ (tidy_request n (slice_index l 30) (request_in l) (number4 56 l) && sound_request (np_of n (request_in l) (number4 56 l)))
    go zero x y z v = absurd (x refl)
    go (suc zero) x y z v = absurd (y refl)
    go (suc (suc zero)) x y z v = absurd (z refl)
    go (suc (suc (suc zero))) x y z v = absurd (v refl)
    go (suc (suc (suc (suc n)))) x y z v = refl

-- the test that the three phases of a held request share
abbrev pub held_right : Bool → ℕ → Request → ℕ → Bool
held_right success kind q sent = request_made q && (nat_le kind 2 && pick success (sent_right q.kind q sent) (sent == 0))

apart : (m k t : Bool) → (m && (k && t)) ≡ (k && (m && t))
apart true k t = refl
apart false true t = refl
apart false false t = refl

aside : (m k t : Bool) → (m && (k && t)) ≡ ((k && t) && m)
aside true true true = refl
aside true true false = refl
aside true false t = refl
aside false true true = refl
aside false true false = refl
aside false false t = refl

pub phase-held : (l : List ℕ) (x : Bool) → (slice_index l 29 ≢ 0) → slice_index l 29 ≤ 3
    → x ≡ held_right (slice_index l 29 == 2) (slice_index l 30) (request_in l) (number4 56 l) → x ≡ holds_request l
unfolding sound_request
phase-held l x = go (slice_index l 29) (slice_index l 30) (request_in l) (number4 56 l)
  where
    go : (n kind : ℕ) (q : Request) (sent : ℕ) → (n ≢ 0) → n ≤ 3 → x ≡ held_right (n == 2) kind q sent
        → x ≡ (tidy_request n kind q sent && sound_request (np_of n q sent))
    go zero kind q sent z h e = absurd (z refl)
    go (suc zero) kind q sent z h e = e ∙ aside (request_made q) (nat_le kind 2) (sent == 0)
    go (suc (suc zero)) kind q sent z h e = e ∙ apart (request_made q) (nat_le kind 2) (sent_right q.kind q sent)
    go (suc (suc (suc zero))) kind q sent z h e = e ∙ aside (request_made q) (nat_le kind 2) (sent == 0)
    go (suc (suc (suc (suc n)))) kind q sent z h e = absurd (omega arith)

pub then_true : (x : Bool) → x ≡ (x && true)
then_true true = refl
then_true false = refl

-- fields of four bytes each, two by two
pub blank_by : (l : List ℕ)
    → (slice_index l 30 == 0
    && (slice_index l 31 == 0 && (number8 32 l == 0 && (number8 40 l == 0 && (number8 48 l == 0 && number4 56 l == 0)))))
    ≡ blank_in l
blank_by l = rw (none8 l 40, none8 l 48)

-- ---- the status bits, of the bytes

pub write_none : (n : ℕ) (w : Posted) → (n == 0) ≡ pc_free (write_of n w)
write_none zero w = refl
write_none (suc n) w = ne_eqb (suc n) 0 (λ e. omega arith)

pub np_none : (n : ℕ) (q : Request) (sent : ℕ) → (n == 0) ≡ np_free (np_of n q sent)
np_none zero q sent = refl
np_none (suc zero) q sent = refl
np_none (suc (suc zero)) q sent = refl
np_none (suc (suc (suc n))) q sent = ne_eqb (suc (suc (suc n))) 0 (λ e. omega arith)

np_some : (n : ℕ) (q : Request) (sent : ℕ) → nat_lt 1 n ≡ pc_avail (np_of n q sent)
unfolding upward
np_some zero q sent = le-ltb 1 0 (omega arith)
np_some (suc zero) q sent = le-ltb 1 1 (omega arith)
np_some (suc (suc zero)) q sent = lt-ltb 1 2 (omega arith)
np_some (suc (suc (suc n))) q sent = lt-ltb 1 (suc (suc (suc n))) (omega arith)

pub status_by : (l : List ℕ) (r : ℕ)
    → r ≡ bit (slice_index l 12 == 0) + bit (slice_index l 29 == 0) * 2 + bit (nat_lt 1 (slice_index l 29)) * 16
    → r ≡ peripheral_status (peripheral_in l)
status_by l r e =
    let q = request_in l in
    let s = number4 56 l in
    e ∙ rw (write_none (slice_index l 12) (posted_in l), np_none (slice_index l 29) q s, np_some (slice_index l 29) q s)

-- ---- the bytes tested as they stand: the whole channel

regroup : (o t u a b : Bool) → o && ((u && b) && (t && a)) ≡ ((t && u) && (o && (b && a)))
regroup true true true a b = refl
regroup true true false a b = refl
regroup true false true a true = refl
regroup true false true a false = refl
regroup true false false a b = refl
regroup false true true a b = refl
regroup false true false a b = refl
regroup false false u a b = refl

pub holds_by : (on : Bool) (l : List ℕ) (x y : Bool) → x ≡ holds_request l → y ≡ holds_write l
    → (on || (slice_index l 12 == 0 && slice_index l 29 == 0)) && (x && y) ≡ holds_peripheral on l
holds_by on l x y ex ey =
    let t = tidy_write (slice_index l 12) (posted_in l) in
    let u = tidy_request (slice_index l 29) (slice_index l 30) (request_in l) (number4 56 l) in
    rw (ex, ey, write_none (slice_index l 12) (posted_in l), np_none (slice_index l 29) (request_in l) (number4 56 l))
    (regroup (on || nothing_held (peripheral_in l)) t u (sound_write (write_in l)) (sound_request (np_in l)))

-- ---- the channel's bytes: three puts, one after the other

pub packed_by : (p : Peripheral) (l m₁ m₂ m₃ : List ℕ) → 64 ≤ length l
    → m₁ ≡ put 12 (write_bytes_value p.write) l
    → m₂ ≡ put 29 (np_bytes p.request) m₁
    → m₃ ≡ put 60 (low4 p.serial) m₂
    → m₃ ≡ put 12 (peripheral_bytes p) l
packed_by p l m₁ m₂ m₃ h e₁ e₂ e₃ =
    let b = write_bytes_value p.write in
    let c = np_bytes p.request in
    let d = low4 p.serial in
    let n₁ = write-length p.write in
    let n₂ : length (b ++ c) ≡ 48 = length_join b c 17 31 n₁ (np_length p.request) in
    let f = e₂ ∙ ap (put 29 c) e₁ ∙ put-put 12 29 b c l (omega arith) (omega arith) in
    e₃ ∙ ap (put 60 d) f ∙ put-put 12 60 (b ++ c) d l (omega arith) (omega arith) ∙ ap (λ (z : List ℕ). put 12 z l) (append_assoc b c d)

-- a waiting request and its serial: two puts
pub waits_by : (q : Request) (k : ℕ) (l m₁ m₂ : List ℕ) → 64 ≤ length l
    → m₁ ≡ put 29 (np_bytes (Waiting q)) l
    → m₂ ≡ put 60 (low4 k) m₁
    → m₂ ≡ put 29 (np_bytes (Waiting q) ++ low4 k) l
waits_by q k l m₁ m₂ h e₁ e₂ = e₂ ∙ ap (put 60 (low4 k)) e₁ ∙ put-put 29 60 (np_bytes (Waiting q)) (low4 k) l (omega arith) refl
