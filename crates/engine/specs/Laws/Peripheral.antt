-- Channel 0.
use Rattle.std.specs.Prelude.{ℕ, ◌+◌, ◌≤◌, ◌<◌, Bool, true, false, not, List, [], ◌∷◌, ◌≡◌, refl, eqb, get_or, take, drop, Option, Some, None}
use Rattle.std.proofs.Common.{sym, subst, ◌∙◌, inl, inr, arith, length-take, get_or-take, get_or-drop}
use Rattle.std.proofs.Math.Path.{ap}
use Rattle.std.proofs.Math.ListN.{get_or-eq_default}
use Rattle.base.specs.Pick.{pick, taken, passed}
use Rattle.base.specs.Bytes.{joined4, put}
use Rattle.registers.specs.Registers.{payload_size, read_size, reachable}
use Rattle.registers.specs.Laws.{payload_legal_lem, read_legal_lem, reachable_r010}
use Rattle.registers.specs.declared.Config.{Config}
use Rattle.command.specs.Facts.{SizeFits}
use Rattle.peripheral.specs.Upward.{upward, handed, first_of}
use Rattle.peripheral.specs.Status.{pc_free, np_free}
use Rattle.peripheral.specs.declared.Kind.{Kind}
use Rattle.peripheral.specs.declared.Kind.TheVariants as R
use Rattle.peripheral.specs.declared.Request.{Request}
use Rattle.peripheral.specs.declared.Np.{Np}
use Rattle.peripheral.specs.declared.Peripheral.{Peripheral}
use Rattle.peripheral.specs.declared.Completion.{Completion}
use Rattle.peripheral.specs.Sound.{within}
use Rattle.pieces.specs.Blocks.{Block}
use Rattle.peripheral.specs.Facts.{payload_block, read_block}
use Rattle.peripheral.specs.Layout.{peripheral_bytes}
use Rattle.rules.specs.Rules.Plan.{PeripheralChange}
use Rattle.rules.specs.Rules.Channel.{peripheral}
use Rattle.rules.specs.Rules.Out.{fatal, accept, defer, number, kept_from}
use Rattle.rules.specs.Rules.Peripheral.{change, with_request, holding, post, request_of, size_for, asking, ask, bytes_of, handing, get_pc, bytes_for, answered, answering_waiting}
use Rattle.rules.specs.declared.Body.TheVariants as B
use Rattle.rules.specs.declared.Out.{Out}
use Rattle.engine.specs.Carried.{Changed, changed_to, changed_by}
use Rattle.engine.specs.Laws.Tests.{denied}

-- the same change of the same part
pub changed : {p q : Peripheral} {a b : Out} → p ≡ q → a ≡ b → change p a ≡ change q b
changed {p} {q} {a} {b} e f = ap (λ (z : Peripheral). change z a) e ∙ ap (change q) f

-- ---- a change on the bytes

pub as_change : (l : List ℕ) {x y : PeripheralChange} {z : Changed} → z ≡ changed_by peripheral x l → x ≡ y → z ≡ changed_by peripheral y l
as_change l e f = e ∙ ap (λ (c : PeripheralChange). changed_by peripheral c l) f

-- refused: no byte is stored
pub refused_there : (l l' : List ℕ) (p : Peripheral) (o : Out) {x : PeripheralChange} → change p fatal ≡ x → o ≡ fatal → l' ≡ l
    → changed_to o l' ≡ changed_by peripheral x l
refused_there l l' p o e k m = as_change l (rw (k, m)) e

-- accepted: the whole part is stored, whatever was put to store it
pub stored_there : (l l' : List ℕ) (q : Peripheral) (o o' : Out) {x : PeripheralChange} → eqb o'.number 0 ≡ true → change q o' ≡ x → o ≡ o'
    → l' ≡ put 12 (peripheral_bytes q) l
    → changed_to o l' ≡ changed_by peripheral x l
stored_there l l' q o o' n e k m =
    as_change l (ap (λ (z : Out). changed_to z l') k ∙ ap (changed_to o') (subst (λ (t : Bool). l' ≡ pick t (put 12 (peripheral_bytes q) l) l) (sym n) m)) e

-- ---- what a reachable configuration gives

module _ (c : Config) (h : reachable c ≡ true) where
  pub payload_there : Block (payload_size c.r010)
  payload_there = payload_block (payload_size c.r010) (payload_legal_lem c.r010 (reachable_r010 c h))

  -- a request made of its registers has sizes
  pub request_sizes : (q : Request) (kind : Kind) (address length tag bytes : ℕ) → q ≡ request_of c kind address length tag bytes
      → Block q.payload × Block q.readsize
  request_sizes q kind address length tag bytes e = (
    subst (λ (z : Request). Block z.payload) (sym e) payload_there,
    subst (λ (z : Request). Block z.readsize) (sym e) (read_block (read_size c.r010) (read_legal_lem c.r010 (reachable_r010 c h))),
  )

-- ---- posted writes

module _ (c : Config) (p : Peripheral) (address length from : ℕ) where
  pub post_held : (free : Bool) (r : PeripheralChange) → free ≡ pc_free p.write → not free ≡ true → r ≡ change p fatal → r ≡ post c p address length from
  unfolding post
  post_held free r e h k = taken _ _ (denied e h) k

  pub post_large : (free ok : Bool) (size : ℕ) (r : PeripheralChange)
      → free ≡ pc_free p.write
      → not free ≡ false
      → size ≡ payload_size c.r010
      → ok ≡ within address length size
      → not ok ≡ true
      → r ≡ change p fatal
      → r ≡ post c p address length from
  unfolding post
  post_large free ok size r e h es eo ho k =
      passed _ _ (denied e h) (taken _ _ (denied (eo ∙ ap (λ (z : ℕ). within address length z) es) ho) k)

  pub post-done : (free ok : Bool) (size : ℕ) (next : Peripheral) (out : Out)
      → free ≡ pc_free p.write
      → not free ≡ false
      → size ≡ payload_size c.r010
      → ok ≡ within address length size
      → not ok ≡ false
      → next ≡ holding p address length size
      → out ≡ accept B.Nothing (kept_from from length)
      → change next out ≡ post c p address length from
  unfolding post
  post-done free ok size next out e h es eo ho en k =
      passed _ _ (denied e h)
      (passed _ _ (denied (eo ∙ ap (λ (z : ℕ). within address length z) es) ho) (changed (en ∙ ap (holding p address length) es) k))

-- ---- non-posted requests

module _ (p : Peripheral) (q : Request) where
  pub ask-held : (free : Bool) (r : PeripheralChange) → free ≡ np_free p.request → not free ≡ true → r ≡ change p fatal → r ≡ ask p q
  unfolding ask
  ask-held free r e h k = taken _ _ (denied e h) k

  pub ask_large : (free ok : Bool) (size : ℕ) (r : PeripheralChange)
      → free ≡ np_free p.request
      → not free ≡ false
      → size ≡ size_for q.kind q
      → ok ≡ within q.address q.length size
      → not ok ≡ true
      → r ≡ change p fatal
      → r ≡ ask p q
  unfolding ask
  ask_large free ok size r e h es eo ho k =
      passed _ _ (denied e h) (taken _ _ (denied (eo ∙ ap (λ (z : ℕ). within q.address q.length z) es) ho) k)

  pub ask-done : (free ok : Bool) (size : ℕ) (next : Peripheral) (out : Out)
      → free ≡ np_free p.request
      → not free ≡ false
      → size ≡ size_for q.kind q
      → ok ≡ within q.address q.length size
      → not ok ≡ false
      → next ≡ asking p q
      → out ≡ defer
      → change next out ≡ ask p q
  unfolding ask
  ask-done free ok size next out e h es eo ho en k =
      passed _ _ (denied e h) (passed _ _ (denied (eo ∙ ap (λ (z : ℕ). within q.address q.length z) es) ho) (changed en k))

-- the recorded size that a request obeys is a block's
pub size_there : (q : Request) (k : Kind) → Block q.payload → Block q.readsize → Block (size_for k q)
size_there q R.MemoryRead p r = r
size_there q R.IoRead p r = r
size_there q R.IoWrite p r = p

-- an I/O write's bytes: those there are, 0 past them
byte_there : (b : List ℕ) (n i : ℕ) → i < n → get_or (take n (drop 3 b)) i 0 ≡ get_or b (3 + i) 0
byte_there b n i h = get_or-take n (drop 3 b) i 0 h ∙ get_or-drop 3 b i 0

byte_past : (b : List ℕ) (n i : ℕ) → n ≤ i → get_or (take n (drop 3 b)) i 0 ≡ 0
byte_past b n i h = get_or-eq_default (take n (drop 3 b)) 0 (rw length-take (omega arith))

pub bytes_one : (b : List ℕ) → joined4 (get_or b 3 0) 0 0 0 ≡ bytes_of 1 b
bytes_one b = rw (byte_there b 1 0 (omega arith), byte_past b 1 1 (omega arith), byte_past b 1 2 (omega arith), byte_past b 1 3 (omega arith))

pub bytes_two : (b : List ℕ) → joined4 (get_or b 3 0) (get_or b 4 0) 0 0 ≡ bytes_of 2 b
bytes_two b = rw (byte_there b 2 0 (omega arith), byte_there b 2 1 (omega arith), byte_past b 2 2 (omega arith), byte_past b 2 3 (omega arith))

pub bytes_four : (b : List ℕ) → joined4 (get_or b 3 0) (get_or b 4 0) (get_or b 5 0) (get_or b 6 0) ≡ bytes_of 4 b
bytes_four b = rw (byte_there b 4 0 (omega arith), byte_there b 4 1 (omega arith), byte_there b 4 2 (omega arith), byte_there b 4 3 (omega arith))

pub last-size : (n : ℕ) → SizeFits n → (n ≡ 1 → ⊥) → (n ≡ 2 → ⊥) → n ≡ 4
last-size n (inl e) a b = absurd (a e)
last-size n (inr (inl e)) a b = absurd (b e)
last-size n (inr (inr e)) a b = e

-- ---- GET_PC

module _ (p : Peripheral) where
  hand_none : (cs : List Completion) → first_of cs ≡ None → change p fatal ≡ handing p cs
  hand_none [] e = refl
  hand_none (c ∷ cs) e = let z : ◌≡◌ {A = ℕ} 0 1 = cc in absurd (omega arith)

  hand_one : (cs : List Completion) (c : Completion) → first_of cs ≡ Some c
      → change (with_request p (handed p.request)) (accept (B.Piece c) None) ≡ handing p cs
  hand_one [] c e = let z : ◌≡◌ {A = ℕ} 0 1 = cc in absurd (omega arith)
  hand_one (x ∷ cs) c e =
      let f : c ≡ x = cc in
      ap (λ (z : Completion). change (with_request p (handed p.request)) (accept (B.Piece z) None)) f

  pub get_none : (up : Option Completion) (r : PeripheralChange) → up ≡ first_of (upward p.request) → up ≡ None → r ≡ change p fatal → r ≡ get_pc p
  unfolding get_pc
  get_none up r e h k = k ∙ hand_none (upward p.request) (sym e ∙ h)

  pub get_one : (up : Option Completion) (c : Completion) (n : Np) (next : Peripheral) (out : Out)
      → up ≡ first_of (upward p.request)
      → up ≡ Some c
      → n ≡ handed p.request
      → next ≡ with_request p n
      → out ≡ accept (B.Piece c) None
      → change next out ≡ get_pc p
  unfolding get_pc
  get_one up c n next out e h en ep k = changed (ep ∙ ap (with_request p) en) k ∙ hand_one (upward p.request) c (sym e ∙ h)

-- ---- the board's answer

module _ (p : Peripheral) (q : Request) (serial n : ℕ) (success : Bool) where
  pub answer_late : (r : PeripheralChange) → eqb serial p.serial ≡ false → r ≡ change p (number 20) → r ≡ answering_waiting p q serial success n
  answer_late r h k = taken _ _ (ap not h) k

  pub answer-counted : (want : ℕ) (r : PeripheralChange)
      → eqb serial p.serial ≡ true
      → want ≡ bytes_for q success
      → eqb n want ≡ false
      → r ≡ change p (number 21)
      → r ≡ answering_waiting p q serial success n
  answer-counted want r h ew hw k = passed _ _ (ap not h) (taken _ _ (ap not (ap (eqb n) (sym ew) ∙ hw)) k)

  pub answer_right : (want : ℕ) (r : PeripheralChange)
      → eqb serial p.serial ≡ true
      → want ≡ bytes_for q success
      → eqb n want ≡ true
      → r ≡ answered p q success
      → r ≡ answering_waiting p q serial success n
  answer_right want r h ew hw k = passed _ _ (ap not h) (passed _ _ (ap not (ap (eqb n) (sym ew) ∙ hw)) k)
