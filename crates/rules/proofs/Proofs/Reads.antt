-- The decoder held against Fields, opcode by opcode.
use Prim.Native.Nat.{ℕ, ◌+◌, ◌/◌, ◌≤◌}
use Rattle.std.specs.Prelude.{Bool, true, false, ◌||◌, ◌↔◌, ◌≡◌, eqb, ltb, length, get_or, take, drop}
use Rattle.std.proofs.Common.{true≢false, sym, subst, ◌∙◌, mul_comm, arith, length-take, get_or-take, get_or-drop, ltb-true, ltb-false}
use mathlib.Core.List.{List, [], ◌∷◌}
use Rattle.std.proofs.Math.Path.{refl, ap}
use Rattle.std.proofs.Math.ListN.{get_or-eq_default}
use Rattle.base.specs.Pick.{pick}
use Rattle.base.specs.Bytes.{joined4}
use Rattle.registers.specs.Registers.{crc_checked}
use Rattle.registers.specs.declared.Config.{Config}
use Rattle.command.specs.Rows.{row_of}
use Rattle.command.specs.Needs.{cycle_listed}
use Rattle.command.specs.Decode as D
use Rattle.command.specs.Decode.{command_of, register_data}
use Rattle.command.specs.Facts.{CommandLength}
use Rattle.command.proofs.Facts.{Decodes, admit_decodes, admit-length}
use Rattle.command.specs.declared.Row.{Row}
use Rattle.command.specs.declared.Command.{Command}
use Rattle.peripheral.specs.declared.Kind.{Kind}
use Rattle.peripheral.specs.declared.Kind.TheVariants as R
use Rattle.rules.specs.Rules.Peripheral as P
use Rattle.rules.specs.Rules.Peripheral.{request_of, bytes_of}
use Rattle.rules.specs.Rules.Wires as W
use Rattle.rules.specs.Rules.Exchange.{channels_of}
use Rattle.rules.specs.Statements.Fields.{is_listed}
use Rattle.rules.specs.Statements.Fields.{byte, is_posted, is_non_posted, high_first, low_first, cycle_width, access_address, access_length, access_tag, data_from, request_kind, io_bytes, groups}
use Rattle.rules.specs.Statements.Reads.{OpcodesListed, Peripheral, posts, asks, Wires, puts, ReadAs, Reads}
use Rattle.rules.specs.Statements.Reads as S
use Rattle.rules.proofs.Proofs.Fields.{by_opcode, one}
use Rattle.std.specs.Prelude.{Option, Some, None}

-- ---- opcodes

abbrev is_row : Option Row → Bool
is_row None = false
is_row (Some q) = true

listed-row : (op : ℕ) → is_listed op ≡ is_row (row_of op)
listed-row =
    by_opcode (λ (op : ℕ). is_listed op ≡ is_row (row_of op))
    refl refl refl refl refl refl refl refl refl
    refl refl refl refl refl refl refl refl refl refl refl refl
    (λ op l u. l ∙ sym (ap is_row u))

row_there : (t : Bool) (l : Option Row) → t ≡ is_row l → (t ≡ true) ↔ ((q : Row) × (l ≡ Some q))
row_there t None e = (λ h. absurd (true≢false (sym h ∙ e)), λ p. absurd (true≢false (sym (ap is_row p.1))))
row_there t (Some q) e = (λ h. (q, refl), λ p. e)

pub opcodes_listed : OpcodesListed
opcodes_listed op = row_there (is_listed op) (row_of op) (listed-row op)

-- ---- numbers

data_as : (b : List ℕ) → register_data b ≡ low_first 4 3 b
data_as b = omega arith

-- ---- cycle types

pub one_of : (Q : ℕ → Type 0) (t a b : ℕ) → Q a → Q b → (eqb t a || eqb t b) ≡ true → Q t
one_of Q t a b qa qb h = one Q t a qa λ ea. one Q t b qb λ eb. absurd (true≢false (sym h ∙ rw (ea, eb)))

-- the cycle type w has 8 address bytes
abbrev pub Wide : ℕ → ℕ → Type 0
Wide w t = eqb t w ≡ (eqb t 2 || eqb t 3)

pub width_as : (w t : ℕ) → Wide w t → pick (eqb t w) 8 4 ≡ cycle_width t
width_as w t e = ap (λ (u : Bool). pick u 8 4) e

address_as : (b : List ℕ) (w t : ℕ) → Wide w t → D.high_first (pick (eqb t w) 8 4) 4 b ≡ high_first (cycle_width t) 4 b
address_as b w t e = ap (λ (u : Bool). D.high_first (pick u 8 4) 4 b) e ∙ go (eqb t 2 || eqb t 3)
  where
    go : (u : Bool) → D.high_first (pick u 8 4) 4 b ≡ high_first (pick u 8 4) 4 b
    go true = refl
    go false = refl

-- an I/O write's bytes in bus order, 0 past its size
taken-byte : (n i : ℕ) (b : List ℕ) → get_or (take n (drop 3 b)) i 0 ≡ pick (ltb i n) (byte b (3 + i)) 0
taken-byte n i b = go (ltb i n) refl
  where
    go : (t : Bool) → ltb i n ≡ t → get_or (take n (drop 3 b)) i 0 ≡ pick t (byte b (3 + i)) 0
    go true e = get_or-take n (drop 3 b) i 0 (ltb-true i n e) ∙ get_or-drop 3 b i 0
    go false e = get_or-eq_default (take n (drop 3 b)) 0 (simp length-take (omega (arith, ltb-false i n e)))

module _ (b : List ℕ) where
  abbrev spelt : ℕ → ℕ
  spelt n = joined4 (pick (ltb 0 n) (byte b 3) 0) (pick (ltb 1 n) (byte b 4) 0) (pick (ltb 2 n) (byte b 5) 0) (pick (ltb 3 n) (byte b 6) 0)

  spell : (n : ℕ) → bytes_of n b ≡ spelt n
  spell n = rw (taken-byte n 0 b, taken-byte n 1 b, taken-byte n 2 b, taken-byte n 3 b)

  pub io1 : bytes_of 1 b ≡ low_first 1 3 b
  io1 = spell 1 ∙ omega arith

  pub io2 : bytes_of 2 b ≡ low_first 2 3 b
  io2 = spell 2 ∙ omega arith

  pub io4 : bytes_of 4 b ≡ low_first 4 3 b
  io4 = spell 4 ∙ omega arith

-- ---- an act of these numbers is the one that Fields reads

module _ (c : Config) (b : List ℕ) where
  posts_as : (A L from : ℕ) → A ≡ access_address b → L ≡ access_length b → from ≡ data_from b → is_posted (byte b 0) ≡ true → from + L ≤ length b
      → Peripheral c b (P.posts A L from)
  posts_as A L from e f g h l =
      let n : data_from b + access_length b ≤ length b = rw (← f, ← g) l in
      rw (e, f, g) (posts h n)

  asks_as : (k : Kind) (A L tag v : ℕ) → k ≡ request_kind (byte b 0) → A ≡ access_address b → L ≡ access_length b → tag ≡ access_tag b → v ≡ io_bytes b
      → is_non_posted (byte b 0) ≡ true → Peripheral c b (P.asks (request_of c k A L tag v))
  asks_as k A L tag v ek e f g i h = rw (ek, e, f, g, i) (asks h)

module _ (c : Config) (r : List ℕ) where
  abbrev OnRow : ℕ → Option Row → Type 0
  OnRow op (Some q) =
      cycle_listed q.cycle (get_or r 0 0) ≡ true → CommandLength (command_of q (op ∷ r)) (length (op ∷ r)) → ReadAs c (op ∷ r) (command_of q (op ∷ r))
  OnRow op None = Unit {0}

  abbrev At : ℕ → Type 0
  At op = OnRow op (row_of op)

  t : ℕ
  t = get_or r 0 0

  data_at_lem : (u : Bool) → pick u 12 8 ≡ 4 + pick u 8 4
  data_at_lem true = refl
  data_at_lem false = refl

  put_pc : At 0x00
  unfolding t
  put_pc l n =
      let b : List ℕ = 0x00 ∷ r in
      let wide : Wide 3 t = one_of (Wide 3) t 1 3 refl refl l in
      posts_as c b _ (access_length b) _ (address_as b 3 t wide) refl (data_at_lem (eqb t 3) ∙ ap (λ (m : ℕ). 4 + m) (width_as 3 t wide)) refl
      (omega (arith, n, data_at_lem (eqb t 3)))

  put_np : At 0x02
  unfolding t
  put_np l n =
      let b : List ℕ = 0x02 ∷ r in
      asks_as c b R.MemoryRead _ (access_length b) (byte b 2 / 16) 0 refl (address_as b 2 t (one_of (Wide 2) t 0 2 refl refl l)) refl refl refl refl

  put_vwire_lem : At 0x04
  put_vwire_lem l n = let b : List ℕ = 0x04 ∷ r in subst (λ (m : ℕ). Wires b (W.puts (groups b) (take m (drop 2 b)))) (mul_comm 2 (groups b)) (puts refl)

  at_opcode : (op : ℕ) → At op
  at_opcode =
      by_opcode At put_pc (λ _ _. S.Peripheral.gets refl) put_np put_vwire_lem (λ _ _. S.Wires.gets refl)
      (λ _ _. record { opcode = refl; address = refl })
      (λ _ _. record { opcode = refl; address = refl; value = data_as (0x22 ∷ r) })
      (λ _ _. refl) (λ _ _. refl)
      (λ _ _. asks refl) (λ _ _. asks refl) (λ _ _. asks refl)
      (λ _ _. asks_as c (0x44 ∷ r) R.IoWrite _ 1 0 _ refl refl refl refl (io1 (0x44 ∷ r)) refl)
      (λ _ _. asks_as c (0x45 ∷ r) R.IoWrite _ 2 0 _ refl refl refl refl (io2 (0x45 ∷ r)) refl)
      (λ _ _. asks_as c (0x47 ∷ r) R.IoWrite _ 4 0 _ refl refl refl refl (io4 (0x47 ∷ r)) refl)
      (λ _ _. asks refl) (λ _ _. asks refl) (λ _ _. asks refl)
      (λ _ n. posts refl (omega arith)) (λ _ n. posts refl (omega arith)) (λ _ n. posts refl (omega arith))
      (λ op _ u. subst (OnRow op) (sym u) tt)

pub reads : Reads
reads s b o e =
    by_bytes b (admit_decodes (channels_of s.config) (crc_checked s.config.r008) b o e)
    (admit-length (channels_of s.config) (crc_checked s.config.r008) b o e)
  where
    by_bytes : (l : List ℕ) → Decodes (channels_of s.config) l o → CommandLength o (length l) → ReadAs s.config l o
    by_bytes [] d n = absurd (omega (arith, d.passes.some))
    by_bytes (op ∷ r) d n =
        subst (ReadAs s.config (op ∷ r)) (sym d.same)
        (subst (OnRow s.config r op) d.passes.row (at_opcode s.config r op) d.listed
        (subst (λ (z : Command). CommandLength z (length (op ∷ r))) d.same n))
