-- Proof of P6, the exchange: the decoder's tests, in order, against the rows of form; then the channel's number by its law, the
-- configuration's by its test.
use Rattle.std.specs.Prelude.{ℕ, suc, ◌+◌, ◌*◌, ◌<◌, ◌≤◌, Bool, ◌&&◌, ◌||◌, not, List, [], ◌∷◌, ◌≡◌, refl, eqb, ltb, leb, length, get_or}
use Rattle.std.proofs.Math.Bool.{true, false, or-false, and-false}
use Rattle.std.proofs.Common.{sym, ap, ◌∙◌, arith, lt-ltb, le-ltb, ltb-true, ltb-false}
use Rattle.base.specs.Pick.{pick}
use Rattle.registers.specs.Registers.{bits, crc_checked, forbidden_at, forbidden008}
use Rattle.registers.specs.declared.Config.{Config}
use Rattle.command.specs.Rows.{row_of}
use Rattle.command.specs.Needs.{channel_on, length_of, group_count, all_ff, whole_with_value, need_data}
use Rattle.command.specs.Decode.{admit, admit_listed, read_off_value, checked_as, crc_good, crc_wrong}
use Rattle.command.specs.Refused.{number_in}
use Rattle.command.specs.Facts.{cycle_wrong}
use Rattle.command.specs.declared.Data.{Data}
use Rattle.command.specs.declared.Data.TheVariants.{Fixed, Length, Pairs, Ones}
use Rattle.command.specs.declared.Row.{Row}
use Rattle.command.specs.declared.Need.{Need}
use Rattle.command.specs.declared.Need.TheVariants.{Whole}
use Rattle.command.specs.declared.Command.{Command}
use Rattle.state.specs.State.{State}
use Rattle.state.specs.Facts.{sound_wires_lem}
use Rattle.state.specs.Sound.{sound}
use Rattle.rules.specs.Rules.Channel.{Channel, peripheral, wires, on}
use Rattle.rules.specs.Rules.Lift.{lift}
use Rattle.rules.specs.Rules.Exchange as E
use Rattle.rules.specs.Rules.Exchange.{channels_of}
use Rattle.rules.specs.Statements.Fields.{byte, only_ff, cycle_width, put_length, is_listed, register_at, register_value}
use Rattle.rules.specs.Statements.Plans as N
use Rattle.rules.specs.Statements.Plans.{Admits, Planned}
use Rattle.rules.specs.Statements.Reads.{Writes}
use Rattle.rules.specs.Statements.Rows.{first_of, none_applies}
use Rattle.rules.specs.Statements.Sizes.{is_enabled}
use Rattle.rules.specs.Statements.Wires.Rows.{some_line}
use Rattle.rules.specs.Statements.FirstApplies.{value_forbidden, form_rows, later_rows, command_rows}
use Rattle.rules.proofs.Proofs.Fields.{by_opcode, one}
use Rattle.rules.proofs.Proofs.Reads.{one_of, Wide, width_as, reads}
use Rattle.rules.proofs.Proofs.Plans.{plans}
use Rattle.rules.proofs.Proofs.Sizes.{on_as}
use Rattle.rules.proofs.Proofs.Rows.{none_first, first_after, first_among, read_off, same_test}
use Rattle.rules.proofs.Proofs.Peripheral.Rows as P
use Rattle.rules.proofs.Proofs.Wires.Rows as W
use Rattle.rules.proofs.Proofs.Wires.Lowering.{lowers_did, lowers_accepts}
use Rattle.rules.specs.declared.Out.{Out}
use Rattle.rules.specs.Rules.Plan.{Plan}
use Rattle.std.specs.Prelude.{Option, Some, None}

-- ---- the decoder's tests in a chain

abbrev crc_test : Config → List ℕ → Row → ℕ
crc_test c b q = pick (crc_wrong (crc_checked c.r008) q.crc b) 16 0

abbrev whole_test : Config → List ℕ → Row → ℕ → ℕ
whole_test c b q n = pick (not (eqb (length b) n)) 12 (crc_test c b q)

abbrev data_tests : Config → List ℕ → Row → Data → ℕ
data_tests c b q (Fixed n) = whole_test c b q (whole_with_value q b n)
data_tests c b q Length = whole_test c b q (whole_with_value q b (length_of (get_or b 2 0) (get_or b 3 0)))
data_tests c b q Pairs = whole_test c b q (whole_with_value q b (group_count (get_or b 1 0) * 2))
data_tests c b q Ones = pick (all_ff b) (pick (not (leb 2 (length b))) 13 (crc_test c b q)) 13

abbrev tests : Config → List ℕ → Option Row → ℕ
tests c b None = 13
tests c b (Some q) =
    pick (not (channel_on (channels_of c) q.channel)) 14
    (pick (cycle_wrong q b) 15
    (pick (ltb (length b) q.told) 12
    (data_tests c b q q.carries)))

module _ (c : Config) (b : List ℕ) where
  abbrev number : Row → Need → ℕ
  number q x = number_in (read_off_value (crc_checked c.r008) b q x)

  crc_chain : (q : Row) → number_in (checked_as (crc_checked c.r008) b q) ≡ crc_test c b q
  crc_chain q = read_off number_in (crc_wrong (crc_checked c.r008) q.crc b) (λ _. refl) (λ _. refl)

  whole_chain : (q : Row) (n : ℕ) → number q (Whole n) ≡ whole_test c b q n
  whole_chain q n = read_off number_in (not (eqb (length b) n)) (λ _. refl) (λ _. crc_chain q)

  data_chain : (q : Row) (d : Data) → number q (need_data q b d) ≡ data_tests c b q d
  data_chain q (Fixed n) = whole_chain q _
  data_chain q Length = whole_chain q _
  data_chain q Pairs = whole_chain q _
  data_chain q Ones = read_off (number q) (all_ff b) (λ _. read_off number_in (not (leb 2 (length b))) (λ _. refl) (λ _. crc_chain q)) (λ _. refl)

  row_chain : (l : Option Row) → number_in (admit_listed (channels_of c) (crc_checked c.r008) b l) ≡ tests c b l
  row_chain None = refl
  row_chain (Some q) =
      read_off (number q) (not (channel_on (channels_of c) q.channel)) (λ _. refl)
      λ _. read_off (number q) (cycle_wrong q b) (λ _. refl)
      λ _. read_off (number q) (ltb (length b) q.told) (λ _. refl)
      λ _. data_chain q q.carries

  chain : number_in (admit (channels_of c) (crc_checked c.r008) b) ≡ pick (eqb (length b) 0) 12 (tests c b (row_of (get_or b 0 0)))
  unfolding admit
  chain = read_off number_in (eqb (length b) 0) (λ _. refl) (λ _. row_chain (row_of (get_or b 0 0)))

all_ff_lem : (b : List ℕ) → all_ff b ≡ only_ff b
unfolding all_ff only_ff
all_ff_lem [] = refl
all_ff_lem (x ∷ xs) = ap (λ (t : Bool). eqb x 0xFF && t) (all_ff_lem xs)

-- ---- the rows of form at each opcode: those that it cannot meet compute away

module _ (c : Config) (r : List ℕ) where
  abbrev len : ℕ
  len = suc (length r)

  abbrev AtOpcode : ℕ → Type 0
  AtOpcode op = pick (eqb len 0) 12 (tests c (op ∷ r) (row_of op)) ≡ first_of (form_rows c (op ∷ r))

  -- the opcode is there
  told : {x y : ℕ} → x ≡ y → pick (ltb len 1) 12 x ≡ y
  told {x} e = ap (λ (v : Bool). pick v 12 x) (le-ltb len 1 (omega arith)) ∙ e

  by_none : {x y : ℕ} → x ≡ y → pick (eqb len 0) 12 x ≡ pick (eqb len 0) 12 y
  by_none e = same_test 12 (eqb len 0) (eqb len 0) refl λ _. e

  -- a command of a channel: on, then what is left
  by_channel : (k : Channel) {x y : ℕ} → x ≡ y → pick (eqb len 0) 12 (pick (not (on k c)) 14 x) ≡ pick (eqb len 0) 12 (pick (not (is_enabled k c)) 14 y)
  by_channel k e = by_none (same_test 14 (not (on k c)) (not (is_enabled k c)) (ap not (on_as k c)) λ _. e)

  by_length : {W W' : ℕ} (x : ℕ) → W ≡ W' → pick (not (eqb len W)) 12 x ≡ pick (not (eqb len W')) 12 x
  by_length x e = ap (λ (n : ℕ). pick (not (eqb len n)) 12 x) e

  -- "a missing header byte needed next (12) or 15": the cycle type is there, or the header is cut short
  by_cycle : (l : Bool) (k x : ℕ) {y : ℕ} → 2 ≤ k → (ltb len 2 ≡ false → l ≡ true → pick (ltb len k) 12 x ≡ y)
      → pick (not l && ltb 1 len) 15 (pick (ltb len k) 12 x) ≡ pick (ltb len 2) 12 (pick (not l) 15 y)
  by_cycle l k x {y} least h = go l refl (ltb len 2) refl
    where
      go : (v : Bool) → l ≡ v → (u : Bool) → ltb len 2 ≡ u → pick (not v && ltb 1 len) 15 (pick (ltb len k) 12 x) ≡ pick u 12 (pick (not v) 15 y)
      go true q true e = ap (λ (z : Bool). pick z 12 x) (lt-ltb len k (omega (arith, ltb-true len 2 e)))
      go true q false e = h e q
      go false q true e = rw (le-ltb 1 len (omega (arith, ltb-true len 2 e)), lt-ltb len k (omega (arith, ltb-true len 2 e)))
      go false q false e = rw (lt-ltb 1 len (omega (arith, ltb-false len 2 e)))

  abbrev crc_fails : ℕ → ℕ
  crc_fails op = pick (crc_checked c.r008 && not (crc_good (op ∷ r))) 16 0

  abbrev t : ℕ
  t = get_or r 0 0

  put_pc : AtOpcode 0x00
  put_pc =
      let b : List ℕ = 0x00 ∷ r in
      let listed : Bool = eqb t 1 || eqb t 3 in
      let header : Bool → ℕ = λ u. pick u 12 (pick (not (eqb len (4 + cycle_width t + put_length b + 1))) 12 (crc_fails 0x00)) in
      by_channel peripheral
      (by_cycle listed 4 _ (omega arith)
      (λ _ l. same_test 12 (ltb len 4) (ltb len 4) refl
      λ _. by_length (crc_fails 0x00) (ap (λ (k : ℕ). 4 + k + put_length b + 1) (width_as 3 t (one_of (Wide 3) t 1 3 refl refl l))))
      ∙ ap (λ (u : Bool). pick (ltb len 2) 12 (pick u 15 (header (ltb len 4)))) (sym (or-false (not listed)))
      ∙ ap (λ (u : Bool). pick (ltb len 2) 12 (pick (not listed || false) 15 (header u))) (sym (or-false (ltb len 4))))

  put_np : AtOpcode 0x02
  put_np =
      by_channel peripheral
      (by_cycle (eqb t 0 || eqb t 2) 2 _ (omega arith)
      (λ m l. ap (λ (u : Bool). pick u 12 (pick (not (eqb len (4 + pick (eqb t 2) 8 4 + 0 + 1))) 12 (crc_fails 0x02))) m
      ∙ by_length (crc_fails 0x02) (omega (arith, width_as 2 t (one_of (Wide 2) t 0 2 refl refl l)))))

  put_vwire_lem : AtOpcode 0x04
  put_vwire_lem = by_channel wires (same_test 12 (ltb len 2) (ltb len 2) refl λ _. by_length (crc_fails 0x04) (omega arith))

  reset : AtOpcode 0xFF
  reset =
      by_none (told
      (ap (λ (u : Bool). pick u (pick (not (leb 2 len)) 13 (pick (crc_checked c.r008 && false) 16 0)) 13) (all_ff_lem (0xFF ∷ r))
      ∙ ap (λ (u : Bool). pick (only_ff (0xFF ∷ r)) (pick (not (leb 2 len)) 13 (pick u 16 0)) 13) (and-false (crc_checked c.r008))
      ∙ go (only_ff (0xFF ∷ r)) (leb 2 len)))
    where
      go : (v m : Bool) → ◌≡◌ {A = ℕ} (pick v (pick (not m) 13 0) 13) (pick (not (m && v)) 13 0)
      go true true = refl
      go true false = refl
      go false true = refl
      go false false = refl

  unlisted : (op : ℕ) → is_listed op ≡ false → row_of op ≡ None → AtOpcode op
  unlisted op l u = rw (u, l)

  at_opcode : (op : ℕ) → AtOpcode op
  at_opcode =
      by_opcode AtOpcode put_pc (by_channel peripheral (told refl)) put_np put_vwire_lem (by_channel wires (told refl))
      (by_none (told refl)) (by_none (told refl)) (by_none (told refl)) reset
      (by_channel peripheral (told refl)) (by_channel peripheral (told refl)) (by_channel peripheral (told refl))
      (by_channel peripheral (told refl)) (by_channel peripheral (told refl)) (by_channel peripheral (told refl))
      (by_channel peripheral (told refl)) (by_channel peripheral (told refl)) (by_channel peripheral (told refl))
      (by_channel peripheral (told refl)) (by_channel peripheral (told refl)) (by_channel peripheral (told refl))
      unlisted

form_number : (c : Config) (b : List ℕ) → number_in (admit (channels_of c) (crc_checked c.r008) b) ≡ first_of (form_rows c b)
form_number c [] = chain c []
form_number c (op ∷ r) = chain c (op ∷ r) ∙ at_opcode c r op

-- ---- SET_CONFIGURATION: a forbidden value, an edge that waits

forbidden_as : (a v : ℕ) → forbidden_at a v ≡ value_forbidden a v
forbidden_as a v =
    one (λ (x : ℕ). forbidden_at x v ≡ value_forbidden x v) a 0x008 (sym (or-false (forbidden008 v)))
    λ e8. one (λ (x : ℕ). forbidden_at x v ≡ value_forbidden x v) a 0x010 refl
    λ e10. rw (e8, e10)

-- ---- the exchange

module _ (s : State) (b : List ℕ) where
  -- a command of this opcode for no channel
  other_rows : (op : ℕ) → ((r : List ℕ) → first_of (later_rows s (op ∷ r)) ≡ 0) → 0 < op → byte b 0 ≡ op → 0 ≡ first_of (later_rows s b)
  other_rows op h some e = go b e
    where
      go : (l : List ℕ) → byte l 0 ≡ op → 0 ≡ first_of (later_rows s l)
      go [] q = absurd (omega arith)
      go (x ∷ r) q = rw q (sym (h r))

  -- an edge stands against the write of these bytes
  abbrev edge_holds : List ℕ → Bool
  edge_holds l =
      eqb (register_at l) 0x020
      && (eqb (bits 0 0 (register_value l)) 1 && (eqb (bits 21 16 (register_value l)) 0 && some_line s.wires.lines.edges))

  set-rows : byte b 0 ≡ 0x22 → first_of (later_rows s b) ≡ pick (value_forbidden (register_at b) (register_value b)) 2 (pick (edge_holds b) 2 0)
  set-rows e = go b e
    where
      go : (l : List ℕ) → byte l 0 ≡ 0x22 → first_of (later_rows s l) ≡ pick (value_forbidden (register_at l) (register_value l)) 2 (pick (edge_holds l) 2 0)
      go [] q = absurd (omega arith)
      go (x ∷ r) q = rw q refl

  value_as : (a v : ℕ) → Writes b a v → value_forbidden (register_at b) (register_value b) ≡ forbidden_at a v
  value_as a v h = rw (h.address, h.value) (sym (forbidden_as (register_at b) (register_value b)))

  edge_as : (a v : ℕ) → Writes b a v → edge_holds b ≡ E.hindered s a v
  edge_as a v h = rw (h.address, h.value) (sym (W.hindered_as s (register_value b) (register_at b)))

  set-number : (a v : ℕ) (t u : Bool) → Writes b a v → forbidden_at a v ≡ t → E.hindered s a v ≡ u → pick t 2 (pick u 2 0) ≡ first_of (later_rows s b)
  set-number a v t u h e f =
      sym (set-rows h.opcode ∙ ap (λ (x : Bool). pick x 2 (pick (edge_holds b) 2 0)) (value_as a v h ∙ e)
      ∙ ap (λ (x : Bool). pick t 2 (pick x 2 0)) (edge_as a v h ∙ f))

  -- an admitted command has passed the rows of form
  admitted : {o : Command} {n : ℕ} → Admits s b o → n ≡ first_of (later_rows s b) → n ≡ first_of (command_rows s b)
  admitted e h =
      let none : none_applies (form_rows s.config b) ≡ true = (none_first (form_rows s.config b) refl).0 (sym (form_number s.config b) ∙ ap number_in e) in
      h ∙ sym (first_after (form_rows s.config b) (later_rows s b) none)

  plan_number : sound s ≡ true → {p : Plan} → Planned s b p → p.number ≡ first_of (command_rows s b)
  unfolding lift
  plan_number h (N.turned n q) =
      first_among (form_rows s.config b) (later_rows s b) n (omega (arith, q.least)) (q.number ∙ sym (ap number_in q.given) ∙ form_number s.config b)
  plan_number h (N.shows (N.status e)) = admitted e (other_rows 0x25 (λ _. refl) (omega arith) (reads s b _ e))
  plan_number h (N.shows (N.register a e)) = admitted e (other_rows 0x21 (λ _. refl) (omega arith) (reads s b _ e).opcode)
  plan_number h (N.acts peripheral o x e d f) = admitted e (P.act-number s b (reads s b _ e) d)
  plan_number h (N.acts wires o x e d f) = admitted e (W.act-number s (sound_wires_lem s h) b (reads s b _ e) d)
  plan_number h (N.forbids a v e f) = admitted e (set-number a v true (E.hindered s a v) (reads s b _ e) f refl)
  plan_number h (N.hinders a v e f g) = admitted e (set-number a v false true (reads s b _ e) f g)
  plan_number h (N.configures a v e f g) = admitted e (set-number a v false false (reads s b _ e) f g)
  plan_number h (N.lowers o x e d) =
      admitted e (sym (ap (λ (out : Out). out.number) (lowers_accepts d)) ∙ W.act-number s (sound_wires_lem s h) b (reads s b _ e) (lowers_did d))
  plan_number h (N.clears e) = admitted e (other_rows 0xFF (λ _. refl) (omega arith) (reads s b _ e))

pub command_number : (s : State) → sound s ≡ true → (b : List ℕ) → (E.exchange s b).number ≡ first_of (command_rows s b)
command_number s h b = plan_number s b h (plans s b)
