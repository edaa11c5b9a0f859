-- Why bytes are refused, from the bytes alone: how many bytes an opcode asks for, in the order of 01, Replies and refusals; and that the definition
-- of the decoder, which goes by the row, gives the same. So the code may test before it makes a row.
use Rattle.std.specs.Prelude.{ℕ, ◌+◌, ◌-◌, ◌*◌, ◌<◌, ◌≤◌, Bool, true, false, not, ◌&&◌, ◌||◌, List, ◌≡◌, refl, eqb, ltb, leb, get_or}
use Rattle.std.proofs.Math.Bool.{and-false}
use Rattle.std.proofs.Common.{sym, subst, ◌∙◌, arith, ltb-true, ltb-false, lt-ltb, le-ltb, leb-true, leb-false, eq-eqb, ne_eqb}
use Rattle.std.proofs.Math.Path.{ap}
use Rattle.std.proofs.lemmas.Bool.{not-false}
use Rattle.std.proofs.Math.ListN.{length}
use Rattle.base.specs.Pick.{pick, pick_ind, taken, passed, and_true}
use Rattle.command.specs.Rows.{types, plain, headed, counted, resets, size_of_code, short, row_of}
use Rattle.command.specs.Needs.{channel_on, cycle_listed, group_count, all_ff, need_data, need_row}
use Rattle.command.specs.Decode.{command_of, crc_wrong, read_off_value, admit_listed, admit}
use Rattle.command.specs.Facts.{Reaches}
use Rattle.command.proofs.Facts.{passes_reaches, admit_decodes}
use Rattle.command.specs.declared.Access.{Access}
use Rattle.command.specs.declared.Opcode.{Opcode}
use Rattle.command.specs.declared.Opcode.TheVariants as O
use Rattle.command.specs.declared.Channels.{Channels}
use Rattle.command.specs.declared.Channel.{Channel}
use Rattle.command.specs.declared.Channel.TheVariants.{Peripheral, Independent}
use Rattle.command.specs.declared.Data.TheVariants.{Fixed, Length, Ones}
use Rattle.command.specs.declared.Row.{Row}
use Rattle.command.specs.declared.Need.{Need}
use Rattle.command.specs.declared.Need.TheVariants.{Whole, More, Open, Never}
use Rattle.command.specs.declared.Command.TheVariants as C
use Rattle.command.specs.Refused.{headed_bytes, in_order, verdict, refused_fixed, refused_headed, refused_reset, refused_short, row_in}
use Rattle.std.specs.Prelude.{Option, Some, None, Result, Ok, Err, is_err}
use Rattle.command.specs.declared.Refusal.{Refusal}
use Rattle.command.specs.declared.Refusal.TheVariants.{LengthWrong, OpcodeUnknown, CrcWrong}
use Rattle.command.specs.declared.Command.{Command}
use Rattle.std.proofs.Common.{true≢false}

-- ---- the same by the row

module _ (on : Channels) (checked : Bool) (b : List ℕ) (some : 1 ≤ length b) where
  abbrev read : Row → Need → Result (Unit {0}) Refusal
  read r x = verdict (read_off_value checked b r x)

  -- the decoder's, by the row of the opcode
  pub at_row : (l : Option Row) → row_of (get_or b 0 0) ≡ l → verdict (admit_listed on checked b l) ≡ verdict (admit on checked b)
  unfolding admit
  at_row l e = ap verdict (passed _ _ (ne_eqb _ _ (λ (z : length b ≡ 0). omega arith)) (ap (admit_listed on checked b) (sym e)))

  -- a row with a CRC whose data say m bytes in all, the bytes that tell it among them, where the cycle type is listed
  module _ {r : Row} (q : row_of (get_or b 0 0) ≡ Some r) (m : ℕ) (crc : r.crc ≡ true) (whole : need_data r b r.carries ≡ Whole m) (few : r.told ≤ m)
      (listed : cycle_listed r.cycle (get_or b 1 0) ≡ true) where
    at-end : refused_fixed true checked b m ≡ read r (Whole m)
    at-end =
        subst (λ (t : Bool). refused_fixed true checked b m
        ≡ verdict (pick (not (eqb (length b) m)) (Err LengthWrong) (pick (crc_wrong checked t b) (Err CrcWrong) (Ok (command_of r b)))))
        (sym crc) (in_order (not (eqb (length b) m)) (crc_wrong checked true b) (command_of r b))

    let_by : {x : Need} → not (channel_on on r.channel) ≡ false
        → x ≡ pick (ltb (length b) r.told) (More (r.told - length b)) (need_data r b r.carries) → x ≡ need_row on b r
    let_by e h = passed _ _ e (passed _ _ (ap (λ (t : Bool). not t && ltb 1 (length b)) listed) h)

    by_length : not (channel_on on r.channel) ≡ false → (t : Bool) → ltb (length b) r.told ≡ t → refused_fixed true checked b m ≡ read r (need_row on b r)
    by_length e true l =
        let less : length b < r.told = ltb-true (length b) r.told l in
        let wrong : eqb (length b) m ≡ false = ne_eqb (length b) m (λ (z : length b ≡ m). omega arith) in
        sym (taken _ _ (ap not wrong) refl) ∙ ap (read r) (let_by e (taken _ _ l refl))
    by_length e false l = at-end ∙ ap (read r) (let_by e (passed _ _ l (sym whole)))

    told_verdict : refused_fixed (channel_on on r.channel) checked b m ≡ verdict (admit on checked b)
    told_verdict =
        pick_ind (λ (x : Result (Unit {0}) Refusal). x ≡ read r (need_row on b r)) (not (channel_on on r.channel))
        (λ e. ap (read r) (taken _ _ e refl))
        (λ e. by_length e (ltb (length b) r.told) refl)
        ∙ at_row (Some r) q

  -- opcode, a address bytes, n data bytes, CRC
  pub plain-verdict : {x : Result (Unit {0}) Refusal} (op : Opcode) (k : Channel) (a n m : ℕ) → m ≡ 1 + a + n + 1 → row_of (get_or b 0 0) ≡ plain op k a n
      → x ≡ refused_fixed (channel_on on k) checked b m → x ≡ verdict (admit on checked b)
  plain-verdict op k a n m e q h = h ∙ told_verdict q m refl (ap Whole (sym e)) (omega arith) refl

  pub short-verdict : {x : Result (Unit {0}) Refusal} (w : Access) (a : ℕ) (writes : Bool) (c m : ℕ) → m ≡ 1 + a + pick writes (size_of_code c) 0 + 1
      → row_of (get_or b 0 0) ≡ short w a writes c → x ≡ refused_short on.peripheral checked b m c → x ≡ verdict (admit on checked b)
  short-verdict w a writes c m e q h = h ∙ by_code (eqb c 2) q
    where
      by_code : (t : Bool) → row_of (get_or b 0 0) ≡ pick t None (plain (O.Short w (size_of_code c)) Peripheral a (pick writes (size_of_code c) 0))
          → pick t (Err OpcodeUnknown) (refused_fixed on.peripheral checked b m) ≡ verdict (admit on checked b)
      by_code true q = at_row None q
      by_code false q = plain-verdict (O.Short w (size_of_code c)) Peripheral a (pick writes (size_of_code c) 0) m e q refl

  -- opcode, group count, two bytes a group, CRC
  pub counted-verdict : {x : Result (Unit {0}) Refusal} (m : ℕ) → m ≡ 3 + 2 * group_count (get_or b 1 0) → row_of (get_or b 0 0) ≡ counted
      → x ≡ refused_fixed on.wires checked b m → x ≡ verdict (admit on checked b)
  counted-verdict m e q h = h ∙ told_verdict q m refl (ap Whole (omega arith)) (omega arith) refl

  pub headed-verdict : {x : Result (Unit {0}) Refusal} (op : Opcode) (n w : ℕ) (writes : Bool)
      → row_of (get_or b 0 0) ≡ headed op n w (pick writes 4 2) (pick writes Length (Fixed 0))
      → x ≡ refused_headed on.peripheral checked b n w writes → x ≡ verdict (admit on checked b)
  headed-verdict op n w writes q h =
      h ∙ pick_ind Q (not on.peripheral) (λ e. at (taken _ _ e refl))
      (λ e. pick_ind Q (ltb (length b) 2) (cut e)
      (λ l. pick_ind Q (not listed)
      (λ u. at (passed _ _ e (taken _ _ (and_true u (lt-ltb 1 (length b) (ltb-false (length b) 2 l))) refl)))
      (λ u. told_verdict q (headed_bytes b w writes) refl (needs writes) (few writes) (not-false listed u))))
    where
      listed : Bool
      listed = cycle_listed (types n w) (get_or b 1 0)

      r : Row
      r =
          record {
            opcode = op;
            channel = Peripheral;
            cycle = types n w;
            told = pick writes 4 2;
            from = 4;
            address = 4;
            carries = pick writes Length (Fixed 0);
            crc = true;
          }

      Q : Result (Unit {0}) Refusal → Type 0
      Q x = x ≡ verdict (admit on checked b)

      at : {y : Need} → y ≡ need_row on b r → Q (read r y)
      at e = ap (read r) e ∙ at_row (Some r) q

      told : (t : Bool) → 2 ≤ pick t 4 2
      told true = omega arith
      told false = omega arith

      few : (t : Bool) → pick t 4 2 ≤ headed_bytes b w t
      few true = omega arith
      few false = omega arith

      needs : (t : Bool) → need_data r b (pick t Length (Fixed 0)) ≡ Whole (headed_bytes b w t)
      needs true = refl
      needs false = refl

      -- the cycle type is not there, so it is not unlisted
      cut : not on.peripheral ≡ false → ltb (length b) 2 ≡ true → Q (Err LengthWrong)
      cut e l =
          let less : length b < 2 = ltb-true (length b) 2 l in
          let more : 2 ≤ pick writes 4 2 = told writes in
          let gone : not listed && ltb 1 (length b) ≡ false = ap (◌&&◌ (not listed)) (le-ltb 1 (length b) (omega arith)) ∙ and-false (not listed) in
          at (passed _ _ e (passed _ _ gone (taken _ _ (lt-ltb (length b) (pick writes 4 2) (omega arith)) refl)))

  pub reset-verdict : {x : Result (Unit {0}) Refusal} → row_of (get_or b 0 0) ≡ resets → x ≡ refused_reset b → x ≡ verdict (admit on checked b)
  reset-verdict q h = h ∙ by_bytes (all_ff b) ∙ ap (read r) (passed _ _ (le-ltb (length b) 1 some) refl) ∙ at_row resets q
    where
      r : Row
      r = record { opcode = O.Reset; channel = Independent; cycle = None; told = 1; from = 1; address = 0; carries = Ones; crc = false }

      few : (t : Bool) → leb 2 (length b) ≡ t → ltb (length b) 2 ≡ not t
      few true e = le-ltb (length b) 2 (leb-true 2 (length b) e)
      few false e = lt-ltb (length b) 2 (leb-false 2 (length b) e)

      -- no CRC, so none is wrong
      unchecked : (t v : Bool)
          → pick t (Err OpcodeUnknown) (Ok tt) ≡ verdict (pick t (Err OpcodeUnknown) (pick (crc_wrong v false b) (Err CrcWrong) (Ok C.Reset)))
      unchecked true v = refl
      unchecked false true = refl
      unchecked false false = refl

      by_bytes : (t : Bool) → pick (not t || ltb (length b) 2) (Err OpcodeUnknown) (Ok tt) ≡ read r (pick t Open (Never OpcodeUnknown))
      by_bytes true = ap (λ (u : Bool). pick u (Err OpcodeUnknown) (Ok tt)) (few (leb 2 (length b)) refl) ∙ unchecked (not (leb 2 (length b))) checked
      by_bytes false = refl

-- ---- what the verdict lets in

-- no bytes, and an opcode without a row
module _ (on : Channels) (checked : Bool) (b : List ℕ) where
  pub admit_none : length b ≡ 0 → Err LengthWrong ≡ admit on checked b
  unfolding admit
  admit_none e = taken _ _ (eq-eqb _ _ e) refl

  pub admit_unlisted : 1 ≤ length b → row_of (get_or b 0 0) ≡ None → Err OpcodeUnknown ≡ admit on checked b
  unfolding admit
  admit_unlisted h e = passed _ _ (ne_eqb _ _ (λ (z : length b ≡ 0). omega arith)) (ap (admit_listed on checked b) (sym e))

module _ (on : Channels) (checked : Bool) (b : List ℕ) (r : Row) (e : row_of (get_or b 0 0) ≡ Some r) where
  lets : (d : Result Command Refusal) → admit on checked b ≡ d → verdict d ≡ Ok tt → Reaches r b × (Ok (command_of r b) ≡ d)
  lets (Ok c) q z =
      let d = admit_decodes on checked b c q in
      let same : r ≡ d.row = ap (λ (l : Option Row). row_in l r) (sym e ∙ d.passes.row) in (
        subst (λ (s : Row). Reaches s b) (sym same) (passes_reaches on b d.passes d.right),
        ap Ok (ap (λ (s : Row). command_of s b) same ∙ sym d.same),
      )
  lets (Err n) q z = absurd (true≢false (ap (λ r. is_err r) z))

  -- the bytes are the command of their row, and its address stands in them
  pub lets_in : verdict (admit on checked b) ≡ Ok tt → Ok (command_of r b) ≡ admit on checked b
  lets_in z = (lets (admit on checked b) refl z).1

  pub lets_reach : verdict (admit on checked b) ≡ Ok tt → Reaches r b
  lets_reach z = (lets (admit on checked b) refl z).0
