-- What is known of a need and of an admitted command: the row and the tests that it passed, how many bytes it has, which numbers it holds.
-- ---- how many bytes
use Rattle.std.specs.Prelude.{ℕ, ◌+◌, ◌≤◌, Bool, true, false, not, ◌&&◌, List, ◌≡◌, eqb, ltb, leb, get_or}
use Rattle.std.proofs.Common.{true≢false, sym, ap, ◌∙◌, lit≤}
use Rattle.std.proofs.Math.Path.{refl, subst}
use native.Mathlib.Omega.{arith}
use borrow.Author.Tests.{ltb-false, ltb-true, lt-ltb, leb-true, eqb-true, eqb-false, not-false}
use Rattle.std.proofs.Math.ListN.{length}
use Rattle.base.specs.Pick.{pick, pick_ind}
use Rattle.command.specs.Rows.{types, row_of}
use Rattle.command.specs.Needs.{channel_on, cycle_listed, address_bytes, all_ff, need_data, need_row, need_listed, need_in}
use Rattle.command.specs.Decode.{command_of, crc_wrong, checked_as, read_off_value, admit_listed, admit}
use Rattle.command.specs.declared.Access.TheVariants.{IoRead, IoWrite, MemoryRead, MemoryWrite}
use Rattle.command.specs.declared.Opcode.{Opcode}
use Rattle.command.specs.declared.Opcode.TheVariants as O
use Rattle.command.specs.declared.Channels.{Channels}
use Rattle.command.specs.declared.Channel.{Channel}
use Rattle.command.specs.declared.Channel.TheVariants.{Peripheral}
use Rattle.command.specs.declared.Data.{Data}
use Rattle.command.specs.declared.Data.TheVariants.{Fixed, Length, Pairs, Ones}
use Rattle.command.specs.declared.Row.{Row}
use Rattle.command.specs.declared.Need.{Need}
use Rattle.command.specs.declared.Need.TheVariants.{Whole, More, Open, Never}
use Rattle.command.specs.declared.Command.{Command}
use Rattle.command.specs.Facts.{CommandFits, CommandLength, CommandOn, IsBytes, LengthRight, NumbersFit, Reaches, Readable, RowTells, by_row, cycle_wrong, head_fits, high_fits, register_fits}
use Rattle.std.specs.Prelude.{Option, Some, None, Result, Ok, Err}
use Rattle.command.specs.declared.Refusal.{Refusal}
use Rattle.command.specs.declared.Refusal.TheVariants.{LengthWrong, OpcodeUnknown, ChannelDisabled, CycleUnlisted, CrcWrong}
use Rattle.command.specs.Numbers.{number_of}

-- ---- row by row

module _ (on : Channels) (b : List ℕ) where
  abbrev pub ListedTells : Option Row → Type 0
  ListedTells (Some r) = RowTells on b r
  ListedTells None = Unit {0}

  -- the cycle type is there
  there : (t : Bool) → 2 ≤ length b → not t && ltb 1 (length b) ≡ false → t ≡ true
  there true h e = refl
  there false h e = absurd (true≢false (sym (lt-ltb 1 (length b) h) ∙ e))

  reset_right : (t : Bool) → LengthRight (pick t Open (Never OpcodeUnknown)) (length b) → 2 ≤ length b
  reset_right true h = h
  reset_right false h = absurd h

  module _ (op : Opcode) where
    plain_tells : (k : Channel) (a n : ℕ) → a ≤ 4
        → let r : Row = record { opcode = op; channel = k; cycle = None; told = 1; from = 1; address = a; carries = Fixed n; crc = true } in
        (channel_on on k ≡ true → CommandOn on (command_of r b)) → (length b ≡ 1 + a + n + 1 → CommandLength (command_of r b) (length b))
        → (IsBytes b → NumbersFit (command_of r b)) → RowTells on b r
    plain_tells k a n m x y z =
        record { readable = record { told = lit≤ tt; address = m }; listed = λ _ _. refl; channel = x; right = y; within = λ h. omega arith; numbers = z }

    headed_tells : (n w t : ℕ) (d : Data) → 2 ≤ t → t ≤ 4
        → let r : Row = record { opcode = op; channel = Peripheral; cycle = types n w; told = t; from = 4; address = 4; carries = d; crc = true } in
        (on.peripheral ≡ true → CommandOn on (command_of r b)) → (LengthRight (need_data r b d) (length b) → CommandLength (command_of r b) (length b))
        → (LengthRight (need_data r b d) (length b) → 4 + address_bytes r b ≤ length b) → (IsBytes b → NumbersFit (command_of r b)) → RowTells on b r
    headed_tells n w t d l m x y q z =
        record { readable = record { told = m; address = lit≤ tt }; listed = λ h. there _ (omega arith); channel = x; right = y; within = q; numbers = z }

  pub row_tells : (op : ℕ) → ListedTells (row_of op)
  row_tells =
      by_row ListedTells
      (headed_tells O.PutPc 1 3 4 Length (lit≤ tt) (lit≤ tt) (λ e. e) (λ h. h) (λ h. omega arith) (λ h. head_fits b h _))
      (plain_tells O.GetPc _ _ _ (lit≤ tt) (λ e. e) (λ h. h) (λ _. tt))
      (headed_tells O.PutNp 0 2 2 (Fixed 0) (lit≤ tt) (lit≤ tt) (λ e. e) (λ h. omega arith) (λ h. omega arith) (λ h. head_fits b h _))
      (record {
        readable = record { told = lit≤ tt; address = lit≤ tt };
        listed = λ _ _. refl;
        channel = λ e. e;
        right = λ h. h;
        within = λ h. omega arith;
        numbers = λ _. (omega arith, omega arith);
      })
      (plain_tells O.GetVwire _ _ _ (lit≤ tt) (λ e. e) (λ h. h) (λ _. tt))
      (plain_tells O.GetConfiguration _ _ _ (lit≤ tt) (λ _. tt) (λ h. h) (λ _. register_fits _))
      (plain_tells O.SetConfiguration _ _ _ (lit≤ tt) (λ _. tt) (λ h. h) (λ h. (register_fits _, omega (arith, h 3, h 4, h 5, h 6))))
      (plain_tells O.GetStatus _ _ _ (lit≤ tt) (λ _. tt) (λ h. h) (λ _. tt))
      (record {
        readable = record { told = lit≤ tt; address = lit≤ tt };
        listed = λ _ _. refl;
        channel = λ _. tt;
        right = reset_right (all_ff b);
        within = λ h. omega (arith, reset_right (all_ff b) h);
        numbers = λ _. tt;
      })
      (λ n f. plain_tells (O.Short IoRead n) _ _ _ (lit≤ tt) (λ e. e) (λ h. h) (λ h. record { size = f; address = high_fits b h 2 1 }))
      (λ n f. plain_tells (O.Short IoWrite n) _ _ _ (lit≤ tt) (λ e. e) (λ h. h) (λ h. record { size = f; address = high_fits b h 2 1 }))
      (λ n f. plain_tells (O.Short MemoryRead n) _ _ _ (lit≤ tt) (λ e. e) (λ h. h) (λ h. record { size = f; address = high_fits b h 4 1 }))
      (λ n f. plain_tells (O.Short MemoryWrite n) _ _ _ (lit≤ tt) (λ e. e) (λ h. h) (λ h. record { size = f; address = high_fits b h 4 1 }))
      tt

  -- ---- what a need tells

  -- the row of the opcode, the tests that it passed, and what its data say
  pub record Passes (r : Row) (x : Need) : Type 0 where
    pub some : 1 ≤ length b
    pub row : row_of (get_or b 0 0) ≡ Some r
    pub channel : channel_on on r.channel ≡ true
    pub cycle : cycle_wrong r b ≡ false
    pub told : r.told ≤ length b
    pub needs : need_data r b r.carries ≡ x

  -- what this row needs
  abbrev NeedTells : Row → Need → Type 0
  NeedTells r (Whole n) = Passes r (Whole n)
  NeedTells r (More k) = (1 ≤ k) × (k ≤ 3)
  NeedTells r Open = Passes r Open
  NeedTells r (Never z) = (13 ≤ number_of z) × (number_of z ≤ 15)

  data_tells : (r : Row) (d : Data) → r.carries ≡ d → ((x : Need) → need_data r b r.carries ≡ x → Passes r x) → NeedTells r (need_data r b d)
  data_tells r (Fixed n) e h = h _ (ap (need_data r b) e)
  data_tells r Length e h = h _ (ap (need_data r b) e)
  data_tells r Pairs e h = h _ (ap (need_data r b) e)
  data_tells r Ones e h = go (all_ff b) refl
    where
      go : (t : Bool) → all_ff b ≡ t → NeedTells r (pick t Open (Never OpcodeUnknown))
      go true q = h _ (ap (need_data r b) e ∙ ap (λ (u : Bool). pick u Open (Never OpcodeUnknown)) q)
      go false q = (omega arith, omega arith)

  row_readable : (r : Row) → row_of (get_or b 0 0) ≡ Some r → Readable r
  row_readable r e = (subst ListedTells e (row_tells (get_or b 0 0))).readable

  row_needs : (r : Row) → 1 ≤ length b → row_of (get_or b 0 0) ≡ Some r → NeedTells r (need_row on b r)
  row_needs r some e =
      let Q : Need → Type 0 = NeedTells r in
      pick_ind Q (not (channel_on on r.channel)) (λ _. (omega arith, omega arith))
      λ k. pick_ind Q (cycle_wrong r b) (λ _. (omega arith, omega arith))
      λ y. pick_ind Q (ltb (length b) r.told)
      (λ l. let h = ltb-true (length b) r.told l in (omega arith, omega (arith, (row_readable r e).told)))
      λ t. data_tells r r.carries refl
      (λ x n. record { some = some; row = e; channel = not-false (channel_on on r.channel) k; cycle = y; told = ltb-false (length b) r.told t; needs = n })

  -- what the bytes need, of whichever row
  abbrev pub Needed : Need → Type 0
  Needed (Whole n) = (r : Row) × Passes r (Whole n)
  Needed (More k) = (1 ≤ k) × (k ≤ 3)
  Needed Open = (r : Row) × Passes r Open
  Needed (Never z) = (13 ≤ number_of z) × (number_of z ≤ 15)

  of_row : (r : Row) (x : Need) → NeedTells r x → Needed x
  of_row r (Whole n) h = (r, h)
  of_row r (More k) h = h
  of_row r Open h = (r, h)
  of_row r (Never z) h = h

  listed_needs : (l : Option Row) → row_of (get_or b 0 0) ≡ l → 1 ≤ length b → Needed (need_listed on b l)
  listed_needs None e some = (omega arith, omega arith)
  listed_needs (Some r) e some = of_row r (need_row on b r) (row_needs r some e)

  pub need_is : (x : Need) → need_in on b ≡ x → Needed x
  unfolding need_in
  need_is x e =
      subst Needed e (pick_ind Needed (eqb (length b) 0) (λ _. (omega arith, omega arith))
      λ f. let z : length b ≡ 0 → ⊥ = eqb-false _ _ f in listed_needs (row_of (get_or b 0 0)) refl (omega arith))

  -- what the row of a need tells
  pub passes_tells : {r : Row} {x : Need} → Passes r x → RowTells on b r
  passes_tells p = subst ListedTells p.row (row_tells (get_or b 0 0))

  pub passes_reaches : {r : Row} {x : Need} → Passes r x → LengthRight x (length b) → Reaches r b
  passes_reaches p h =
      let t = passes_tells p in
      record { readable = t.readable; within = t.within (subst (λ (y : Need). LengthRight y (length b)) (sym p.needs) h) }

-- ---- what let a command in

pub record Decodes (on : Channels) (b : List ℕ) (c : Command) : Type 0 where
  pub row : Row
  pub need : Need
  pub passes : Passes on b row need
  pub listed : cycle_listed row.cycle (get_or b 1 0) ≡ true
  pub right : LengthRight need (length b)
  pub same : c ≡ command_of row b

abbrev AdmitTells : Channels → List ℕ → Result Command Refusal → Type 0
AdmitTells on b (Ok c) = Decodes on b c
AdmitTells on b (Err z) = Unit {0}

module _ (on : Channels) (checked : Bool) (b : List ℕ) where
  checked_tells : (r : Row) (x : Need) → Passes on b r x → LengthRight x (length b) → AdmitTells on b (checked_as checked b r)
  checked_tells r x p h =
      pick_ind (AdmitTells on b) (crc_wrong checked r.crc b) (λ _. tt)
      (λ _. record { row = r; need = x; passes = p; listed = (passes_tells on b p).listed p.told p.cycle; right = h; same = refl })

  reads_tells : (r : Row) (x : Need) → NeedTells on b r x → AdmitTells on b (read_off_value checked b r x)
  reads_tells r (Whole n) p =
      pick_ind (AdmitTells on b) (not (eqb (length b) n)) (λ _. tt)
      (λ e. checked_tells r (Whole n) p (eqb-true _ _ (not-false (eqb (length b) n) e)))
  reads_tells r (More k) p = tt
  reads_tells r Open p =
      pick_ind (AdmitTells on b) (not (leb 2 (length b))) (λ _. tt)
      (λ e. checked_tells r Open p (leb-true 2 (length b) (not-false (leb 2 (length b)) e)))
  reads_tells r (Never z) p = tt

  listed_admits : (l : Option Row) → row_of (get_or b 0 0) ≡ l → 1 ≤ length b → AdmitTells on b (admit_listed on checked b l)
  listed_admits None e some = tt
  listed_admits (Some r) e some = reads_tells r (need_row on b r) (row_needs on b r some e)

  admit_tells : (d : Result Command Refusal) → admit on checked b ≡ d → AdmitTells on b d
  unfolding admit
  admit_tells d e =
      subst (AdmitTells on b) e (pick_ind (AdmitTells on b) (eqb (length b) 0) (λ _. tt)
      λ f. let z : length b ≡ 0 → ⊥ = eqb-false _ _ f in listed_admits (row_of (get_or b 0 0)) refl (omega arith))

-- ---- the laws

pub refused_number : (z : Refusal) → (12 ≤ number_of z) × (number_of z ≤ 16)
refused_number LengthWrong = (omega arith, omega arith)
refused_number OpcodeUnknown = (omega arith, omega arith)
refused_number ChannelDisabled = (omega arith, omega arith)
refused_number CycleUnlisted = (omega arith, omega arith)
refused_number CrcWrong = (omega arith, omega arith)

module _ (on : Channels) (checked : Bool) (b : List ℕ) (c : Command) (e : admit on checked b ≡ Ok c) where
  pub admit_decodes : Decodes on b c
  admit_decodes = admit_tells on checked b (Ok c) e

  tells : RowTells on b admit_decodes.row
  tells = passes_tells on b admit_decodes.passes

  -- a command of a channel is admitted while it is on
  pub admit_channel : CommandOn on c
  admit_channel = subst (CommandOn on) (sym admit_decodes.same) (tells.channel admit_decodes.passes.channel)

  pub admit-length : CommandLength c (length b)
  admit-length =
      let d = admit_decodes in
      subst (λ (z : Command). CommandLength z (length b)) (sym d.same)
      (tells.right (subst (λ (x : Need). LengthRight x (length b)) (sym d.passes.needs) d.right))

  pub admit_numbers : IsBytes b → NumbersFit c
  admit_numbers h = subst NumbersFit (sym admit_decodes.same) (tells.numbers h)

pub admit-fits : (on : Channels) (checked : Bool) (b : List ℕ) (c : Command) → IsBytes b → admit on checked b ≡ Ok c → CommandFits c b
admit-fits on checked b c h e = (admit-length on checked b c e, admit_numbers on checked b c e h)
