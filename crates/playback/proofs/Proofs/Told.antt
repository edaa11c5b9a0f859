-- What is claimed of play, proved: an entry on bytes that hold a world gives that world's outcome, then the entries of a file by induction.
use Prim.Native.Nat.{ℕ, zero, suc, ◌+◌, ◌≤◌}
use Rattle.std.specs.Prelude.{true, ◌≡◌, take, drop}
use mathlib.Core.List.{List, [], ◌∷◌, ◌++◌, append-nil}
use Rattle.std.proofs.Math.Path.{refl, ap, subst}
use Rattle.std.proofs.Common.{sym, ◌∙◌, le_of_eq, le_trans, add-one, arith, length-append, length-drop, get_or-drop, lt-ltb, le-ltb}
use Rattle.std.proofs.Math.ListN.{length}
use Rattle.std.proofs.lemmas.List.{length-replicate}
use Rattle.std.proofs.Math.Seq.{drop-drop, take-nil}
use Rattle.base.specs.Pick.{and_true}
use Rattle.base.specs.Bytes.{over, take-over}
use Rattle.base.specs.Numbers.{join}
use Rattle.base.specs.AllBytes.{AllBytes, all_none, all_cons}
use Rattle.crc.specs.Crc.{crc, crc_from, crc_byte, shifts, crc_bit}
use Rattle.command.specs.Decode.{admit}
use Rattle.peripheral.specs.Upward.{upward}
use Rattle.wires.specs.Below.{any}
use Rattle.wires.specs.Senders.{any_pending}
use Rattle.state.specs.Fresh.{fresh_state}
use Rattle.state.specs.State.{State}
use Rattle.state.specs.Layout.{state_length}
use Rattle.state.specs.Status.{status}
use Rattle.rules.specs.Rules.Exchange as E
use Rattle.rules.specs.Rules.Reply.{closed, reply_bytes}
use Rattle.rules.specs.Rules.Step.{World, Call, exchange, Outcome, step, performed, reply_length, write_length, read_length, are_bytes, handed_over}
use Rattle.rules.specs.Rules.Calls.{start_call}
use Rattle.rules.specs.Statements.Refusals.{number_of}
use Rattle.promises.specs.ByteRuns.{ByteWorld, ByteOutcome, byte_step_value}
use Rattle.promises.specs.Statements.Lifted.{value_of}
use Rattle.promises.proofs.Proofs.Lifted.{lifted}
use Rattle.promises.proofs.Proofs.Bridge.{Stands, call_at, next_at}
use Rattle.housefile.specs.Kinds.{kind_of}
use Rattle.housefile.specs.Format.{Entry, Capture, bad, good, rows_end, row_at, count_of, total, all_fit, entries, read}
use Rattle.housefile.specs.Laws.{good_is}
use Rattle.housefile.specs.declared.Kind.{Kind}
use Rattle.housefile.specs.declared.Kind.TheVariants.{Command, Success, Failure, SetWire, PlatformReset, EspiReset, TakeWrite}
use Rattle.playback.specs.Lines.{digits_of, decimal_of, hex_of, line_of, bad_line}
use Rattle.playback.specs.Play.{call_of, zeros, fresh_world, outcomes, lines_of, text_of, entry_at, place_after, reply_after, replied_length, bytes}
use Rattle.playback.specs.Play.{obeyed_by, obey, line_at, play_entry, Begun, place, begin_with, begin_on}
use Rattle.playback.specs.Statements.{said_from, said, Told}
use Rattle.playback.specs.Laws.{stands_first}
use Rattle.playback.specs.declared.Place.{Place}

-- ---- bytes of a part

all_take : (n : ℕ) (l : List ℕ) → AllBytes l → AllBytes (take n l)
all_take zero l a = all_none
all_take (suc n) [] a = all_none
all_take (suc n) (x ∷ l) a = all_cons (a.byte 0) (all_take n l (record { byte = λ k. a.byte (suc k) }))

all_drop : (n : ℕ) (l : List ℕ) → AllBytes l → AllBytes (drop n l)
all_drop n l a = record { byte = λ k. rw get_or-drop (a.byte (n + k)) }

are_bytes_lem : (l : List ℕ) → AllBytes l → are_bytes l ≡ true
unfolding are_bytes
are_bytes_lem [] a = refl
are_bytes_lem (x ∷ l) a = and_true (lt-ltb x 256 (a.byte 0)) (are_bytes_lem l (record { byte = λ k. a.byte (suc k) }))

-- ---- one entry

-- an exchange asks of the reply store only that it is long enough
any_store : (w : World) (command a b : List ℕ) → reply_length ≤ length a → reply_length ≤ length b → step w (exchange command a) ≡ step w (exchange command b)
unfolding step
any_store w command a b ha hb = rw (le-ltb (length a) reply_length ha, le-ltb (length b) reply_length hb)

-- an outcome over bytes tells that of the world and goes on from it, with a reply store that is long enough again
record Tells (k : Kind) (lent : List ℕ) (x : ByteOutcome) (o : Outcome) : Type 0 where
  number : number_of x.word ≡ o.number
  reply : take (replied_length k x.word) (reply_after k x lent) ≡ o.reply
  next : Stands x.next o.next
  long : reply_length ≤ length (reply_after k x lent)

over_reach : (p l : List ℕ) → length l ≤ length (over p l)
unfolding over
over_reach p l = simp (length-append, length-drop) (omega arith)

module _ {v : ByteWorld} {w : World} (s : Stands v w) (lent : List ℕ) (long : reply_length ≤ length lent) where
  command_tells : (body : List ℕ) → AllBytes body → Tells Command lent (byte_step_value v (exchange body lent)) (step w (exchange body lent))
  command_tells body a =
      let b = are_bytes_lem body a in
      let m = call_at s (exchange body lent) b in
      record {
        number = m.number;
        reply = m.said;
        next = next_at s (exchange body lent) b;
        long = rw m.reply (le_trans long (over_reach (step w (exchange body lent)).reply lent));
      }

  -- a call without a reply
  quiet : (k : Kind) (c : Call) → handed_over c ≡ true → (byte_step_value v c).reply ≡ [] → ((n : ℕ) → replied_length k n ≡ 0)
      → ((x : ByteOutcome) → reply_after k x lent ≡ lent) → Tells k lent (byte_step_value v c) (step w c)
  quiet k c b e f g =
      let m = call_at s c b in
      let x = byte_step_value v c in
      let none : [] ≡ (step w c).reply = sym (ap (take (value_of x.word)) e ∙ take-nil (value_of x.word)) ∙ m.said in
      record {
        number = m.number;
        reply = ap (λ (n : ℕ). take n (reply_after k x lent)) (f x.word) ∙ none;
        next = next_at s c b;
        long = rw (g x) long;
      }

  entry_tells : (k : Kind) (body : List ℕ) → AllBytes body → Tells k lent (byte_step_value v (call_of k body lent))
      (step w (call_of k body (zeros reply_length)))
  unfolding byte_step_value
  entry_tells Command body a =
      subst (Tells Command lent (byte_step_value v (exchange body lent)))
      (any_store w body lent (zeros reply_length) long (le_of_eq (sym (length-replicate {A = ℕ} reply_length 0)))) (command_tells body a)
  entry_tells Success body a = quiet Success (call_of Success body lent) refl refl (λ _. refl) (λ _. refl)
  entry_tells Failure body a = quiet Failure (call_of Failure body lent) refl refl (λ _. refl) (λ _. refl)
  entry_tells SetWire body a = quiet SetWire (call_of SetWire body lent) refl refl (λ _. refl) (λ _. refl)
  entry_tells PlatformReset body a = quiet PlatformReset (call_of PlatformReset body lent) refl refl (λ _. refl) (λ _. refl)
  entry_tells EspiReset body a = quiet EspiReset (call_of EspiReset body lent) refl refl (λ _. refl) (λ _. refl)
  entry_tells TakeWrite body a = quiet TakeWrite (call_of TakeWrite body lent) refl refl (λ _. refl) (λ _. refl)

-- ---- entries, one after the other

module _ (file : List ℕ) (a : AllBytes file) where
  from_tells : (n : ℕ) (p : Place) {v : ByteWorld} {w : World} → Stands v w → (reply line : List ℕ) → reply_length ≤ length reply
      → said_from n file p v reply line ≡ lines_of (p.number + 1) (outcomes w (entries (row_at file) n p.number (drop p.body file)))
  unfolding said_from lines_of outcomes entries play_entry obey
  from_tells zero p s reply line long = refl
  from_tells (suc n) p {v} {w} s reply line long =
      let e = entry_at file p in
      let k = kind_of e.kind in
      let x = obeyed_by k (byte_step_value v (call_of k e.body reply)) reply in
      let o = step w (call_of k e.body (zeros reply_length)) in
      let r = row_at file p.number in
      let t = entry_tells s reply long k e.body (all_take r.length (drop p.body file) (all_drop p.body file a)) in
      let line_is : line_at p k x ≡ line_of (p.number + 1) o.number o.reply = rw (t.number, t.reply) in
      let next : outcomes o.next (entries (row_at file) n (p.number + 1) (drop (p.body + r.length) file))
      ≡ outcomes o.next (entries (row_at file) n (suc p.number) (drop r.length (drop p.body file)))
      = rw (add-one p.number, drop-drop r.length p.body file) in
      join (take-over (line_at p k x) line _ refl ∙ line_is)
      (from_tells n (place_after file p) t.next x.reply (over (line_at p k x) line) t.long ∙ ap (lines_of (p.number + 1 + 1)) next)

-- ---- the beginning

-- started bytes hold the fresh world
fresh_stands : (state write read : List ℕ) → state_length ≤ length state
    → Stands (bytes (start_call state).state write read) (record { state = fresh_state; write = write; read = read })
unfolding byte_step_value
fresh_stands state write read long =
    let h = lifted.starts (bytes state write read) long in
    record { holding = h.agrees.holding; world = ap (λ (s : State). record { state = s; write = write; read = read }) h.fresh }

-- all that is said, by what `begin` leaves
abbrev said_by : (file : List ℕ) → Begun → (reply : List ℕ) → List ℕ
said_by file b reply =
    take b.said.size b.line
    ++ said_from b.said.next.left file b.said.next (bytes b.state (zeros write_length) (zeros read_length)) reply b.line

module _ (file state reply line : List ℕ) (a : AllBytes file) (state-long : state_length ≤ length state) (reply-long : reply_length ≤ length reply) where
  -- .. by what reading gives
  tells : (c : Capture) → read file ≡ c → said_by file (begin_with c state line) reply ≡ text_of c
  unfolding said_from
  tells bad e = append-nil _ ∙ take-over bad_line line _ refl
  tells (good es) e =
      let g = good_is file es e in
      let n : length es ≡ count_of file = omega (arith, (stands_first file es e).counted) in
      from_tells file a (length es) (place 0 (length es) (rows_end (length es))) (fresh_stands state (zeros write_length) (zeros read_length) state-long)
      reply line reply-long
      ∙ ap (λ (l : List Entry). lines_of 1 (outcomes fresh_world l)) (rw n (sym g.is))

-- "The file 01 00 00 02 00 25 FB prints one line", by computing
example : text_of (read (0x01 ∷ 0x00 ∷ 0x00 ∷ 0x02 ∷ 0x00 ∷ 0x25 ∷ 0xFB ∷ []))
    ≡ 0x31 ∷ 0x20 ∷ 0x30 ∷ 0x20 ∷ 0x30 ∷ 0x38 ∷ 0x30 ∷ 0x37 ∷ 0x30 ∷ 0x30 ∷ 0x33 ∷ 0x41 ∷ 0x0A ∷ []
unfolding read total all_fit entries outcomes lines_of line_of decimal_of digits_of hex_of step performed crc crc_from crc_byte shifts crc_bit admit status
    upward any_pending any E.decide E.exchange closed reply_bytes
example = refl

-- "one line per entry", for every file (02, Q-2)
pub told : Told
unfolding said begin_on
told =
    record {
      text = λ file state reply line a state-long reply-long. tells file state reply line a state-long reply-long (read file) refl;
      refused = λ file state line e. record { none = rw e; stays = rw e; only = rw e (take-over bad_line line 12 refl) };
      example = example;
    }
