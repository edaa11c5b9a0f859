-- Laws for the code: where an entry's row and body stand in a good file, how long a reply and a line are, the digits one after the other.
use Rattle.std.specs.Prelude.{ℕ, zero, suc, ◌+◌, ◌*◌, ◌/◌, ◌%◌, ◌<◌, ◌≤◌, true, not, List, [], ◌∷◌, ◌++◌, ◌≡◌, refl, ltb, length, drop}
use Rattle.std.proofs.Common.{sym, ap, ◌∙◌, subst, zero-add, add-one, length-drop, length-take-le}
use native.Mathlib.Omega.{arith}
use Rattle.std.proofs.Math.ListN.{length-append}
use borrow.Author.Tests.{lt-ltb, le-ltb, ltb-true, ltb-false, not-false}
use Rattle.base.specs.Pick.{pick_ind, and_right}
use Rattle.base.specs.Bytes.{over}
use Rattle.state.specs.Layout.{state_length, unpacked, holds}
use Rattle.state.specs.Packing.{holds-sound}
use Rattle.rules.specs.Rules.Exchange.{exchange}
use Rattle.rules.specs.Rules.Reply.{reply_bytes}
use Rattle.rules.specs.Rules.Step.{reply_length, write_length, read_length}
use Rattle.rules.specs.Rules.Calls.{Exchanged, exchanged, exchange_call, exchange_planned}
use Rattle.rules.proofs.Proofs.Fits.{reply_length_lem, exchange-fits}
use Rattle.rules.proofs.Proofs.Refusals.{exchange_turned}
use Rattle.rules.proofs.Proofs.WholeRefusals.{planned_small}
use Rattle.promises.specs.ByteRuns.{byte_step_value}
use Rattle.promises.specs.Statements.Lifted.{value_of}
use Rattle.housefile.specs.Kinds.{known, kind_of, body_fits, row_fits_value}
use Rattle.housefile.specs.Format.{Entry, good, count_of, rows_end, row_at, total, read}
use Rattle.housefile.specs.Laws.{good_is, length-entries, total_next, total_below, fit_at}
use Rattle.housefile.specs.declared.Kind.{Kind}
use Rattle.housefile.specs.declared.Kind.TheVariants.{Command, Success, Failure, SetWire, PlatformReset, EspiReset, TakeWrite}
use Rattle.playback.specs.Lines.{digit_of, digits_of, decimal_of, hex_of, shown_of, line_of}
use Rattle.playback.specs.Play.{entry_at, place_after, place, replied_length, obey}
use Rattle.playback.specs.Places.{Stands}
use Rattle.playback.specs.declared.Place.{Place}

-- ---- places of a good file

pub stands_first : (file : List ℕ) (es : List Entry) → read file ≡ good es → Stands file (place 0 (length es) (rows_end (length es)))
unfolding total
stands_first file es e =
    let g = good_is file es e in
    let n : length es ≡ count_of file = ap length g.is ∙ length-entries (row_at file) (count_of file) 0 (drop (rows_end (count_of file)) file) in
    record { short = g.short; adds = g.adds; fit = g.fit; counted = omega arith; body = omega arith }

module _ (file : List ℕ) (p : Place) (s : Stands file p) where
  pub few : p.number + p.left < 21846
  few = omega (arith, s.short, s.adds, s.counted)

  module _ (more : 0 < p.left) where
    -- the bodies before the next entry's are one more
    next_total : total (row_at file) (p.number + 1) 0 ≡ total (row_at file) p.number 0 + (row_at file p.number).length
    next_total = rw (add-one p.number, total_next (row_at file) p.number 0, zero-add)

    pub stands_next : Stands file (place_after file p)
    stands_next =
        record {
          short = s.short;
          adds = s.adds;
          fit = s.fit;
          counted = omega (arith, s.counted);
          body = omega (arith, s.body, next_total);
        }

    pub body_there : p.body + (row_at file p.number).length ≤ length file
    body_there =
        omega (arith, s.adds, s.body, next_total, total_below (row_at file) (p.number + 1) (count_of file) (omega (arith, s.counted)))

    pub row_fits : row_fits_value (row_at file p.number) ≡ true
    row_fits = fit_at (row_at file) (count_of file) p.number s.fit (omega (arith, s.counted))

    body_length_lem : length (entry_at file p).body ≡ (row_at file p.number).length
    body_length_lem = length-take-le _ (drop p.body file) (simp length-drop (omega (arith, body_there)))

    pub body_fits_lem : body_fits (kind_of (entry_at file p).kind) (length (entry_at file p).body) ≡ true
    body_fits_lem =
        let r = row_at file p.number in
        subst (λ (n : ℕ). body_fits (kind_of r.kind) n ≡ true) (sym body_length_lem)
        (and_right (known r.kind) (body_fits (kind_of r.kind) r.length) row_fits)

-- ---- digits

-- digits_of does not depend on its bound, once that is at least the number
enough : (m k n : ℕ) → n ≤ m → n ≤ k → digits_of m n ≡ digits_of k n
unfolding digits_of
enough zero zero n a b = refl
enough zero (suc k) n a b = rw (lt-ltb n 10 (omega arith))
enough (suc m) zero n a b = rw (lt-ltb n 10 (omega arith))
enough (suc m) (suc k) n a b = rw (enough m k (n / 10) (omega arith) (omega arith))

pub decimal_small : (n : ℕ) → n < 10 → decimal_of n ≡ digit_of n ∷ []
unfolding decimal_of digits_of
decimal_small zero h = refl
decimal_small (suc n) h = rw (lt-ltb (suc n) 10 h)

pub decimal_more : (n : ℕ) → 10 ≤ n → decimal_of n ≡ decimal_of (n / 10) ++ (digit_of (n % 10) ∷ [])
unfolding decimal_of digits_of
decimal_more zero h = absurd (omega arith)
decimal_more (suc n) h = rw (le-ltb (suc n) 10 h, enough n (suc n / 10) (suc n / 10) (omega arith) (omega arith))

-- numbers below b have no more than k digits, and so ten times as many numbers one digit more
Short : (k b : ℕ) → Type 0
Short k b = (most n : ℕ) → n < b → length (digits_of most n) ≤ k

one_digit : Short 1 10
unfolding Short digits_of
one_digit zero n h = omega arith
one_digit (suc most) n h = rw (lt-ltb n 10 h) (omega arith)

digit_more : (k b : ℕ) → Short k b → Short (k + 1) (b * 10)
unfolding Short digits_of
digit_more k b f zero n h = omega arith
digit_more k b f (suc most) n h =
    pick_ind (λ (l : List ℕ). length l ≤ k + 1) (ltb n 10) (λ _. omega arith) λ _. simp length-append (omega (arith, f most (n / 10) (omega arith)))

decimal_three : (n : ℕ) → n < 1000 → length (decimal_of n) ≤ 3
unfolding Short decimal_of
decimal_three n h = digit_more 2 100 (digit_more 1 10 one_digit) n n h

decimal_five : (n : ℕ) → n < 100000 → length (decimal_of n) ≤ 5
unfolding Short decimal_of
decimal_five n h = digit_more 4 10000 (digit_more 3 1000 (digit_more 2 100 (digit_more 1 10 one_digit))) n n h

-- ---- hex

pub length_hex : (l : List ℕ) → length (hex_of l) ≡ 2 * length l
unfolding hex_of
length_hex [] = refl
length_hex (b ∷ l) = omega (arith, length_hex l)

pub hex_append : (a b : List ℕ) → hex_of (a ++ b) ≡ hex_of a ++ hex_of b
unfolding hex_of
hex_append [] b = refl
hex_append (x ∷ a) b = rw (hex_append a b)

-- ---- a reply and its line

shown_length : (l : List ℕ) → length l ≤ 263 → length (shown_of l) ≤ 526
shown_length [] h = omega arith
shown_length (b ∷ l) h = rw (length_hex (b ∷ l)) (omega arith)

pub line_length_lem : (number refusal : ℕ) (reply : List ℕ) → number < 100000 → refusal < 1000 → length reply ≤ 263
    → length (line_of number refusal reply) ≤ 537
unfolding line_of
line_length_lem number refusal reply n r l =
    simp length-append (omega (arith, decimal_five number n, decimal_three refusal r, shown_length reply l))

-- the reply that a word tells of: in its store, and no longer than the longest
record Replied (x : Exchanged) : Type 0 where
  there : value_of x.word ≤ length x.reply
  most : value_of x.word ≤ 263

module _ (state command reply write read : List ℕ) where
  replied : Replied (exchange_call state command reply write read)
  unfolding exchange_call exchange_planned over
  replied =
      let p = exchange (unpacked state) command in
      let r = reply_bytes p.reply (unpacked state).wires read in
      let small = ltb-true p.number 256 (planned_small p.number (unpacked state) p (exchange_turned (unpacked state) command)) in
      let none : (n : ℕ) → n < 256 → Replied (exchanged n state reply write) = λ n h. record { there = omega arith; most = omega arith } in
      pick_ind Replied (ltb (length state) state_length) (λ _. none 10 (omega arith))
      λ l. pick_ind Replied (ltb (length reply) reply_length) (λ _. none 10 (omega arith))
      λ _. pick_ind Replied (ltb (length write) write_length) (λ _. none 10 (omega arith))
      λ _. pick_ind Replied (ltb (length read) read_length) (λ _. none 10 (omega arith))
      λ _. pick_ind Replied (not (holds state)) (λ _. none 11 (omega arith))
      λ h. let good = holds-sound state (ltb-false _ _ l) (not-false _ h) in
      record {
        there = simp length-append (omega arith);
        most = omega (arith, reply_length_lem p.reply (unpacked state).wires read (exchange-fits (unpacked state) good.is_sound command).reply);
      }

  reply_there : value_of (exchange_call state command reply write read).word ≤ length (exchange_call state command reply write read).reply
  reply_there = replied.there

  reply_most : value_of (exchange_call state command reply write read).word ≤ 263
  reply_most = replied.most

-- .. and so of any entry
module _ (body state reply write read : List ℕ) where
  pub obeyed_there : (k : Kind) → replied_length k (obey k body state reply write read).word ≤ length (obey k body state reply write read).reply
  unfolding obey byte_step_value
  obeyed_there Command = reply_there state body reply write read
  obeyed_there Success = omega arith
  obeyed_there Failure = omega arith
  obeyed_there SetWire = omega arith
  obeyed_there PlatformReset = omega arith
  obeyed_there EspiReset = omega arith
  obeyed_there TakeWrite = omega arith

  pub obeyed_most : (k : Kind) → replied_length k (obey k body state reply write read).word ≤ 263
  unfolding obey byte_step_value
  obeyed_most Command = reply_most state body reply write read
  obeyed_most Success = omega arith
  obeyed_most Failure = omega arith
  obeyed_most SetWire = omega arith
  obeyed_most PlatformReset = omega arith
  obeyed_most EspiReset = omega arith
  obeyed_most TakeWrite = omega arith
