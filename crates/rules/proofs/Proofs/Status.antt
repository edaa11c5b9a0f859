-- What a bit of the status says of the next command, from the rows of P6.
use Rattle.std.specs.Prelude.{ℕ, Bool, true, false, not, List, ◌↔◌, ◌≡◌, refl}
use Rattle.std.proofs.Common.{true≢false, sym, ap, ◌∙◌, arith}
use Rattle.base.specs.Pick.{pick}
use Rattle.base.specs.Bytes.{bit}
use Rattle.registers.specs.Registers.{field}
use Rattle.state.specs.Status.{status}
use Rattle.state.specs.State.{State}
use Rattle.rules.specs.Rules.Step.{World}
use Rattle.rules.specs.Statements.Fields.{byte}
use Rattle.rules.specs.Statements.Rows.{first_of, none_applies}
use Rattle.rules.specs.Statements.FirstApplies.{form_rows, all_sizes, later_rows, command_rows}
use Rattle.rules.specs.Statements.Status.{number_got, Accepted, WellFormed, WithinSizes, ShowsFree}
use Rattle.rules.proofs.Proofs.Rows.{none_first, first_after, none_after}

-- ---- what a bit says, from the rows

-- a command that needs its channel and something waiting
pub avail : (v n : ℕ) (on waits : Bool) → (on ≡ false → waits ≡ false) → v ≡ bit waits → n ≡ pick (not on) 14 (pick (not waits) 1 0) → (v ≡ 1) ↔ (n ≡ 0)
avail v n true true h e f = (λ _. f, λ _. e)
avail v n true false h e f = (λ q. absurd (omega arith), λ q. absurd (omega arith))
avail v n false true h e f = absurd (true≢false (h refl))
avail v n false false h e f = (λ q. absurd (omega arith), λ q. absurd (omega arith))

module _ (w : World) (lent : List ℕ) where
  abbrev s : State
  s = w.state

  -- a number is that of the first row
  abbrev pub ByRows : Type 0
  ByRows = (b : List ℕ) → number_got w lent b ≡ first_of (command_rows s b)

  -- a bit for what is held, and the commands of a kind, of which one within the sizes is known
  module _ (by_rows : ByRows) (k : ℕ) (of_kind : ℕ → Bool) (held : Bool) (bit_is : field (status s) k 1 ≡ bit (not held))
      (later-is : (b : List ℕ) → of_kind (byte b 0) ≡ true → first_of (later_rows s b) ≡ pick held 1 (first_of (all_sizes s.config b)))
      (b0 : List ℕ) (kind0 : of_kind (byte b0 0) ≡ true) (well0 : WellFormed w lent b0) (within0 : WithinSizes w lent b0)
    where
      -- a well-formed command of the kind
      well_got : (b : List ℕ) → of_kind (byte b 0) ≡ true → WellFormed w lent b → {t : Bool} → held ≡ t
          → number_got w lent b ≡ pick t 1 (first_of (all_sizes s.config b))
      well_got b kind well h =
          by_rows b ∙ first_after (form_rows s.config b) (later_rows s b) well ∙ later-is b kind
          ∙ ap (λ (t : Bool). pick t 1 (first_of (all_sizes s.config b))) h

      every_one : held ≡ false → (b : List ℕ) → of_kind (byte b 0) ≡ true → WellFormed w lent b → WithinSizes w lent b → Accepted w lent b
      every_one h b kind well within = well_got b kind well h ∙ (none_first (all_sizes s.config b) refl).1 within

      not_held : (b : List ℕ) → of_kind (byte b 0) ≡ true → Accepted w lent b → held ≡ false
      not_held b kind a =
          let none : none_applies (command_rows s b) ≡ true = (none_first (command_rows s b) refl).0 (sym (by_rows b) ∙ a) in
          go held (sym (later-is b kind) ∙ (none_first (later_rows s b) refl).1 (none_after (form_rows s.config b) (later_rows s b) none))
        where
          go : (t : Bool) → pick t 1 (first_of (all_sizes s.config b)) ≡ 0 → t ≡ false
          go true e = absurd (omega arith)
          go false e = refl

      pub shows_free : ShowsFree w lent k of_kind
      shows_free = go held refl
        where
          go : (t : Bool) → held ≡ t → ShowsFree w lent k of_kind
          go true h =
              let zero_bit : field (status s) k 1 ≡ 0 = bit_is ∙ ap (λ (t : Bool). bit (not t)) h in
              record {
                some = (λ e. absurd (omega arith), λ x. absurd (true≢false (sym h ∙ not_held x.0 x.1 x.2)));
                every = λ e. absurd (omega arith);
                none = (λ _ b kind well. well_got b kind well h, λ _. zero_bit);
              }
          go false h =
              let one_bit : field (status s) k 1 ≡ 1 = bit_is ∙ ap (λ (t : Bool). bit (not t)) h in
              record {
                some = (λ _. (b0, kind0, every_one h b0 kind0 well0 within0), λ _. one_bit);
                every = λ _. every_one h;
                none = (λ e. absurd (omega arith), λ f. absurd (omega (arith, every_one h b0 kind0 well0 within0, f b0 kind0 well0)));
              }
