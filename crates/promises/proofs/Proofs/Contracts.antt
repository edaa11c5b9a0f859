-- Each contract of an exported function is one equation, its word and every slice it may write being a total function of what it is given: so any two
-- outcomes that it allows for the same arguments coincide, and each is the call over bytes.
use Rattle.std.specs.Prelude.{ℕ, List, ◌≡◌}
use Rattle.std.proofs.Common.{sym, ap, ◌∙◌}
use Rattle.rules.specs.Rules.Calls.{Done, Exchanged, Stored, Looked, done, exchanged, stored, looked}
use Rattle.promises.specs.ByteRuns.{after_state, after_exchange, after_look, after_answer, after_take, after_word, byte_step_value}
use Rattle.promises.specs.Statements.Contracts.{OneOutcome, AreByteSteps, lending}

pub coincide : {A : Type 0} {x y z : A} → x ≡ z → y ≡ z → x ≡ y
coincide e f = e ∙ sym f

module _ {n m : ℕ} {a b : List ℕ} where
  -- word and state
  one-done : {d : Done} → done n a ≡ d → done m b ≡ d → (n ≡ m) × (a ≡ b)
  one-done e f = let g = coincide e f in (ap (λ (x : Done). x.word) g, ap (λ (x : Done). x.state) g)

  -- word and report
  one-looked : {d : Looked} → looked n a ≡ d → looked m b ≡ d → (n ≡ m) × (a ≡ b)
  one-looked e f = let g = coincide e f in (ap (λ (x : Looked). x.word) g, ap (λ (x : Looked). x.report) g)

  -- word, state, and the read store or the report
  one-stored : {s t : List ℕ} {d : Stored} → stored n a s ≡ d → stored m b t ≡ d → (n ≡ m) × (a ≡ b) × (s ≡ t)
  one-stored e f =
      let g = coincide e f in
      (ap (λ (x : Stored). x.word) g, ap (λ (x : Stored). x.state) g, ap (λ (x : Stored). x.store) g)

  -- word, state, reply and write store
  one-exchanged : {r r' w w' : List ℕ} {d : Exchanged} → exchanged n a r w ≡ d → exchanged m b r' w' ≡ d → (n ≡ m) × (a ≡ b) × (r ≡ r') × (w ≡ w')
  one-exchanged e f =
      let g = coincide e f in (
        ap (λ (x : Exchanged). x.word) g,
        ap (λ (x : Exchanged). x.state) g,
        ap (λ (x : Exchanged). x.reply) g,
        ap (λ (x : Exchanged). x.write) g,
      )

pub one_outcome : OneOutcome
one_outcome =
    record {
      start = λ κs a r r' s s'. one-done;
      espi_reset = λ κs a r r' s s'. one-done;
      platform_reset = λ κs a r r' s s'. one-done;
      exchange = λ κs a r r' s s'. one-exchanged;
      look = λ κs a r r' s s'. one-looked;
      answer = λ κs a r r' s s'. one-stored;
      take_write = λ κs a r r' s s'. one-stored;
      set_wire = λ κs a r r' s s'. one-done;
      read_wire = λ κs a r r' s s'. coincide;
      set_line = λ κs a r r' s s'. one-done;
      pulse_line = λ κs a r r' s s'. one-done;
    }

pub are_byte-steps : AreByteSteps
unfolding byte_step_value
are_byte-steps =
    record {
      start = λ κs a r s write read. ap (after_state (lending a.0.now write read));
      espi_reset = λ κs a r s write read. ap (after_state (lending a.0.now write read));
      platform_reset = λ κs a r s write read. ap (after_state (lending a.0.now write read));
      exchange = λ κs a r s. ap (after_exchange (lending a.0.now a.1.1.1.0.now a.1.1.1.1.0.now));
      look = λ κs a r s write read. ap (after_look (lending a.0.now write read));
      answer = λ κs a r s write. ap (after_answer (lending a.0.now write a.1.0.now));
      take_write = λ κs a r s read. ap (after_take (lending a.0.now a.1.0.now read));
      set_wire = λ κs a r s write read. ap (after_state (lending a.0.now write read));
      read_wire = λ κs a r s write read. ap (after_word (lending a.0.now write read));
      set_line = λ κs a r s write read. ap (after_state (lending a.0.now write read));
      pulse_line = λ κs a r s write read. ap (after_state (lending a.0.now write read));
    }
