-- The words of P9: what a bit of the status says of the next command, the stores being long enough.
use Rattle.std.specs.Prelude.{ℕ, ◌≤◌, Bool, true, false, List, [], ◌∷◌, ◌↔◌, ◌≡◌, length}
use Rattle.registers.specs.Registers.{field}
use Rattle.state.specs.Status.{status}
use Rattle.rules.specs.Rules.Step.{World, exchange, step}
use Rattle.rules.specs.Statements.Fields.{byte}
use Rattle.rules.specs.Statements.Rows.{none_applies}
use Rattle.rules.specs.Statements.FirstApplies.{form_rows, all_sizes, crc_wrong}

-- "reply at least 263 bytes, write store at least 256, read store at least 4,096"
pub record LongEnough (w : World) (reply : List ℕ) : Type 0 where
  pub for_reply : 263 ≤ length reply
  pub for_write : 256 ≤ length w.write
  pub for_read : 4096 ≤ length w.read

-- "Status bits" (01, Registers and status)
abbrev pub status_bit : World → ℕ → ℕ
status_bit w k = field (status w.state) k 1

module _ (w : World) (lent : List ℕ) where
  -- the number of the next exchange, if these are its bytes ("No.", 01, Replies and refusals)
  abbrev pub number_got : List ℕ → ℕ
  number_got b = (step w (exchange b lent)).number

  -- .. 0: "accepted or deferred" (01, Replies and refusals)
  abbrev pub Accepted : List ℕ → Type 0
  Accepted b = number_got b ≡ 0

  -- GET_PC and GET_VWIRE: opcode and CRC, good or unchecked
  -- ("GET_PC with no completion ready", "GET_VWIRE with nothing pending", 01, Replies and refusals; "4 PC_AVAIL", "6 VWIRE_AVAIL",
  -- 01, Registers and status)
  abbrev pub ShowsAvail : ℕ → ℕ → Type 0
  ShowsAvail k op = (crc : ℕ) → crc_wrong w.state.config (op ∷ crc ∷ []) ≡ false → (status_bit w k ≡ 1) ↔ Accepted (op ∷ crc ∷ [])

  -- none of 12 to 16 ("well-formed", 00, demand 3; 01, Replies and refusals: the rows before "credit (1)")
  abbrev pub WellFormed : List ℕ → Type 0
  WellFormed b = none_applies (form_rows w.state.config b) ≡ true

  -- .. nor 1 by the "Size rules" (01, Replies and refusals)
  abbrev pub WithinSizes : List ℕ → Type 0
  WithinSizes b = none_applies (all_sizes w.state.config b) ≡ true

  -- bit k is 1 exactly where some command of the kind is accepted, and then every one within the sizes is; 0 exactly where every well-formed one gets 1
  -- ("0 PC_FREE (no write held), 1 NP_FREE (no request held)", 01, Registers and status; "no credit", 01, Replies and refusals)
  pub record ShowsFree (k : ℕ) (of_kind : ℕ → Bool) : Type 0 where
    pub some : (status_bit w k ≡ 1) ↔ ((b : List ℕ) × (of_kind (byte b 0) ≡ true) × Accepted b)
    pub every : status_bit w k ≡ 1 → (b : List ℕ) → of_kind (byte b 0) ≡ true → WellFormed b → WithinSizes b → Accepted b
    pub none : (status_bit w k ≡ 0) ↔ ((b : List ℕ) → of_kind (byte b 0) ≡ true → WellFormed b → number_got b ≡ 1)
