-- Channel 0's bits of the status, from its rows.
use Rattle.std.specs.Prelude.{ℕ, ◌-◌, ◌*◌, ◌/◌, ◌^◌, Bool, true, false, not, List, [], ◌∷◌, ◌≡◌, refl, eqb, Option}
use Rattle.std.proofs.Math.Bool.{and-false}
use Rattle.std.proofs.Common.{ap, ◌∙◌, arith, pow_pos, eq-eqb, le-leb}
use Rattle.base.specs.Pick.{pick}
use Rattle.base.specs.Bytes.{bit}
use Rattle.crc.specs.Crc.{crc}
use Rattle.registers.specs.Registers.{field, bits}
use Rattle.peripheral.specs.Status.{pc_free, np_free, pc_avail}
use Rattle.peripheral.specs.declared.Np.{Np}
use Rattle.peripheral.specs.declared.Peripheral.{Peripheral}
use Rattle.peripheral.specs.declared.Posted.{Posted}
use Rattle.state.specs.Status.{status}
use Rattle.state.specs.State.{State}
use Rattle.state.specs.Facts.{sound_off}
use Rattle.state.specs.Sound.{Sound}
use Rattle.rules.specs.Rules.Channel.{peripheral}
use Rattle.rules.specs.Rules.Step.{World}
use Rattle.rules.specs.Statements.Fields.{is_posted, is_non_posted}
use Rattle.rules.specs.Statements.Sizes.{is_enabled}
use Rattle.rules.specs.Statements.Peripheral.Rows.{write_held, request_held, completion_ready, fits_size}
use Rattle.rules.specs.Statements.Status.{number_got, ShowsAvail, WellFormed, WithinSizes, ShowsFree}
use Rattle.rules.specs.Statements.Peripheral.Status.{Bits}
use Rattle.rules.proofs.Proofs.Sizes.{on_as}
use Rattle.rules.proofs.Proofs.Peripheral.Rows.{free_as, idle_as, avail_as, posted_rows, asked-rows}
use Rattle.rules.proofs.Proofs.Reply.{status-bits as word-bits}
use Rattle.rules.proofs.Proofs.Status.{avail, ByRows, shows_free}

-- ---- the bits

module _ (s : State) where
  abbrev p : Peripheral
  p = s.peripheral

  pub free_bit : field (status s) 0 1 ≡ bit (pc_free p.write)
  unfolding status
  free_bit = omega (arith, word-bits s)

  pub idle-bit : field (status s) 1 1 ≡ bit (np_free p.request)
  unfolding status
  idle-bit = omega (arith, word-bits s)

  pub avail_bit : field (status s) 4 1 ≡ bit (pc_avail p.request)
  unfolding status
  avail_bit = omega (arith, word-bits s)

  at0 : field (status s) 0 1 ≡ bit (not (write_held p.write))
  at0 = free_bit ∙ ap bit (free_as p.write)

  at1 : field (status s) 1 1 ≡ bit (not (request_held p.request))
  at1 = idle-bit ∙ ap bit (idle_as p.request)

  at4 : field (status s) 4 1 ≡ bit (completion_ready p.request)
  at4 = avail_bit ∙ ap bit (avail_as p.request)

-- ---- what they say

module _ (w : World) (lent : List ℕ) (sound : Sound w.state) (by_rows : ByRows w lent) where
  abbrev s : State
  s = w.state

  -- while the channel is off no request is held
  off_request : is_enabled peripheral s.config ≡ false → completion_ready s.peripheral.request ≡ false
  off_request e = ap completion_ready (sound_off s sound.is_sound (on_as peripheral s.config ∙ e)).request

  get_pc_lem : ShowsAvail w lent 4 0x01
  get_pc_lem x crc =
      avail _ (number_got w lent (0x01 ∷ x ∷ [])) (is_enabled peripheral s.config) (completion_ready s.peripheral.request) off_request (at4 s)
      (by_rows (0x01 ∷ x ∷ [])
      ∙ ap (λ (t : Bool). pick (not (is_enabled peripheral s.config)) 14 (pick t 16 (pick (not (completion_ready s.peripheral.request)) 1 0))) crc)

  module _ (on : is_enabled peripheral s.config ≡ true) where
    -- a write of one byte at 0, and a read of one byte at I/O address 0
    abbrev write_one : List ℕ
    write_one = 0x4C ∷ 0 ∷ 0 ∷ 0 ∷ 0 ∷ 0 ∷ crc (0x4C ∷ 0 ∷ 0 ∷ 0 ∷ 0 ∷ 0 ∷ []) ∷ []

    abbrev read_one : List ℕ
    read_one = 0x40 ∷ 0 ∷ 0 ∷ crc (0x40 ∷ 0 ∷ 0 ∷ []) ∷ []

    same_byte : (n : ℕ) → eqb n n ≡ true
    same_byte n = eq-eqb n n refl

    write_well : WellFormed w lent write_one
    write_well = simp (on, same_byte (crc (0x4C ∷ 0 ∷ 0 ∷ 0 ∷ 0 ∷ 0 ∷ [])), and-false)

    read_well : WellFormed w lent read_one
    read_well = simp (on, same_byte (crc (0x40 ∷ 0 ∷ 0 ∷ [])), and-false)

    -- one byte fits every size
    one-fits : (n : ℕ) → fits_size 0 1 (64 * 2 ^ n) ≡ true
    one-fits n = rw (le-leb 1 (64 * 2 ^ n) (omega (arith, pow_pos n)), same_byte (0 / (64 * 2 ^ n)))

    write-within : WithinSizes w lent write_one
    write-within = rw (one-fits (bits 10 8 s.config.r010.value - 1))

    read-within : WithinSizes w lent read_one
    read-within = rw (one-fits (bits 14 12 s.config.r010.value - 1))

    pc_free_lem : ShowsFree w lent 0 is_posted
    pc_free_lem = shows_free w lent by_rows 0 is_posted (write_held s.peripheral.write) (at0 s) (posted_rows s) write_one refl write_well write-within

    np_free_lem : ShowsFree w lent 1 is_non_posted
    np_free_lem = shows_free w lent by_rows 1 is_non_posted (request_held s.peripheral.request) (at1 s) (asked-rows s) read_one refl read_well read-within

  nothing_held_lem : is_enabled peripheral s.config ≡ false → (field (status s) 0 1 ≡ 1) × (field (status s) 1 1 ≡ 1)
  nothing_held_lem e =
      let h = sound_off s sound.is_sound (on_as peripheral s.config ∙ e) in
      (at0 s ∙ ap (λ (t : Option Posted). bit (not (write_held t))) h.write, at1 s ∙ ap (λ (t : Np). bit (not (request_held t))) h.request)

  pub status-bits : Bits w lent
  status-bits = record { pc_avail = get_pc_lem; pc_free = pc_free_lem; np_free = np_free_lem; off = nothing_held_lem }
