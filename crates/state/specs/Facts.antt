-- What the soundness test says, part by part: the facts that readers of a sound state cite.
use Rattle.std.specs.Prelude.{true, false, ◌≡◌, refl}
use Rattle.base.specs.Pick.{and_left, and_right, and_true}
use Rattle.registers.specs.Registers.{on0, on1, operating_count, reachable}
use Rattle.registers.specs.Laws.{reachable-fresh}
use Rattle.registers.specs.Layout.{fits_config, config-fitting, fitting-config}
use Rattle.registers.specs.Laws.{Fitting}
use Rattle.wires.specs.Senders.{sound_all}
use Rattle.wires.specs.Below.{all, any}
use Rattle.wires.specs.Lines.{edges_wait, any_bit, whole_map}
use Rattle.peripheral.specs.Sound.{sound_request, sound_write}
use Rattle.peripheral.specs.Facts.{NothingHeld, sound_of, off_of}
use Rattle.state.specs.Channel.{Channel, peripheral, wires, part, sound_part, fits_part}
use Rattle.state.specs.Fresh.{fresh_state}
use Rattle.state.specs.Sound.{sound, fits, Sound}
use Rattle.state.specs.Parts.{all_true, true_all}
use Rattle.state.specs.State.{State}

-- ---- the parts of the test of a whole state

pub record SoundParts (s : State) : Type 0 where
  pub config : reachable s.config ≡ true
  pub each : (k : Channel) → sound_part k s.config (part k s) ≡ true

pub sound_parts : (s : State) → sound s ≡ true → SoundParts s
unfolding sound
sound_parts s e =
    record {
      config = and_left (reachable s.config) _ e;
      each = all_true (λ k. sound_part k s.config (part k s)) (and_right (reachable s.config) _ e);
    }

pub sound-made : (s : State) → SoundParts s → sound s ≡ true
unfolding sound
sound-made s p = and_true p.config (true_all (λ k. sound_part k s.config (part k s)) p.each)

pub sound-config : (s : State) → sound s ≡ true → reachable s.config ≡ true
sound-config s e = (sound_parts s e).config

pub sound_request_lem : (s : State) → sound s ≡ true → sound_request s.peripheral.request ≡ true
sound_request_lem s e = (sound_of (on0 s.config.r010) s.peripheral ((sound_parts s e).each peripheral)).request

pub sound_wires_lem : (s : State) → sound s ≡ true → sound_all (on1 s.config.r020) (operating_count s.config.r020) s.wires ≡ true
sound_wires_lem s e = (sound_parts s e).each wires

pub sound_off : (s : State) → sound s ≡ true → on0 s.config.r010 ≡ false → NothingHeld s.peripheral
sound_off s e = off_of (on0 s.config.r010) s.peripheral ((sound_parts s e).each peripheral)

-- ---- numbers within their widths, arrays of six

pub record FitParts (s : State) : Type 0 where
  pub config : Fitting s.config
  pub each : (k : Channel) → fits_part k (part k s) ≡ true

pub fit_parts : (s : State) → fits s ≡ true → FitParts s
unfolding fits
fit_parts s e =
    record {
      config = config-fitting s.config (and_left (fits_config s.config) _ e);
      each = all_true (λ k. fits_part k (part k s)) (and_right (fits_config s.config) _ e);
    }

pub fit_made : (s : State) → FitParts s → fits s ≡ true
unfolding fits
fit_made s p = and_true (fitting-config s.config p.config) (true_all (λ k. fits_part k (part k s)) p.each)

-- ---- the fresh state

pub fresh-sound : Sound fresh_state
unfolding sound fits sound_request sound_write edges_wait any_bit whole_map all any
fresh-sound = record { is_sound = and_true reachable-fresh refl; is_fit = refl }
