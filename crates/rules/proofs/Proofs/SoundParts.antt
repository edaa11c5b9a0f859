-- Sound states part by part: a clause reads the configuration or one channel's part, and passes unchanged through a change of any other.
use Rattle.std.specs.Prelude.{true, ◌≡◌}
use Rattle.std.proofs.Common.{sym, subst}
use Rattle.registers.specs.Registers.{operating_count, fresh008, fresh010, reachable}
use Rattle.registers.specs.Laws.{Fitting, fits_fresh, fresh_008, fresh_010, reachable-fresh, reachable-all, reachable_r008, reachable_r010, reachable_r020}
use Rattle.registers.specs.declared.Config.{Config}
use Rattle.state.specs.State.{State}
use Rattle.state.specs.Channel.{sound_part, fits_part}
use Rattle.state.specs.Facts.{sound_parts, sound-made, fit_parts, fit_made}
use Rattle.state.specs.Sound.{Sound}
use Rattle.rules.specs.Rules.Reset.{Reset, start, espi_reset, platform_reset}
use Rattle.rules.specs.Rules.Channel.{Channel, peripheral, wires, Part, part, put, each, on}
use Rattle.rules.specs.Rules.Exchange.{config_reset}
use Rattle.rules.proofs.Proofs.Lift.{put-config, put-each, part-each}
use Rattle.rules.proofs.Proofs.Peripheral.Sound as P
use Rattle.rules.proofs.Proofs.Peripheral.Sound.{PeripheralOk}
use Rattle.rules.proofs.Proofs.Wires.Sound.{WiresOk}

pub record ConfigOk (c : Config) : Type 0 where
  pub right : reachable c ≡ true
  pub fit : Fitting c

abbrev pub PartOk : (k : Channel) → Config → Part k → Type 0
PartOk peripheral c p = PeripheralOk (on peripheral c) p
PartOk wires c p = WiresOk (on wires c) (operating_count c.r020) p

pub record Parts (s : State) : Type 0 where
  pub config : ConfigOk s.config
  pub each : (k : Channel) → PartOk k s.config (part k s)

-- the tests say it, both ways
part_ok : (k : Channel) (c : Config) (q : Part k) → sound_part k c q ≡ true → fits_part k q ≡ true → PartOk k c q
part_ok peripheral c q e f = P.peripheral_ok (on peripheral c) q e f
part_ok wires c q e f = record { right = e; fit = f }

ok_sound : (k : Channel) (c : Config) (q : Part k) → PartOk k c q → sound_part k c q ≡ true
ok_sound peripheral c q h = P.ok_sound (on peripheral c) q h
ok_sound wires c q h = h.right

ok_fits : (k : Channel) (c : Config) (q : Part k) → PartOk k c q → fits_part k q ≡ true
ok_fits peripheral c q h = P.ok_fits (on peripheral c) q h
ok_fits wires c q h = h.fit

pub parts : {s : State} → Sound s → Parts s
parts {s} h =
    let p = sound_parts s h.is_sound in
    let f = fit_parts s h.is_fit in
    record { config = record { right = p.config; fit = f.config }; each = λ k. part_ok k s.config (part k s) (p.each k) (f.each k) }

pub whole : {s : State} → Parts s → Sound s
whole {s} h =
    record {
      is_sound = sound-made s (record { config = h.config.right; each = λ k. ok_sound k s.config (part k s) (h.each k) });
      is_fit = fit_made s (record { config = h.config.fit; each = λ k. ok_fits k s.config (part k s) (h.each k) });
    }

-- one part changed
pub with_part : (k : Channel) {s : State} (q : Part k) → Parts s → PartOk k s.config q → Sound (put k q s)
with_part k {s} q h e =
    whole (record {
      config = subst ConfigOk (sym (put-config k q s)) h.config;
      each =
          λ j. subst (λ (c : Config). PartOk j c (part j (put k q s))) (sym (put-config k q s))
          (put-each (λ j p. PartOk j s.config p) k q s e h.each j);
    })

-- every part changed, under a new configuration
pub with_each : {s : State} (f : (k : Channel) → Part k → Part k) (c : Config) → ConfigOk c → ((k : Channel) → PartOk k c (f k (part k s)))
    → Sound (each f c s)
with_each {s} f c h e = whole (record { config = h; each = λ k. subst (PartOk k c) (sym (part-each f c s k)) (e k) })

-- ---- the configuration with 008h, or 010h, as at reset

pub fresh008_ok : {c : Config} → ConfigOk c → ConfigOk (record { r008 = fresh008; r010 = c.r010; r020 = c.r020 })
fresh008_ok {c} h =
    let k : Config = record { r008 = fresh008; r010 = c.r010; r020 = c.r020 } in
    record {
      right = reachable-all k fresh_008 (reachable_r010 c h.right) (reachable_r020 c h.right);
      fit = record { fit008 = fits_fresh.fit008; fit010 = h.fit.fit010; fit020 = h.fit.fit020 };
    }

pub fresh010_ok : {c : Config} → ConfigOk c → ConfigOk (record { r008 = c.r008; r010 = fresh010; r020 = c.r020 })
fresh010_ok {c} h =
    let k : Config = record { r008 = c.r008; r010 = fresh010; r020 = c.r020 } in
    record {
      right = reachable-all k (reachable_r008 c h.right) fresh_010 (reachable_r020 c h.right);
      fit = record { fit008 = h.fit.fit008; fit010 = fits_fresh.fit010; fit020 = h.fit.fit020 };
    }

pub reset-config : (r : Reset) {c : Config} → ConfigOk c → ConfigOk (config_reset r c)
reset-config start h = record { right = reachable-fresh; fit = fits_fresh }
reset-config espi_reset h = record { right = reachable-fresh; fit = fits_fresh }
reset-config platform_reset h = fresh010_ok h
