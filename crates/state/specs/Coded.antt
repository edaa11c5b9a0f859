-- How the code writes and reads the bytes that a definition says in another way: the laws that its proofs cite.
use Rattle.std.specs.Prelude.{ℕ, ◌<◌, ◌≤◌, ◌&&◌, List, ◌++◌, ◌≡◌, refl, length, get_or}
use Rattle.std.proofs.Math.Bool.{Bool, true}
use Rattle.std.proofs.Common.{sym, ◌∙◌}
use Rattle.std.proofs.Math.Path.{ap, subst}
use Rattle.base.specs.Pick.{and_left, and_right, and_true, same_test}
use Rattle.base.specs.Bytes.{put, over, put-over, put_first}
use Rattle.registers.specs.Registers.{reachable}
use Rattle.registers.specs.Layout.{config_bytes, config_in}
use Rattle.registers.specs.declared.Config.{Config}
use Rattle.state.specs.Channel.{Channel, Part, part, bits, sound_part, place, part_bytes_value, part_in, tidy_part, holds_part}
use Rattle.state.specs.Status.{status}
use Rattle.state.specs.Sound.{sound}
use Rattle.state.specs.Facts.{sound_parts, sound-made}
use Rattle.state.specs.Layout.{state_length, packed, unpacked, holds, tidy}
use Rattle.state.specs.Parts.{last, Each, of_each, all, all_as, all_true, true_all, sum, sum_as, part-found, front, front_length, packed_ends}
use Rattle.state.specs.Tidy.{tidy-is}
use Rattle.state.specs.State.{State}

-- ---- `pack` by its callees: the registers' bytes, then a channel's behind all before it, to the last

module _ (s : State) (l : List ℕ) where
  pub packed_start : {m : List ℕ} → m ≡ put 0 (config_bytes s.config) l → m ≡ over (config_bytes s.config) l
  packed_start e = e ∙ put_first (config_bytes s.config) l

  pub packed-then : (k : Channel) {m n : List ℕ} → n ≡ put (place k) (part_bytes_value k (part k s)) m → m ≡ over (front k s) l
      → n ≡ over (front k s ++ part_bytes_value k (part k s)) l
  packed-then k e f = e ∙ ap (put (place k) (part_bytes_value k (part k s))) f
      ∙ put-over (front k s) (part_bytes_value k (part k s)) l (place k) (front_length k s)

  pub packed-done : {m : List ℕ} → m ≡ over (front last s ++ part_bytes_value last (part last s)) l → m ≡ over (packed s) l
  packed-done e = e ∙ ap (λ (z : List ℕ). over z l) (sym (packed_ends s))

-- ---- the status word by the channels'

pub status_by : (s : State) {a : Each (λ k. ℕ)} → Each (λ k. of_each (λ j. ℕ) a k ≡ bits k (part k s)) → sum (of_each (λ k. ℕ) a) ≡ status s
unfolding status
status_by s {a} e = sum_as (of_each (λ k. ℕ) a) (λ k. bits k (part k s)) (of_each (λ k. of_each (λ j. ℕ) a k ≡ bits k (part k s)) e)

-- ---- `holds` by its callees

module _ (l : List ℕ) (byte : (k : ℕ) → get_or l k 0 < 256) (long : state_length ≤ length l) where
  -- each channel's bytes pass on their own: then all do, and the state is sound
  holds-each : (s : State) → s ≡ unpacked l → reachable s.config && all (λ k. holds_part k s.config l) ≡ holds l
  unfolding holds tidy
  holds-each s es =
      same_test _ _
      (λ e.
      let h : (k : Channel) → holds_part k s.config l ≡ true = all_true (λ k. holds_part k s.config l)
      (and_right (reachable s.config) _ e) in
      let good : sound s ≡ true =
      sound-made s
      (record {
        config = and_left (reachable s.config) _ e;
        each = λ k. subst (λ (q : Part k). sound_part k s.config q ≡ true) (sym (found k)) (and_right (tidy_part k l) _ (h k));
      }) in
      and_true (ap sound (sym es) ∙ good) (sym (tidy-is l byte long) ∙ true_all (λ k. tidy_part k l) (λ k. and_left (tidy_part k l) _ (h k))))
      (λ e.
      let p = sound_parts s (ap sound es ∙ and_left (sound (unpacked l)) _ e) in
      let t = all_true (λ k. tidy_part k l) (tidy-is l byte long ∙ and_right (sound (unpacked l)) _ e) in
      and_true p.config
      (true_all (λ k. holds_part k s.config l)
      (λ k. and_true (t k) (subst (λ (q : Part k). sound_part k s.config q ≡ true) (found k) (p.each k)))))
    where
      found : (k : Channel) → part k s ≡ part_in k l
      found k = ap (part k) es ∙ part-found k l

  pub holds_by : {c : Config} {r : Bool} {h : Each (λ k. Bool)} → c ≡ config_in l → r ≡ reachable c
      → Each (λ k. of_each (λ j. Bool) h k ≡ holds_part k c l)
      → r && all (of_each (λ k. Bool) h) ≡ holds l
  unfolding unpacked
  holds_by {c} {r} {h} ec er eh =
      let passes : Channel → Bool = λ k. holds_part k c l in
      rw (er, all_as (of_each (λ k. Bool) h) passes (of_each (λ k. of_each (λ j. Bool) h k ≡ passes k) eh))
      (ap (λ (z : Config). reachable z && all (λ k. holds_part k z l)) ec ∙ holds-each (unpacked l) refl)
