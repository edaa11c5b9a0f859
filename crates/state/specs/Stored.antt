-- One part packed at its place: over the bytes of a state that is the whole state packed, with that part in it.
use Rattle.std.specs.Prelude.{ℕ, ◌+◌, ◌≡◌, length, take, drop}
use mathlib.Core.List.{List, [], ◌++◌, append_assoc}
use Rattle.std.proofs.Math.Path.{refl}
use Rattle.std.proofs.Common.{sym, ap, subst, ◌∙◌, take-append-drop, length-append, drop_at}
use Rattle.std.proofs.Math.Seq.{drop-append-add}
use Rattle.base.specs.Bytes as B
use Rattle.base.specs.Bytes.{over}
use Rattle.registers.specs.Layout.{config_bytes}
use Rattle.registers.specs.declared.Config.{Config}
use Rattle.state.specs.Channel.{Channel, Part, part, put, each, place, part_bytes_value}
use Rattle.state.specs.Layout.{state_length, packed}
use Rattle.state.specs.Parts.{part_length, front, behind, front_length, parts_bytes, packed-config, packed-is, packed-put}
use Rattle.state.specs.State.{State}

-- x, y, z and r stand one behind the other; y goes, v of the same length comes
put-part : (x y v z r : List ℕ) (at : ℕ) → length x ≡ at → length v ≡ length y → B.put at v (x ++ (y ++ (z ++ r))) ≡ over (x ++ (v ++ z)) (x ++ (y ++ (z ++ r)))
unfolding over
put-part x y v z r at h g =
    let l = x ++ (y ++ (z ++ r)) in
    let n : length (x ++ (v ++ z)) ≡ length x + (length y + length z) = simp (length-append, g) in
    let end : drop (length (x ++ (v ++ z))) l ≡ r =
    ap (λ (k : ℕ). drop k l) n ∙ drop-append-add x (y ++ (z ++ r)) (length y + length z) ∙ drop-append-add y (z ++ r) (length z) ∙ drop_at z r (length z)
    refl in
    B.put_into x y v (z ++ r) at h g
    ∙ sym (ap (λ (q : List ℕ). (x ++ (v ++ z)) ++ q) end ∙ append_assoc x (v ++ z) r ∙ ap (λ (q : List ℕ). x ++ q) (append_assoc v z r))

module _ (s : State) (l : List ℕ) (e : take state_length l ≡ packed s) where
  stored : (x y v z : List ℕ) (at : ℕ) → packed s ≡ x ++ (y ++ z) → length x ≡ at → length v ≡ length y → B.put at v l ≡ over (x ++ (v ++ z)) l
  stored x y v z at f h g =
      let r = drop state_length l in
      let apart : l ≡ x ++ (y ++ (z ++ r)) =
      sym (take-append-drop state_length l) ∙ ap (λ (m : List ℕ). m ++ r) (e ∙ f) ∙ append_assoc x (y ++ z) r ∙ ap (λ (m : List ℕ). x ++ m)
      (append_assoc y z r) in
      subst (λ (m : List ℕ). B.put at v m ≡ over (x ++ (v ++ z)) m) (sym apart) (put-part x y v z r at h g)

  pub stored-config : (c : Config) → B.put 0 (config_bytes c) l ≡ over (packed (each (λ k q. q) c s)) l
  unfolding packed
  stored-config c = stored [] (config_bytes s.config) (config_bytes c) (parts_bytes s) 0 (packed-config s) refl refl

  pub stored-part : (k : Channel) (q : Part k) → B.put (place k) (part_bytes_value k q) l ≡ over (packed (put k q s)) l
  stored-part k q =
      stored (front k s) (part_bytes_value k (part k s)) (part_bytes_value k q) (behind k s []) (place k) (packed-is k s) (front_length k s)
      (part_length k q ∙ sym (part_length k (part k s)))
      ∙ ap (λ (m : List ℕ). over m l) (sym (packed-put k q s))
