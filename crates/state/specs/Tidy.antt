-- Testing the bytes as they stand says the same as packing again what they hold, and comparing.
use Rattle.std.specs.Prelude.{ℕ, ◌<◌, ◌≤◌, true, List, ◌++◌, ◌≡◌, length, get_or, take, drop}
use Rattle.std.proofs.Common.{sym, ap, ◌∙◌, take-append-drop}
use Rattle.base.specs.Pick.{same_test}
use Rattle.base.specs.Bytes.{agree}
use Rattle.base.specs.Numbers.{listed-drop}
use Rattle.state.specs.Channel.{part, tidy_part}
use Rattle.state.specs.Layout.{state_length, packed, unpacked, tidy}
use Rattle.state.specs.Packing.{agree-packed, packed-agree}
use Rattle.state.specs.Parts.{all_true, true_all, part_again, part-tidy, front, behind, front_length, packed-at, packed_again}
use Rattle.state.specs.State.{State}

tidy_again : (l : List ℕ) → ((k : ℕ) → get_or l k 0 < 256) → state_length ≤ length l → tidy l ≡ true → take state_length l ≡ packed (unpacked l)
unfolding tidy
tidy_again l byte h e = sym (packed_again l byte (λ k. part_again k l byte (all_true (λ j. tidy_part j l) e k)) ∙ listed-drop state_length 0 l h)

-- a state's bytes pass, whatever comes after them
packed-tidy : (s : State) (t : List ℕ) → tidy (packed s ++ t) ≡ true
unfolding tidy
packed-tidy s t =
    true_all (λ k. tidy_part k (packed s ++ t)) (λ k. ap (tidy_part k) (packed-at k s t) ∙ part-tidy k (front k s) (behind k s t) (part k s) (front_length k s))

pub tidy-is : (l : List ℕ) → ((k : ℕ) → get_or l k 0 < 256) → state_length ≤ length l → tidy l ≡ agree state_length (packed (unpacked l)) l
tidy-is l byte h =
    let u = unpacked l in
    same_test _ _ (λ e. packed-agree u l (tidy_again l byte h e))
    (λ e. ap tidy (sym (take-append-drop state_length l) ∙ ap (λ (z : List ℕ). z ++ drop state_length l) (agree-packed u l h e)) ∙ packed-tidy u
    (drop state_length l))
