-- The wires' bytes in those of a state (docs/STATE.md), there and back.
use Rattle.std.specs.Prelude.{ℕ, ◌+◌, ◌-◌, ◌*◌, ◌/◌, ◌%◌, ◌<◌, ◌≤◌, Bool, true, false, ◌&&◌, ◌||◌, List, [], ◌∷◌, ◌++◌, ◌≡◌, refl, eqb, leb, get_or, length}
use Rattle.std.proofs.Common.{arith, ltb-true}
use Rattle.std.specs.Int.Bits.{bit_and}
use Rattle.base.specs.Pick.{and_right}
use Rattle.base.specs.Bytes.{bit, bit_below}
use Rattle.base.specs.Numbers.{past}
use Rattle.base.specs.AllBytes.{AllBytes, all_none, all_cons}
use Rattle.wires.specs.Table.{row_at, senders}
use Rattle.wires.specs.Groups.{level_at, mark_at, in_row, only_defined, sound_wires}
use Rattle.wires.specs.Lines.{lines_in, lines_bytes}
use Rattle.wires.specs.Senders.{AllWires, sound_all}
use Rattle.wires.specs.Kept.{sound_view}
use Rattle.wires.specs.declared.Wires.{Wires}

-- 64 to 69: levels of groups 2 to 7; 70 to 75: their pending marks; 76 and 77: the going-round place, low byte first (docs/STATE.md; docs/DECISIONS.md, 27)
abbrev pub wires_bytes : Wires → List ℕ
wires_bytes w =
    level_at w 2 ∷ level_at w 3 ∷ level_at w 4 ∷ level_at w 5 ∷ level_at w 6 ∷ level_at w 7
    ∷ bit (mark_at w 2) ∷ bit (mark_at w 3) ∷ bit (mark_at w 4) ∷ bit (mark_at w 5) ∷ bit (mark_at w 6) ∷ bit (mark_at w 7)
    ∷ w.place % 256 ∷ w.place / 256 % 256 ∷ []

-- the wires in those bytes (docs/DECISIONS.md, 27)
abbrev pub wires_in : List ℕ → Wires
wires_in l =
    record {
      level = get_or l 64 0 ∷ get_or l 65 0 ∷ get_or l 66 0 ∷ get_or l 67 0 ∷ get_or l 68 0 ∷ get_or l 69 0 ∷ [];
      pending = eqb (get_or l 70 0) 1 ∷ eqb (get_or l 71 0) 1 ∷ eqb (get_or l 72 0) 1 ∷ eqb (get_or l 73 0) 1 ∷ eqb (get_or l 74 0) 1
          ∷ eqb (get_or l 75 0) 1 ∷ [];
      place = get_or l 76 0 + get_or l 77 0 * 256;
    }

-- the canonical form, by the bytes as they stand: a mark is 0 or 1 (docs/DECISIONS.md, 23)
abbrev pub tidy_wires : List ℕ → Bool
tidy_wires l =
    leb (get_or l 70 0) 1
    && (leb (get_or l 71 0) 1 && (leb (get_or l 72 0) 1 && (leb (get_or l 73 0) 1 && (leb (get_or l 74 0) 1 && leb (get_or l 75 0) 1))))

-- the bytes pack sound wires, the channel being on or off: else 11, "state not sound" (01, Replies and refusals)
abbrev pub holds_wires : Bool → List ℕ → Bool
holds_wires on l = tidy_wires l && sound_wires on (wires_in l)

-- all of channel 1's bytes, 64 to 173: the groups', then the lines' (docs/STATE.md; docs/DECISIONS.md, 27)
abbrev pub all_bytes : AllWires → List ℕ
all_bytes w = wires_bytes w.groups ++ lines_bytes w.lines

-- all wires in those bytes (docs/STATE.md)
abbrev pub all_in : List ℕ → AllWires
all_in l = record { groups = wires_in l; lines = lines_in l }

-- the bytes pack sound wires, lines too; those of the lines are canonical whatever they are (docs/DECISIONS.md, 23)
abbrev pub holds_all : Bool → ℕ → List ℕ → Bool
holds_all on count l = tidy_wires l && sound_all on count (all_in l)

-- the same of the levels' six bytes: "undefined wire bits are 0" (01, Sound state)
abbrev pub levels_fit : List ℕ → Bool
levels_fit l =
    in_row 0 (get_or l 0 0) && in_row 1 (get_or l 1 0) && in_row 2 (get_or l 2 0) && in_row 3 (get_or l 3 0) && in_row 4 (get_or l 4 0)
    && in_row 5 (get_or l 5 0)

-- .. of six marks, of groups 2 to 7: 0 or 1, and "up groups alone are pending, and none while channel 1 is off" (01, Sound state)
abbrev pub marks_fit : Bool → (a b c d e f : ℕ) → Bool
marks_fit on a b c d e f =
    eqb a 0 && (eqb b 0 && (eqb f 0 && (leb c 1 && (leb d 1 && (leb e 1 && (on || (eqb c 0 && (eqb d 0 && eqb e 0))))))))

-- .. of the marks' six bytes behind the levels' (01, Sound state)
abbrev pub marks_in : Bool → List ℕ → Bool
marks_in on l = marks_fit on (get_or l 6 0) (get_or l 7 0) (get_or l 8 0) (get_or l 9 0) (get_or l 10 0) (get_or l 11 0)

-- ---- laws

pub mark_back : (b : Bool) → eqb (bit b) 1 ≡ b
mark_back true = refl
mark_back false = refl

six : {A : Type 0} (d : A) (l : List A) → length l ≡ 6
    → get_or l 0 d ∷ get_or l 1 d ∷ get_or l 2 d ∷ get_or l 3 d ∷ get_or l 4 d ∷ get_or l 5 d ∷ [] ≡ l
six d (a ∷ b ∷ c ∷ e ∷ f ∷ g ∷ []) h = refl
six d [] h = absurd (omega arith)
six d (a ∷ []) h = absurd (omega arith)
six d (a ∷ b ∷ []) h = absurd (omega arith)
six d (a ∷ b ∷ c ∷ []) h = absurd (omega arith)
six d (a ∷ b ∷ c ∷ e ∷ []) h = absurd (omega arith)
six d (a ∷ b ∷ c ∷ e ∷ f ∷ []) h = absurd (omega arith)
six d (a ∷ b ∷ c ∷ e ∷ f ∷ g ∷ x ∷ l) h = absurd (omega arith)

pub wires_back : (p r : List ℕ) (w : Wires) → length p ≡ 64 → length w.level ≡ 6 → length w.pending ≡ 6 → w.place < senders
    → wires_in (p ++ (wires_bytes w ++ r)) ≡ w
wires_back p r w h a b below =
    let l = wires_bytes w ++ r in
    let two : w.place % 256 + w.place / 256 % 256 * 256 ≡ w.place = omega arith in
    rw (
      past p l 64 0 (omega arith),
      past p l 65 1 (omega arith),
      past p l 66 2 (omega arith),
      past p l 67 3 (omega arith),
      past p l 68 4 (omega arith),
      past p l 69 5 (omega arith),
      past p l 70 6 (omega arith),
      past p l 71 7 (omega arith),
      past p l 72 8 (omega arith),
      past p l 73 9 (omega arith),
      past p l 74 10 (omega arith),
      past p l 75 11 (omega arith),
      past p l 76 12 (omega arith),
      past p l 77 13 (omega arith),
      two,
      mark_back (mark_at w 2),
      mark_back (mark_at w 3),
      mark_back (mark_at w 4),
      mark_back (mark_at w 5),
      mark_back (mark_at w 6),
      mark_back (mark_at w 7),
      six 0 w.level a,
      six false w.pending b,
    )

mark_small : (b : Bool) → bit b < 256
mark_small b = omega (arith, bit_below b)

small_level : (w : Wires) (i : ℕ) → only_defined w i ≡ true → level_at w i < 256
small_level w i e = omega (arith, ltb-true (level_at w i) 16 (and_right (eqb (bit_and (level_at w i) (15 - (row_at (i - 2)).defined)) 0) _ e))

pub all_wires : (on : Bool) (w : Wires) → sound_wires on w ≡ true → AllBytes (wires_bytes w)
all_wires on w e =
    let s = sound_view on w e in
    let m = mark_small in
    let n : (i : ℕ) → 2 ≤ i → i ≤ 7 → level_at w i < 256 = λ i h k. small_level w i (s.clean i h k) in
    all_cons (n 2 (omega arith) (omega arith))
    (all_cons (n 3 (omega arith) (omega arith))
    (all_cons (n 4 (omega arith) (omega arith))
    (all_cons (n 5 (omega arith) (omega arith))
    (all_cons (n 6 (omega arith) (omega arith))
    (all_cons (n 7 (omega arith) (omega arith))
    (all_cons (m (mark_at w 2))
    (all_cons (m (mark_at w 3))
    (all_cons (m (mark_at w 4))
    (all_cons (m (mark_at w 5))
    (all_cons (m (mark_at w 6))
    (all_cons (m (mark_at w 7)) (all_cons (omega arith) (all_cons (omega arith) all_none)))))))))))))

pub wires_same : (a b : List ℕ) → ((k : ℕ) → k < 78 → get_or a k 0 ≡ get_or b k 0) → wires_in a ≡ wires_in b
wires_same a b e =
    rw (
      e 64 (omega arith),
      e 65 (omega arith),
      e 66 (omega arith),
      e 67 (omega arith),
      e 68 (omega arith),
      e 69 (omega arith),
      e 70 (omega arith),
      e 71 (omega arith),
      e 72 (omega arith),
      e 73 (omega arith),
      e 74 (omega arith),
      e 75 (omega arith),
      e 76 (omega arith),
      e 77 (omega arith),
    )
