-- Laws by which `begin` and `play` meet their contracts.
use Prim.Native.Nat.{ℕ, ◌+◌, ◌-◌, ◌%◌, ◌<◌, ◌≤◌}
use Rattle.std.specs.Prelude.{true, ◌≡◌, refl, length, take, drop, Option, Some, None}
use mathlib.Core.List.{List}
use Rattle.std.proofs.Common.{sym, subst, ◌∙◌}
use Rattle.std.proofs.Math.Path.{ap}
use native.Mathlib.Omega.{arith}
use Rattle.std.proofs.Math.ListN.{length-take}
use Rattle.base.specs.Bytes.{over}
use Rattle.rules.specs.Rules.Calls.{Done, done, start_call}
use Rattle.housefile.specs.Kinds.{kind_of, body_fits}
use Rattle.housefile.specs.Format.{Capture, bad, good, row_at, rows_end, entries, read, found}
use Rattle.housefile.specs.Laws.{found-entries, length-entries}
use Rattle.housefile.specs.declared.Kind.{Kind}
use Rattle.housefile.specs.declared.Row.{Row}
use Rattle.playback.specs.Lines.{line_of, bad_line, line_length}
use Rattle.playback.specs.Play.{entry_at, place_after, place, replied_length, Obeyed, obeyed, obey, Played, played, line_at, played_by, play_entry, Begun}
use Rattle.playback.specs.Play.{begun, begin_with, begin_on}
use Rattle.playback.specs.Places.{Stands}
use Rattle.playback.specs.Laws.{stands_first, stands_next, few, body_there, body_fits_lem, obeyed_there, obeyed_most, line_length_lem}
use Rattle.playback.specs.declared.Place.{Place}
use Rattle.playback.specs.declared.Said.{Said}

-- ---- the beginning, by what reading gave

pub begun_bad : (file st line line' : List ℕ) (f : Option ℕ) → f ≡ found (read file) → f ≡ None → line' ≡ over bad_line line
    → begun (record { size = 12; next = place 0 0 0 }) st line' ≡ begin_on file st line
unfolding begin_on
begun_bad file st line line' f e b h = go (read file) (sym b ∙ e)
  where
    go : (c : Capture) → None ≡ found c → begun (record { size = 12; next = place 0 0 0 }) st line' ≡ begin_with c st line
    go bad q = rw h
    go (good es) q = cc

pub begun_good : (file st st' line : List ℕ) (f : Option ℕ) (r n : ℕ) → f ≡ found (read file) → f ≡ Some n → done r st' ≡ start_call st
    → begun (record { size = 0; next = place 0 n (rows_end n) }) st' line ≡ begin_on file st line
unfolding begin_on
begun_good file st st' line f r n e b h = go (read file) (sym b ∙ e)
  where
    go : (c : Capture) → Some n ≡ found c → begun (record { size = 0; next = place 0 n (rows_end n) }) st' line ≡ begin_with c st line
    go bad q = cc
    go (good es) q =
        let said : ℕ → List ℕ → Begun = λ m st. begun (record { size = 0; next = place 0 m (rows_end m) }) st line in
        let e : n ≡ length es = cc in
        ap (λ (m : ℕ). said m st') e ∙ ap (λ (d : Done). said (length es) d.state) h

pub begun_few : (file : List ℕ) (f : Option ℕ) (n : ℕ) → f ≡ found (read file) → f ≡ Some n → n < 21846
begun_few file f n e b =
    let g = found-entries file n (sym b ∙ e) in
    let m = length-entries (row_at file) n 0 (drop (rows_end n) file) in
    omega (arith, m, few file _ (stands_first file (entries (row_at file) n 0 (drop (rows_end n) file)) g.1))

-- ---- an entry

module _ (file : List ℕ) (p : Place) (s : Stands file p) (some : 0 < p.left) (r : Row) (k : Kind) (er : r ≡ row_at file p.number)
    (ek : k ≡ kind_of r.kind) where
  -- its body, as the slice of the file
  abbrev part : List ℕ
  part = take (p.body + r.length - p.body) (drop p.body file)

  pub part_ends : p.body + r.length ≤ length file
  part_ends = subst (λ (r : Row). p.body + r.length ≤ length file) (sym er) (body_there file p s some)

  part_is : part ≡ (entry_at file p).body
  part_is =
      let e : p.body + r.length - p.body ≡ r.length = omega arith in
      ap (λ (n : ℕ). take n (drop p.body file)) (e ∙ ap (λ (r : Row). r.length) er)

  kind_is : k ≡ kind_of (entry_at file p).kind
  kind_is = ek ∙ ap (λ (r : Row). kind_of r.kind) er

  pub part_fits : body_fits k (length part) ≡ true
  part_fits =
      ap (λ (k : Kind). body_fits k (length part)) kind_is
      ∙ ap (λ (l : List ℕ). body_fits (kind_of (entry_at file p).kind) (length l)) part_is
      ∙ body_fits_lem file p s some

  -- its call, and how many bytes of the reply store it answers with
  module _ (st reply write read : List ℕ) (w : ℕ) (st' reply' write' read' : List ℕ)
      (eo : obeyed w st' reply' write' read' ≡ obey k part st reply write read) (n : ℕ) (en : n ≡ replied_length k w) where
    pub reply_part : n ≤ length reply'
    reply_part =
        subst (λ (n : ℕ). n ≤ length reply') (sym en)
        (subst (λ (x : Obeyed). replied_length k x.word ≤ length x.reply) (sym eo) (obeyed_there part st reply write read k))

    reply_most : n ≤ 263
    reply_most =
        subst (λ (n : ℕ). n ≤ 263) (sym en)
        (subst (λ (x : Obeyed). replied_length k x.word ≤ 263) (sym eo) (obeyed_most part st reply write read k))

    pub line_most : length (line_of (p.number + 1) (w % 256) (take n reply')) ≤ 537
    line_most =
        line_length_lem (p.number + 1) (w % 256) (take n reply') (omega (arith, few file p s)) (omega arith)
        (omega (arith, length-take n reply', reply_most))

    pub play_by : (size : ℕ) (line line' : List ℕ)
        → (line' ≡ over (line_of (p.number + 1) (w % 256) (take n reply')) line) × (size ≡ length (line_of (p.number + 1) (w % 256) (take n reply')))
        → played (record { size = size; next = place (p.number + 1) (p.left - 1) (p.body + r.length) }) st' reply' write' read' line'
        ≡ play_entry file p st reply write read line
    unfolding play_entry
    play_by size line line' (el, es) =
        let x = obeyed w st' reply' write' read' in
        let k₀ = kind_of (entry_at file p).kind in
        let z : (m size : ℕ) (l : List ℕ) → Played = λ m size l.
        played (record { size = size; next = place (p.number + 1) (p.left - 1) (p.body + m) }) st' reply' write' read' l in
        let t : (m : ℕ) → List ℕ = λ m. line_of (p.number + 1) (w % 256) (take m reply') in
        ap (z r.length size) el
        ∙ ap (λ (i : ℕ). z r.length i (over (t n) line)) es
        ∙ ap (λ (m : ℕ). z r.length (length (t m)) (over (t m) line)) en
        ∙ ap (λ (r : Row). z r.length (length (line_at p k x)) (over (line_at p k x) line)) er
        ∙ ap (λ (y : Obeyed). played_by file p k y line) eo
        ∙ ap (λ (j : Kind). played_by file p j (obey j part st reply write read) line) kind_is
        ∙ ap (λ (b : List ℕ). played_by file p k₀ (obey k₀ b st reply write read) line) part_is

-- ---- a program that loops: the places that it comes to stand, and each line has room

pub begin_stands : (file st st' line line' : List ℕ) (r : Said) → begun r st' line' ≡ begin_on file st line → 0 < r.next.left → Stands file r.next
unfolding begin_on
begin_stands file st st' line line' r e more = go (read file) refl e
  where
    go : (c : Capture) → read file ≡ c → begun r st' line' ≡ begin_with c st line → Stands file r.next
    go bad g e = absurd (omega (arith, ap (λ (b : Begun). b.said.next.left) e, more))
    go (good es) g e = subst (λ (p : Place). Stands file p) (sym (ap (λ (b : Begun). b.said.next) e)) (stands_first file es g)

pub begin_size : (file st st' line line' : List ℕ) (r : Said) → begun r st' line' ≡ begin_on file st line → r.size ≤ line_length
unfolding begin_on
begin_size file st st' line line' r e = go (read file) e
  where
    go : (c : Capture) → begun r st' line' ≡ begin_with c st line → r.size ≤ line_length
    go bad e = omega (arith, ap (λ (b : Begun). b.said.size) e)
    go (good es) e = omega (arith, ap (λ (b : Begun). b.said.size) e)

module _ (file : List ℕ) (p : Place) (s : Stands file p) (some : 0 < p.left) (r : Said) (st reply write read line st' reply' write' read' line' : List ℕ)
    (e : played r st' reply' write' read' line' ≡ play_entry file p st reply write read line) where
  play_next : r.next ≡ place_after file p
  unfolding play_entry
  play_next = ap (λ (x : Played). x.said.next) e

  pub play_stands : Stands file r.next
  play_stands = subst (λ (p : Place). Stands file p) (sym play_next) (stands_next file p s some)

  pub play_less : r.next.left < p.left
  play_less = omega (arith, ap (λ (p : Place). p.left) play_next, some)

  pub play_size : r.size ≤ line_length
  unfolding play_entry
  play_size =
      let k = kind_of (entry_at file p).kind in
      let b = (entry_at file p).body in
      let x = obey k b st reply write read in
      omega (
        arith,
        ap (λ (x : Played). x.said.size) e,
        line_length_lem (p.number + 1) (x.word % 256) (take (replied_length k x.word) x.reply) (omega (arith, few file p s)) (omega arith)
            (omega (arith, length-take (replied_length k x.word) x.reply, obeyed_most b st reply write read k)),
      )
