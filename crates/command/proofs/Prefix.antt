-- What the first bytes of a command need, as more of them come: a whole and a refusal stay, and few bytes decide (01, Commands). So the bytes
use Rattle.std.specs.Prelude.{ℕ, ◌-◌, ◌<◌, ◌≤◌, Bool, not, ◌&&◌, List, [], ◌∷◌, ◌++◌, ◌⊎◌, ◌≡◌, eqb, ltb, leb, length, get_or, take}
use Rattle.std.proofs.Math.Bool.{true, false, and-false}
use Rattle.std.proofs.Common.{true≢false, inl, inr, ap, subst, ◌∙◌, arith, lt-ltb, le-ltb, ltb-true, ltb-false, le-leb, eq-eqb, ne_eqb, lit≤, length-append, length-take, get_or-take}
use Rattle.std.proofs.Math.Path.{refl, sym}
use Rattle.std.proofs.lemmas.Bool.{not-false}
use Rattle.std.proofs.Math.ListN.{get_or-append}
use Rattle.base.specs.Pick.{pick, pick_ind, taken, passed, and_left, and_right, and_true}
use Rattle.command.specs.Rows.{types, plain, row_of}
use Rattle.command.specs.Needs.{channel_on, cycle_listed, all_ff, need_data, need_row, need_listed, need_in}
use Rattle.command.specs.Decode.{checked_as, read_off_value, admit_listed, admit}
use Rattle.command.specs.Facts.{IsBytes, SizeFits, length-fits, by_row, cycle_wrong}
use Rattle.command.specs.declared.Opcode.{Opcode}
use Rattle.command.specs.declared.Opcode.TheVariants as O
use Rattle.command.specs.declared.Channels.{Channels}
use Rattle.command.specs.declared.Channel.{Channel}
use Rattle.command.specs.declared.Channel.TheVariants.{Independent}
use Rattle.command.specs.declared.Data.{Data}
use Rattle.command.specs.declared.Data.TheVariants.{Fixed, Length, Pairs, Ones}
use Rattle.command.specs.declared.Row.{Row}
use Rattle.command.specs.declared.Need.{Need}
use Rattle.command.specs.declared.Need.TheVariants.{Whole, More, Open, Never}
use Rattle.command.specs.declared.Command.TheVariants as C
use Rattle.command.proofs.Facts.{Passes, need_is, passes_tells, ListedTells, row_tells}
use Rattle.command.specs.Prefix.{endless, overlong, ReadsOff, Prefix}
use Rattle.std.specs.Prelude.{Option, Some, None, Result, Ok, Err}
use Rattle.command.specs.declared.Refusal.{Refusal}
use Rattle.command.specs.declared.Refusal.TheVariants.{LengthWrong, OpcodeUnknown, CycleUnlisted}
use Rattle.command.specs.declared.Command.{Command}

-- ---- which need

abbrev is_whole : Need → Bool
is_whole (Whole n) = true
is_whole (More k) = false
is_whole Open = false
is_whole (Never z) = false

abbrev is_more : Need → Bool
is_more (Whole n) = false
is_more (More k) = true
is_more Open = false
is_more (Never z) = false

abbrev is_open : Need → Bool
is_open (Whole n) = false
is_open (More k) = false
is_open Open = true
is_open (Never z) = false

abbrev k_of : Need → ℕ
k_of (Whole n) = 0
k_of (More k) = k
k_of Open = 0
k_of (Never z) = 0

not_more : {x : Need} {k : ℕ} → is_more x ≡ false → x ≡ More k → ⊥
not_more h e = true≢false (sym (ap is_more e) ∙ h)

not_whole : {x : Need} {z : Refusal} → is_whole x ≡ true → x ≡ Never z → ⊥
not_whole h e = true≢false (sym h ∙ ap is_whole e)

-- none or some
by_length : {Q : Type 0} (b : List ℕ) → (length b ≡ 0 → Q) → (1 ≤ length b → Q) → Q
by_length [] none some = none refl
by_length (x ∷ xs) none some = some (omega arith)

-- ---- rows read no further than they tell

abbrev Alike : ℕ → List ℕ → List ℕ → Type 0
Alike n b d = (i : ℕ) → i < n → get_or d i 0 ≡ get_or b i 0

record RowReads (b d : List ℕ) (r : Row) : Type 0 where
  pub cycle : cycle_listed r.cycle (get_or d 1 0) ≡ cycle_listed r.cycle (get_or b 1 0)
  pub whole : (n : ℕ) → need_data r b r.carries ≡ Whole n → need_data r d r.carries ≡ Whole n
  pub never : (all_ff b ≡ false → all_ff d ≡ false) → (z : Refusal) → need_data r b r.carries ≡ Never z → need_data r d r.carries ≡ Never z

module _ (b d : List ℕ) where
  abbrev ListedReads : Option Row → Type 0
  ListedReads (Some r) = (1 ≤ r.told) × (Alike r.told b d → RowReads b d r)
  ListedReads None = Unit {0}

  plain_reads : (op : Opcode) (k : Channel) (a n : ℕ) → ListedReads (plain op k a n)
  plain_reads op k a n = (lit≤ tt, λ _. record { cycle = refl; whole = λ m e. e; never = λ _ m e. absurd (not_whole refl e) })

  reset_whole : (n : ℕ) (t : Bool) (y : Need) → pick t Open (Never OpcodeUnknown) ≡ Whole n → y ≡ Whole n
  reset_whole n true y e = absurd (true≢false (sym (ap is_whole e)))
  reset_whole n false y e = absurd (true≢false (sym (ap is_whole e)))

  reset-never : (z : Refusal) (t u : Bool) → (t ≡ false → u ≡ false) → pick t Open (Never OpcodeUnknown) ≡ Never z → pick u Open (Never OpcodeUnknown) ≡ Never z
  reset-never z true u h e = absurd (true≢false (ap is_open e))
  reset-never z false u h e = ap (λ (v : Bool). pick v Open (Never OpcodeUnknown)) (h refl) ∙ e

  rows-read : (op : ℕ) → ListedReads (row_of op)
  rows-read =
      by_row ListedReads (
        lit≤ tt,
        λ h. record {
          cycle = ap (cycle_listed (types 1 3)) (h 1 (omega arith));
          whole = λ n e. rw (h 1 (omega arith), h 2 (omega arith), h 3 (omega arith)) e;
          never = λ _ n e. absurd (not_whole refl e);
        },
      )
      (plain_reads _ _ _ _) (
        lit≤ tt,
        λ h. record {
          cycle = ap (cycle_listed (types 0 2)) (h 1 (omega arith));
          whole = λ n e. rw (h 1 (omega arith)) e;
          never = λ _ n e. absurd (not_whole refl e);
        },
      )
      (lit≤ tt, λ h. record { cycle = refl; whole = λ n e. rw (h 1 (omega arith)) e; never = λ _ n e. absurd (not_whole refl e) })
      (plain_reads _ _ _ _)
      (plain_reads _ _ _ _)
      (plain_reads _ _ _ _)
      (plain_reads _ _ _ _)
      (lit≤ tt, λ h. record { cycle = refl; whole = λ n. reset_whole n (all_ff b) _; never = λ f n. reset-never n (all_ff b) (all_ff d) f })
      (λ n _. plain_reads _ _ _ _)
      (λ n _. plain_reads _ _ _ _)
      (λ n _. plain_reads _ _ _ _)
      (λ n _. plain_reads _ _ _ _)
      tt

-- ---- as more bytes come

more_ff : (b c : List ℕ) → all_ff b ≡ false → all_ff (b ++ c) ≡ false
unfolding all_ff
more_ff [] c e = absurd (true≢false e)
more_ff (x ∷ xs) c e = go (eqb x 0xFF) (more_ff xs c) e
  where
    go : (t : Bool) → (all_ff xs ≡ false → all_ff (xs ++ c) ≡ false) → t && all_ff xs ≡ false → t && all_ff (xs ++ c) ≡ false
    go true rest f = rest f
    go false rest f = refl

module _ (on : Channels) where
  pub need_some : (b : List ℕ) → 1 ≤ length b → need_in on b ≡ need_listed on b (row_of (get_or b 0 0))
  unfolding need_in
  need_some b h = sym (passed _ _ (ne_eqb (length b) 0 (λ e. omega arith)) refl)

  pub need_none : (b : List ℕ) → length b ≡ 0 → need_in on b ≡ More 1
  unfolding need_in
  need_none b h = sym (taken _ _ (eq-eqb (length b) 0 h) refl)

  -- the same row, with bytes like these
  need_row_lem : (b d : List ℕ) (r : Row) → 1 ≤ length d → get_or d 0 0 ≡ get_or b 0 0 → row_of (get_or b 0 0) ≡ Some r → need_in on d ≡ need_row on d r
  need_row_lem b d r h e f = need_some d h ∙ ap (need_listed on d) (ap row_of e ∙ f)

  module _ (b d : List ℕ) (r : Row) where
    row_reads : row_of (get_or b 0 0) ≡ Some r → (1 ≤ r.told) × (Alike r.told b d → RowReads b d r)
    row_reads e = subst (ListedReads b d) e (rows-read b d (get_or b 0 0))

    -- the tests before the data come out the same
    through : {x y : Need} → Passes on b r x → Alike r.told b d → r.told ≤ length d → need_data r d r.carries ≡ y → need_in on d ≡ y
    through p h l e =
        let q = row_reads p.row in
        let z = (q.1 h).cycle ∙ (passes_tells on b p).listed p.told p.cycle in
        need_row_lem b d r (omega (arith, q.0)) (h 0 q.0) p.row
        ∙ sym (passed _ _ (ap not p.channel) (passed _ _ (ap (λ (t : Bool). not t && ltb 1 (length d)) z)
        (passed _ _ (le-ltb (length d) r.told l) (sym e))))

  -- so few bytes tell it
  whole_alike : (b d : List ℕ) (n : ℕ) → need_in on b ≡ Whole n → ((k : ℕ) → k ≤ 4 → k ≤ length b → Alike k b d × (k ≤ length d)) → need_in on d ≡ Whole n
  whole_alike b d n e h =
      let (r, p) = need_is on b (Whole n) e in
      let (a, l) = h r.told (passes_tells on b p).readable.told p.told in
      through b d r p a l (((row_reads b d r p.row).1 a).whole n p.needs)

  module _ (b c : List ℕ) where
    longer : length b ≤ length (b ++ c)
    longer = omega (arith, length-append b c)

    append_alike : (n : ℕ) → n ≤ length b → Alike n b (b ++ c)
    append_alike n h i l = get_or-append b c 0 i (omega arith)

    whole_stays : (n : ℕ) → need_in on b ≡ Whole n → need_in on (b ++ c) ≡ Whole n
    whole_stays n e = whole_alike b (b ++ c) n e (λ k _ l. (append_alike k l, omega (arith, longer)))

    -- a cycle type that is not listed stays so
    wrong_stays : (r : Row) → cycle_wrong r b ≡ true → cycle_wrong r (b ++ c) ≡ true
    wrong_stays r e =
        let l : 1 < length b = ltb-true 1 (length b) (and_right (not (cycle_listed r.cycle (get_or b 1 0))) _ e) in
        and_true
        (ap (λ (t : ℕ). not (cycle_listed r.cycle t)) (append_alike 2 l 1 (omega arith))
        ∙ and_left (not (cycle_listed r.cycle (get_or b 1 0))) (ltb 1 (length b)) e)
        (lt-ltb 1 (length (b ++ c)) (omega (arith, longer)))

    longer_listed : (l : Option Row) → 1 ≤ length b → row_of (get_or b 0 0) ≡ l → need_in on (b ++ c) ≡ need_listed on (b ++ c) l
    longer_listed l h f = need_some (b ++ c) (omega (arith, longer)) ∙ ap (need_listed on (b ++ c)) (ap row_of (append_alike 1 h 0 (omega arith)) ∙ f)

    listed-never : (z : Refusal) (l : Option Row) → 1 ≤ length b → row_of (get_or b 0 0) ≡ l → need_listed on b l ≡ Never z → need_in on (b ++ c) ≡ Never z
    listed-never z None h f = λ e. longer_listed None h f ∙ e
    listed-never z (Some r) h f =
        let Q : Need → Type 0 = λ x. x ≡ Never z → need_in on (b ++ c) ≡ Never z in
        let g = longer_listed (Some r) h f in
        pick_ind Q (not (channel_on on r.channel)) (λ k e. g ∙ sym (taken _ _ k (sym e)))
        λ k. pick_ind Q (cycle_wrong r b) (λ y e. g ∙ sym (passed _ _ k (taken _ _ (wrong_stays r y) (sym e))))
        λ y. pick_ind Q (ltb (length b) r.told) (λ _ e. absurd (true≢false (ap is_more e)))
        λ t e. let l = ltb-false (length b) r.told t in
        let p : Passes on b r (Never z) = record { some = h; row = f; channel = not-false (channel_on on r.channel) k; cycle = y; told = l; needs = e } in
        let a = append_alike r.told l in
        through b (b ++ c) r p a (omega (arith, longer)) (((row_reads b (b ++ c) r f).1 a).never (more_ff b c) z e)

    never_stays : (z : Refusal) → need_in on b ≡ Never z → need_in on (b ++ c) ≡ Never z
    never_stays z e =
        by_length b (λ z. absurd (true≢false (ap is_more (sym (need_none b z) ∙ e))))
        (λ h. listed-never z (row_of (get_or b 0 0)) h refl (sym (need_some b h) ∙ e))

    data_more : (r : Row) (d : Data) (k : ℕ) → need_data r b d ≡ More k → ⊥
    data_more r (Fixed n) k = not_more refl
    data_more r Length k = not_more refl
    data_more r Pairs k = not_more refl
    data_more r Ones k = go (all_ff b)
      where
        go : (t : Bool) → pick t Open (Never OpcodeUnknown) ≡ More k → ⊥
        go true = not_more refl
        go false = not_more refl

    abbrev Left : ℕ → Type 0
    Left k = (need_in on (b ++ c) ≡ More (k - length c)) ⊎ (need_in on (b ++ c) ≡ Never CycleUnlisted)

    listed_more : (k : ℕ) (l : Option Row) → 1 ≤ length b → row_of (get_or b 0 0) ≡ l → length c < k → need_listed on b l ≡ More k → Left k
    listed_more k None h f s = λ e. absurd (not_more refl e)
    listed_more k (Some r) h f s =
        let Q : Need → Type 0 = λ x. x ≡ More k → Left k in
        let g = longer_listed (Some r) h f in
        pick_ind Q (not (channel_on on r.channel)) (λ _ e. absurd (not_more refl e))
        λ o. pick_ind Q (cycle_wrong r b) (λ _ e. absurd (not_more refl e))
        λ _. pick_ind Q (ltb (length b) r.told)
        (λ _ e. let same : r.told - length b ≡ k = ap k_of e in
        go (cycle_wrong r (b ++ c)) refl
        (λ y. g ∙ sym (passed _ _ o (passed _ _ y
        (taken _ _ (lt-ltb (length (b ++ c)) r.told (omega (arith, length-append b c))) (ap More (omega (arith, length-append b c)))))))
        (λ y. g ∙ sym (passed _ _ o (taken _ _ y refl))))
        (λ _ e. absurd (data_more r r.carries k e))
      where
        go : (t : Bool) → cycle_wrong r (b ++ c) ≡ t → (cycle_wrong r (b ++ c) ≡ false → need_in on (b ++ c) ≡ More (k - length c))
            → (cycle_wrong r (b ++ c) ≡ true → need_in on (b ++ c) ≡ Never CycleUnlisted) → Left k
        go true e left unlisted = inr (unlisted e)
        go false e left unlisted = inl (left e)

    more_left : (k : ℕ) → need_in on b ≡ More k → length c < k → Left k
    more_left k e h =
        by_length b
        (λ z. let one : 1 ≡ k = ap k_of (sym (need_none b z) ∙ e) in
        inl (need_none (b ++ c) (omega (arith, length-append b c)) ∙ ap More (omega arith)))
        (λ s. listed_more k (row_of (get_or b 0 0)) s refl h (sym (need_some b s) ∙ e))

  whole_four : (b : List ℕ) (n : ℕ) → need_in on b ≡ Whole n → need_in on (take 4 b) ≡ Whole n
  whole_four b n e = whole_alike b (take 4 b) n e (λ k f l. (λ i h. get_or-take 4 b i 0 (omega arith), omega (arith, length-take 4 b)))

-- ---- the decoder reads off what is needed

module _ (checked : Bool) (b : List ℕ) where
  abbrev Says : Option Row → Type 0
  Says (Some r) = ReadsOff checked b (need_data r b r.carries) (read_off_value checked b r (need_data r b r.carries))
  Says None = Unit {0}

  reset_says : (r : Row) (t : Bool) → checked_as checked b r ≡ Ok C.Reset
      → ReadsOff checked b (pick t Open (Never OpcodeUnknown)) (read_off_value checked b r (pick t Open (Never OpcodeUnknown)))
  reset_says r true e = ap (pick (not (leb 2 (length b))) (Err OpcodeUnknown)) e
  reset_says r false e = refl

  -- the row of RESET, as `resets` has it
  abbrev reset_row : Row
  reset_row = record { opcode = O.Reset; channel = Independent; cycle = None; told = 1; from = 1; address = 0; carries = Ones; crc = false }

  row_says : (op : ℕ) → Says (row_of op)
  row_says =
      by_row Says (_, refl) (_, refl) (_, refl) (_, refl) (_, refl) (_, refl) (_, refl) (_, refl)
      (reset_says reset_row (all_ff b) (sym (passed _ _ (and-false checked) refl)))
      (λ n _. (_, refl)) (λ n _. (_, refl)) (λ n _. (_, refl)) (λ n _. (_, refl)) tt

  module _ (on : Channels) where
    listed_says : (l : Option Row) → row_of (get_or b 0 0) ≡ l → ReadsOff checked b (need_listed on b l) (admit_listed on checked b l)
    listed_says None e = refl
    listed_says (Some r) e =
        let Q : Need → Type 0 = λ x. ReadsOff checked b x (read_off_value checked b r x) in
        pick_ind Q (not (channel_on on r.channel)) (λ _. refl)
        λ _. pick_ind Q (cycle_wrong r b) (λ _. refl)
        λ _. pick_ind Q (ltb (length b) r.told) (λ _. refl)
        λ _. subst Says e (row_says (get_or b 0 0))

    reads_off : ReadsOff checked b (need_in on b) (admit on checked b)
    unfolding need_in admit
    reads_off = go (eqb (length b) 0)
      where
        go : (t : Bool) → ReadsOff checked b (pick t (More 1) (need_listed on b (row_of (get_or b 0 0))))
            (pick t (Err LengthWrong) (admit_listed on checked b (row_of (get_or b 0 0))))
        go true = refl
        go false = listed_says (row_of (get_or b 0 0)) refl

-- ---- how many bytes at most

module _ (on : Channels) (checked : Bool) (b : List ℕ) (bytes : IsBytes b) where
  abbrev Fits : Need → Type 0
  Fits (Whole n) = (2 ≤ n) × (n ≤ 4109)
  Fits (More k) = Unit {0}
  Fits Open = Unit {0}
  Fits (Never z) = Unit {0}

  abbrev Ends : Option Row → Type 0
  Ends (Some r) = Fits (need_data r b r.carries)
  Ends None = Unit {0}

  small : (n : ℕ) → SizeFits n → n ≤ 4
  small n (inl e) = omega arith
  small n (inr (inl e)) = omega arith
  small n (inr (inr e)) = omega arith

  wide_most : (t : Bool) → pick t 8 4 ≤ 8
  wide_most true = omega arith
  wide_most false = omega arith

  open_fits : (t : Bool) → Fits (pick t Open (Never OpcodeUnknown))
  open_fits true = tt
  open_fits false = tt

  row_ends : (op : ℕ) → Ends (row_of op)
  row_ends =
      by_row Ends
      (omega arith, omega (arith, wide_most (eqb (get_or b 1 0) 3), (length-fits (get_or b 2 0) (get_or b 3 0) (bytes 3)).1))
      (lit≤ tt, lit≤ tt)
      (omega arith, omega (arith, wide_most (eqb (get_or b 1 0) 2)))
      (omega arith, omega arith)
      (lit≤ tt, lit≤ tt)
      (lit≤ tt, lit≤ tt)
      (lit≤ tt, lit≤ tt)
      (lit≤ tt, lit≤ tt)
      (open_fits (all_ff b))
      (λ n f. (lit≤ tt, lit≤ tt))
      (λ n f. (omega arith, omega (arith, small n f)))
      (λ n f. (lit≤ tt, lit≤ tt))
      (λ n f. (omega arith, omega (arith, small n f)))
      tt

  -- none has so many bytes, but a RESET
  whole_over : (r : Row) (n : ℕ) → n ≤ 4109 → 4109 < length b → read_off_value checked b r (Whole n) ≡ Err LengthWrong
  whole_over r n m h = sym (taken _ _ (ap not (ne_eqb (length b) n (λ q. omega arith))) refl)

  data_over : (r : Row) (d : Data) → Fits (need_data r b d) → ReadsOff checked b (need_data r b d) (read_off_value checked b r (need_data r b d))
      → 4109 < length b → read_off_value checked b r (need_data r b d) ≡ endless d (all_ff b)
  data_over r (Fixed n) f w h = whole_over r _ f.1 h
  data_over r Length f w h = whole_over r _ f.1 h
  data_over r Pairs f w h = whole_over r _ f.1 h
  data_over r Ones f w h = go (all_ff b) w
    where
      go : (t : Bool) → ReadsOff checked b (pick t Open (Never OpcodeUnknown)) (read_off_value checked b r (pick t Open (Never OpcodeUnknown)))
          → read_off_value checked b r (pick t Open (Never OpcodeUnknown)) ≡ pick t (Ok C.Reset) (Err OpcodeUnknown)
      go true e = e ∙ sym (passed _ _ (ap not (le-leb 2 (length b) (omega arith))) refl)
      go false e = refl

  whole_fits : (n : ℕ) → need_in on b ≡ Whole n → (2 ≤ n) × (n ≤ 4109)
  whole_fits n e = let p = (need_is on b (Whole n) e).1 in subst Fits p.needs (subst Ends p.row (row_ends (get_or b 0 0)))

  -- the second byte is there
  there : (t u : Bool) → u ≡ true → t && u ≡ t
  there true u e = e
  there false u e = refl

  along : (f : Need → Result Command Refusal) (t u : Bool) {x y : Need} {v w : Result Command Refusal} → t ≡ u → f x ≡ v → f y ≡ w → f (pick t x y) ≡ pick u v w
  along f t u {x} {y} {v} {w} e g h = subst (λ (z : Bool). f (pick t x y) ≡ pick z v w) e (go t)
    where
      go : (z : Bool) → f (pick z x y) ≡ pick z v w
      go true = g
      go false = h

  listed-over : (l : Option Row) → ListedTells on b l → Ends l → Says checked b l → 4109 < length b
      → admit_listed on checked b l ≡ overlong on l (get_or b 1 0) (all_ff b)
  listed-over None w q x h = refl
  listed-over (Some r) w q x h =
      let f = read_off_value checked b r in
      let all : ltb (length b) r.told ≡ false = le-ltb (length b) r.told (omega (arith, w.readable.told)) in
      along f (not (channel_on on r.channel)) _ refl refl
      (along f (cycle_wrong r b) _ (there (not (cycle_listed r.cycle (get_or b 1 0))) (ltb 1 (length b)) (lt-ltb 1 (length b) (omega arith))) refl
      (ap (λ (t : Bool). f (pick t (More (r.told - length b)) (need_data r b r.carries))) all ∙ data_over r r.carries q x h))

  too_many : 4109 < length b → admit on checked b ≡ overlong on (row_of (get_or b 0 0)) (get_or b 1 0) (all_ff b)
  unfolding admit
  too_many h =
      sym (passed _ _ (ne_eqb (length b) 0 (λ e. omega arith)) refl)
      ∙ listed-over (row_of (get_or b 0 0)) (row_tells on b (get_or b 0 0)) (row_ends (get_or b 0 0)) (row_says checked b (get_or b 0 0)) h

-- that all this holds, whatever channels are on (02, Q-8)
pub prefix : (on : Channels) → Prefix on
prefix on =
    record {
      whole_stays_lem = whole_stays on;
      never_stays_lem = never_stays on;
      more_left_lem = more_left on;
      more_few = λ b k. need_is on b (More k);
      whole_fits_lem = λ b n h. whole_fits on false b h n;
      whole_in_four = whole_four on;
      reads_off_lem = λ checked b. reads_off checked b on;
      over = too_many on;
    }
