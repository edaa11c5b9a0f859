-- What the liftings of all calls share: chains of the same guards, one outcome that meets another, bytes that hold a state.
use Rattle.std.specs.Prelude.{ℕ, zero, suc, ◌%◌, ◌≤◌, Bool, true, false, ◌||◌, not, List, [], ◌≡◌, refl, ltb, length, take, drop, Option, Some, None}
use Rattle.std.proofs.Common.{sym, ap, ◌∙◌, subst, arith, le-ltb, ltb-true}
use Rattle.base.specs.Pick.{pick}
use Rattle.base.specs.Bytes.{over, over_none, length_over}
use Rattle.state.specs.State.{State}
use Rattle.state.specs.Sound.{Sound}
use Rattle.state.specs.Layout.{state_length, packed, unpacked, holds}
use Rattle.state.specs.Packing.{packed-length, unpacked-over, holds-packed, holds-sound}
use Rattle.rules.specs.Rules.Channel.{Channel, Board}
use Rattle.rules.specs.Rules.Lift as L
use Rattle.rules.specs.Rules.Reply.{kept_bytes}
use Rattle.rules.specs.Rules.Step as S
use Rattle.rules.specs.Rules.Step.{Call, Outcome}
use Rattle.rules.specs.Rules.Calls.{word, kept}
use Rattle.rules.proofs.Proofs.Refusals.{SettledAs, board_settled}
use Rattle.rules.proofs.Proofs.WholeCalls.{number_word}
use Rattle.rules.specs.declared.Kept.{Kept}
use Rattle.rules.specs.Rules.Plan.{Plan}
use Rattle.promises.specs.ByteRuns.{ByteWorld, ByteOutcome}
use Rattle.promises.specs.Statements.Lifted.{Holding, world_of, value_of, lent_reply, lent_report, Meets}

-- ---- two chains of the same guards

-- the same guards on both sides, on the one under one "or"
module _ {A B : Type 0} (M : A → B → Type 0) {x y : A} {r s : B} (p : M x r) (q : M y s) where
  pub one : (a : Bool) → M (pick a x y) (pick a r s)
  one true = p
  one false = q

  pub two : (a b : Bool) → M (pick a x (pick b x y)) (pick (a || b) r s)
  two true b = p
  two false b = one b

  pub three : (a b c : Bool) → M (pick a x (pick b x (pick c x y))) (pick (a || (b || c)) r s)
  three true b c = p
  three false b c = two b c

-- ---- one outcome

value_word : (n v : ℕ) → ltb n 256 ≡ true → value_of (word n v) ≡ v
value_word n v h = omega (arith, ltb-true n 256 h)

pub meets : {reply report : List ℕ} {x : ByteOutcome} {o : Outcome} → x.word ≡ word o.number o.value → ltb o.number 256 ≡ true
    → x.reply ≡ over o.reply reply → take o.value x.reply ≡ o.reply → x.report ≡ over o.report report
    → world_of x.next ≡ o.next → Holding x.next → Meets reply report x o
meets {reply} {report} {x} {o} e small r t p w h =
    let value : value_of x.word ≡ o.value = ap value_of e ∙ value_word o.number o.value small in
    record {
      word = e;
      number = ap (λ (n : ℕ). n % 256) e ∙ number_word o.number o.value small;
      value = value;
      reply = r;
      said = ap (λ (n : ℕ). take n x.reply) value ∙ t;
      report = p;
      world = w;
      holding = h;
    }

-- the bytes after a call hold the state that it left
pub held_after : (st write read : List ℕ) (s : State) → state_length ≤ length st → Sound s → Holding (record { state = kept s st; write = write; read = read })
held_after st write read s long good =
    let fits = subst (λ (n : ℕ). n ≤ length st) (sym (packed-length s)) long in
    record { long = subst (λ (n : ℕ). state_length ≤ n) (sym (length_over (packed s) st fits)) long; passes = holds-packed s st good }

pub world-after : (st write read : List ℕ) (s : State) → Sound s
    → world_of (record { state = kept s st; write = write; read = read }) ≡ record { state = s; write = write; read = read }
world-after st write read s good = ap (λ (t : State). record { state = t; write = write; read = read }) (unpacked-over s st good)

pub no_bytes : (n : ℕ) → take {A = ℕ} n [] ≡ []
no_bytes zero = refl
no_bytes (suc n) = refl

drop_none : (n : ℕ) → drop {A = ℕ} n [] ≡ []
drop_none zero = refl
drop_none (suc n) = refl

pub plain : (n : ℕ) → n ≡ word n 0
plain n = omega arith

settled_small : (n : ℕ) (s : State) (p : Plan) → SettledAs n s p → ltb n 256 ≡ true
settled_small zero s p h = refl
settled_small (suc zero) s p h = absurd h
settled_small (suc (suc zero)) s p h = absurd h
settled_small (suc (suc (suc n))) s p h = h.1

-- a board call's plan or a reset carried out on bytes: no reply, the value 0
pub board : (st : List ℕ) → state_length ≤ length st → (write read form report : List ℕ) (n : ℕ) (s : State) → ltb n 256 ≡ true → Sound s
    → Meets [] form (record { word = n; reply = []; report = over report form; next = record { state = kept s st; write = write; read = read } })
    (record { number = n; value = 0; reply = []; report = report; next = record { state = s; write = write; read = read } })
board st long write read form report n s small good =
    meets (plain n) small (sym (over_none [])) refl refl (world-after st write read s good) (held_after st write read s long good)

-- a plan without data leaves the read store
pub none_kept : (k : Option Kept) (l : List ℕ) → over (kept_bytes k []) l ≡ l
none_kept None l = over_none l
none_kept (Some d) l = ap (λ (x : List ℕ). over x l) (ap (take d.count) (drop_none d.from) ∙ no_bytes d.count) ∙ over_none l

-- a board call's number
pub small : (s : State) (k : Channel) (o : Board k) → ltb (L.settled k s o).number 256 ≡ true
small s k o = let p = L.settled k s o in settled_small p.number s p (board_settled k s o)

-- ---- one call

module _ (v : ByteWorld) (h : Holding v) where
  pub good : Sound (unpacked v.state)
  good = holds-sound v.state h.long h.passes

  pub long : ltb (length v.state) state_length ≡ false
  long = le-ltb _ _ h.long

  pub pass : not (holds v.state) ≡ false
  pass = ap not h.passes

  pub same : Holding (record { state = v.state; write = v.write; read = v.read })
  same = record { long = h.long; passes = h.passes }

  -- a refusal before the call's own rules
  pub short : (reply report : List ℕ) → Meets reply report (record { word = 10; reply = reply; report = report; next = v }) (S.only 10 (world_of v))
  short reply report = meets refl refl (sym (over_none reply)) refl (sym (over_none report)) refl same

-- ---- a state slice that is too short: every call is 10 then, and leaves all else

module _ (v : ByteWorld) where
  pub record Ten (c : Call) (x : ByteOutcome) : Type 0 where
    pub is_ten : x.word ≡ 10
    pub reply_same : x.reply ≡ lent_reply c
    pub report_same : x.report ≡ lent_report c
    pub write_same : x.next.write ≡ v.write
    pub read_same : x.next.read ≡ v.read

  pub ten : {c : Call} {st : List ℕ}
      → Ten c (record { word = 10; reply = lent_reply c; report = lent_report c; next = record { state = st; write = v.write; read = v.read } })
  ten = record { is_ten = refl; reply_same = refl; report_same = refl; write_same = refl; read_same = refl }
