-- What goes out of channel 0 fits the lent slices: a piece its reply and the read store, a posted write's data the write store, an answer's the read store.
use Rattle.std.specs.Prelude.{ℕ, ◌+◌, ◌%◌, ◌≤◌, true, List, ◌∷◌, ◌≡◌, length}
use Rattle.std.proofs.Common.{true≢false, ap, subst, arith, leb-true}
use Rattle.registers.specs.Registers.{payload_size, reachable}
use Rattle.registers.specs.Laws.{payload_legal_lem, reachable_r010}
use Rattle.registers.specs.declared.Config.{Config}
use Rattle.wires.specs.Senders.{AllWires}
use Rattle.peripheral.specs.Upward.{upward, success_of}
use Rattle.peripheral.specs.Sound.{sound_request}
use Rattle.peripheral.specs.Facts.{ReadyRequest, legal_payload}
use Rattle.peripheral.proofs.Facts.{ready_request, waiting_request}
use Rattle.peripheral.specs.declared.Completion.{Completion}
use Rattle.peripheral.specs.declared.Kind.{Kind}
use Rattle.peripheral.specs.declared.Kind.TheVariants as R
use Rattle.peripheral.specs.declared.Np.{Np}
use Rattle.peripheral.specs.declared.Np.TheVariants.{Free, Waiting, Ready, Failed}
use Rattle.peripheral.specs.declared.Peripheral.{Peripheral}
use Rattle.peripheral.specs.declared.Request.{Request}
use Rattle.rules.specs.Rules.Plan.{PeripheralChange}
use Rattle.rules.specs.Rules.Peripheral as P₀
use Rattle.rules.specs.Rules.Fits.{PieceFits, OutFits, KeptFits}
use Rattle.rules.specs.Statements.Peripheral as P
use Rattle.rules.specs.Statements.Reads as F
use Rattle.rules.proofs.Proofs.Replies.{is_none, head_or}

success_fits : (k : Kind) (q : Request) (sent : ℕ) → ReadyRequest q sent → PieceFits (success_of k q sent)
success_fits R.MemoryRead q sent r = record { most = r.next_most_lem; end = omega (arith, r.next_end, r.made.most) }
success_fits R.IoRead q sent r = record { most = r.next_most_lem; end = omega (arith, r.next_end, r.made.most) }
success_fits R.IoWrite q sent r = record { most = omega arith; end = omega arith }

pub piece-fits : (n : Np) (k : Completion) (ks : List Completion) → sound_request n ≡ true → upward n ≡ k ∷ ks → PieceFits k
unfolding upward
piece-fits Free k ks h e = absurd (true≢false (ap is_none e))
piece-fits (Waiting q) k ks h e = absurd (true≢false (ap is_none e))
piece-fits (Ready q n) k ks h e = subst PieceFits (ap (head_or k) e) (success_fits q.kind q n (ready_request q n h))
piece-fits (Failed q) k ks h e = subst PieceFits (ap (head_or k) e) (record { most = omega arith; end = omega arith })

-- a posted write's data is in the command
abbrev pub DataThere : ℕ → P₀.Act → Type 0
DataThere m (P₀.posts address length from) = from + length ≤ m
DataThere m (P₀.asks q) = Unit {0}
DataThere m P₀.gets = Unit {0}

pub data_there : {c : Config} {b : List ℕ} {a : P₀.Act} → F.Peripheral c b a → DataThere (length b) a
data_there (F.posts e l) = l
data_there (F.asks e) = tt
data_there (F.Peripheral.gets e) = tt

pub acts_fit : {c : Config} {p : Peripheral} {a : P₀.Act} {x : PeripheralChange} (m : ℕ) (w : AllWires) → reachable c ≡ true → sound_request p.request ≡ true
    → P.Did c p a x → DataThere m a → OutFits m w x.out
acts_fit m w r h (P.write_held e) d = (tt, tt)
acts_fit m w r h (P.write_large e f) d = (tt, tt)
acts_fit {c} m w r h (P.posted {A} {L} e f) d =
    let N = payload_size c.r010 in
    let l = leb-true (A % N + L) N f in
    (tt, record { there = d; most = omega (arith, (legal_payload N (payload_legal_lem c.r010 (reachable_r010 c r))).most) })
acts_fit m w r h (P.request_held e) d = (tt, tt)
acts_fit m w r h (P.request_large e f) d = (tt, tt)
acts_fit m w r h (P.asked e f) d = (tt, tt)
acts_fit m w r h (P.none_ready e) d = (tt, tt)
acts_fit {c} {p} m w r h (P.handed_over {k} {ks} e) d = (piece-fits p.request k ks h e, tt)

answer_most : (k : Kind) (q : Request) → q.length ≤ 4096 → P₀.answer_length k q ≤ 4096
answer_most R.MemoryRead q l = l
answer_most R.IoRead q l = l
answer_most R.IoWrite q l = omega arith

pub settled-fits : {p : Peripheral} {o : P₀.Board} {x : PeripheralChange} → sound_request p.request ≡ true
    → P.Settled p o x → KeptFits x.out.kept (length (P₀.given o)) 4096
settled-fits h (P.look_done e) = tt
settled-fits h (P.no_look e) = tt
settled-fits h (P.no_such e) = tt
settled-fits h (P.miscounted e f g) = tt
settled-fits h (P.succeeds {q = q} e f g l) =
    record { there = omega arith; most = answer_most q.kind q (waiting_request q (subst (λ (n : Np). sound_request n ≡ true) e h)).most }
settled-fits h (P.fails e f g l) = tt
settled-fits h (P.no_take e) = tt
settled-fits h (P.took e) = tt
