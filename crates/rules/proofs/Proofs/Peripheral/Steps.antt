-- One accepted GET_PC by what is held: the completion that `upward` has is the piece that begins where the bytes sent end. And the look and the take.
use Rattle.std.specs.Prelude.{ℕ, suc, ◌<◌, Bool, true, List, [], ◌∷◌, ◌≡◌}
use Rattle.std.proofs.Math.Bool.{true≢false}
use Rattle.std.proofs.Math.Path.{refl, ap}
use Rattle.std.proofs.Common.{sym, ◌∙◌, arith, eq-eqb, ne_eqb}
use Rattle.base.specs.Pick.{pick}
use Rattle.pieces.specs.Edges.{edge_of_lem}
use Rattle.peripheral.specs.Upward.{upward, handed, bare, success_of, after_success}
use Rattle.peripheral.specs.Facts.{ReadyRequest}
use Rattle.peripheral.proofs.Facts.{ready_request, failed_request}
use Rattle.peripheral.specs.declared.Completion.{Completion}
use Rattle.peripheral.specs.declared.Kind.{Kind}
use Rattle.peripheral.specs.declared.Kind.TheVariants.{MemoryRead, IoRead, IoWrite}
use Rattle.peripheral.specs.declared.Np.{Np}
use Rattle.peripheral.specs.declared.Np.TheVariants.{Free, Waiting, Ready, Failed}
use Rattle.peripheral.specs.declared.Request.{Request}
use Rattle.peripheral.specs.Sound.{sound_request}
use Rattle.state.specs.Facts.{sound_request_lem}
use Rattle.state.specs.Sound.{Sound}
use Rattle.state.specs.Status.{status}
use Rattle.rules.specs.Rules.Peripheral.{look, look_report, take_report}
use Rattle.rules.specs.Rules.Channel.{peripheral}
use Rattle.rules.specs.Rules.Lift.{lift}
use Rattle.rules.specs.Rules.Reply.{closed}
use Rattle.rules.specs.Rules.Step.{World, Call, exchange, board, Outcome, step, served}
use Rattle.rules.specs.Statements.Peripheral as P
use Rattle.rules.specs.Statements.Cases as C
use Rattle.rules.specs.Statements.Cases.{Case}
use Rattle.rules.specs.Statements.Requests.{gets, held, serial_of}
use Rattle.rules.specs.Statements.View.{Move, sent as went}
use Rattle.rules.specs.Statements.PostedWrites.{takes_with}
use Rattle.rules.specs.Statements.Demand3.{header, piece_body}
use Rattle.rules.specs.Statements.Peripheral.Steps.{pieces_of, edge_of, PieceGot, BareGot, SuccessGot, GotFrom, Looked, Took, PeripheralSteps}
use Rattle.rules.proofs.Proofs.Cases.{cases}
use Rattle.rules.proofs.Proofs.Effects.{effects}
use Rattle.rules.proofs.Proofs.Requests.{got-event}
use Rattle.rules.proofs.Proofs.View.{view_as}
use Rattle.rules.proofs.Proofs.Owed.{body_of}
use Rattle.rules.proofs.Proofs.Demand3.{reading, read_piece, piece_ready, piece-handed, piece_body_lem, bare_body}

-- ---- GET_PC

-- an outcome that hands over the first of these completions
module _ (w : World) (o : Outcome) (k : Completion) (ks : List Completion)
    (said : o.reply ≡ closed (0x08 ∷ body_of k w.read) (status o.next.state)) where
  replies : (c : Completion) (body : List ℕ) → k ∷ ks ≡ c ∷ [] → body_of c w.read ≡ body → o.reply ≡ closed (0x08 ∷ body) (status o.next.state)
  replies c body e h =
      let same : k ≡ c = cc in
      said ∙ ap (λ (x : List ℕ). closed (0x08 ∷ x) (status o.next.state)) (ap (λ (x : Completion). body_of x w.read) same ∙ h)

  bare-got : (cycle : ℕ) (q : Request) → q.tag < 16 → k ∷ ks ≡ bare cycle q ∷ [] → held o.next ≡ Free → BareGot cycle q o
  bare-got cycle q t e f = record { reply = replies (bare cycle q) (header cycle q.tag 0) e (bare_body cycle q w.read t); free = f }

  -- the bytes sent end at an edge, and what begins there is the piece of the same number
  piece-got : (q : Request) (sent : ℕ) → reading q.kind ≡ true → ReadyRequest q sent → k ∷ ks ≡ upward (Ready q sent)
      → held o.next ≡ handed (Ready q sent) → PieceGot w q sent o
  piece-got q sent r m e f =
      let p : 0 < q.payload = omega (arith, m.made.payload.least) in
      let at = edge_of_lem q.address q.length q.payload sent p m.short m.edge in
      let j = at.0 in
      let ready = piece_ready q r m.made.least p j at.1 in
      let left = f ∙ ap (λ (s : ℕ). handed (Ready q s)) at.2 ∙ piece-handed q r m.made.least p j at.1 in
      let Left : Bool → Np = λ t. pick t Free (Ready q (edge_of q (suc j))) in
      record {
        piece = j;
        begins = at.2;
        is_one = at.1;
        reply =
            replies (read_piece q j) (piece_body q.address q.length q.payload q.tag w.read j)
            (e ∙ ap (λ (s : ℕ). upward (Ready q s)) at.2 ∙ ready) (piece_body_lem q w.read m.made j at.1);
        more = λ l. left ∙ ap Left (ne_eqb (suc j) (pieces_of q) (λ z. omega arith));
        last = λ z. left ∙ ap Left (eq-eqb (suc j) (pieces_of q) z);
      }

  success_got : (t : Kind) (q : Request) (sent : ℕ) → q.kind ≡ t → ReadyRequest q sent → k ∷ ks ≡ upward (Ready q sent)
      → held o.next ≡ handed (Ready q sent) → SuccessGot t w q sent o
  unfolding upward handed
  success_got MemoryRead q sent h m e f = piece-got q sent (ap reading h) m e f
  success_got IoRead q sent h m e f = piece-got q sent (ap reading h) m e f
  success_got IoWrite q sent h m e f =
      bare-got 0x06 q m.made.tag (e ∙ ap (λ (t : Kind). success_of t q sent ∷ []) h) (f ∙ ap (λ (t : Kind). after_success t q sent) h)

  got-from : (n : Np) → sound_request n ≡ true → k ∷ ks ≡ upward n → held o.next ≡ handed n → GotFrom w n o
  unfolding upward handed
  got-from Free s e f = true≢false (cc)
  got-from (Waiting q) s e f = true≢false (cc)
  got-from (Ready q sent) s e f = success_got q.kind q sent refl (ready_request q sent s) e f
  got-from (Failed q) s e f = bare-got 0x0E q (failed_request q s).tag e f

got_of : (w : World) (c : Call) (o : Outcome) → Sound w.state → Move w c o gets → GotFrom w (held w) o
got_of w c o s (went k ks u a b d r v) = got-from w o k ks r (held w) (sound_request_lem w.state s.is_sound) (sym u) a

-- ---- the look and the take

looked : (w : World) (report : List ℕ) {o : Outcome} → Case w (board peripheral (look report)) o → o.number ≡ 0 → o.next ≡ w → Looked w o
unfolding served lift
looked w report (C.idle n q) z e = absurd (omega (arith, q.least))
looked w report (C.settles _ _ x h (P.look_done {q = q} f)) z e =
    record { request = q; waits = f; report = ap (λ (n : Np). look_report n (serial_of w)) f; unchanged = e }
looked w report (C.settles _ _ x h (P.no_look f)) z e = absurd (omega arith)

took : (w : World) (report : List ℕ) {o : Outcome} → Case w (takes_with report) o → o.number ≡ 0 → Took w o
unfolding served lift
took w report (C.idle n q) z = absurd (omega (arith, q.least))
took w report (C.settles _ _ x h (P.no_take f)) z = absurd (omega arith)
took w report (C.settles _ _ x h (P.took {x = p} f)) z =
    record { write = p; was = f; report = ap take_report f; free = refl; store = refl }

pub peripheral_steps : PeripheralSteps
peripheral_steps =
    record {
      get = λ w b r s e n.
          let c = exchange b r in
          got_of w c (step w c) s (view_as w c (got-event w.state b r (step w c) (eq-eqb _ 0 n) e));
      look = λ w report n. looked w report (cases w (board peripheral (look report))) n (effects w (board peripheral (look report)) n);
      take = λ w report n. took w report (cases w (takes_with report)) n;
    }
