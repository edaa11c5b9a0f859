-- What no channel telling on another asks of channel 0: what its calls ask and leave of its stores.
use Rattle.std.specs.Prelude.{ℕ, true, false, ◌||◌, List, [], ◌∷◌, ◌≡◌, refl, ltb, get_or, length}
use Rattle.rules.specs.Rules.Plan.{PeripheralChange}
use Rattle.rules.specs.Rules.Out.{kept_from}
use Rattle.std.proofs.Common.{true≢false, sym, ap, ◌∙◌}
use Rattle.base.specs.Bytes.{over}
use Rattle.wires.specs.Senders.{AllWires}
use Rattle.peripheral.specs.declared.Peripheral.{Peripheral}
use Rattle.rules.specs.Rules.Peripheral as P₀
use Rattle.rules.specs.Rules.Channel.{peripheral, own_body}
use Rattle.rules.specs.Rules.Reply.{body_bytes, kept_bytes}
use Rattle.rules.specs.Rules.Step.{World, short_peripheral, write_length, read_length, take_length}
use Rattle.rules.specs.Statements.Peripheral as P
use Rattle.rules.specs.Statements.Apart.{stores_of}
use Rattle.rules.proofs.Proofs.Reply.{over_long}
use Rattle.rules.proofs.Proofs.Stores.{lacks, Owns}
use Rattle.rules.specs.declared.Body.{Body}
use Rattle.rules.specs.declared.Body.TheVariants as B

-- its bodies read no wires
own_bytes : (body : Body) (w w' : AllWires) (read : List ℕ) → own_body peripheral body ≡ true → body_bytes body w read ≡ body_bytes body w' read
own_bytes B.Nothing w w' read o = refl
own_bytes (B.Word n) w w' read o = refl
own_bytes (B.Piece c) w w' read o = refl
own_bytes (B.Groups p) w w' read o = absurd (true≢false (sym o))

-- number 10 of its calls goes by its own stores
short_alike : (w v : World) (o : P₀.Board) → stores_of peripheral w.write w.read ≡ stores_of peripheral v.write v.read
    → short_peripheral o w ≡ short_peripheral o v
short_alike w v (P₀.look report) e = refl
short_alike w v (P₀.answer serial success d) e = ap (λ (l : List (List ℕ)). ltb (length (get_or l 1 [])) read_length) e
short_alike w v (P₀.take_write report) e = ap (λ (l : List (List ℕ)). ltb (length (get_or l 0 [])) write_length || ltb (length report) take_length) e

-- an answer's data goes to a read store that was long enough
room : {p : Peripheral} {o : P₀.Board} {c : PeripheralChange} (w : World) → P.Settled p o c → short_peripheral o w ≡ false
    → ltb (length (over (kept_bytes c.out.kept (P₀.given o)) w.read)) read_length ≡ ltb (length w.read) read_length
unfolding over
room w (P.look_done e) s = refl
room w (P.no_look e) s = refl
room w (P.no_such e) s = refl
room w (P.miscounted e f g) s = refl
room w (P.succeeds {bytes = d} {q = q} e f g n) s = over_long (kept_bytes (kept_from 0 (P₀.answer_length q.kind q)) d) w.read read_length s
room w (P.fails e f g n) s = refl
room w (P.no_take e) s = refl
room w (P.took e) s = refl

-- its stores, and number 10 of an exchange, with data laid over one of them
pub owns : Owns peripheral
owns =
    record {
      nothing = refl;
      bytes =
          λ body w v o p e. own_bytes body w.state.wires v.state.wires w.read o ∙ ap
          (λ (l : List (List ℕ)). body_bytes body v.state.wires (get_or l 1 [])) e;
      written = λ d write read write' read' e. ap (λ (l : List (List ℕ)). over d (get_or l 0 []) ∷ get_or l 1 [] ∷ []) e;
      answered = λ d write read write' read' e. ap (λ (l : List (List ℕ)). get_or l 0 [] ∷ over d (get_or l 1 []) ∷ []) e;
      lack_written =
          λ kept b write read write' read' o e h reply. ap (λ (l : List (List ℕ)). lacks reply (over (kept_bytes kept b) (get_or l 0 [])) (get_or l 1 [])) e;
      lack_answered =
          λ kept b write read write' read' o e h reply. ap (λ (l : List (List ℕ)). lacks reply (get_or l 0 []) (over (kept_bytes kept b) (get_or l 1 []))) e;
      short_alike_lem = short_alike;
      room = λ w c p o x d s. room w d s;
    }
