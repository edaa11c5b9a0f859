-- What no channel telling on another asks of a channel and its stores; and that a channel without stores has it.
use Rattle.std.specs.Prelude.{ℕ, Bool, true, false, ◌||◌, List, [], ◌≡◌, refl, ltb, length, Option, None}
use Rattle.std.proofs.Common.{sym, subst, ◌∙◌}
use Rattle.base.specs.Bytes.{over}
use Rattle.registers.specs.declared.Config.{Config}
use Rattle.rules.specs.Rules.Channel.{Channel, peripheral, Part, Board, Change, out_of, given, own_body, own_kept, part, same}
use Rattle.rules.specs.Rules.Reply.{body_bytes, kept_bytes}
use Rattle.rules.specs.Rules.Step.{World, short_for, write_length, read_length, reply_length}
use Rattle.rules.specs.Statements.Plans.{Settled}
use Rattle.rules.specs.Statements.Apart.{stores_of}
use Rattle.rules.proofs.Proofs.Channels as L
use Rattle.rules.proofs.Proofs.Others.{own_other, settles_other}
use Rattle.rules.specs.declared.Body.{Body}
use Rattle.rules.specs.declared.Kept.{Kept}

-- number 10 of an exchange, by the stores
abbrev pub lacks : (reply write read : List ℕ) → Bool
lacks reply write read = ltb (length reply) reply_length || (ltb (length write) write_length || ltb (length read) read_length)

abbrev pub SameLack : (write read write' read' : List ℕ) → Type 0
SameLack write read write' read' = (reply : List ℕ) → lacks reply write read ≡ lacks reply write' read'

-- its stores in two worlds are the same
abbrev SameStores : Channel → (write read write' read' : List ℕ) → Type 0
SameStores k write read write' read' = stores_of k write read ≡ stores_of k write' read'

-- a body's bytes in a world
abbrev pub body_in : World → Body → List ℕ
body_in w body = body_bytes body w.state.wires w.read

-- a body of a channel's own reads none but its part and its stores, data of its own goes to none but these, and its calls ask for none but these
pub record Owns (k : Channel) : Type 0 where
  pub nothing : own_kept k None ≡ true
  pub bytes : (body : Body) (w v : World) → own_body k body ≡ true → part k w.state ≡ part k v.state
      → SameStores k w.write w.read v.write v.read → body_in w body ≡ body_in v body
  -- the same data laid over a store of two worlds
  pub written : (d write read write' read' : List ℕ) → SameStores k write read write' read' → SameStores k (over d write) read (over d write') read'
  pub answered : (d write read write' read' : List ℕ) → SameStores k write read write' read' → SameStores k write (over d read) write' (over d read')
  pub lack_written : (kept : Option Kept) (b write read write' read' : List ℕ) → own_kept k kept ≡ true → SameStores k write read write' read'
      → SameLack write read write' read'
      → SameLack (over (kept_bytes kept b) write) read (over (kept_bytes kept b) write') read'
  pub lack_answered : (kept : Option Kept) (b write read write' read' : List ℕ) → own_kept k kept ≡ true → SameStores k write read write' read'
      → SameLack write read write' read'
      → SameLack write (over (kept_bytes kept b) read) write' (over (kept_bytes kept b) read')
  pub short_alike_lem : (w v : World) (o : Board k) → SameStores k w.write w.read v.write v.read → short_for k o w ≡ short_for k o v
  -- what a call of the board keeps goes to a read store that was long enough
  pub room : (w : World) (c : Config) (p : Part k) (o : Board k) (x : Change k) → Settled k c p o x → short_for k o w ≡ false
      → ltb (length (over (kept_bytes (out_of k x).kept (given k o)) w.read)) read_length ≡ ltb (length w.read) read_length

-- ---- a channel without stores: it keeps nothing, its bodies read none, and its calls are lent none

-- what holds of stores as they are holds of them with its data laid over
kept_none : (Q : (List ℕ → List ℕ) → Type 0) (kept : Option Kept) (b : List ℕ) → kept ≡ None → Q (λ l. l) → Q (over (kept_bytes kept b))
unfolding over
kept_none Q kept b e q = subst (λ (z : Option Kept). Q (over (kept_bytes z b))) (sym e) q

pub kept_other : (Q : (List ℕ → List ℕ) → Type 0) (k : Channel) → same peripheral k ≡ false → (kept : Option Kept) (b : List ℕ)
    → own_kept k kept ≡ true → Q (λ l. l)
    → Q (over (kept_bytes kept b))
kept_other Q k e kept b o = kept_none Q kept b (own_other k e kept o)

module _ (k : Channel) (other : same peripheral k ≡ false) (none : (write read : List ℕ) → stores_of k write read ≡ []) (keeps : own_kept k None ≡ true)
    (bytes : (body : Body) (w v : World) → own_body k body ≡ true → part k w.state ≡ part k v.state → body_in w body ≡ body_in v body)
    (free : (o : Board k) (w : World) → short_for k o w ≡ false)
  where
    pub storeless : Owns k
    storeless =
        record {
          nothing = keeps;
          bytes = λ body w v o p e. bytes body w v o p;
          written = λ d write read write' read' e. none _ _ ∙ sym (none _ _);
          answered = λ d write read write' read' e. none _ _ ∙ sym (none _ _);
          lack_written = λ kept b write read write' read' o e h.
              kept_other (λ (f : List ℕ → List ℕ). SameLack (f write) read (f write') read') k other kept b o h;
          lack_answered = λ kept b write read write' read' o e h.
              kept_other (λ (f : List ℕ → List ℕ). SameLack write (f read) write' (f read')) k other kept b o h;
          short_alike_lem = λ w v o e. free o w ∙ sym (free o v);
          room = λ w c p o x d s.
              kept_none (λ (f : List ℕ → List ℕ). ltb (length (f w.read)) read_length ≡ ltb (length w.read) read_length) (out_of k x).kept (given k o)
              (settles_other k other p o x (L.settled k c p o x d)) refl;
        }
