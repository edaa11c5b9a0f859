-- Laws by which the reply's writers meet their contracts: each follows the writes in the code's order.
use Rattle.std.specs.Prelude.{ℕ, suc, ◌+◌, ◌-◌, ◌≤◌, true, List, [], ◌∷◌, ◌++◌, ◌≡◌, refl, length, take, drop, Option}
use Rattle.std.proofs.Common.{true≢false, sym, ap, subst, ◌∙◌, arith, length-append, length-drop, length-take-le}
use borrow.Rule.Slice.PartMut.{mid_of, put_mid}
use Rattle.base.specs.Bytes.{low2, put, over, copied, put-over, put_first, take-over, over-over, tail_lent, tail_back, over-take, drop-over, over_parts, copied-over, copied_all}
use Rattle.crc.specs.Crc.{crc}
use Rattle.wires.specs.Senders.{AllWires}
use Rattle.wires.specs.declared.Packet.{Packet}
use Rattle.peripheral.specs.declared.Completion.{Completion}
use Rattle.rules.specs.Rules.Step.{reply_length, read_length}
use Rattle.rules.specs.Rules.Fits.{plain_body}
use Rattle.rules.specs.Rules.Reply.{header_bytes, body_bytes, closed, reply_bytes, kept_bytes}
use Rattle.rules.proofs.Proofs.Reply.{closed-length}
use Rattle.rules.specs.declared.Body.{Body}
use Rattle.rules.specs.declared.Body.TheVariants as B
use Rattle.rules.specs.declared.Reply.{Reply}
use Rattle.rules.specs.declared.Kept.{Kept}

-- status, then the CRC of all before it
pub finish_by : (l l₁ l₂ : List ℕ) (n status c : ℕ)
    → n ≤ length l
    → l₁ ≡ put n (low2 status) l
    → c ≡ crc (take (n + 2) l₁)
    → l₂ ≡ put (n + 2) (c ∷ []) l₁
    → l₂ ≡ over (closed (take n l) status) l
unfolding closed
finish_by l l₁ l₂ n status c h e₁ ec e₂ =
    let m = take n l in
    let b = m ++ low2 status in
    let hm : length m ≡ n = length-take-le n l h in
    let hb : length b ≡ n + 2 = length-append m (low2 status) ∙ ap (λ (k : ℕ). k + 2) hm in
    let f₁ : l₁ ≡ over b l = e₁ ∙ ap (put n (low2 status)) (sym (over-take l n h)) ∙ put-over m (low2 status) l n hm in
    let fc : c ≡ crc b = ec ∙ ap (λ (z : List ℕ). crc (take (n + 2) z)) f₁ ∙ ap crc (take-over b l (n + 2) hb) in
    e₂ ∙ ap (λ (k : ℕ). put (n + 2) (k ∷ []) l₁) fc ∙ ap (put (n + 2) (crc b ∷ [])) f₁ ∙ put-over b (crc b ∷ []) l (n + 2) hb

-- a message of n bytes, then its end
pub said_by_lem : (l l₁ l₂ m : List ℕ) (n status : ℕ) → l₁ ≡ over m l → n ≡ length m → l₂ ≡ over (closed (take n l₁) status) l₁ → l₂ ≡ over (closed m status) l
said_by_lem l l₁ l₂ m n status e₁ en e₂ =
    let t : take n l₁ ≡ m = ap (take n) e₁ ∙ take-over m l n (sym en) in
    e₂ ∙ ap (λ (z : List ℕ). over (closed z status) l₁) t ∙ ap (over (closed m status)) e₁
    ∙ over-over m (closed m status) l (rw (closed-length m status) (omega arith))

-- the response byte and the header, then the data into the part from the fifth byte on
pub piece_by : (l l₁ part src reads : List ℕ) (code from n : ℕ) (c : Completion)
    → from + n ≤ length reads
    → l₁ ≡ put 0 (code ∷ header_bytes c) l
    → src ≡ take n (drop from reads)
    → part ≡ copied (mid_of 4 (length l₁ - 4) l₁) src (length src)
    → put_mid 4 (length l₁ - 4) l₁ part ≡ over ((code ∷ header_bytes c) ++ take n (drop from reads)) l
unfolding over
piece_by l l₁ part src reads code from n c hs e es p =
    let hd = code ∷ header_bytes c in
    let d = take n (drop from reads) in
    let f : l₁ ≡ over hd l = e ∙ put_first hd l in
    let hn : length d ≡ n = length-take-le n (drop from reads) (rw length-drop (omega arith)) in
    tail_back 4 l₁ part
    ∙ ap (λ (z : List ℕ). take 4 l₁ ++ z)
    (p ∙ ap (λ (z : List ℕ). copied z src (length src)) (tail_lent 4 l₁) ∙ copied_all (drop 4 l₁) src ∙ ap (λ (z : List ℕ). over z (drop 4 l₁)) es
    ∙ ap (λ (k : ℕ). d ++ drop k (drop 4 l₁)) hn)
    ∙ ap (λ (z : List ℕ). take 4 z ++ copied (drop 4 z) (drop from reads) n) f
    ∙ ap (λ (z : List ℕ). z ++ copied (drop 4 (over hd l)) (drop from reads) n) (take-over hd l 4 refl)
    ∙ ap (λ (z : List ℕ). hd ++ (d ++ drop n z)) (drop-over hd l 4 refl)
    ∙ over_parts hd d l 4 n refl hn

-- the same of a source that may hold more, of which the first n bytes are copied
pub piece_first : (l l₁ part src reads : List ℕ) (code from n : ℕ) (c : Completion)
    → from + n ≤ length reads
    → l₁ ≡ put 0 (code ∷ header_bytes c) l
    → src ≡ drop from reads
    → part ≡ copied (mid_of 4 (length l₁ - 4) l₁) src n
    → put_mid 4 (length l₁ - 4) l₁ part ≡ over ((code ∷ header_bytes c) ++ take n (drop from reads)) l
piece_first l l₁ part src reads code from n c hs e es p =
    let m = mid_of 4 (length l₁ - 4) l₁ in
    let d = drop from reads in
    piece_by l l₁ part (take n d) reads code from n c hs e refl
    (p ∙ ap (λ (z : List ℕ). copied m z n) es ∙ copied-over m d n (rw length-drop (omega arith)) ∙ sym (copied_all m (take n d)))

-- the body of the case that it is in
pub by_body : (body case' : Body) (w : AllWires) (l l₁ reads : List ℕ) (code n : ℕ)
    → body ≡ case'
    → l₁ ≡ over (code ∷ body_bytes case' w reads) l
    → n ≡ length (code ∷ body_bytes case' w reads)
    → n ≤ 260
    → (l₁ ≡ over (code ∷ body_bytes body w reads) l) × (n ≡ length (code ∷ body_bytes body w reads)) × (n ≤ 260)
by_body body case' w l l₁ reads code n e p q r =
    subst (λ (z : Body). (l₁ ≡ over (code ∷ body_bytes z w reads) l) × (n ≡ length (code ∷ body_bytes z w reads)) × (n ≤ 260)) (sym e) (p, q, r)

four_more : (k n : ℕ) → k ≡ n → 4 + n ≡ suc (suc (suc (suc k)))
four_more k n e = omega arith

pub piece-length : (c : Completion) (n : ℕ) (w : AllWires) (reads : List ℕ) → read_length ≤ length reads → c.from + c.length ≤ read_length → n ≡ 4 + c.length
    → (code : ℕ) → n ≡ length (code ∷ body_bytes (B.Piece c) w reads)
piece-length c n w reads hs hf e code = e ∙ four_more _ _ (length-take-le c.length (drop c.from reads) (rw length-drop (omega arith)))

-- a packet is not put here
pub no_packet : {X : Type 0} (body : Body) (p : Packet) → body ≡ B.Groups p → plain_body body ≡ true → X
no_packet body p e f = absurd (true≢false (sym f ∙ ap plain_body e))

-- the reply of the case that it is in
pub by_reply : (r r' : Option Reply) (w : AllWires) (l l₁ reads : List ℕ) (n : ℕ)
    → r ≡ r'
    → (l₁ ≡ over (reply_bytes r' w reads) l) × (n ≡ length (reply_bytes r' w reads)) × (n ≤ reply_length)
    → (l₁ ≡ over (reply_bytes r w reads) l) × (n ≡ length (reply_bytes r w reads)) × (n ≤ reply_length)
by_reply r r' w l l₁ reads n e h =
    subst (λ (z : Option Reply). (l₁ ≡ over (reply_bytes z w reads) l) × (n ≡ length (reply_bytes z w reads)) × (n ≤ reply_length)) (sym e) h

-- data kept at the start of a store
pub data_by : (dst dst' src part : List ℕ) (at n : ℕ) → part ≡ take n (drop at src) → dst' ≡ copied dst part (length part)
    → dst' ≡ over (take n (drop at src)) dst
data_by dst dst' src part at n ep e = e ∙ copied_all dst part ∙ ap (λ (z : List ℕ). over z dst) ep

-- the same of a part that may hold more, of which the first n bytes are copied
pub data_first : (dst dst' src part : List ℕ) (at n : ℕ) → at + n ≤ length src → part ≡ drop at src → dst' ≡ copied dst part n
    → dst' ≡ over (take n (drop at src)) dst
data_first dst dst' src part at n h ep e =
    e ∙ ap (λ (z : List ℕ). copied dst z n) ep ∙ copied-over dst (drop at src) n (rw length-drop (omega arith))

pub by_kept : (k k' : Option Kept) (dst dst' src : List ℕ) → k ≡ k' → dst' ≡ over (kept_bytes k' src) dst → dst' ≡ over (kept_bytes k src) dst
by_kept k k' dst dst' src e h = h ∙ ap (λ (z : Option Kept). over (kept_bytes z src) dst) (sym e)
