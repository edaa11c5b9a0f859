-- What it is for a channel's change to be its row of the table of effects: where it is accepted, the part and the store are the row's.
use Rattle.std.specs.Prelude.{ℕ, List, ◌≡◌}
use Rattle.base.specs.Bytes.{over}
use Rattle.rules.specs.Rules.Channel.{Channel, Part, Change, next_of, out_of}
use Rattle.rules.specs.Rules.Reply.{kept_bytes}

-- the store after, from the bytes that came with the call and the store before
abbrev pub Becomes : (k : Channel) → Part k → (List ℕ → List ℕ) → List ℕ → Change k → Type 0
Becomes k q store from x = (out_of k x).number ≡ 0 → (next_of k x ≡ q) × ((l : List ℕ) → over (kept_bytes (out_of k x).kept from) l ≡ store l)
