-- Going round: which senders a packet takes. Over any number of senders, each with a size, and any capacity (01, Wires: GET_VWIRE;
-- there the senders are the up groups, of size 1 each, and the capacity is the operating count).
use Rattle.std.specs.Prelude.{ℕ, zero, suc, ◌+◌, ◌-◌, Bool, List, [], ◌∷◌, ltb, leb}
use Rattle.base.specs.Pick.{pick}

-- the sender after i, of n that are numbered from 0: "going round from the index after the last one sent" (01, Wires)
unfoldable pub after : ℕ → ℕ → ℕ
after n i = pick (ltb (suc i) n) (suc i) 0

-- the senders taken, in order, when `left` of the n senders are still to be asked, from i on: one that waits is taken if it fits,
-- and the packet closes at the first that does not fit ("sends min(pending, operating count) groups, going round", 01, Wires; 02, Q-4)
unfoldable pub turn : (size : ℕ → ℕ) (waits : ℕ → Bool) (n left capacity i : ℕ) → List ℕ
turn size waits n zero capacity i = []
turn size waits n (suc left) capacity i =
    pick (waits i)
    (pick (leb (size i) capacity) (i ∷ turn size waits n left (capacity - size i) (after n i)) [])
    (turn size waits n left capacity (after n i))

-- the place from which the next packet begins: "the index after the last one sent" (01, Wires)
unfoldable pub place_after : ℕ → ℕ → List ℕ → ℕ
place_after n p [] = p
place_after n p (i ∷ is) = place_after n (after n i) is

-- how much of a packet they fill: entries, of which it has at most "operating count" (01, Wires)
unfoldable pub sizes : (ℕ → ℕ) → List ℕ → ℕ
sizes size [] = 0
sizes size (i ∷ is) = size i + sizes size is
