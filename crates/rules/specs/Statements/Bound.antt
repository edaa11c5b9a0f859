-- P21. "A pending group, with its value when sent, is sent by the third accepted GET_VWIRE unless a start, such a reset or a disabling comes first" (01,
-- Wires); "The bound of three in document 01 becomes a bound from the number of senders and the operating count, proved once for every count" (02, Q-4).
use Rattle.std.specs.Prelude.{ℕ, zero, suc, ◌+◌, ◌*◌, ◌/◌, ◌<◌, ◌≤◌, Bool, true, ◌&&◌, List, [], ◌∷◌, ◌++◌, ◌≡◌, eqb, ltb, get_or, length, take, drop}
use Rattle.base.specs.Pick.{pick}
use Rattle.wires.specs.Table.{is_group}
use Rattle.wires.specs.Groups.{mark_at}
use Rattle.state.specs.Sound.{Sound}
use Rattle.rules.specs.Rules.Channel.{wires}
use Rattle.rules.specs.Rules.Step.{World, Call, step, run, all_handed}
use Rattle.rules.specs.Statements.Events.{unended}
use Rattle.rules.specs.Statements.Requests.{without}
use Rattle.rules.specs.Statements.Wires.Rows.{some_line}
use Rattle.rules.specs.Statements.WireEvents.{gets, wire_event, one_if_gets, gets_in, wires_of, groups_of, lines_of, count_of}
use Rattle.rules.specs.Statements.WireSteps.{next_turn, waits_at, entries_at}

-- ---- what is sent, and when

-- a reply (response byte, group count less one, index and data pairs, status, CRC) has these entries, one behind the other, after `at` others and within its
-- count ("the group count less one", "then index and data pairs", 01, Commands)
pub record Carries (reply entries : List ℕ) : Type 0 where
  pub at : ℕ
  pub counted : at * 2 + length entries ≤ (get_or reply 1 0 + 1) * 2
  pub bytes : take (length entries) (drop (2 + at * 2) reply) ≡ entries

-- an accepted GET_VWIRE of the run carries the sender, with its value of just before, and what comes before it in the run measures less than this ("with its
-- value when sent, is sent by", 01, Wires)
pub record SentBy (measure : World → List Call → ℕ) (k limit : ℕ) (w : World) (cs : List Call) : Type 0 where
  pub before : List Call
  pub call : Call
  pub after : List Call
  pub split : cs ≡ before ++ (call ∷ after)
  pub is_get : wire_event (run w before) call ≡ gets
  pub soon : measure w before < limit
  pub carries : Carries (step (run w before) call).reply (entries_at (wires_of (run w before)) k)

-- ---- the shares

-- max(1, c / 2): a packet of operating count c that leaves one waiting takes so many senders at least, each of one entry or two (02, Q-4: "a bound from the
-- number of senders and the operating count"; docs/DECISIONS.md, 67)
abbrev pub share_of : ℕ → ℕ
share_of c = pick (ltb c 2) 1 (c / 2)

-- a call's: an accepted GET_VWIRE's, by the operating count in force (02, Q-4)
abbrev pub share_in : World → Call → ℕ
share_in w c = pick (eqb (one_if_gets (wire_event w c)) 1) (share_of (count_of w)) 0

-- .. of all accepted GET_VWIREs of a run (02, Q-4)
unfoldable pub shares_in : World → List Call → ℕ
shares_in w [] = 0
shares_in w (c ∷ cs) = share_in w c + shares_in (step w c).next cs

-- the sender d turns on (01, Wires: "going round")
unfoldable pub turns_on : ℕ → ℕ → ℕ
turns_on zero k = k
turns_on (suc d) k = turns_on d (next_turn k)

-- ---- the statements: of a run without "a start, such a reset or a disabling" (01, Wires) or a packet that counts as a platform reset (02, Q-1)

-- a sender waits, with d turns from the place to it; once the shares of the accepted GET_VWIREs come to more than d, it has been sent, and those before that
-- one come to d at most (02, Q-4: "proved once for every count")
abbrev pub SentInTurn : Type 0
SentInTurn =
    (w : World) → Sound w.state → (k d : ℕ) → d < 259 → turns_on d (groups_of w).place ≡ k → waits_at (wires_of w) k ≡ true
    → (cs : List Call) → all_handed cs ≡ true → unended wires w cs ≡ true → d < shares_in w cs → SentBy shares_in k (suc d) w cs

-- an accepted GET_VWIRE while the operating count is less than c (02, Q-4: "the operating count")
abbrev pub gets_below : ℕ → World → Call → Bool
gets_below c w x = eqb (one_if_gets (wire_event w x)) 1 && ltb (count_of w) c

-- so by the B-th accepted GET_VWIRE, where B * max(1, c / 2) is 259 or more, the number of senders, and each of them had an operating count of c or more
-- (02, Q-4: "a bound from the number of senders and the operating count")
abbrev pub SentByTheLast : Type 0
SentByTheLast =
    (w : World) → Sound w.state → (k : ℕ) → k < 259 → waits_at (wires_of w) k ≡ true
    → (c B : ℕ) → 259 ≤ B * share_of c → (cs : List Call) → all_handed cs ≡ true → unended wires w cs ≡ true → without (gets_below c) w cs ≡ true
    → B ≤ gets_in w cs → SentBy gets_in k B w cs

-- a line waits (02, Q-4: "a line that already waits to be sent")
abbrev pub line_waits : World → Call → Bool
line_waits w c = some_line (lines_of w).waits

-- with no line waiting anywhere in the run the senders are three: B * max(1, c / 2) is 3 or more (01, Wires: the three up groups)
abbrev pub GroupSent : Type 0
GroupSent =
    (w : World) → Sound w.state → (g : ℕ) → is_group g ≡ true → mark_at (groups_of w) g ≡ true
    → (c B : ℕ) → 3 ≤ B * share_of c → (cs : List Call) → all_handed cs ≡ true → unended wires w cs ≡ true → without (gets_below c) w cs ≡ true
    → without line_waits w cs ≡ true → B ≤ gets_in w cs → SentBy gets_in (g + 252) B w cs

-- "A pending group, .. is sent by the third accepted GET_VWIRE unless a start, such a reset or a disabling comes first" (01, Wires), whatever the operating
-- counts, no line waiting in the run; each call hands over bytes
abbrev pub SentByTheThird : Type 0
SentByTheThird =
    (w : World) → Sound w.state → (g : ℕ) → is_group g ≡ true → mark_at (groups_of w) g ≡ true
    → (cs : List Call) → all_handed cs ≡ true → unended wires w cs ≡ true → without line_waits w cs ≡ true → 3 ≤ gets_in w cs → SentBy gets_in (g + 252) 3 w cs

-- all of these (02, Q-4: "The bound of three in document 01 becomes a bound from the number of senders and the operating count")
pub record Bound : Type 0 where
  pub in_turn : SentInTurn
  pub by_the_last_lem : SentByTheLast
  pub group : GroupSent
  pub by_the_third : SentByTheThird
