-- 01, Sound state: "a held request or write is one that a command makes under the sizes recorded with it". The clauses of SoundMeans hold of
-- exactly those that an accepted command of some sound state makes.
use Rattle.std.specs.Prelude.{ℕ, ◌^◌, ◌<◌, true, List, ◌↔◌, ◌≡◌, Option, Some, None}
use Rattle.peripheral.specs.declared.Request.{Request}
use Rattle.peripheral.specs.declared.Np.{Np}
use Rattle.peripheral.specs.declared.Np.TheVariants.{Free, Waiting, Ready, Failed}
use Rattle.peripheral.specs.declared.Posted.{Posted}
use Rattle.state.specs.State.{State}
use Rattle.state.specs.Sound.{Sound}
use Rattle.rules.specs.Rules.Step.{World, exchange, step, are_bytes}
use Rattle.rules.specs.Statements.Fields.{byte, is_posted, is_non_posted}
use Rattle.rules.specs.Statements.Sizes.{payload_of, read_size_of}
use Rattle.rules.specs.Statements.Requests.{held, serial_of}
use Rattle.rules.specs.Statements.PostedWrites.{held_write}
use Rattle.rules.specs.Statements.Peripheral.SoundMeans.{Made, PostedMade}

-- a command that some sound state accepts, in bytes; number 0 says that the stores are long enough (of "one that a command makes", 01, Sound state)
pub record Accepting : Type 0 where
  pub world : World
  pub command : List ℕ
  pub reply : List ℕ
  pub sound : Sound world.state
  pub bytes : are_bytes command ≡ true
  pub number : (step world (exchange command reply)).number ≡ 0

-- the world after it: what "a command makes" is held there (01, Sound state)
abbrev pub after_it : Accepting → World
after_it a = (step a.world (exchange a.command a.reply)).next

-- it is a non-posted request: q is held after it, "with its .. payload and read sizes then in force and a serial"
pub record MakesRequest (q : Request) (n : ℕ) : Type 0 where
  pub by : Accepting
  pub asks : is_non_posted (byte by.command 0) ≡ true
  pub payload : q.payload ≡ payload_of by.world.state.config
  pub readsize : q.readsize ≡ read_size_of by.world.state.config
  pub holds : held (after_it by) ≡ Waiting q
  pub serial : serial_of (after_it by) ≡ n

-- it is a posted write: t is held after it, "with its payload size"
pub record MakesWrite (t : Posted) : Type 0 where
  pub by : Accepting
  pub posts : is_posted (byte by.command 0) ≡ true
  pub payload : t.payload ≡ payload_of by.world.state.config
  pub holds : held_write (after_it by) ≡ Some t

-- so of what is held, in any phase, and the last serial given
-- ("the request's serial the last given", 01, Sound state; "until its last completion is sent", 01, Requests, answers, pieces)
abbrev pub RequestBy : Np → ℕ → Type 0
RequestBy Free n = Unit {0}
RequestBy (Waiting q) n = MakesRequest q n
RequestBy (Ready q sent) n = MakesRequest q n
RequestBy (Failed q) n = MakesRequest q n

-- .. and of a held write (01, Sound state: "a held request or write")
abbrev pub WriteBy : Option Posted → Type 0
WriteBy None = Unit {0}
WriteBy (Some t) = MakesWrite t

-- "a held request or write is one that a command makes under the sizes recorded with it" (01, Sound state): exactly those, and none else
pub record Makes : Type 0 where
  pub request : (q : Request) (n : ℕ) → MakesRequest q n ↔ (Made q × (n < 2 ^ 32))
  pub write : (t : Posted) → MakesWrite t ↔ PostedMade t
  -- "the request's serial the last given"
  pub held_request : (s : State) → Sound s → RequestBy s.peripheral.request s.peripheral.serial
  pub held_write : (s : State) → Sound s → WriteBy s.peripheral.write
