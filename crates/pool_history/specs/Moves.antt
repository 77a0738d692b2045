-- Which events keep the invariant: the moves that a pool, its devices and a stop may make.
use Rattle.std.specs.Prelude.{◌≡◌, ◌⊎◌, ℕ, ◌+◌, ◌-◌, ◌<◌, ◌≤◌, true, false, List, [], ◌∷◌, Option, Some}
use Rattle.bank_core.specs.Asks.{Ask, Reads, Writes, Flushes, Admits, Ejects}
use Rattle.bank_core.specs.Disk.{Call, Read, Write, Flush, Admit, Eject, Nothing, Sectors, IsClean, sector_of}
use Rattle.bank_core.specs.Standing.{touches, aims, Spares}
use Rattle.label_store.specs.declared.rule.Head.{Head}
use Rattle.label_store.specs.declared.uberblock.Uberblock.{Uberblock}
use Rattle.label_store.specs.Records.{place_at}
use Rattle.label_store.specs.Uberblock.{IsUberblock}
use Rattle.pool_history.specs.Events.{Event, Known, Calls, Accepts, Looks, Opens, Begins, Third, Ends, Acks, Loses, Stops}
use Rattle.pool_history.specs.Labels.{Status, Odd, Even}
use Rattle.pool_history.specs.Needs.{Held, Needs, NeedsLabel}
use Rattle.pool_history.specs.Pools.{Pool, after, seat}
use Rattle.pool_history.specs.Records.{Rec, Cell, IsIn, number_of, takes_part, block_at, data_start}
use Rattle.pool_history.specs.Survival.{Fits, IsAmong, IsKnownUber}

-- the call is one on a device that stays
abbrev pub IsPlain : Call → Type 0
IsPlain (Read dev at bytes fault) = Unit {0}
IsPlain (Write dev at bytes fault) = Unit {0}
IsPlain (Flush dev fault) = Unit {0}
IsPlain (Admit dev holds) = ⊥
IsPlain (Eject dev) = ⊥

-- what a write puts on sector s
abbrev pub puts : Call → ℕ → List ℕ
puts (Read dev at bytes fault) s = []
puts (Write dev at bytes fault) s = sector_of (s - at) bytes
puts (Flush dev fault) s = []
puts (Admit dev holds) s = []
puts (Eject dev) s = []

-- A call that spares all that is needed, and puts no uberblock but a drawn record's into a member's rings.
pub record IsSparing (p : Pool) (call : Call) : Type 0 where
  pub plain : IsPlain call
  pub off : (d s : ℕ) (bytes : List ℕ) → Needs p d s bytes → touches call d s ≡ false
  pub known : (d place : ℕ) → p.member d ≡ true → place < 128 → touches call d (place_at (p.size d) place) ≡ true
      → IsKnownUber p d (puts call (place_at (p.size d) place))

-- each of these asks is one on a device that stays
abbrev pub ArePlain : List Ask → Type 0
ArePlain [] = Unit {0}
ArePlain (Reads dev at sectors ∷ asks) = ArePlain asks
ArePlain (Writes dev at bytes ∷ asks) = ArePlain asks
ArePlain (Flushes dev ∷ asks) = ArePlain asks
ArePlain (Admits dev ∷ asks) = ⊥
ArePlain (Ejects dev ∷ asks) = ⊥

-- what an ask puts on sector s
abbrev pub lays : Ask → ℕ → List ℕ
lays (Reads dev at sectors) s = []
lays (Writes dev at bytes) s = sector_of (s - at) bytes
lays (Flushes dev) s = []
lays (Admits dev) s = []
lays (Ejects dev) s = []

-- each of these that aims at a sector puts there what may stand there
abbrev pub AreKnown : Pool → (d s : ℕ) → List Ask → Type 0
AreKnown p d s [] = Unit {0}
AreKnown p d s (ask ∷ asks) = (aims ask d s ≡ true → IsKnownUber p d (lays ask s)) × AreKnown p d s asks

-- Asks whose calls all spare what is needed, and put no uberblock but a drawn record's into a member's
-- rings, whatever the calls answer.
pub record AreSparing (p : Pool) (asks : List Ask) : Type 0 where
  pub plain : ArePlain asks
  pub off : (d s : ℕ) (bytes : List ℕ) → Needs p d s bytes → Spares asks d s
  pub known : (d place : ℕ) → p.member d ≡ true → place < 128 → AreKnown p d (place_at (p.size d) place) asks

-- What was read of a clean sector is what stands there.
abbrev pub ReadsTrue : Sectors → Known → Type 0
ReadsTrue sectors known = (d s : ℕ) (bytes : List ℕ) → known d s ≡ Some bytes → IsClean (sectors d s) → bytes ≡ (sectors d s).stable

-- A record that may be drawn up now: the next number, the blocks that the pool would answer, each of them
-- held on each member whose log in it lacks the group that the block was born in.
pub record IsDrawnUp (head_of : List ℕ → Option Head) (p : Pool) (q : Rec) : Type 0 where
  pub fits : Fits head_of p q
  pub number_is : number_of q ≡ p.top + 1
  pub blocks_are : (a : ℕ) → block_at q a ≡ p.written a
  pub held : (d a : ℕ) (cell : Cell) → p.member d ≡ true → q.cells a ≡ Some cell → q.owes (p.guid d) cell.birth ≡ false → Held (p.sectors d (data_start + cell.sector)) cell.block

-- The labels of a member that takes part in the record's round have come to hold this.
pub record MayStand (head_of : List ℕ → Option Head) (p : Pool) (q : Rec) (d : ℕ) (status : Status) : Type 0 where
  pub is_live : IsIn q p.live
  pub takes : takes_part q (p.guid d) ≡ true
  pub fits : Fits head_of p q
  pub held : (s : ℕ) (bytes : List ℕ) → NeedsLabel (seat p d) status s bytes → Held (p.sectors d s) bytes

-- The record may be acknowledged: it is the newest, and the labels of each member that takes part hold it.
pub record MayAck (p : Pool) (q : Rec) : Type 0 where
  pub rest : List Rec
  pub newest : p.live ≡ q ∷ rest
  pub number_is : number_of q ≡ p.top
  pub all : (d : ℕ) → p.member d ≡ true → takes_part q (p.guid d) ≡ true → p.status d ≡ Odd q

-- On no image of a member's device does a ring sector hold a correct uberblock that neither stood there nor was written
-- there in this run.
abbrev pub AreUnforged : Pool → (images : ℕ → ℕ → List ℕ) → Type 0
AreUnforged p images = (d place : ℕ) (u : Uberblock) → p.member d ≡ true → place < 128 → IsUberblock u (images d (place_at (p.size d) place)) → 1 ≤ u.number.0
    → (images d (place_at (p.size d) place) ≡ (p.sectors d (place_at (p.size d) place)).stable)
    ⊎ IsAmong (images d (place_at (p.size d) place)) (p.since d (place_at (p.size d) place))

-- What the next run may begin with behind a stop. On a member's device nothing is on the way, each clean sector shows
-- what was stable, and what was damaged still is; more may be damaged. Its rings are unforged. Of other devices nothing is said. A member that the next run
-- lacks keeps what it had.
pub record MayStop (p : Pool) (sectors : Sectors) : Type 0 where
  pub still : (d s : ℕ) → p.member d ≡ true → (sectors d s).pending ≡ Nothing
  pub shows : (d s : ℕ) → p.member d ≡ true → IsClean (p.sectors d s) → (sectors d s).stable ≡ (p.sectors d s).stable
  pub damage : (d s : ℕ) → p.member d ≡ true → (p.sectors d s).damaged ≡ true → (sectors d s).damaged ≡ true
  pub unforged : AreUnforged p (λ d s. (sectors d s).stable)

-- The event is allowed. Of a device that the pool has lost, a third phase promises nothing.
abbrev pub May : (List ℕ → Option Head) → Pool → Event → Type 0
May head_of p (Calls noted) = IsSparing p noted.call
May head_of p (Accepts a block) = Unit {0}
May head_of p (Looks known) = ReadsTrue p.sectors known
May head_of p (Opens r) = IsIn r p.live
May head_of p (Begins q) = IsDrawnUp head_of p q
May head_of p (Third q d) = p.member d ≡ true → MayStand head_of p q d (Even q)
May head_of p (Ends q d) = p.member d ≡ true → MayStand head_of p q d (Odd q)
May head_of p (Acks q) = MayAck p q
May head_of p (Loses d) = Unit {0}
May head_of p (Stops sectors size) = MayStop p sectors

-- each of these events, one after another
abbrev pub Mays : (List ℕ → Option Head) → Pool → List Event → Type 0
Mays head_of p [] = Unit {0}
Mays head_of p (v ∷ vs) = May head_of p v × Mays head_of (after v p) vs
