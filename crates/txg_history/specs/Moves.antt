-- Which events keep the invariant: the moves that a pool, its devices and a stop may make.
use Rattle.std.specs.Prelude.{◌≡◌, ◌⊎◌, ℕ, ◌+◌, ◌-◌, ◌<◌, ◌≤◌, ◌^◌, Bool, true, false, List, [], ◌∷◌, length, Some}
use Rattle.mp_base.specs.declared.number.Guid.{Guid}
use Rattle.mp_base.specs.declared.place.Key.{Key}
use Rattle.bank_core.specs.Disk.{Call, Read, Write, Flush, Admit, Eject, Nothing, Sectors, IsClean, sector_of}
use Rattle.bank_core.specs.Standing.{touches}
use Rattle.label_store.specs.declared.uberblock.Uberblock.{Uberblock}
use Rattle.label_store.specs.Records.{place_at}
use Rattle.label_store.specs.Uberblock.{IsUberblock}
use Rattle.txg_history.specs.Events.{
  Event,
  Known,
  Calls,
  Accepts,
  Freezes,
  Wrote,
  Flushed,
  Draws,
  Leaves,
  Grows,
  Burns,
  Begins,
  Third,
  Ends,
  Acks,
  Looks,
  Opens,
  Joins,
  Loses,
  Scans,
  Passes,
  Drops,
  Clears,
  Rests,
  Stops,
}
use Rattle.txg_history.specs.Groups.{Logs}
use Rattle.txg_history.specs.Labels.{Odd, Even}
use Rattle.txg_history.specs.Needs.{Held, Keeps, Landed, Copied, InPart, odd_part, NeedsLabel, NeedsPut, NeedsScan, NeedsFirm, NeedsSoft}
use Rattle.txg_history.specs.Pages.{Codec, AreDirty}
use Rattle.txg_history.specs.Places.{IsFree}
use Rattle.txg_history.specs.Pools.{Pool, after, seat, drawn}
use Rattle.txg_history.specs.Records.{Rec, Cell, Cells, IsIn, IsNoLeaf, AreAtOne, number_of, takes_part, block_in, laid_over, data_start}
use Rattle.txg_history.specs.Scans.{up_to}
use Rattle.txg_history.specs.Stamps.{IsBlank}
use Rattle.txg_history.specs.Survival.{Fits, IsAmong, IsKnownUber}

-- the call is one on a device that stays
abbrev pub IsPlain : Call → Type 0
IsPlain (Read dev at bytes fault) = Unit {0}
IsPlain (Write dev at bytes fault) = Unit {0}
IsPlain (Flush dev fault) = Unit {0}
IsPlain (Admit dev holds) = ⊥
IsPlain (Eject dev) = ⊥

-- what a write puts on sector s
abbrev pub puts : Call → ℕ → List ℕ
puts (Read dev at bytes fault) s = []
puts (Write dev at bytes fault) s = sector_of (s - at) bytes
puts (Flush dev fault) s = []
puts (Admit dev holds) s = []
puts (Eject dev) s = []

-- a write at a place of a live record's key, on a leaf of its top, writes the key's bytes
abbrev pub IsTrueTo : Pool → Call → Type 0
IsTrueTo p call = (r : Rec) (d : ℕ) (k : Key) (cell : Cell) → IsIn r p.live → p.member d ≡ true → r.cells k ≡ Some cell → p.in_top d ≡ cell.top
    → touches call d (data_start + cell.sector) ≡ true → puts call (data_start + cell.sector) ≡ cell.block

-- A call that spares what is needed, or writes just that over a damaged sector where it may. It writes nothing else at the
-- place of a live record's key, and puts no uberblock but a drawn record's into a member's rings.
pub record IsSparing (p : Pool) (call : Call) : Type 0 where
  pub plain : IsPlain call
  pub firm : (d s : ℕ) (bytes : List ℕ) → p.member d ≡ true → NeedsFirm p d s bytes → touches call d s ≡ false
  pub soft : (d s : ℕ) (bytes : List ℕ) → p.member d ≡ true → NeedsSoft p d s bytes
      → (touches call d s ≡ false) ⊎ (((p.sectors d s).damaged ≡ true) × (puts call s ≡ bytes))
  pub true_to : IsTrueTo p call
  pub known : (d place : ℕ) → p.member d ≡ true → place < 128 → touches call d (place_at (p.size d) place) ≡ true
      → IsKnownUber (drawn p) p.pool (seat p d) (puts call (place_at (p.size d) place))

-- What was read of a clean sector is what stands there.
abbrev pub ReadsTrue : Sectors → Known → Type 0
ReadsTrue sectors known = (d s : ℕ) (bytes : List ℕ) → known d s ≡ Some bytes → IsClean (sectors d s) → bytes ≡ (sectors d s).stable

-- A group may be frozen: none is. Its keys are born in the next number, at free places in their tops' rooms, each at one
-- of its own. With them the pool's keys are a tree of pages, and they are what a read answers. Its board are leaves of the tree.
pub record MayFreeze (c : Codec) (p : Pool) (cells : Cells) (board : ℕ → Bool) : Type 0 where
  pub none : p.group.frozen ≡ false
  pub births : (k : Key) (cell : Cell) → cells k ≡ Some cell → cell.birth ≡ p.highest + 1
  pub long : (k : Key) (cell : Cell) → cells k ≡ Some cell → length cell.block ≡ 4096
  pub free : (k : Key) (cell : Cell) → cells k ≡ Some cell → IsFree p cell.top cell.sector
  pub inside : (k : Key) (cell : Cell) → cells k ≡ Some cell → cell.sector < p.room cell.top
  pub apart : (j k : Key) (a b : Cell) → cells j ≡ Some a → cells k ≡ Some b → AreAtOne a b → j ≡ k
  pub dirty : AreDirty c cells p.reads.cells
  pub blocks : (a : ℕ) → block_in (laid_over cells p.reads.cells) a ≡ p.written a
  pub boarded : (d : ℕ) → p.member d ≡ true → board d ≡ true → 1 ≤ p.in_top d

-- A key's write turn has ended: each leaf of its top that is still on the board has the block by a call that answered Ok.
pub record MayWrite (p : Pool) (k : Key) : Type 0 where
  pub frozen : p.group.frozen ≡ true
  pub not_flushed : p.group.flushed ≡ false
  pub landed : (d : ℕ) (cell : Cell) → p.member d ≡ true → p.group.board d ≡ true → p.group.cells k ≡ Some cell → p.in_top d ≡ cell.top
      → Landed (p.sectors d (data_start + cell.sector)) cell.block

-- The flush turn has ended: each key's write turn had, and nothing of them is on the way.
pub record MayFlush (p : Pool) : Type 0 where
  pub frozen : p.group.frozen ≡ true
  pub all : (k : Key) (cell : Cell) → p.group.cells k ≡ Some cell → p.group.done k ≡ true
  pub held : (d s : ℕ) (bytes : List ℕ) → p.member d ≡ true → NeedsPut p d s bytes → Held (p.sectors d s) bytes

-- Logs are widened: they lose nothing, and get only what lies between two groups that they have.
pub record AreWidened (old new : Logs) : Type 0 where
  pub more : (d g : ℕ) → old d g ≡ true → new d g ≡ true
  pub inside : (d g : ℕ) → new d g ≡ true → (a : ℕ) × (b : ℕ) × (old d a ≡ true) × (old d b ≡ true) × (a ≤ g) × (g ≤ b)

-- a record has a leaf as the pool has it now
pub record IsLeafOf (p : Pool) (q : Rec) (d : ℕ) : Type 0 where
  pub top_is : q.tops (p.guid d) ≡ p.in_top d
  pub log_is : (g : ℕ) → q.owes (p.guid d) g ≡ p.owes d g

-- a leaf of this top is on the board
pub record HasBoard (p : Pool) (top : ℕ) : Type 0 where
  pub d : ℕ
  pub is_member : p.member d ≡ true
  pub on_board : p.group.board d ≡ true
  pub top_is : p.in_top d ≡ top

-- A record that may be drawn up now, behind the flush turn, under a number that was drawn for it: its keys are the group's
-- over those that the pool reads, and it has each member as it is now, or not at all, where it is off the board. Each top has a
-- leaf on the board: else the group is suspended.
pub record IsDrawnUp (c : Codec) (p : Pool) (q : Rec) : Type 0 where
  pub frozen : p.group.frozen ≡ true
  pub flushed : p.group.flushed ≡ true
  pub fresh : p.group.fresh ≡ true
  pub fits : Fits c p.name p.pool p.room q
  pub number_is : number_of q ≡ p.highest
  pub cells_are : (k : Key) → q.cells k ≡ laid_over p.group.cells p.reads.cells k
  pub leaves : (d : ℕ) → p.member d ≡ true → IsLeafOf p q d ⊎ (IsNoLeaf q (p.guid d) × (p.group.board d ≡ false))
  pub boards : (d : ℕ) → p.member d ≡ true → 1 ≤ p.in_top d → HasBoard p (p.in_top d)

-- The third phase of a live record may begin on a member that takes part in it: the last number drawn is its own, and the
-- member's even labels hold it.
pub record MayStand (p : Pool) (q : Rec) (d : ℕ) : Type 0 where
  pub is_live : IsIn q p.live
  pub number_is : number_of q ≡ p.highest
  pub taken : p.group.fresh ≡ false
  pub takes : takes_part q (p.guid d) ≡ true
  pub held : (s : ℕ) (bytes : List ℕ) → NeedsLabel (seat p d) (Even q) s bytes → Held (p.sectors d s) bytes

-- The third phase that began last on a member may have ended: the odd labels hold the record too.
pub record MayEnd (p : Pool) (q : Rec) (d : ℕ) : Type 0 where
  pub began : p.status d ≡ Even q
  pub held : (s : ℕ) (bytes : List ℕ) → InPart odd_part q s bytes → Held (p.sectors d s) bytes

-- The record may be acknowledged: it is the newest, its round was the last one, the labels of each member that takes part
-- hold it, and no leaf of it lost a group from its log since.
pub record MayAck (p : Pool) (q : Rec) : Type 0 where
  pub frozen : p.group.frozen ≡ true
  pub begun : p.group.begun ≡ true
  pub rest : List Rec
  pub newest : p.live ≡ q ∷ rest
  pub number_is : number_of q ≡ p.highest
  pub all : (d : ℕ) → p.member d ≡ true → takes_part q (p.guid d) ≡ true → p.status d ≡ Odd q
  pub logs : (d g : ℕ) → p.member d ≡ true → 1 ≤ q.tops (p.guid d) → q.owes (p.guid d) g ≡ true → p.owes d g ≡ true

-- A device may be brought in under a member number that no live record knows: it is no member, has the room of its top
-- and of four labels, and its rings are as a stamp leaves them.
pub record MayJoin (p : Pool) (d : ℕ) (m : Guid) (top : ℕ) : Type 0 where
  pub new : p.member d ≡ false
  pub in_range : m.0 < 2 ^ 64
  pub big : 320 ≤ p.size d
  pub rooms : p.room top + 256 ≤ p.size d
  pub rings : (place : ℕ) → place < 128 → IsBlank (p.sectors d (place_at (p.size d) place)) p.pool m
  pub unknown : (r : Rec) → IsIn r p.live → IsNoLeaf r m

-- A scan may start on an open pool, over keys born up to a number that isn't above that of the record which it reads.
pub record MayScan (p : Pool) (hi : ℕ) : Type 0 where
  pub opened : p.opened ≡ true
  pub hi_low : hi ≤ number_of p.reads

-- Since the scan came past its last key, so in this step of it, a call that answered Ok wrote the cell's block to its place
-- on the leaf, and nothing undid it: it is on the way or stands there, or the sector is damaged.
pub record WasCopied (p : Pool) (d : ℕ) (cell : Cell) : Type 0 where
  pub written : IsAmong cell.block (p.copies d (data_start + cell.sector))
  pub is_copied : Copied (p.sectors d (data_start + cell.sector)) cell.block

-- A scan may come past a key: it is the next one of the record that the pool reads, born up to hi. Each eligible leaf of
-- its top has it by its log, or it was copied there in this step, or its birth is in the leaf's SCRUB log, which grew by no
-- other group.
pub record MayPass (p : Pool) (k : Key) (scrub : Logs) : Type 0 where
  pub running : p.scan.running ≡ true
  pub cell : Cell
  pub cell_is : p.reads.cells k ≡ Some cell
  pub low : cell.birth ≤ p.scan.hi
  pub new : p.scan.passed k ≡ false
  pub next : (j : Key) (other : Cell) → up_to k j ≡ true → p.scan.passed j ≡ false → p.reads.cells j ≡ Some other → other.birth ≤ p.scan.hi → j ≡ k
  pub more : (d g : ℕ) → p.scan.scrub d g ≡ true → scrub d g ≡ true
  pub only : (d g : ℕ) → scrub d g ≡ true → (p.scan.scrub d g ≡ true) ⊎ (g ≡ cell.birth)
  pub each : (d : ℕ) → p.member d ≡ true → p.scan.eligible d ≡ true → p.in_top d ≡ cell.top
      → (p.owes d cell.birth ≡ false) ⊎ ((scrub d cell.birth ≡ true) ⊎ WasCopied p d cell)

-- The scan's end may clear an eligible leaf's log: each key up to hi was passed, and nothing that was copied to the leaf
-- is on the way any more.
pub record MayClear (p : Pool) (d : ℕ) : Type 0 where
  pub running : p.scan.running ≡ true
  pub is_eligible : p.scan.eligible d ≡ true
  pub all : (k : Key) (cell : Cell) → p.reads.cells k ≡ Some cell → cell.birth ≤ p.scan.hi → p.scan.passed k ≡ true
  pub kept : (s : ℕ) (bytes : List ℕ) → p.member d ≡ true → NeedsScan p.scan p.reads p.in_top d s bytes → Keeps (p.sectors d s) bytes

-- On no image of a member's device does a ring sector hold a correct uberblock that neither stood there nor was written
-- there in this run.
abbrev pub AreUnforged : Pool → (images : ℕ → ℕ → List ℕ) → Type 0
AreUnforged p images = (d place : ℕ) (u : Uberblock) → p.member d ≡ true → place < 128 → IsUberblock u (images d (place_at (p.size d) place))
    → (images d (place_at (p.size d) place) ≡ (p.sectors d (place_at (p.size d) place)).stable)
    ⊎ IsAmong (images d (place_at (p.size d) place)) (p.since d (place_at (p.size d) place))

-- What the next run may begin with behind a stop. On a member's device nothing is on the way, each clean sector shows
-- what was stable, and what was damaged still is; more may be damaged. Its rings are unforged. Of other devices nothing is said. A member that the next run
-- lacks keeps what it had.
pub record MayStop (p : Pool) (sectors : Sectors) : Type 0 where
  pub still : (d s : ℕ) → p.member d ≡ true → (sectors d s).pending ≡ Nothing
  pub shows : (d s : ℕ) → p.member d ≡ true → IsClean (p.sectors d s) → (sectors d s).stable ≡ (p.sectors d s).stable
  pub damage : (d s : ℕ) → p.member d ≡ true → (p.sectors d s).damaged ≡ true → (sectors d s).damaged ≡ true
  pub unforged : AreUnforged p (λ d s. (sectors d s).stable)

-- The event is allowed. Of a device that the pool has lost, a third phase promises nothing.
abbrev pub May : Codec → Pool → Event → Type 0
May c p (Calls noted) = IsSparing p noted.call
May c p (Accepts a block) = Unit {0}
May c p (Freezes cells board) = MayFreeze c p cells board
May c p (Wrote k) = MayWrite p k
May c p Flushed = MayFlush p
May c p Draws = p.group.frozen ≡ true
May c p (Leaves d) = p.group.frozen ≡ true
May c p (Grows owes) = AreWidened p.owes owes
May c p Burns = p.group.frozen ≡ true
May c p (Begins q) = IsDrawnUp c p q
May c p (Third q d) = p.member d ≡ true → MayStand p q d
May c p (Ends q d) = p.member d ≡ true → MayEnd p q d
May c p (Acks q) = MayAck p q
May c p (Looks known) = ReadsTrue p.sectors known
May c p (Opens r) = IsIn r p.live
May c p (Joins d m top) = MayJoin p d m top
May c p (Loses d) = Unit {0}
May c p (Scans hi eligible) = MayScan p hi
May c p (Passes k scrub) = MayPass p k scrub
May c p (Drops d) = Unit {0}
May c p (Clears d) = MayClear p d
May c p Rests = Unit {0}
May c p (Stops sectors size) = MayStop p sectors

-- each of these events, one after another
abbrev pub Mays : Codec → Pool → List Event → Type 0
Mays c p [] = Unit {0}
Mays c p (v ∷ vs) = May c p v × Mays c (after v p) vs
