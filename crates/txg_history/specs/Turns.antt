-- The events of a write turn and of a flush turn of the frozen group, and what they leave.
use Rattle.std.specs.Prelude.{◌≡◌, ℕ, ◌+◌, ◌==◌, ◌||◌, Bool, true, false, cond, List, [], ◌∷◌, ◌++◌, map, Some, slice_get}
use Rattle.mp_base.specs.declared.place.Key.{Key}
use Rattle.bank_core.specs.Asks.{Ask, Writes, Flushes}
use Rattle.bank_core.specs.Disk.{Noted, run}
use Rattle.label_store.specs.declared.member.Member.{Member}
use Rattle.label_store.specs.Phases.{IsPhase}
use Rattle.txg_history.specs.Events.{Event, Wrote, Flushed, Leaves, as_events}
use Rattle.txg_history.specs.Groups.{grown}
use Rattle.txg_history.specs.Pools.{Pool, seat, since_after, copies_after}
use Rattle.txg_history.specs.Records.{Cell, data_start}

-- The list has each member of the pool of this kind, under its own number, and no other member. It may have devices that
-- the pool has lost.
pub record AreJust (p : Pool) (Which : (d : ℕ) → Type 0) (members : List Member) : Type 0 where
  pub seated : (i : ℕ) (m : Member) → slice_get members i ≡ Some m → p.member m.dev ≡ true → (m ≡ seat p m.dev) × Which m.dev
  pub all : (d : ℕ) → p.member d ≡ true → Which d → (i : ℕ) × (slice_get members i ≡ Some (seat p d))

-- those on the frozen group's board, and those of them under a top
abbrev pub OnBoard : Pool → (d : ℕ) → Type 0
OnBoard p d = p.group.board d ≡ true

abbrev pub OnTop : Pool → (top : ℕ) → (d : ℕ) → Type 0
OnTop p top d = (p.group.board d ≡ true) × (p.in_top d ≡ top)

-- what a write turn asks of a member's device, and what a flush turn asks
abbrev pub write_plan : Cell → Member → List Ask
write_plan cell m = Writes m.dev (data_start + cell.sector) cell.block ∷ []

abbrev pub flush_plan : Member → List Ask
flush_plan m = Flushes m.dev ∷ []

-- each member whose call failed leaves the board
abbrev pub leavers : List Member → (results : List Bool) → List Event
leavers [] results = []
leavers (m ∷ ms) [] = []
leavers (m ∷ ms) (true ∷ results) = leavers ms results
leavers (m ∷ ms) (false ∷ results) = Leaves m.dev ∷ leavers ms results

-- the device is one of theirs
abbrev pub fails : List Member → (results : List Bool) → ℕ → Bool
fails [] results d = false
fails (m ∷ ms) [] d = false
fails (m ∷ ms) (true ∷ results) d = fails ms results d
fails (m ∷ ms) (false ∷ results) d = (m.dev == d) || fails ms results d

-- The events of a turn: the calls, the members that failed leave the board, and the mark.
pub record IsTurnEvents (plan : Member → List Ask) (mark : Event) (members : List Member) (results : List Bool) (vs : List Event) : Type 0 where
  pub made : List Noted
  pub phase : IsPhase plan members (map (λ m. true) members) results made
  pub all : vs ≡ as_events made ++ (leavers members results ++ (mark ∷ []))

abbrev pub IsWriteTurn : Key → Cell → List Member → (results : List Bool) → List Event → Type 0
IsWriteTurn k cell members results vs = IsTurnEvents (write_plan cell) (Wrote k) members results vs

abbrev pub IsFlushTurn : List Member → (results : List Bool) → List Event → Type 0
IsFlushTurn members results vs = IsTurnEvents flush_plan Flushed members results vs

-- The board behind turns: who is on it was, and none of the list's results for it is false.
pub record IsBoardBehind (was is : ℕ → Bool) (members : List Member) (results : List Bool) : Type 0 where
  pub before : (d : ℕ) → is d ≡ true → was d ≡ true
  pub good : (d i : ℕ) (m : Member) (c : Bool) → is d ≡ true → slice_get members i ≡ Some m → m.dev ≡ d → slice_get results i ≡ Some c → c ≡ true
  pub stays : (d : ℕ) → was d ≡ true → ((i : ℕ) (m : Member) (c : Bool) → slice_get members i ≡ Some m → m.dev ≡ d
      → slice_get results i ≡ Some c → c ≡ true) → is d ≡ true

-- What a turn leaves of a pool, by its calls: what it changed of the group, and all else is as it was.
pub record TurnEnds (p behind : Pool) (members : List Member) (results : List Bool) (done : Key → Bool) (flushed : Bool) (made : List Noted) : Type 0 where
  pub name : behind.name ≡ p.name
  pub pool : behind.pool ≡ p.pool
  pub member : behind.member ≡ p.member
  pub guid : behind.guid ≡ p.guid
  pub size : behind.size ≡ p.size
  pub room : behind.room ≡ p.room
  pub home : behind.home ≡ p.home
  pub sectors : behind.sectors ≡ run made p.sectors
  pub since : behind.since ≡ since_after made p.since
  pub copies : behind.copies ≡ copies_after made p.copies
  pub acked : behind.acked ≡ p.acked
  pub acks : behind.acks ≡ p.acks
  pub live : behind.live ≡ p.live
  pub given : behind.given ≡ p.given
  pub missed : behind.missed ≡ p.missed
  pub reads : behind.reads ≡ p.reads
  pub opened : behind.opened ≡ p.opened
  pub written : behind.written ≡ p.written
  pub highest : behind.highest ≡ p.highest
  pub status : behind.status ≡ p.status
  pub in_top : behind.in_top ≡ p.in_top
  pub unbroken : behind.unbroken ≡ p.unbroken
  pub settled : behind.settled ≡ p.settled
  pub pinned : behind.pinned ≡ p.pinned
  pub scan : behind.scan ≡ p.scan
  pub frozen : behind.group.frozen ≡ p.group.frozen
  pub first : behind.group.first ≡ p.group.first
  pub cells : behind.group.cells ≡ p.group.cells
  pub content : behind.group.content ≡ p.group.content
  pub fresh : behind.group.fresh ≡ p.group.fresh
  pub begun : behind.group.begun ≡ p.group.begun
  pub done_is : behind.group.done ≡ done
  pub flushed_is : behind.group.flushed ≡ flushed
  -- who failed is off the board, and owes each number drawn for the group
  pub owes_is : (d g : ℕ) → behind.owes d g ≡ grown (fails members results) p.group.first p.highest p.owes d g
  pub board_is : (d : ℕ) → behind.group.board d ≡ cond (fails members results d) false (p.group.board d)
  pub board : IsBoardBehind p.group.board behind.group.board members results
