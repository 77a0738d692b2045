-- A good member answers: what it takes to lose a block, and how lines end by the counts of failed calls.
use Rattle.std.specs.Prelude.{◌≡◌, ◌⊎◌, ℕ, ◌+◌, ◌<◌, ◌≤◌, true, false, List, [], ◌∷◌, Some, slice_get, slice_index}
use Rattle.std.specs.List.{filter_map}
use Rattle.mp_base.specs.Outside.{Rose}
use Rattle.mp_base.specs.declared.number.Group.{Group}
use Rattle.mp_base.specs.declared.number.Guid.{Guid}
use Rattle.mp_base.specs.declared.refusal.Refusal.TheVariants as refusals
use Rattle.bank_core.specs.declared.bank.Fault.{Fault}
use Rattle.bank_core.specs.Asks.{Reads, ask_of}
use Rattle.bank_core.specs.Calls.{device_of, fault_of}
use Rattle.bank_core.specs.Disk.{Noted, Sectors, IsClean, as_found, run}
use Rattle.label_store.specs.declared.member.Member.{Member}
use Rattle.label_store.specs.Layout.{labels_of}
use Rattle.label_store.specs.Newest.{Parts, IsLook}
use Rattle.label_store.specs.declared.uberblock.Uberblock.{Uberblock}
use Rattle.pool_wire.specs.declared.reply.Reply.{Reply}
use Rattle.pool_wire.specs.declared.reply.Reply.TheVariants as replies
use Rattle.pool_history.specs.Events.{Known, Calls}
use Rattle.pool_history.specs.Looks.{known_by, NoneFailed}
use Rattle.pool_history.specs.Openings.{IsVerifiedOn}
use Rattle.pool_history.specs.Pools.{Pool, after}
use Rattle.pool_history.specs.Records.{Cell, data_start}
use Rattle.pool_core.specs.Clash.{ClashesWith}
use Rattle.pool_core.specs.Heads.{head_of}
use Rattle.pool_core.specs.Done.{no_leaf}
use Rattle.pool_core.specs.Reading.{tries}
use Rattle.pool_core.specs.State.{PoolState, leaves, board, having, has_nobody, seat_of}
use Rattle.host_machine.specs.Devices.{all_handed}
use Rattle.host_machine.specs.Machine.{HostState, Entry, named_pool, line_wants}
use Rattle.host_machine.specs.Records.{owed_by}
use Rattle.host_machine.specs.Tracking.{Tracks, IsAt, IsOpenAs}

-- The pool is open in the host, under this name and as this state.
pub record IsOpenIn (p : Pool) (h : HostState) (name : List ℕ) (s : PoolState) : Type 0 where
  pub tracks : Tracks p h
  pub named : named_pool name h.pool ≡ Some s
  pub first : IsAt s.first tracks.first
  pub second : IsAt s.second tracks.second
  pub is_open : IsOpenAs p s

-- Wrong bytes passed: a read of the line took them for the block that it wanted, since both have one sum.
abbrev pub HasClash : HostState → Entry → List Noted → Type 0
HasClash h entry made = ClashesWith made (line_wants h entry.asked)

-- there was no memory for the line
abbrev pub HasNoMemory : Reply → Type 0
HasNoMemory reply = reply ≡ replies.Refused refusals.Memory

-- The two free ends of a read: there was no memory, or wrong bytes passed.
abbrev pub IsExcused : HostState → Entry → List Noted → Type 0
IsExcused h entry made = HasNoMemory entry.reply ⊎ HasClash h entry made

-- Why a copy gave nothing: its read failed, or found the sector damaged; or the pool has lost the device; or the
-- leaf's log has the group that the block was born in.
abbrev pub HasCause : Pool → PoolState → Cell → Member → Noted → Type 0
HasCause p s cell m noted = ((fault : Fault) × (fault_of noted.call ≡ Some fault))
    ⊎ (((as_found noted p.sectors m.dev (data_start + cell.sector)).damaged ≡ true)
    ⊎ ((p.member m.dev ≡ false) ⊎ (owed_by s m.guid cell.birth ≡ true)))

-- The copy of a leaf was asked for and gave nothing.
pub record Misses (p : Pool) (s : PoolState) (cell : Cell) (m : Member) (noted : Noted) : Type 0 where
  pub asked : ask_of noted.call ≡ Reads m.dev (data_start + cell.sector) 1
  pub cause : HasCause p s cell m noted

-- so each of these copies, one after another
abbrev pub AllMiss : Pool → PoolState → Cell → List Member → List Noted → Type 0
AllMiss p s cell [] calls = calls ≡ []
AllMiss p s cell (m ∷ ms) [] = ⊥
AllMiss p s cell (m ∷ ms) (noted ∷ more) = Misses p s cell m noted × AllMiss (after (Calls noted) p) s cell ms more

-- The block of this address is a committed one. It was asked of every readable leaf, and each missed it.
pub record IsLost (p : Pool) (s : PoolState) (a : ℕ) (made : List Noted) : Type 0 where
  pub cell : Cell
  pub committed : p.reads.cells a ≡ Some cell
  pub last : p.written a ≡ cell.block
  pub missed : AllMiss p s cell (tries cell.birth (leaves s)) made

-- each of these calls on the device finds its sector `at` undamaged
abbrev pub FindUnhurt : Pool → (d at : ℕ) → List Noted → Type 0
FindUnhurt p d at [] = Unit {0}
FindUnhurt p d at (noted ∷ more) =
    (device_of noted.call ≡ d → (as_found noted p.sectors d at).damaged ≡ false) × FindUnhurt (after (Calls noted) p) d at more

-- the leaf on this device is readable, and its log lacks the group
abbrev pub HasGroup : PoolState → (birth d : ℕ) → Type 0
HasGroup s birth d = (i : ℕ) × (m : Member) × (slice_get (filter_map seat_of (having birth (leaves s))) i ≡ Some m) × (m.dev ≡ d)

-- A good member, for these calls and the block of this address: it is readable, and its log lacks the group that the
-- committed block was born in; none of the calls failed on it, and each of them found the block's sector undamaged.
pub record IsGoodMember (p : Pool) (s : PoolState) (a : ℕ) (made : List Noted) (d : ℕ) : Type 0 where
  pub is_member : p.member d ≡ true
  pub has : (cell : Cell) → p.reads.cells a ≡ Some cell → HasGroup s cell.birth d
  pub fine : NoneFailed d made
  pub unhurt : (cell : Cell) → p.reads.cells a ≡ Some cell → FindUnhurt p d (data_start + cell.sector) made

-- no device's count moved
abbrev pub NoneMoved : (before after : ℕ → ℕ) → Type 0
NoneMoved before after = (d : ℕ) → after d ≡ before d

-- no device's count rose
abbrev pub NoneRose : (before after : ℕ → ℕ) → Type 0
NoneRose before after = (d : ℕ) → ¬ (Rose (before d) (after d))

-- some device's did
abbrev pub SomeRose : (before after : ℕ → ℕ) → Type 0
SomeRose before after = (d : ℕ) × Rose (before d) (after d)

-- the count of a device of the board did
abbrev pub LeafRose : PoolState → (before after : ℕ → ℕ) → Type 0
LeafRose s before after = (i : ℕ) × (m : Member) × (slice_get (board s) i ≡ Some m) × Rose (before m.dev) (after m.dev)

-- the group of a sync is refused as suspended, after some failed calls
abbrev pub IsSuspended : PoolState → Reply → Type 0
IsSuspended s reply = (faults : ℕ) × (1 ≤ faults) × (reply ≡ replies.Refused (refusals.Suspended (record { 0 = s.number + 1 }) s.mirror faults))

-- A sync is suspended where a device's count rises in it, and only where a leaf's does, or without a fault where no leaf
-- is readable.
pub record SuspendsByCounts (s : PoolState) (before after : ℕ → ℕ) (reply : Reply) : Type 0 where
  pub cause : (group : Group) (top : Guid) (faults : ℕ) → reply ≡ replies.Refused (refusals.Suspended group top faults)
      → ((has_nobody s ≡ true) × (faults ≡ 0)) ⊎ LeafRose s before after
  pub suspended : (d : ℕ) → before d < after d → IsSuspended s reply ⊎ HasNoMemory reply
  pub nobody : has_nobody s ≡ true → (reply ≡ replies.Refused (no_leaf s)) ⊎ HasNoMemory reply

-- It commits the next group where no count rises in it and a leaf is readable, and only where none moves.
pub record CommitsByCounts (s : PoolState) (before after : ℕ → ℕ) (reply : Reply) : Type 0 where
  pub calm : (group : Group) → reply ≡ replies.Committed group → NoneMoved before after
  pub committed : has_nobody s ≡ false → NoneRose before after → (reply ≡ replies.Committed (record { 0 = s.number + 1 })) ⊎ HasNoMemory reply

-- the reply names this device, and its count rose
abbrev pub IsBlamed : (name : List ℕ) → (d : ℕ) → (before after : ℕ → ℕ) → Reply → Type 0
IsBlamed name d before after reply = (reply ≡ replies.DeviceFault name) × Rose (before d) (after d)

-- A create on two devices of these names and numbers ends: it commits group 1 where no count rises in it, and only
-- where none moves; and it names a device whose count rose where one rises.
pub record CreatesByCounts (first second : List ℕ) (seats : ℕ × ℕ) (before after : ℕ → ℕ) (reply : Reply) : Type 0 where
  pub calm : (group : Group) → reply ≡ replies.Committed group → NoneMoved before after
  pub committed : NoneRose before after → (reply ≡ replies.Committed (record { 0 = 1 })) ⊎ HasNoMemory reply
  pub cause : (name : List ℕ) → reply ≡ replies.DeviceFault name → IsBlamed first seats.0 before after reply ⊎ IsBlamed second seats.1 before after reply
  pub blamed : (d : ℕ) → before d < after d → IsBlamed first seats.0 before after reply ⊎ (IsBlamed second seats.1 before after reply ⊎ HasNoMemory reply)

-- An `online` on the device of this number tells a failed read only where the device's count rises in it, and that the
-- device has another identity only where none moves.
pub record OnlinesByCounts (dev : ℕ) (before after : ℕ → ℕ) (reply : Reply) : Type 0 where
  pub cause : (name : List ℕ) → reply ≡ replies.DeviceFault name → Rose (before dev) (after dev)
  pub calm : (name : List ℕ) → reply ≡ replies.WrongLabel name → NoneMoved before after

-- what stands on the sectors of all devices
abbrev pub all_stable : Sectors → Known
all_stable sectors d s = Some (sectors d s).stable

-- each sector of a device's labels is clean, but for the blank and the boot parts
abbrev pub AreClean : (size : ℕ) → Sectors → (d : ℕ) → Type 0
AreClean size sectors d = (label s : ℕ) → label < 4 → 4 ≤ s → s < 64 → IsClean (sectors d (slice_index (labels_of size) label + s))

-- some call on this device failed
abbrev pub SomeFailed : (d : ℕ) → List Noted → Type 0
SomeFailed d [] = ⊥
SomeFailed d (noted ∷ more) = ((device_of noted.call ≡ d) × (fault : Fault) × (fault_of noted.call ≡ Some fault)) ⊎ SomeFailed d more

-- An opening looked for records of the name on the devices that it is handed, and found none: none is
-- verified by what it read. So where the clean labels of such a device have one, a read of that device failed.
pub record FindsNone (h : HostState) (sectors : Sectors) (name : List ℕ) (made : List Noted) : Type 0 where
  pub looks : List Parts
  pub look : IsLook h.size (all_handed h.table) looks made
  pub none : (d : ℕ) (u : Uberblock) (config : List ℕ) → ¬ (IsVerifiedOn head_of h.size (known_by h.size (all_handed h.table) looks) name d u config)
  pub cause : (i d : ℕ) (u : Uberblock) (config : List ℕ) → slice_get (all_handed h.table) i ≡ Some d → AreClean (h.size d) (run made sectors) d
      → IsVerifiedOn head_of h.size (all_stable (run made sectors)) name d u config → SomeFailed d made
