-- `online` as a row.
use Rattle.std.specs.Prelude.{◌≡◌, ℕ, ◌+◌, nat_le, Bool, true, false, cond, Option, Some, None, is_none, List, [], ◌∷◌, ◌++◌, Result, Ok, Err}
use Rattle.bank_core.specs.declared.bank.Fault.{Fault}
use Rattle.bank_core.specs.Calls.{fault_of}
use Rattle.bank_core.specs.Disk.{Noted}
use Rattle.label_store.specs.Identities.{IsSearch}
use Rattle.vdev_tree.specs.declared.vdev.State.{State}
use Rattle.vdev_tree.specs.declared.vdev.State.TheVariants.{Online, Offline, Removed, Unavail}
use Rattle.txg_history.specs.Pools.{Pool}
use Rattle.pool_moves.specs.AwayRows.{leaf_named}
use Rattle.pool_moves.specs.Leaves.{OwnLeaf, LeafSeen}
use Rattle.pool_moves.specs.Moves.{Move, Sets, Finds, steps}
use Rattle.pool_moves.specs.ReadRow.{read_failed}
use Rattle.pool_moves.specs.Resilvers.{Resilvers}
use Rattle.pool_moves.specs.States.{PoolState}
use Rattle.pool_moves.specs.Walking.{as_moves}

-- What the host says of the device of a leaf's name: it found none at its start, another pool holds or keeps it, or this pool may use it.
pub data HostDevice : Type 0 where
  NoneFound : HostDevice
  HeldBy : (by : List ℕ) → HostDevice
  Handed : (d : ℕ) → HostDevice

-- What `online` answers: the state of the leaf; or that no leaf has the name, that it is a listed spare that isn't in the tree, that
-- the host has no such device, that another pool has it, that it is smaller than the leaf's top needs, that a read of its rings
-- failed, or that all were read and none gives the leaf's identity.
pub data OnlineReply : Type 0 where
  Stands : (mode : State) → OnlineReply
  NoLeaf : OnlineReply
  IsSpare : OnlineReply
  NoDevice : OnlineReply
  InUse : (by : List ℕ) → OnlineReply
  TooSmall : (need has : ℕ) → OnlineReply
  FaultOnDevice : OnlineReply
  WrongLabel : OnlineReply

-- a leaf that comes back by this line: it is neither ONLINE nor DEGRADED nor FAULTED
abbrev pub is_away : State → Bool
is_away Offline = true
is_away Removed = true
is_away Unavail = true
is_away mode = false

abbrev pub marked_own : OwnLeaf → OwnLeaf
marked_own own = record own { marked = true }

abbrev pub brought_own : OwnLeaf → OwnLeaf
brought_own own = record own { mode = Online; temporary = false; marked = true }

-- each call of the search that failed is counted
abbrev pub searched_own : List Noted → OwnLeaf → OwnLeaf
searched_own [] own = own
searched_own (noted ∷ made) own = searched_own made (cond (is_none (fault_of noted.call)) own (read_failed own))

-- by what the search for the leaf's identity came to
abbrev pub SearchEnds : Result Bool Fault → LeafSeen → (d : ℕ) → (made : List Noted) → List Move → OnlineReply → Type 0
SearchEnds (Ok true) leaf d made vs reply =
    (vs ≡ as_moves made ++ (Finds leaf.guid d ∷ Sets leaf.guid (brought_own (searched_own made leaf.own)) ∷ [])) × (reply ≡ Stands Online)
SearchEnds (Ok false) leaf d made vs reply = (vs ≡ as_moves made ++ (Sets leaf.guid (searched_own made leaf.own) ∷ [])) × (reply ≡ WrongLabel)
SearchEnds (Err fault) leaf d made vs reply = (vs ≡ as_moves made ++ (Sets leaf.guid (searched_own made leaf.own) ∷ [])) × (reply ≡ FaultOnDevice)

-- behind a line that wasn't refused a resilver may start
abbrev pub ScansBehind : OnlineReply → PoolState → List Move → Type 0
ScansBehind (Stands mode) s vs = Resilvers s.core vs
ScansBehind reply s vs = vs ≡ []

-- A leaf that is away: its identity is looked for on the device, and where it is found the leaf is ONLINE there, with the log that it
-- has. It isn't on the board of a frozen group.
pub record BringsBack (size : ℕ → ℕ) (s : PoolState) (leaf : LeafSeen) (d : ℕ) (vs : List Move) (reply : OnlineReply) : Type 0 where
  pub made : List Noted
  pub result : Result Bool Fault
  pub search : IsSearch s.core.pool leaf.guid d (size d) made result
  pub first : List Move
  pub ends : SearchEnds result leaf d made first reply
  pub rest : List Move
  pub scans : ScansBehind reply (steps first s) rest
  pub moves : vs ≡ first ++ rest

-- by whether the device has the room of the leaf's top
abbrev pub OnlineRoomy : (roomy : Bool) → (size : ℕ → ℕ) → PoolState → LeafSeen → (d : ℕ) → List Move → OnlineReply → Type 0
OnlineRoomy false size s leaf d vs reply = (vs ≡ []) × (reply ≡ TooSmall (s.core.room leaf.top + 256) (size d))
OnlineRoomy true size s leaf d vs reply = BringsBack size s leaf d vs reply

-- A leaf that isn't away is marked, and no call is made.
pub record MarksOnly (s : PoolState) (leaf : LeafSeen) (vs : List Move) (reply : OnlineReply) : Type 0 where
  pub rest : List Move
  pub scans : Resilvers (steps (Sets leaf.guid (marked_own leaf.own) ∷ []) s).core rest
  pub moves : vs ≡ Sets leaf.guid (marked_own leaf.own) ∷ rest
  pub says : reply ≡ Stands leaf.own.mode

abbrev pub OnlineAway : (away : Bool) → (size : ℕ → ℕ) → PoolState → LeafSeen → (d : ℕ) → List Move → OnlineReply → Type 0
OnlineAway false size s leaf d vs reply = MarksOnly s leaf vs reply
OnlineAway true size s leaf d vs reply = OnlineRoomy (nat_le (s.core.room leaf.top + 256) (size d)) size s leaf d vs reply

abbrev pub OnlineOn : HostDevice → (size : ℕ → ℕ) → PoolState → LeafSeen → List Move → OnlineReply → Type 0
OnlineOn NoneFound size s leaf vs reply = (vs ≡ []) × (reply ≡ NoDevice)
OnlineOn (HeldBy by) size s leaf vs reply = (vs ≡ []) × (reply ≡ InUse by)
OnlineOn (Handed d) size s leaf vs reply = OnlineAway (is_away leaf.own.mode) size s leaf d vs reply

abbrev pub OnlineBy : Option LeafSeen → (listed : Bool) → HostDevice → (size : ℕ → ℕ) → PoolState → List Move → OnlineReply → Type 0
OnlineBy None listed device size s vs reply = (vs ≡ []) × (reply ≡ cond listed IsSpare NoLeaf)
OnlineBy (Some leaf) listed device size s vs reply = OnlineOn device size s leaf vs reply

-- `online`, by whether the pool lists a spare of the name, and by the device of the name.
abbrev pub RowOnline : (size : ℕ → ℕ) → PoolState → (name : List ℕ) → (listed : Bool) → HostDevice → List Move → OnlineReply → Type 0
RowOnline size s name listed device vs reply = OnlineBy (leaf_named name s.core.leaves) listed device size s vs reply

-- each device on which one of these moves finds a leaf is a member
abbrev pub FindMembers : Pool → List Move → Type 0
FindMembers p [] = Unit {0}
FindMembers p (Finds m d ∷ vs) = (p.member d ≡ true) × FindMembers p vs
FindMembers p (v ∷ vs) = FindMembers p vs
