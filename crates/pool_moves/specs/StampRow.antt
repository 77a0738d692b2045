-- A create as a row: the stamps of its members, the pool that begins behind them, and its first commit.
use Rattle.std.specs.Prelude.{◌≡◌, ◌⊎◌, ℕ, zero, suc, ◌+◌, ◌-◌, ◌<◌, ◌≤◌, ◌^◌, ◌==◌, min, Bool, true, false, cond, Option, Some, None, List, [], ◌∷◌, ◌++◌, map, length}
use Rattle.std.specs.List.{find, AllByRecursion}
use Rattle.mp_base.specs.declared.number.Guid.{Guid}
use Rattle.bank_core.specs.declared.bank.Fault.{Fault}
use Rattle.bank_core.specs.Asks.{IsPart}
use Rattle.bank_core.specs.Disk.{Noted, Sectors}
use Rattle.label_store.specs.declared.member.Member.{Member}
use Rattle.label_store.specs.Plans.{stamp_plan}
use Rattle.vdev_tree.specs.declared.vdev.State.TheVariants.{Online}
use Rattle.txg_history.specs.Events.{Event, Loses, as_events}
use Rattle.txg_history.specs.Groups.{no_log}
use Rattle.txg_history.specs.Pages.{Codec}
use Rattle.txg_history.specs.Pools.{Pool, stamped}
use Rattle.txg_history.specs.Trees.{Single, Child, Plain}
use Rattle.pool_moves.specs.Boards.{board_of}
use Rattle.pool_moves.specs.CommitRows.{RowFound}
use Rattle.pool_moves.specs.Leaves.{OwnLeaf, LeafSeen, Seat, At}
use Rattle.pool_moves.specs.LineRows.{has_number}
use Rattle.pool_moves.specs.Moves.{Move, Flushed_all, steps}
use Rattle.pool_moves.specs.Opened.{no_counts}
use Rattle.pool_moves.specs.States.{no_group_seen, no_scan_seen, PoolState, Side}
use Rattle.pool_moves.specs.Trees.{Child, Plain, Single}

-- A device that a create names for one of its tops.
pub record NewMember : Type 0 where
  pub name : List ℕ
  pub dev : ℕ

-- A leaf of a new pool.
pub record NewLeaf : Type 0 where
  pub name : List ℕ
  pub dev : ℕ
  pub guid : Guid
  pub top : ℕ

-- Tops and leaves are numbered as they are made, in tree order: a top's mirror, and then its leaves.
abbrev pub top_leaves : (next top : ℕ) → List NewMember → List NewLeaf
top_leaves next top [] = []
top_leaves next top (m ∷ ms) = record { name = m.name; dev = m.dev; guid = record { 0 = next }; top = top } ∷ top_leaves (suc next) top ms

abbrev pub leaves_from : (next top : ℕ) → List (List NewMember) → List NewLeaf
leaves_from next top [] = []
leaves_from next top (members ∷ tops) = top_leaves (suc next) top members ++ leaves_from (suc next + length members) (suc top) tops

abbrev pub next_from : (next : ℕ) → List (List NewMember) → ℕ
next_from next [] = next
next_from next (members ∷ tops) = next_from (suc next + length members) tops

-- the number of the mirror of a top, counted from 0
abbrev pub mirror_from : (next : ℕ) → List (List NewMember) → ℕ → Guid
mirror_from next [] i = record { 0 = 0 }
mirror_from next (members ∷ tops) zero = record { 0 = next }
mirror_from next (members ∷ tops) (suc i) = mirror_from (suc next + length members) tops i

abbrev pub new_leaves : List (List NewMember) → List NewLeaf
new_leaves tops = leaves_from 1 1 tops

abbrev pub new_top_number : List (List NewMember) → ℕ → Guid
new_top_number tops zero = record { 0 = 0 }
new_top_number tops (suc i) = mirror_from 1 tops i

-- a top has as many data sectors as its smallest member
abbrev pub least_with : ℕ → Option ℕ → ℕ
least_with n None = n
least_with n (Some m) = min n m

abbrev pub least_room : (size : ℕ → ℕ) → List NewLeaf → (top : ℕ) → Option ℕ
least_room size [] top = None
least_room size (leaf ∷ leaves) top = cond (leaf.top == top) (Some (least_with (size leaf.dev - 256) (least_room size leaves top))) (least_room size leaves top)

abbrev pub room_or_none : Option ℕ → ℕ
room_or_none None = 0
room_or_none (Some n) = n

abbrev pub new_room : (size : ℕ → ℕ) → List NewLeaf → (top : ℕ) → ℕ
new_room size leaves top = room_or_none (least_room size leaves top)

-- the leaf on a device, and what the history has of the device by it
abbrev pub leaf_at : (d : ℕ) → List NewLeaf → Option NewLeaf
leaf_at d leaves = find (λ leaf. leaf.dev == d) leaves

abbrev pub is_leaf_at : Option NewLeaf → Bool
is_leaf_at None = false
is_leaf_at (Some leaf) = true

abbrev pub guid_of : Option NewLeaf → Guid
guid_of None = record { 0 = 0 }
guid_of (Some leaf) = leaf.guid

abbrev pub top_of : Option NewLeaf → ℕ
top_of None = 0
top_of (Some leaf) = leaf.top

-- no two leaves are on one device
abbrev pub AreDevicesApart : List NewLeaf → Type 0
AreDevicesApart [] = Unit {0}
AreDevicesApart (leaf ∷ leaves) = AllByRecursion (λ other. (leaf.dev == other.dev) ≡ false) leaves × AreDevicesApart leaves

-- the children of a top's mirror
abbrev pub children_under : List NewLeaf → (top : ℕ) → List Child
children_under [] top = []
children_under (leaf ∷ leaves) top = cond (leaf.top == top) (Plain (Single leaf.guid) ∷ children_under leaves top) (children_under leaves top)

-- What a create asks for, where nothing of it is refused: a volume, tops and leaves within the limits, and devices that differ and
-- have the room of four labels.
pub record IsNew (size : ℕ → ℕ) (blocks : ℕ) (tops : List (List NewMember)) : Type 0 where
  pub some : 1 ≤ blocks
  pub most : blocks ≤ 262144
  pub few_tops : length tops ≤ 8
  pub few_children : AllByRecursion (λ members. (1 ≤ length members) × (length members ≤ 8)) tops
  pub few_leaves : length (new_leaves tops) ≤ 32
  pub apart : AreDevicesApart (new_leaves tops)
  pub big : AllByRecursion (λ leaf. 320 ≤ size leaf.dev) (new_leaves tops)

-- A stamp: its device, and the calls that it made. The device is taken as it begins.
pub record Stamp : Type 0 where
  pub dev : ℕ
  pub made : List Noted

abbrev pub calls_of_stamps : List Stamp → List Noted
calls_of_stamps [] = []
calls_of_stamps (stamp ∷ stamps) = stamp.made ++ calls_of_stamps stamps

-- Each leaf's device is stamped with the leaf's identity, in tree order, up to the first whose stamp failed.
abbrev pub AreStamps : (size : ℕ → ℕ) → (pool : Guid) → List NewLeaf → List Stamp → (failed : Option NewLeaf) → Type 0
AreStamps size pool [] [] failed = failed ≡ None
AreStamps size pool [] (stamp ∷ stamps) failed = ⊥
AreStamps size pool (leaf ∷ leaves) [] failed = ⊥
AreStamps size pool (leaf ∷ leaves) (stamp ∷ stamps) failed = (stamp.dev ≡ leaf.dev)
    × ((IsPart (stamp_plan leaf.dev (size leaf.dev) pool leaf.guid) stamp.made None × AreStamps size pool leaves stamps failed)
    ⊎ ((fault : Fault) × IsPart (stamp_plan leaf.dev (size leaf.dev) pool leaf.guid) stamp.made (Some fault) × (stamps ≡ []) × (failed ≡ Some leaf)))

-- what another pool's history gets of them: it loses each device that a stamp begins on
abbrev pub stamp_events : List Stamp → List Event
stamp_events [] = []
stamp_events (stamp ∷ stamps) = (Loses stamp.dev ∷ as_events stamp.made) ++ stamp_events stamps

abbrev pub stamped_devices : List Stamp → List ℕ
stamped_devices stamps = map (λ stamp. stamp.dev) stamps

-- The pool that begins behind them, on these sectors.
abbrev pub new_pool : (size : ℕ → ℕ) → (name : List ℕ) → (pool : Guid) → List NewLeaf → Sectors → Pool
new_pool size name pool leaves sectors =
    stamped name pool (λ d. is_leaf_at (leaf_at d leaves)) (λ d. guid_of (leaf_at d leaves)) size (new_room size leaves)
    (λ d. top_of (leaf_at d leaves)) sectors

abbrev pub new_own : NewLeaf → OwnLeaf
new_own leaf = record {
  name = leaf.name;
  mode = Online;
  temporary = false;
  marked = false;
  counts = no_counts;
  joined = false;
  faults = 0;
}

abbrev pub new_leaf_seen : NewLeaf → LeafSeen
new_leaf_seen leaf = record {
  guid = leaf.guid;
  dev = Some leaf.dev;
  own = new_own leaf;
  top = leaf.top;
  owes = no_log 0;
  settled = no_log 0;
  on = false;
}

abbrev pub new_seat : NewLeaf → Seat
new_seat leaf = At leaf.dev true (new_own leaf)

-- its state, before its first commit
abbrev pub new_state : (size : ℕ → ℕ) → (name : List ℕ) → (pool : Guid) → (blocks : ℕ) → List (List NewMember) → PoolState
new_state size name pool blocks tops = record {
  own = record {
    blocks = blocks;
    writes = λ a. None;
    top_number = new_top_number tops;
    children = children_under (new_leaves tops);
    spares = [];
    next_member = next_from 1 tops;
    scrubs = false;
  };
  core = record {
    name = name;
    pool = pool;
    number = 0;
    read_number = 0;
    opened = false;
    committed = λ k. None;
    room = new_room size (new_leaves tops);
    leaves = map new_leaf_seen (new_leaves tops);
    group = no_group_seen;
    scan = no_scan_seen;
    pinned = [];
  };
}

abbrev pub new_side : (size : ℕ → ℕ) → (name : List ℕ) → (pool : Guid) → List (List NewMember) → Sectors → Side
new_side size name pool tops sectors = record { pool = new_pool size name pool (new_leaves tops) sectors; seats = map new_seat (new_leaves tops) }

-- What a create answers: that record 1 is committed, or the first device that failed.
pub data CreateReply : Type 0 where
  Created : CreateReply
  FaultOn : (name : List ℕ) → CreateReply

-- the first of the round's members that failed
abbrev pub first_failed : List Member → (results : List Bool) → Option Guid
first_failed [] results = None
first_failed (m ∷ ms) [] = None
first_failed (m ∷ ms) (true ∷ results) = first_failed ms results
first_failed (m ∷ ms) (false ∷ results) = Some m.guid

abbrev pub name_in : List LeafSeen → Guid → List ℕ
name_in [] m = []
name_in (leaf ∷ leaves) m = cond (has_number m leaf) leaf.own.name (name_in leaves m)

abbrev pub found_reply : Option Guid → List LeafSeen → CreateReply
found_reply None leaves = Created
found_reply (Some m) leaves = FaultOn (name_in leaves m)

-- The first commit.
pub record CommitsFirst (c : Codec) (size : ℕ → ℕ) (s : PoolState) (vs : List Move) (reply : CreateReply) : Type 0 where
  pub whole : Bool
  pub row : RowFound c size s vs whole
  pub says : reply ≡ found_reply (first_failed (board_of (steps (row.first ++ (Flushed_all ∷ [])) s).core.leaves) row.ends.results) s.core.leaves

-- by a stamp that failed: no pool begins then
abbrev pub CreateBy : Option NewLeaf → Codec → (size : ℕ → ℕ) → PoolState → List Move → CreateReply → Type 0
CreateBy (Some leaf) c size s vs reply = (vs ≡ []) × (reply ≡ FaultOn leaf.name)
CreateBy None c size s vs reply = CommitsFirst c size s vs reply

-- `create`, behind its refusals: the stamps, and then the first commit of the pool that begins. Where a device failed, no pool is open.
pub record RowCreate (c : Codec) (size : ℕ → ℕ) (name : List ℕ) (pool : Guid) (blocks : ℕ) (tops : List (List NewMember)) (stamps : List Stamp)
    (vs : List Move) (reply : CreateReply) : Type 0 where
  pub is_new : IsNew size blocks tops
  pub in_range : pool.0 < 2 ^ 64
  pub failed : Option NewLeaf
  pub are : AreStamps size pool (new_leaves tops) stamps failed
  pub ends : CreateBy failed c size (new_state size name pool blocks tops) vs reply
