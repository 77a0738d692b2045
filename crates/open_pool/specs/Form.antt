-- What holds of each open pool between two lines.
use Rattle.std.specs.Prelude.{◌≡◌, ℕ, suc, ◌+◌, ◌≤◌, ◌<◌, ◌⊎◌, ◌||◌, Bool, true, false, List, [], ◌∷◌, length, map, All, AllPairs, Contains, Some, is_some, IfSome}
use Rattle.std.specs.List.{filter_map, flat_map}
use Rattle.mp_base.specs.declared.number.Group.{Group}
use Rattle.mp_base.specs.declared.place.Key.{Key}
use Rattle.mp_base.specs.declared.place.Place.{Place}
use Rattle.mp_base.specs.declared.place.Pointer.{Pointer}
use Rattle.group_set.specs.Groups.{holds}
use Rattle.vdev_tree.specs.Leaf.{is_readable}
use Rattle.vdev_tree.specs.declared.vdev.LeafVdev.{LeafVdev}
use Rattle.block_map.specs.Keys.{IsKey, root}
use Rattle.block_map.specs.Map.{pointer_at, is_free, is_pinned}
use Rattle.block_map.specs.Places.{IsPlace}
use Rattle.block_map.specs.Pointers.{IsPointer}
use Rattle.pool_config.specs.Seen.{ConfigSeen, TopSeen}
use Rattle.pool_config.specs.Validity.{IsValid}
use Rattle.txg_history.specs.Pages.{Sum}
use Rattle.txg_history.specs.Records.{Cell, AreAtOne, key}
use Rattle.txg_engine.specs.declared.seat.Seat.{Seat}
use Rattle.txg_engine.specs.Boards.{has_seat}
use Rattle.txg_engine.specs.Freezing.{IsSigned}
use Rattle.txg_engine.specs.Frozen.{FrozenGroup}
use Rattle.txg_engine.specs.Logs.{IsReady}
use Rattle.txg_engine.specs.Writes.{is_written}
use Rattle.pool_moves.specs.FreezeRow.{IsAtPlace}
use Rattle.pool_moves.specs.Refusing.{count_below}
use Rattle.pool_moves.specs.States.{sums}
use Rattle.open_pool.specs.Parts.{TopParts, PoolParts}
use Rattle.open_pool.specs.State.{sums_of, cells_in, seat_in, seats_in, sectors_in, leaves_under}

abbrev pub top_of : TopParts → TopSeen
top_of top = record { sectors = top.sectors; vdevs = top.vdevs }

-- the configuration of a record of this number, with this root
abbrev pub config_of : PoolParts → (number : Group) → (root_pointer : Pointer) → ConfigSeen
config_of p number root_pointer = record {
  pool = p.pool;
  name = p.name;
  blocks = p.map.blocks;
  number = number;
  next_guid = p.next;
  root = root_pointer;
  tops = map top_of p.tops;
  spares = p.spares;
}

-- all leaves, in tree order
abbrev pub all_leaves : PoolParts → List LeafVdev
all_leaves p = flat_map (λ top. top.leaves) p.tops

-- The record that the pool would draw up without its group is a valid configuration: its names and its numbers differ, its logs
-- are within the highest number, and have few ranges together.
abbrev pub IsRecordable : PoolParts → Type 0
IsRecordable p = IsValid (config_of p (record { 0 = p.highest }) (pointer_at p.map root))

-- A place isn't free where a key of the record that the pool reads has it, or one of the frozen group; and the pins are on a list.
pub record HasPlaces (p : PoolParts) : Type 0 where
  pub taken : (place : Place) → IsPlace p.map.sectors place → is_free p.map place ≡ false
      → IsAtPlace (sums_of p.map) (suc place.top) place.sector ⊎ IsAtPlace (sums (cells_in p.frozen)) (suc place.top) place.sector
  pub committed : (place : Place) → IsAtPlace (sums_of p.map) (suc place.top) place.sector → is_free p.map place ≡ false
  pub frozen : (place : Place) → IsAtPlace (sums (cells_in p.frozen)) (suc place.top) place.sector → is_free p.map place ≡ false
  pub listed : (place : Place) → is_pinned p.map place ≡ true → Contains p.pins.places place
  pub inside : All (IsPlace p.map.sectors) p.pins.places

-- No two keys have one place, neither of the record that the pool reads nor of the frozen group.
pub record ArePlacesApart (p : PoolParts) : Type 0 where
  pub committed : (j k : Key) (a b : Sum) → sums_of p.map j ≡ Some a → sums_of p.map k ≡ Some b → a.top ≡ b.top → a.sector ≡ b.sector → j ≡ k
  pub frozen : (j k : Key) (a b : Cell) → cells_in p.frozen j ≡ Some a → cells_in p.frozen k ≡ Some b → AreAtOne a b → j ≡ k
  pub between : (top sector : ℕ) → IsAtPlace (sums_of p.map) top sector → IsAtPlace (sums (cells_in p.frozen)) top sector → ⊥

-- A leaf's seat is under its top, and while it is on the board the leaf is readable, on the seat's device.
pub record IsSeatOf (top : ℕ) (leaf : LeafVdev) (seat : Seat) : Type 0 where
  pub top_is : suc seat.top ≡ top
  pub dev_is : seat.on ≡ true → leaf.dev ≡ Some seat.member.dev
  pub up : seat.on ≡ true → is_readable leaf ≡ true

abbrev pub IsSeated : List Seat → (top : ℕ) → LeafVdev → Type 0
IsSeated seats top leaf = IfSome (seat_in seats leaf.guid) (IsSeatOf top leaf)

-- so it is of the leaves of these tops, which count from this number
abbrev pub AreSeated : List Seat → (top : ℕ) → List (List LeafVdev) → Type 0
AreSeated seats top [] = Unit {0}
AreSeated seats top (under ∷ tops) = All (IsSeated seats top) under × AreSeated seats (suc top) tops

-- The board: its seats stand in the order of their leaves.
pub record HasBoard (seats : List Seat) (p : PoolParts) : Type 0 where
  pub order : filter_map (λ leaf. seat_in seats leaf.guid) (all_leaves p) ≡ seats
  pub seated : AreSeated seats 1 (leaves_under p.tops)

-- The leaves: no two have one device, each that is readable has one, and logs and what is settled there are within the highest
-- number. Of a log a configuration has the groups from 1 to 2^62 alone, so it doesn't say that there are no others.
pub record HasLeaves (p : PoolParts) : Type 0 where
  pub within : All (λ leaf. (g : ℕ) → holds leaf.log g ≡ true → (1 ≤ g) × (g ≤ p.highest)) (all_leaves p)
  pub apart : AllPairs (λ a b. (d : ℕ) → a.dev ≡ Some d → b.dev ≡ Some d → ⊥) (all_leaves p)
  pub writable : All (λ leaf. is_readable leaf ≡ true → is_some leaf.dev ≡ true) (all_leaves p)
  pub settled : All (λ leaf. (g : ℕ) → p.highest < g → holds leaf.settled g ≡ false) (all_leaves p)

-- A frozen group: no round of it was acknowledged, its numbers are the highest drawn, its keys are the volume's, at places of the tops, were born in its
-- first number, and have the sums of their blocks; each leaf has the room for what its turns put into logs, and there is room to pin its places. Of each
-- top some leaf was on the board at the freeze.
pub record HasGroup (p : PoolParts) (group : FrozenGroup) : Type 0 where
  pub unacked : group.acked ≡ false
  pub after : p.read < group.numbers.first.0
  pub last : group.numbers.last.0 ≡ p.highest
  pub keys : All (λ item. IsKey p.map.blocks item.key) group.items
  pub pointers : All (λ item. IsPointer p.map.sectors item.pointer) group.items
  pub signed : All (IsSigned group.numbers.first.0) group.items
  pub ready : All (IsReady group.board group.numbers.last.0) (all_leaves p)
  pub pins_room : length p.pins.places + length group.items ≤ p.pins.room
  pub tops : (top : ℕ) → top < length p.map.sectors → has_seat top group.board ≡ true

-- the addresses that the open group and the frozen one have
abbrev pub is_dirty : PoolParts → ℕ → Bool
is_dirty p x = is_written p.unfrozen.writes x || is_some (cells_in p.frozen (key 0 x))

-- The open group: its addresses are the volume's, and it has room for as many as both groups may have.
pub record HasOpen (p : PoolParts) : Type 0 where
  pub inside : All (λ write. write.addr < p.map.blocks) p.unfrozen.writes
  pub room : 4096 ≤ p.unfrozen.room
  pub count : count_below p.map.blocks (is_dirty p) ≡ p.dirty
  pub few : p.dirty ≤ 4096

-- What holds of each open pool.
pub record IsPool (p : PoolParts) : Type 0 where
  pub recordable : IsRecordable p
  pub tops : p.map.sectors ≡ sectors_in p.tops
  pub read : p.read ≤ p.highest
  pub births : (k : Key) → (pointer_at p.map k).birth.0 ≤ p.read
  pub places : HasPlaces p
  pub apart : ArePlacesApart p
  pub leaves : HasLeaves p
  pub board : HasBoard (seats_in p.frozen) p
  pub group : IfSome p.frozen (HasGroup p)
  pub unfrozen : HasOpen p
