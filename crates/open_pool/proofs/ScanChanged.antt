-- A pool with another scan has its form, and stands for the state with that scan.
use Rattle.std.proofs.Common.{List, Option, Some, None}
use Rattle.std.specs.Prelude.{IfSome}
use Rattle.txg_engine.specs.Frozen.{FrozenGroup}
use Rattle.pool_moves.specs.States.{Sums}
use Rattle.open_pool.specs.declared.scan.Scan.{Scan}
use Rattle.open_pool.specs.Form.{IsPool, HasGroup}
use Rattle.open_pool.specs.Parts.{PoolParts}
use Rattle.open_pool.specs.State.{ArePinned}

abbrev pub with_scan : PoolParts → Option Scan → PoolParts
with_scan p scan = record p { scan = scan }

group_kept : (p : PoolParts) (scan : Option Scan) (frozen : Option FrozenGroup) → IfSome frozen (HasGroup p) → IfSome frozen (HasGroup (with_scan p scan))
group_kept p scan None has = tt
group_kept p scan (Some group) has = record {
  unacked = has.unacked;
  after = has.after;
  last = has.last;
  keys = has.keys;
  pointers = has.pointers;
  signed = has.signed;
  ready = has.ready;
  pins_room = has.pins_room;
  tops = has.tops;
}

pub scan_changed : (p : PoolParts) (scan : Option Scan) → IsPool p → IsPool (with_scan p scan)
scan_changed p scan pool = record {
  recordable = pool.recordable;
  tops = pool.tops;
  read = pool.read;
  births = pool.births;
  places = record {
    taken = pool.places.taken;
    committed = pool.places.committed;
    frozen = pool.places.frozen;
    listed = pool.places.listed;
    inside = pool.places.inside;
  };
  apart = record { committed = pool.apart.committed; frozen = pool.apart.frozen; between = pool.apart.between };
  leaves = record { apart = pool.leaves.apart; writable = pool.leaves.writable; settled = pool.leaves.settled; within = pool.leaves.within };
  board = record { order = pool.board.order; seated = pool.board.seated };
  group = group_kept p scan p.frozen pool.group;
  unfrozen = record { inside = pool.unfrozen.inside; room = pool.unfrozen.room; count = pool.unfrozen.count; few = pool.unfrozen.few };
}

pub scan_pinned : (held : List Sums) (p : PoolParts) (scan : Option Scan) → ArePinned held p → ArePinned held (with_scan p scan)
scan_pinned held p scan pins = record { pinned = pins.pinned; held_places = pins.held_places }
