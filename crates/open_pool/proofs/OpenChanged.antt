-- A pool whose open group took a write, where that fits, has its form.
use Rattle.std.proofs.Common.{◌≡◌, ℕ, ◌<◌, ◌≤◌, ◌==◌, ◌||◌, cond, List, Option, Some, None, sym, ap, ◌∙◌, arith}
use Rattle.std.specs.Prelude.{is_some, IfSome}
use Rattle.txg_history.specs.Records.{key}
use Rattle.txg_engine.specs.Frozen.{FrozenGroup}
use Rattle.txg_engine.specs.Writes.{OpenGroup, block_at, is_written}
use Rattle.pool_moves.specs.Refusing.{count_below}
use Rattle.open_pool.specs.Form.{IsPool, HasGroup, HasOpen, is_dirty}
use Rattle.open_pool.specs.Parts.{PoolParts}
use Rattle.open_pool.specs.State.{cells_in}
use Rattle.open_pool.proofs.CountsBelow.{also, count_same}
use Rattle.open_pool.proofs.DirtyWithOne.{or_behind}
use Rattle.open_pool.proofs.WritesCounted.{written_first, written_too_low, writes_low}

abbrev pub with_open : PoolParts → OpenGroup → (dirty : ℕ) → PoolParts
with_open p group dirty = record p { unfrozen = group; dirty = dirty }

group_kept : (p : PoolParts) (writes : OpenGroup) (dirty : ℕ) (frozen : Option FrozenGroup) → IfSome frozen (HasGroup p)
    → IfSome frozen (HasGroup (with_open p writes dirty))
group_kept p writes dirty None has = tt
group_kept p writes dirty (Some group) has = record {
  unacked = has.unacked;
  after = has.after;
  last = has.last;
  keys = has.keys;
  pointers = has.pointers;
  signed = has.signed;
  ready = has.ready;
  pins_room = has.pins_room;
  tops = has.tops;
}

pub open_changed : (p : PoolParts) (group : OpenGroup) (dirty : ℕ) → IsPool p → HasOpen (with_open p group dirty)
    → IsPool (with_open p group dirty)
open_changed p group dirty pool has = record {
  recordable = pool.recordable;
  tops = pool.tops;
  read = pool.read;
  births = pool.births;
  places = record {
    taken = pool.places.taken;
    committed = pool.places.committed;
    frozen = pool.places.frozen;
    listed = pool.places.listed;
    inside = pool.places.inside;
  };
  apart = record { committed = pool.apart.committed; frozen = pool.apart.frozen; between = pool.apart.between };
  leaves = record { apart = pool.leaves.apart; writable = pool.leaves.writable; settled = pool.leaves.settled; within = pool.leaves.within };
  board = record { order = pool.board.order; seated = pool.board.seated };
  group = group_kept p group dirty p.frozen pool.group;
  unfrozen = has;
}

module _ (p : PoolParts) (pool : IsPool p) (a : ℕ) (block : List ℕ) (group : OpenGroup) (low : a < p.map.blocks)
    (blocks : (x : ℕ) → block_at group.writes x ≡ cond (a == x) (Some block) (block_at p.unfrozen.writes x))
    (room : p.unfrozen.room ≤ group.room) where
  written_too_is : (x : ℕ) → is_written group.writes x ≡ also a (is_written p.unfrozen.writes) x
  written_too_is x = ap is_some (blocks x) ∙ written_first (a == x) block p.unfrozen.writes x

  pub write_taken : (dirty : ℕ) → count_below p.map.blocks (also a (is_dirty p)) ≡ dirty → dirty ≤ 4096
      → IsPool (with_open p group dirty)
  write_taken dirty count few = open_changed p group dirty pool (record {
    inside = writes_low p.map.blocks group.writes (λ x is.
        written_too_low p.map.blocks a p.unfrozen.writes pool.unfrozen.inside low x (sym (written_too_is x) ∙ is));
    room = let before = pool.unfrozen.room in omega arith;
    count = count_same p.map.blocks (is_dirty (with_open p group dirty)) (also a (is_dirty p)) (λ x lt.
        ap (λ b. b || is_some (cells_in p.frozen (key 0 x))) (written_too_is x)
        ∙ or_behind (a == x) (is_written p.unfrozen.writes x) (is_some (cells_in p.frozen (key 0 x)))) ∙ count;
    few = few;
  })
