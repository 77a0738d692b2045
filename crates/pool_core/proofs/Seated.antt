-- Where a pool's board is seated.
use Rattle.std.proofs.Common.{◌≡◌, ℕ, ◌+◌, ◌<◌, List, sym, subst, arith}
use Rattle.label_store.specs.declared.member.Member.{Member}
use Rattle.label_store.specs.Seats.{AreSeated, AreApart}
use Rattle.vdev_tree.specs.declared.vdev.LeafVdev.{LeafVdev}
use Rattle.pool_core.specs.declared.pool.Pool.{Pool}
use Rattle.pool_core.specs.Keeping.{IsSeated, HasRoom}
use Rattle.pool_core.specs.Seating.{HasRoomFor}
use Rattle.pool_core.proofs.Boards.{pair_board, board_seated, board_apart, board_room}
use Rattle.pool_core.proofs.Validating.{pool_valid}

pub pool_seated : (size : ℕ → ℕ) (pool : Pool) (members : List Member) → members ≡ pair_board pool.pair → IsSeated size pool → AreSeated size members
pool_seated size pool members are seated =
    subst (AreSeated size) (sym are) (board_seated size pool.pair.sectors pool.pair seated.0 seated.1 (pool_valid pool).sectors.0)

pub pool_apart : (pool : Pool) (members : List Member) → members ≡ pair_board pool.pair → AreApart members
pool_apart pool members are = subst AreApart (sym are) (board_apart pool.pair pool.apart)

-- each member's device has the sectors before the end of the data
pub pool_room : (size : ℕ → ℕ) (pool : Pool) (members : List Member) (sector : ℕ) → members ≡ pair_board pool.pair → sector < pool.pair.sectors + 256
    → IsSeated size pool → HasRoomFor size members sector
pool_room size pool members sector are small seated =
    subst (λ some. HasRoomFor size some sector) (sym are) (board_room size pool.pair.sectors sector pool.pair seated.0 seated.1 small)

-- the first sector, and the data sectors of the first 32 addresses
pub first_room : (size : ℕ → ℕ) (pool : Pool) (members : List Member) → members ≡ pair_board pool.pair → IsSeated size pool → HasRoomFor size members 0
first_room size pool members are seated = pool_room size pool members 0 are (omega arith) seated

pub data_room : (size : ℕ → ℕ) (pool : Pool) (members : List Member) (sector : ℕ) → members ≡ pair_board pool.pair → sector < 192
    → IsSeated size pool → HasRoomFor size members sector
data_room size pool members sector are small seated =
    let v = pool_valid pool in
    pool_room size pool members sector are (omega (arith, v.sectors.0)) seated

still_room : (size size' : ℕ → ℕ) (sectors : ℕ) (leaf : LeafVdev) → ((d : ℕ) → size' d ≡ size d) → HasRoom size sectors leaf → HasRoom size' sectors leaf
still_room size size' sectors leaf same room d e = omega (arith, room d e, same d)

-- sizes that stay keep a pool seated
pub seated_on : (size size' : ℕ → ℕ) (pool : Pool) → ((d : ℕ) → size' d ≡ size d) → IsSeated size pool → IsSeated size' pool
seated_on size size' pool same seated =
    (still_room size size' pool.pair.sectors pool.pair.first same seated.0, still_room size size' pool.pair.sectors pool.pair.second same seated.1)
