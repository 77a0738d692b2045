-- The addresses of the open group with one more, which rise, tell how many keys it needs then.
use Rattle.std.proofs.Common.{◌≡◌, ℕ, ◌+◌, ◌*◌, ◌<◌, ◌≤◌, true, List, length, sym, arith}
use Rattle.block_map.specs.Dirty.{Rises, dirty_pages}
use Rattle.txg_engine.specs.Writes.{RiseFrom, is_written}
use Rattle.std.specs.Prelude.{is_some}
use Rattle.txg_history.specs.Records.{key}
use Rattle.pool_moves.specs.Refusing.{count_below, keys_needed}
use Rattle.open_pool.specs.Form.{IsPool}
use Rattle.open_pool.specs.Parts.{PoolParts}
use Rattle.open_pool.specs.State.{cells_in}
use Rattle.open_pool.specs.Space.{written_too}
use Rattle.open_pool.proofs.CountsBelow.{count_also_most}
use Rattle.open_pool.proofs.FewKeys.{few_keys}
use Rattle.open_pool.proofs.PagesDirty.{keys_counted}
use Rattle.open_pool.proofs.RisingCounted.{is_among, listed_by}
use Rattle.open_pool.proofs.WritesCounted.{count_writes, writes_within, written_too_low}

module _ (p : PoolParts) (pool : IsPool p) (rise : RiseFrom 0 p.unfrozen.writes) where
  pub few_writes : length p.unfrozen.writes ≤ 4096
  few_writes =
      let count = pool.unfrozen.count in
      let few = pool.unfrozen.few in
      writes_within p.map.blocks 4096 p.unfrozen.writes (λ x. is_some (cells_in p.frozen (key 0 x))) rise pool.unfrozen.inside (omega arith)

  pub need_is : (a : ℕ) (addrs : List ℕ) → a < p.map.blocks → Rises addrs
      → ((x : ℕ) → is_among addrs x ≡ written_too a p.unfrozen.writes x)
      → length addrs + dirty_pages addrs ≡ keys_needed p.map.blocks (written_too a p.unfrozen.writes)
  need_is a addrs low rising are =
      sym (keys_counted p.map.blocks (written_too a p.unfrozen.writes) addrs
      (listed_by p.map.blocks (written_too a p.unfrozen.writes) addrs rising are all_low) all_low)
    where
      all_low : (x : ℕ) → written_too a p.unfrozen.writes x ≡ true → x < p.map.blocks
      all_low x is = written_too_low p.map.blocks a p.unfrozen.writes pool.unfrozen.inside low x is

  -- it never needs more than four for each address
  pub need_at_most : (a : ℕ) → a < p.map.blocks
      → keys_needed p.map.blocks (written_too a p.unfrozen.writes) ≤ 4 * (length p.unfrozen.writes + 1)
  need_at_most a low =
      let few = few_keys p.map.blocks (written_too a p.unfrozen.writes)
      (written_too_low p.map.blocks a p.unfrozen.writes pool.unfrozen.inside low) in
      let one = count_also_most p.map.blocks a (is_written p.unfrozen.writes) in
      let all = count_writes p.map.blocks 0 p.unfrozen.writes rise pool.unfrozen.inside in
      four (keys_needed p.map.blocks (written_too a p.unfrozen.writes)) (count_below p.map.blocks (written_too a p.unfrozen.writes))
      (count_below p.map.blocks (is_written p.unfrozen.writes)) (length p.unfrozen.writes) few one all
    where
      four : (keys more count all : ℕ) → keys ≤ 4 * more → more ≤ count + 1 → count ≡ all → keys ≤ 4 * (all + 1)
      four keys more count all p q r = omega arith
