-- A group has at most four keys for each of its addresses: the block, and a page above it on each of three levels.
use Rattle.std.proofs.Common.{◌≡◌, ℕ, ◌+◌, ◌*◌, ◌<◌, ◌≤◌, Bool, true, List, length, arith}
use Rattle.block_map.specs.Dirty.{dirty_pages}
use Rattle.txg_engine.proofs.FewPages.{few_above}
use Rattle.pool_moves.specs.Refusing.{count_below, keys_needed}
use Rattle.open_pool.proofs.PagesDirty.{keys_counted}
use Rattle.open_pool.proofs.RisingCounted.{count_listed, listing}

pub few_pages : (addrs : List ℕ) → dirty_pages addrs ≤ 3 * length addrs
few_pages addrs = omega (arith, few_above 1 addrs, few_above 2 addrs, few_above 3 addrs)

four_each : (keys count all pages : ℕ) → keys ≡ all + pages → count ≡ all → pages ≤ 3 * all → keys ≤ 4 * count
four_each keys count all pages p q r = omega arith

pub few_keys : (blocks : ℕ) (written : ℕ → Bool) → ((x : ℕ) → written x ≡ true → x < blocks)
    → keys_needed blocks written ≤ 4 * count_below blocks written
few_keys blocks written low =
    let (addrs, listed) = listing blocks written in
    four_each (keys_needed blocks written) (count_below blocks written) (length addrs) (dirty_pages addrs)
    (keys_counted blocks written addrs listed low) (count_listed blocks written addrs listed) (few_pages addrs)
