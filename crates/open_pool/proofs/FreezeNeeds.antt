-- A freeze needs as many places as the row counts.
use Rattle.std.proofs.Common.{◌≡◌, ℕ, ◌+◌, ◌<◌, ◌==◌, ◌||◌, List, [], ◌∷◌, ◌++◌, All, length, map, refl, sym, ap, ◌∙◌, arith, length-append}
use Rattle.std.proofs.lemmas.List.{length-map}
use Rattle.block_map.specs.Dirty.{pages_above, dirty_pages}
use Rattle.txg_engine.specs.declared.write.Write.{Write}
use Rattle.txg_engine.specs.Freezing.{addr_of, block_keys, page_keys}
use Rattle.txg_engine.specs.Refusing.{need}
use Rattle.txg_engine.specs.Writes.{RiseFrom, is_written}
use Rattle.txg_engine.proofs.AddressesRise.{addrs_rise}
use Rattle.pool_moves.specs.Refusing.{keys_needed}
use Rattle.txg_history.specs.Records.{key}
use Rattle.open_pool.proofs.PagesDirty.{keys_counted}
use Rattle.open_pool.proofs.RisingCounted.{is_among, listed_by}
use Rattle.open_pool.proofs.WritesCounted.{written_by, written_low}

among_written : (ws : List Write) (x : ℕ) → is_among (map addr_of ws) x ≡ is_written ws x
among_written [] x = refl
among_written (w ∷ ws) x = ap (λ b. (w.addr == x) || b) (among_written ws x) ∙ sym (written_by w ws x)

need_is : (ws : List Write) → length (map addr_of ws) + dirty_pages (map addr_of ws) ≡ need ws
need_is ws =
    let addrs = map addr_of ws in
    let blocks = length-map ws addr_of in
    let keys = length-map ws (λ (w : Write). key 0 w.addr) in
    let all = length-append (block_keys ws) (page_keys addrs) in
    let pages = length-append (pages_above 1 addrs) (pages_above 2 addrs ++ pages_above 3 addrs) in
    let upper = length-append (pages_above 2 addrs) (pages_above 3 addrs) in
    omega (arith, blocks, keys, all, pages, upper)

pub need_counted : (limit : ℕ) (ws : List Write) → RiseFrom 0 ws → All (λ write. write.addr < limit) ws
    → keys_needed limit (is_written ws) ≡ need ws
need_counted limit ws rise inside =
    keys_counted limit (is_written ws) (map addr_of ws)
    (listed_by limit (is_written ws) (map addr_of ws) (addrs_rise 0 ws rise) (among_written ws) (written_low limit ws inside))
    (written_low limit ws inside)
    ∙ need_is ws
