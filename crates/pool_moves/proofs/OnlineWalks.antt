-- A leaf may come online: its walk from its row.
use Rattle.std.proofs.Common.{◌≡◌, ℕ, ◌+◌, ◌≤◌, nat_le, Bool, true, false, Option, Some, None, List, [], ◌∷◌, ◌++◌, Result, Ok, Err, refl, sym, subst, arith}
use Rattle.bank_core.specs.declared.bank.Fault.{Fault}
use Rattle.bank_core.specs.Disk.{Noted}
use Rattle.label_store.specs.Identities.{IsSearch}
use Rattle.txg_history.specs.Pages.{Codec}
use Rattle.txg_history.specs.Pools.{Pool}
use Rattle.pool_moves.specs.AwayRows.{leaf_named}
use Rattle.pool_moves.specs.Keeping.{Kept, Walks}
use Rattle.pool_moves.specs.Leaves.{LeafSeen}
use Rattle.pool_moves.specs.LineRows.{IsSized}
use Rattle.pool_moves.specs.Moves.{Move, Sets, Finds, steps, after_move, after_moves}
use Rattle.pool_moves.specs.OnlineRow.{HostDevice, Handed, OnlineReply, Stands, is_away, brought_own, searched_own, SearchEnds, ScansBehind, BringsBack, OnlineRoomy, MarksOnly, OnlineAway, OnlineOn, OnlineBy, RowOnline, FindMembers}
use Rattle.pool_moves.specs.OpeningRow.{AreWholeReads}
use Rattle.pool_moves.specs.ReadRow.{made_in}
use Rattle.pool_moves.specs.States.{PoolState, Side}
use Rattle.pool_moves.specs.Walking.{as_moves}
use Rattle.pool_moves.proofs.FreeWalks.{walks_more, calls_pool}
use Rattle.pool_moves.proofs.Keeping.{walk_keeps}
use Rattle.pool_moves.proofs.ReadWalks.{calls_walk}
use Rattle.pool_moves.proofs.ResilverWalks.{resilver_walks}
use Rattle.pool_moves.proofs.Seeking.{reads_may, search_reads, search_home}
use Rattle.pool_moves.proofs.Tests.{le_of}

finds_first : (p : Pool) (made : List Noted) (vs ws : List Move) → FindMembers p ((as_moves made ++ vs) ++ ws) → FindMembers p (vs ++ ws)
finds_first p [] vs ws all = all
finds_first p (noted ∷ made) vs ws all = finds_first p made vs ws all

-- the search's reads
search_walk : (c : Codec) (t : Side) (made : List Noted) (vs : List Move) (size : ℕ) (leaf : LeafSeen) (d : ℕ) (result : Result Bool Fault)
    → IsSearch t.pool.pool leaf.guid d size made result
    → Walks c (after_moves (as_moves made) t) vs → Walks c t (as_moves made ++ vs)
search_walk c t made vs size leaf d result search more =
    walks_more c (as_moves made) vs t (calls_walk c made t (reads_may c t.pool made (search_reads t.pool.pool leaf.guid d size made result search))) more

ends_walk : (c : Codec) (s : PoolState) (t : Side) (size : ℕ) (leaf : LeafSeen) (d : ℕ) (made : List Noted) (result : Result Bool Fault)
    (vs rest : List Move) (reply : OnlineReply) → Kept c s t
    → size ≡ t.pool.size d → IsSearch t.pool.pool leaf.guid d size made result → SearchEnds result leaf d made vs reply
    → AreWholeReads t.pool (made_in (vs ++ rest)) → FindMembers t.pool (vs ++ rest) → Walks c t vs
ends_walk c s t size leaf d made (Ok true) vs rest reply kept sized search ends whole members = subst (Walks c t) (sym ends.0)
    (search_walk c t made (Finds leaf.guid d ∷ Sets leaf.guid (brought_own (searched_own made leaf.own)) ∷ []) size leaf d (Ok true) search
    ((tt, subst (λ p. (p.member d ≡ true) × (p.guid d ≡ leaf.guid)) (sym (calls_pool made t)) (mine, home)), ((tt, tt), tt)))
  where
    found : List Move
    found = Finds leaf.guid d ∷ Sets leaf.guid (brought_own (searched_own made leaf.own)) ∷ []

    mine : t.pool.member d ≡ true
    mine = (finds_first t.pool made (Finds leaf.guid d ∷ Sets leaf.guid (brought_own (searched_own made leaf.own)) ∷ []) rest
        (subst (λ l. FindMembers t.pool (l ++ rest)) ends.0 members)).0

    calls_first : (made : List Noted) (vs ws : List Move) → AreWholeReads t.pool (made_in ((as_moves made ++ vs) ++ ws)) → AreWholeReads t.pool made
    calls_first [] vs ws all = tt
    calls_first (noted ∷ made) vs ws all = (all.0, calls_first made vs ws all.1)

    home : t.pool.guid d ≡ leaf.guid
    home = search_home c t.pool leaf.guid d made kept.survives mine (subst (λ n. IsSearch t.pool.pool leaf.guid d n made (Ok true)) sized search)
        (calls_first made (Finds leaf.guid d ∷ Sets leaf.guid (brought_own (searched_own made leaf.own)) ∷ []) rest
        (subst (λ l. AreWholeReads t.pool (made_in (l ++ rest))) ends.0 whole))
ends_walk c s t size leaf d made (Ok false) vs rest reply kept sized search ends whole members = subst (Walks c t) (sym ends.0)
    (search_walk c t made (Sets leaf.guid (searched_own made leaf.own) ∷ []) size leaf d (Ok false) search ((tt, tt), tt))
ends_walk c s t size leaf d made (Err fault) vs rest reply kept sized search ends whole members = subst (Walks c t) (sym ends.0)
    (search_walk c t made (Sets leaf.guid (searched_own made leaf.own) ∷ []) size leaf d (Err fault) search ((tt, tt), tt))

scans_walk : (c : Codec) (reply : OnlineReply) (s : PoolState) (t : Side) (vs : List Move) → Kept c s t → ScansBehind reply s vs → Walks c t vs
scans_walk c (Stands mode) s t vs kept row = resilver_walks c s t vs kept row
scans_walk c reply s t vs kept row = subst (Walks c t) (sym row) tt

brings_walk : (c : Codec) (size : ℕ → ℕ) (s : PoolState) (t : Side) (leaf : LeafSeen) (d : ℕ) (vs : List Move) (reply : OnlineReply) → Kept c s t
    → IsSized size t → 1 ≤ size d
    → BringsBack size s leaf d vs reply → AreWholeReads t.pool (made_in vs) → FindMembers t.pool vs → Walks c t vs
brings_walk c size s t leaf d vs reply kept same some row whole members =
    let first = ends_walk c s t (size d) leaf d row.made row.result row.first row.rest reply kept (sym (same d some))
    (subst (λ core. IsSearch core.pool leaf.guid d (size d) row.made row.result) kept.core row.search) row.ends
    (subst (λ l. AreWholeReads t.pool (made_in l)) row.moves whole) (subst (FindMembers t.pool) row.moves members) in
    subst (Walks c t) (sym row.moves) (walks_more c row.first row.rest t first
    (scans_walk c reply (steps row.first s) (after_moves row.first t) row.rest (walk_keeps c row.first s t first kept) row.scans))

online_roomy : (c : Codec) (roomy : Bool) (size : ℕ → ℕ) (s : PoolState) (t : Side) (leaf : LeafSeen) (d : ℕ) (vs : List Move) (reply : OnlineReply)
    → Kept c s t → IsSized size t
    → nat_le (s.core.room leaf.top + 256) (size d) ≡ roomy → OnlineRoomy roomy size s leaf d vs reply → AreWholeReads t.pool (made_in vs)
    → FindMembers t.pool vs → Walks c t vs
online_roomy c false size s t leaf d vs reply kept same is row whole members = subst (Walks c t) (sym row.0) tt
online_roomy c true size s t leaf d vs reply kept same is row whole members =
    brings_walk c size s t leaf d vs reply kept same (some_of (s.core.room leaf.top) (size d) is) row whole members
  where
    some_of : (room n : ℕ) → nat_le (room + 256) n ≡ true → 1 ≤ n
    some_of room n e = let le : room + 256 ≤ n = le_of (room + 256) n e in omega (arith, le)

marks_walk : (c : Codec) (s : PoolState) (t : Side) (leaf : LeafSeen) (vs : List Move) (reply : OnlineReply) → Kept c s t → MarksOnly s leaf vs reply
    → Walks c t vs
marks_walk c s t leaf vs reply kept row = subst (Walks c t) (sym row.moves) (
  (tt, tt),
  resilver_walks c (steps (Sets leaf.guid (record (leaf.own) { marked = true }) ∷ []) s)
      (after_move (Sets leaf.guid (record (leaf.own) { marked = true })) t) row.rest
      (walk_keeps c (Sets leaf.guid (record (leaf.own) { marked = true }) ∷ []) s t ((tt, tt), tt) kept) row.scans,
)

online_away : (c : Codec) (away : Bool) (size : ℕ → ℕ) (s : PoolState) (t : Side) (leaf : LeafSeen) (d : ℕ) (vs : List Move) (reply : OnlineReply)
    → Kept c s t → IsSized size t
    → OnlineAway away size s leaf d vs reply → AreWholeReads t.pool (made_in vs) → FindMembers t.pool vs → Walks c t vs
online_away c false size s t leaf d vs reply kept same row whole members = marks_walk c s t leaf vs reply kept row
online_away c true size s t leaf d vs reply kept same row whole members =
    online_roomy c (nat_le (s.core.room leaf.top + 256) (size d)) size s t leaf d vs reply kept same refl row whole members

online_on : (c : Codec) (device : HostDevice) (size : ℕ → ℕ) (s : PoolState) (t : Side) (leaf : LeafSeen) (vs : List Move) (reply : OnlineReply)
    → Kept c s t → IsSized size t
    → OnlineOn device size s leaf vs reply → AreWholeReads t.pool (made_in vs) → FindMembers t.pool vs → Walks c t vs
online_on c (Handed d) size s t leaf vs reply kept same row whole members = online_away c (is_away leaf.own.mode) size s t leaf d vs reply kept same
    row whole members
online_on c device size s t leaf vs reply kept same row whole members = subst (Walks c t) (sym row.0) tt

online_by : (c : Codec) (found : Option LeafSeen) (size : ℕ → ℕ) (s : PoolState) (t : Side) (listed : Bool) (device : HostDevice) (vs : List Move)
    (reply : OnlineReply) → Kept c s t → IsSized size t
    → OnlineBy found listed device size s vs reply → AreWholeReads t.pool (made_in vs) → FindMembers t.pool vs → Walks c t vs
online_by c None size s t listed device vs reply kept same row whole members = subst (Walks c t) (sym row.0) tt
online_by c (Some leaf) size s t listed device vs reply kept same row whole members = online_on c device size s t leaf vs reply kept same row whole members

-- A leaf comes online, also in the middle of a group.
pub online_walks : (c : Codec) (size : ℕ → ℕ) (s : PoolState) (t : Side) (name : List ℕ) (listed : Bool) (device : HostDevice) (vs : List Move)
    (reply : OnlineReply) → Kept c s t → IsSized size t
    → RowOnline size s name listed device vs reply → AreWholeReads t.pool (made_in vs) → FindMembers t.pool vs → Walks c t vs
online_walks c size s t name listed device vs reply kept same row whole members = online_by c (leaf_named name s.core.leaves) size s t listed device
    vs reply kept same row whole members
