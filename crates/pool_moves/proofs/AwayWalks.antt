-- Writes may be taken and leaves may go offline: their walks from their rows.
use Rattle.std.proofs.Common.{◌≡◌, inl, inr, ℕ, ◌==◌, nat_lt, Bool, true, false, cond, Option, Some, None, List, [], ◌∷◌, ◌++◌, map, refl, sym, ap, ◌∙◌, subst, arith}
use Rattle.std.specs.List.{AllByRecursion, find}
use Rattle.std.specs.Str.{bytes_eq}
use Rattle.std.proofs.lemmas.Bool.Decides.{nat_tests}
use Rattle.txg_history.specs.Pages.{Codec}
use Rattle.txg_history.specs.Pools.{Pool}
use Rattle.txg_history.specs.Scans.{Scan}
use Rattle.txg_history.proofs.Logging.{by_bool, same_device, true_not_false}
use Rattle.pool_moves.specs.AwayRows.{WriteReply, WriteFits, WriteBy, RowWrite, OfflineReply, is_offline, is_spare, LeaveIf, drop_if, drops_leaf, gone, GoesAway, OfflineLeaf, OfflineHere, OfflineBy, leaf_named, RowOffline}
use Rattle.pool_moves.specs.Keeping.{IsElsewhere, AreSeatsApart, IsAway, IsOfFound, IsFoundAt, HasFound, Kept, Walks}
use Rattle.pool_moves.specs.Leaves.{LeafSeen, Seat, At, Adrift, told, dev_if, leaf_seen}
use Rattle.pool_moves.specs.Moves.{Move, Leave, Sets, on_dev, steps, after_moves}
use Rattle.pool_moves.specs.Refusing.{count_below, keys_needed, written_with, dirty_with}
use Rattle.pool_moves.specs.States.{scan_seen, PoolState, Side}
use Rattle.pool_moves.proofs.Boarding.{found_alone}
use Rattle.pool_moves.proofs.FreeWalks.{walks_more}
use Rattle.pool_moves.proofs.Keeping.{walk_keeps}
use Rattle.pool_moves.proofs.Widenings.{widened_walk, seen_of}
use Rattle.pool_moves.proofs.FreezeWalks.{found_elsewhere}
use Rattle.pool_moves.proofs.Tests.{some_same}

-- A write is taken.
write_fits : (c : Codec) (short : Bool) (t : Side) (need free a : ℕ) (block : List ℕ) (vs : List Move) (reply : WriteReply)
    → WriteFits short need free a block vs reply → Walks c t vs
write_fits c true t need free a block vs reply row = subst (Walks c t) (sym row.0) tt
write_fits c false t need free a block vs reply row = subst (Walks c t) (sym row.0) (((tt, tt), tt), tt)

write_by : (c : Codec) (full : Bool) (s : PoolState) (t : Side) (a : ℕ) (block : List ℕ) (vs : List Move) (reply : WriteReply)
    → WriteBy full s a block vs reply → Walks c t vs
write_by c true s t a block vs reply row = subst (Walks c t) (sym row.0) tt
write_by c false s t a block vs reply row =
    write_fits c (nat_lt row.0 (keys_needed s.own.blocks (written_with a s))) t (keys_needed s.own.blocks (written_with a s)) row.0 a block vs reply row.2

pub write_walks : (c : Codec) (s : PoolState) (t : Side) (a : ℕ) (block : List ℕ) (vs : List Move) (reply : WriteReply) → RowWrite s a block vs reply
    → Walks c t vs
write_walks c s t a block vs reply (inl row) = subst (Walks c t) (sym row.1) tt
write_walks c s t a block vs reply (inr row) = write_by c (nat_lt 4096 (count_below s.own.blocks (dirty_with a s))) s t a block vs reply row.1

-- A leaf that is on the board is one of a frozen group that the run has found.
abbrev IsBoarded : (frozen : Bool) → List Seat → LeafSeen → Type 0
IsBoarded frozen seats leaf = leaf.on ≡ true → (frozen ≡ true) × ((d : ℕ) → leaf.dev ≡ Some d → HasFound d seats)

on_of : (frozen on : Bool) → cond frozen on false ≡ true → frozen ≡ true
on_of true on is = refl
on_of false on is = absurd (cc)

dev_found : (found : Bool) (e d : ℕ) → dev_if found e ≡ Some d → ((d == e) ≡ true) × (found ≡ true)
dev_found true e d is = (let same : e ≡ d = cc in subst (λ n. (n == e) ≡ true) same (let here : (e == e) ≡ true = grind (arith, nat_tests) in here), refl)
dev_found false e d is = absurd (cc)

boarded_leaf : (f : Bool) (p : Pool) (all : List Seat) (seat : Seat) → IsAway seat → ((d : ℕ) → IsFoundAt d seat → HasFound d all)
    → IsBoarded f all (leaf_seen f (told p) seat)
boarded_leaf f p all (At e found own) away up = λ on. (on_of f (p.group.board e) on, λ d dev. up d (dev_found found e d dev))
boarded_leaf f p all (Adrift leaf) away up = λ on. true_not_false leaf.on on away.1

-- the leaf that is found by a test is one of them
found_leaf : (test : LeafSeen → Bool) (f : Bool) (p : Pool) (all seats : List Seat) (leaf : LeafSeen) → AllByRecursion IsAway seats
    → ((d : ℕ) → HasFound d seats → HasFound d all)
    → find test (map (leaf_seen f (told p)) seats) ≡ Some leaf → IsBoarded f all leaf
found_leaf test f p all [] leaf away up is = absurd (cc)
found_leaf test f p all (seat ∷ seats) leaf away up is = by_bool (test (leaf_seen f (told p) seat))
    (λ yes. subst (IsBoarded f all) (let same : leaf_seen f (told p) seat ≡ leaf = some_same (leaf_seen f (told p) seat) leaf
    (sym (ap (λ t. cond t (Some (leaf_seen f (told p) seat)) (find test (map (leaf_seen f (told p)) seats))) yes) ∙ is) in same)
    (boarded_leaf f p all seat away.0 (λ d at. up d (inl at))))
    (λ no. found_leaf test f p all seats leaf away.1 (λ d has. up d (inr has))
    (sym (ap (λ t. cond t (Some (leaf_seen f (told p) seat)) (find test (map (leaf_seen f (told p)) seats))) no) ∙ is))

-- no leaf that the run has not found is at the device of one that it has
pub only_found : (d : ℕ) (seats : List Seat) → AreSeatsApart seats → HasFound d seats → AllByRecursion (IsOfFound (λ e. d == e)) seats
only_found d [] apart has = absurd has
only_found d (At e found own ∷ seats) apart (inl is) =
    ((λ un. true_not_false found is.1 un), found_alone d seats (subst (λ n. AllByRecursion (IsElsewhere n) seats) (sym (same_device d e is.0)) apart.0))
only_found d (At e found own ∷ seats) apart (inr has) = (
  (λ un. by_bool (d == e) (λ same. found_elsewhere d seats (subst (λ n. AllByRecursion (IsElsewhere n) seats) (sym (same_device d e same)) apart.0) has)
      (λ off. off)),
  only_found d seats apart.1 has,
)
only_found d (Adrift leaf ∷ seats) apart (inl is) = absurd is
only_found d (Adrift leaf ∷ seats) apart (inr has) = (tt, only_found d seats apart has)

leave_walk : (c : Codec) (s : PoolState) (t : Side) (on : Bool) (dev : Option ℕ) (vs : List Move) → Kept c s t
    → (on ≡ true → (d : ℕ) → dev ≡ Some d → (t.pool.group.frozen ≡ true) × AllByRecursion (IsOfFound (λ e. d == e)) t.seats) → LeaveIf on dev s.core vs → Walks c t vs
leave_walk c s t true (Some d) vs kept is leaves = let at = is refl d refl in widened_walk c (Leave d) vs s t kept (((at.0, tt), at), tt) leaves
leave_walk c s t true None vs kept is leaves = subst (Walks c t) (sym leaves) tt
leave_walk c s t false dev vs kept is leaves = subst (Walks c t) (sym leaves) tt

-- an eligible leaf is so of a running scan
scan_runs : (running : Bool) (scan : Scan) (dev : Option ℕ) → on_dev (scan_seen running scan).eligible dev ≡ true → running ≡ true
scan_runs true scan dev is = refl
scan_runs false scan (Some d) is = absurd (cc)
scan_runs false scan None is = absurd (cc)

drop_walk : (c : Codec) (t : Side) (on : Bool) (dev : Option ℕ) → (on ≡ true → t.pool.scan.running ≡ true) → Walks c t (drop_if on dev)
drop_walk c t true (Some d) is = (((tt, tt), is refl), tt)
drop_walk c t true None is = tt
drop_walk c t false dev is = tt

-- behind a leaf that left the scan its group is still frozen, and each seat as it was
drop_still : (on : Bool) (dev : Option ℕ) (t : Side) → ((after_moves (drop_if on dev) t).pool.group ≡ t.pool.group) × ((after_moves (drop_if on dev) t).seats ≡ t.seats)
drop_still true (Some d) t = (refl, refl)
drop_still true None t = (refl, refl)
drop_still false dev t = (refl, refl)

away_walk : (c : Codec) (s : PoolState) (t : Side) (leaf : LeafSeen) (temporary : Bool) (vs : List Move) → Kept c s t → IsBoarded t.pool.group.frozen t.seats leaf
    → GoesAway s leaf temporary vs → Walks c t vs
away_walk c s t leaf temporary vs kept at goes =
    let drops = drops_leaf s.core.scan leaf in
    let dropped = drop_walk c t (on_dev s.core.scan.eligible leaf.dev) leaf.dev (λ is. scan_runs t.pool.scan.running t.pool.scan leaf.dev
    (sym (ap (λ core. on_dev core.scan.eligible leaf.dev) kept.core) ∙ is)) in
    let still = drop_still (on_dev s.core.scan.eligible leaf.dev) leaf.dev t in
    subst (Walks c t) (sym goes.moves)
    (walks_more c drops (goes.leaving ++ (Sets leaf.guid (gone temporary leaf.own) ∷ [])) t dropped
    (walks_more c goes.leaving (Sets leaf.guid (gone temporary leaf.own) ∷ []) (after_moves drops t)
    (leave_walk c (steps drops s) (after_moves drops t) leaf.on leaf.dev goes.leaving (walk_keeps c drops s t dropped kept) (λ on d dev. (
      ap (λ group. group.frozen) still.0 ∙ (at on).0,
      subst (AllByRecursion (IsOfFound (λ e. d == e))) (sym still.1) (only_found d t.seats kept.apart ((at on).1 d dev)),
    )) (subst (λ core. LeaveIf leaf.on leaf.dev core goes.leaving) (sym (seen_of drops s)) goes.leaves)) ((tt, tt), tt)))

offline_leaf : (c : Codec) (already : Bool) (s : PoolState) (t : Side) (leaf : LeafSeen) (temporary : Bool) (vs : List Move) (reply : OfflineReply) → Kept c s t
    → IsBoarded t.pool.group.frozen t.seats leaf → OfflineLeaf already s leaf temporary vs reply → Walks c t vs
offline_leaf c true s t leaf temporary vs reply kept at row = subst (Walks c t) (sym row.0) ((tt, tt), tt)
offline_leaf c false s t leaf temporary vs reply kept at (inl row) = subst (Walks c t) (sym row.2) tt
offline_leaf c false s t leaf temporary vs reply kept at (inr row) = away_walk c s t leaf temporary vs kept at row.1

offline_here : (c : Codec) (spare : Bool) (s : PoolState) (t : Side) (leaf : LeafSeen) (temporary : Bool) (vs : List Move) (reply : OfflineReply) → Kept c s t
    → IsBoarded t.pool.group.frozen t.seats leaf → OfflineHere spare s leaf temporary vs reply → Walks c t vs
offline_here c true s t leaf temporary vs reply kept at row = subst (Walks c t) (sym row.0) tt
offline_here c false s t leaf temporary vs reply kept at row = offline_leaf c (is_offline leaf.own.mode) s t leaf temporary vs reply kept at row

offline_by : (c : Codec) (found : Option LeafSeen) (s : PoolState) (t : Side) (name : List ℕ) (temporary : Bool) (vs : List Move) (reply : OfflineReply)
    → Kept c s t
    → ((leaf : LeafSeen) → found ≡ Some leaf → IsBoarded t.pool.group.frozen t.seats leaf) → OfflineBy found s name temporary vs reply
    → Walks c t vs
offline_by c None s t name temporary vs reply kept at row = subst (Walks c t) (sym row.0) tt
offline_by c (Some leaf) s t name temporary vs reply kept at row = offline_here c (is_spare s leaf) s t leaf temporary vs reply kept (at leaf refl) row

-- the leaf of a name, as the history has it
pub named_at : (c : Codec) (s : PoolState) (t : Side) (name : List ℕ) (leaf : LeafSeen) → Kept c s t → leaf_named name s.core.leaves ≡ Some leaf
    → IsBoarded t.pool.group.frozen t.seats leaf
named_at c s t name leaf kept is =
    found_leaf (λ leaf. bytes_eq leaf.own.name name) t.pool.group.frozen t.pool t.seats t.seats leaf kept.away (λ d has. has)
    (sym (ap (λ core. leaf_named name core.leaves) kept.core) ∙ is)

-- A leaf goes offline, also in the middle of a group.
pub offline_walks : (c : Codec) (s : PoolState) (t : Side) (name : List ℕ) (temporary : Bool) (vs : List Move) (reply : OfflineReply) → Kept c s t
    → RowOffline s name temporary vs reply → Walks c t vs
offline_walks c s t name temporary vs reply kept row = offline_by c (leaf_named name s.core.leaves) s t name temporary vs reply kept
    (λ leaf is. named_at c s t name leaf kept is) row
