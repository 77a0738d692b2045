-- A pool of which the calls of a read are counted keeps its form.
use Rattle.std.proofs.Common.{◌≡◌, ℕ, suc, ◌≤◌, ◌<◌, ◌==◌, ◌||◌, ◌⊎◌, cond, Bool, true, false, List, [], ◌∷◌, ◌++◌, length, map, Option, Some, None, refl, sym, ap, ap₂, ◌∙◌, subst}
use Rattle.std.specs.Prelude.{All, IfSome, is_some}
use Rattle.std.specs.List.{AllByRecursion, flat_map}
use Rattle.std.specs.Option.{option_map}
use Rattle.std.proofs.lemmas.List.{map-append}
use Rattle.std.proofs.lemmas.List.Elements.{All-from_recursion, recursion_from_All}
use Rattle.mp_base.specs.declared.place.Key.{Key}
use Rattle.mp_base.specs.declared.place.Place.{Place}
use Rattle.group_set.specs.Groups.{holds}
use Rattle.vdev_tree.specs.declared.vdev.LeafVdev.{LeafVdev}
use Rattle.block_map.specs.Keys.{root}
use Rattle.block_map.specs.Map.{pointer_at, is_free}
use Rattle.block_map.specs.Places.{IsPlace}
use Rattle.pool_config.specs.Seen.{TopSeen}
use Rattle.pool_config.specs.Validity.{IsValid}
use Rattle.txg_history.specs.Records.{AreAtOne, Cell, Cells, key}
use Rattle.txg_engine.specs.declared.seat.Seat.{Seat}
use Rattle.txg_engine.specs.Frozen.{FrozenGroup}
use Rattle.txg_engine.specs.Logs.{IsReady}
use Rattle.txg_engine.specs.Writes.{is_written}
use Rattle.txg_engine.proofs.Ready.{board_ready}
use Rattle.pool_moves.specs.FreezeRow.{IsAtPlace}
use Rattle.pool_moves.specs.Refusing.{count_below}
use Rattle.pool_moves.specs.Leaves.{LeafSeen}
use Rattle.pool_moves.specs.States.{Sums, sums, PoolState}
use Rattle.txg_engine.specs.Boards.{count_up, has_seat}
use Rattle.open_pool.specs.declared.count.Counted.{Counted}
use Rattle.open_pool.specs.Counting.{has_fault, counts_with, counted_leaf, counted_top, counted_seat, counted_group, counted_tops, counted_groups}
use Rattle.open_pool.specs.Form.{ArePlacesApart, HasBoard, HasGroup, HasPlaces, IsPool, all_leaves, config_of}
use Rattle.open_pool.specs.Parts.{TopParts, PoolParts}
use Rattle.open_pool.specs.State.{sums_of, cells_in, seats_in, leaves_under, state_of, seen_of}
use Rattle.open_pool.proofs.BoardKept.{IsSameLeaf, AreSameLeaves, board_mapped}
use Rattle.open_pool.proofs.CountsAsMoves.{leaf_with, leaf_along, twice_map}
use Rattle.open_pool.proofs.FaultsCounted.{with_leaves}
use Rattle.open_pool.proofs.FormKept.{devices_still, writable_still}
use Rattle.open_pool.proofs.LeavesByTops.{sizes}
use Rattle.open_pool.proofs.PoolsCounted.{counted_pool, seat_keeps, board_same, same_sectors, same_tops, same_cells, seats_counted, state_counted}

-- A leaf then, and all of them.
module _ (c : Counted) (P : LeafVdev → Type 0) (keeps : (leaf : LeafVdev) → P leaf → P (record leaf { counts = counts_with c leaf.counts })) where
  leaf_still : (leaf : LeafVdev) → P leaf → P (counted_leaf c leaf)
  leaf_still leaf has = by (leaf.guid.0 == c.member.0)
    where
      by : (t : Bool) → P (cond t (record leaf { counts = counts_with c leaf.counts }) leaf)
      by true = keeps leaf has
      by false = has

  each_still : (leaves : List LeafVdev) → AllByRecursion P leaves → AllByRecursion P (map (counted_leaf c) leaves)
  each_still [] has = tt
  each_still (leaf ∷ leaves) has = (leaf_still leaf has.0, each_still leaves has.1)

leaves_are : (c : Counted) (tops : List TopParts) → flat_map (λ top. top.leaves) (map (counted_top c) tops) ≡ map (counted_leaf c) (flat_map (λ top. top.leaves) tops)
leaves_are c [] = refl
leaves_are c (top ∷ tops) = ap (λ ls. map (counted_leaf c) top.leaves ++ ls) (leaves_are c tops)
    ∙ sym (map-append (counted_leaf c) top.leaves (flat_map (λ top. top.leaves) tops))

all_still : (c : Counted) (p : PoolParts) (P : LeafVdev → Type 0) → ((leaf : LeafVdev) → P leaf → P (record leaf { counts = counts_with c leaf.counts }))
    → All P (all_leaves p) → All P (all_leaves (counted_pool c p))
all_still c p P keeps has =
    subst (All P) (sym (leaves_are c p.tops)) (All-from_recursion P (map (counted_leaf c) (all_leaves p))
    (each_still c P keeps (all_leaves p) (recursion_from_All P (all_leaves p) has)))

same_each : (c : Counted) (leaves : List LeafVdev) → AreSameLeaves leaves (map (counted_leaf c) leaves)
same_each c [] = tt
same_each c (leaf ∷ leaves) = (by (leaf.guid.0 == c.member.0), same_each c leaves)
  where
    by : (t : Bool) → IsSameLeaf leaf (cond t (record leaf { counts = counts_with c leaf.counts }) leaf)
    by true = record { guid = refl; name = refl; dev = refl; state = refl; temporary = refl }
    by false = record { guid = refl; name = refl; dev = refl; state = refl; temporary = refl }

same_all : (c : Counted) (p : PoolParts) → AreSameLeaves (all_leaves p) (all_leaves (counted_pool c p))
same_all c p = subst (AreSameLeaves (all_leaves p)) (sym (leaves_are c p.tops)) (same_each c (all_leaves p))

same_long : (c : Counted) (leaves : List LeafVdev) → length (map (counted_leaf c) leaves) ≡ length leaves
same_long c [] = refl
same_long c (leaf ∷ leaves) = ap suc (same_long c leaves)

same_sizes : (c : Counted) (tops : List TopParts) → sizes (leaves_under (map (counted_top c) tops)) ≡ sizes (leaves_under tops)
same_sizes c [] = refl
same_sizes c (top ∷ tops) = ap₂ (λ a b. a ∷ b) (same_long c top.leaves) (same_sizes c tops)

ready_still : (c : Counted) (seats : List Seat) (last : ℕ) (leaf : LeafVdev) → IsReady seats last leaf
    → IsReady seats last (record leaf { counts = counts_with c leaf.counts })
ready_still c seats last leaf ready = record {
  on = λ on. let room = ready.on on in record { log = room.log; settled = room.settled };
  off = ready.off;
  spare = ready.spare;
  settled = ready.settled;
}

seats_there : (c : Counted) (top : ℕ) (seats : List Seat) → has_seat top (map (counted_seat c) seats) ≡ has_seat top seats
seats_there c top [] = refl
seats_there c top (seat ∷ seats) =
    ap (λ t. (t == top) || has_seat top (map (counted_seat c) seats)) (by (has_fault c) (seat.member.guid.0 == c.member.0))
    ∙ ap (λ b. (seat.top == top) || b) (seats_there c top seats)
  where
    by : (fault t : Bool) → (cond fault (cond t (record seat { faults = count_up seat.faults }) seat) seat).top ≡ seat.top
    by true true = refl
    by true false = refl
    by false t = refl

-- Its group and its places.
group_still : (c : Counted) (p : PoolParts) (frozen : Option FrozenGroup) → IfSome frozen (HasGroup p) → IfSome (option_map (counted_group c) frozen) (HasGroup (counted_pool c p))
group_still c p None has = tt
group_still c p (Some group) has = record {
  unacked = has.unacked;
  after = has.after;
  last = has.last;
  keys = has.keys;
  pointers = has.pointers;
  signed = has.signed;
  ready = board_ready group.board (map (counted_seat c) group.board) group.numbers.last.0 (all_leaves (counted_pool c p)) (board_same c group.board)
      (all_still c p (IsReady group.board group.numbers.last.0) (ready_still c group.board group.numbers.last.0) has.ready);
  pins_room = has.pins_room;
  tops = λ top inside. seats_there c top group.board ∙ has.tops top inside;
}

places_still : (c : Counted) (p : PoolParts) → HasPlaces p → HasPlaces (counted_pool c p)
places_still c p has =
    let same : cells_in p.frozen ≡ cells_in (option_map (counted_group c) p.frozen) = sym (same_cells c p.frozen) in
    record {
      taken = subst (λ (cells : Cells). (place : Place) → IsPlace p.map.sectors place → is_free p.map place ≡ false
          → IsAtPlace (sums_of p.map) (suc place.top) place.sector ⊎ IsAtPlace (sums cells) (suc place.top) place.sector) same has.taken;
      committed = has.committed;
      frozen = subst (λ (cells : Cells). (place : Place) → IsAtPlace (sums cells) (suc place.top) place.sector → is_free p.map place ≡ false) same has.frozen;
      listed = has.listed;
      inside = has.inside;
    }

apart_still : (c : Counted) (p : PoolParts) → ArePlacesApart p → ArePlacesApart (counted_pool c p)
apart_still c p has =
    let same : cells_in p.frozen ≡ cells_in (option_map (counted_group c) p.frozen) = sym (same_cells c p.frozen) in
    record {
      committed = has.committed;
      frozen = subst (λ (cells : Cells). (j k : Key) (a b : Cell) → cells j ≡ Some a → cells k ≡ Some b → AreAtOne a b → j ≡ k) same has.frozen;
      between = subst (λ (cells : Cells). (top sector : ℕ) → IsAtPlace (sums_of p.map) top sector → IsAtPlace (sums cells) top sector → ⊥) same has.between;
    }

pub pool_counted : (c : Counted) (p : PoolParts) → IsPool p → IsPool (counted_pool c p)
pool_counted c p pool = record {
  recordable = subst (λ (tops : List TopSeen). IsValid (record (config_of p (record { 0 = p.highest }) (pointer_at p.map root)) { tops = tops }))
      (sym (same_tops c p.tops)) pool.recordable;
  tops = pool.tops ∙ sym (same_sectors c p.tops);
  read = pool.read;
  births = pool.births;
  places = places_still c p pool.places;
  apart = apart_still c p pool.apart;
  leaves = record {
    within = all_still c p (λ leaf. (g : ℕ) → holds leaf.log g ≡ true → (1 ≤ g) × (g ≤ p.highest)) (λ leaf has. has) pool.leaves.within;
    apart = devices_still (all_leaves p) (all_leaves (counted_pool c p)) (same_all c p) pool.leaves.apart;
    writable = writable_still (all_leaves p) (all_leaves (counted_pool c p)) (same_all c p) pool.leaves.writable;
    settled = all_still c p (λ leaf. (g : ℕ) → p.highest < g → holds leaf.settled g ≡ false) (λ leaf has. has) pool.leaves.settled;
  };
  board = subst (λ seats. HasBoard seats (counted_pool c p)) (sym (seats_counted c p.frozen))
      (board_mapped (counted_seat c) (seat_keeps c) (seats_in p.frozen) p (counted_pool c p) (same_sizes c p.tops) (same_all c p) pool.board);
  group = group_still c p p.frozen pool.group;
  unfrozen = record {
    inside = pool.unfrozen.inside;
    room = pool.unfrozen.room;
    count = subst (λ (cells : Cells). count_below p.map.blocks (λ x. is_written p.unfrozen.writes x || is_some (cells (key 0 x))) ≡ p.dirty)
        (sym (same_cells c p.frozen)) pool.unfrozen.count;
    few = pool.unfrozen.few;
  };
}

-- One after another.
abbrev pub counted_pools : List Counted → PoolParts → PoolParts
counted_pools cs p = record p { tops = counted_tops cs p.tops; frozen = counted_groups cs p.frozen }

pub pools_counted : (cs : List Counted) (p : PoolParts) → IsPool p → IsPool (counted_pools cs p)
pools_counted [] p pool = pool
pools_counted (c ∷ cs) p pool = pools_counted cs (counted_pool c p) (pool_counted c p pool)

same_leaves : (leaves : List LeafSeen) → map (leaf_along []) leaves ≡ leaves
same_leaves [] = refl
same_leaves (leaf ∷ leaves) = ap (λ ls. leaf ∷ ls) (same_leaves leaves)

pub states_counted : (held : List Sums) (cs : List Counted) (p : PoolParts)
    → state_of held (counted_pools cs p) ≡ with_leaves (map (leaf_along cs) (seen_of held p).leaves) (state_of held p)
states_counted held [] p = ap (λ ls. with_leaves ls (state_of held p)) (sym (same_leaves (seen_of held p).leaves))
states_counted held (c ∷ cs) p =
    states_counted held cs (counted_pool c p)
    ∙ ap (λ (s : PoolState). with_leaves (map (leaf_along cs) s.core.leaves) s) (state_counted held c p)
    ∙ ap (λ ls. with_leaves ls (state_of held p)) (twice_map (leaf_with c) (leaf_along cs) (seen_of held p).leaves)
