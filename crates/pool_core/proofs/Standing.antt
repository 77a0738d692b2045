-- Pairs stand for abstract states, and where their leaves have room.
use Rattle.std.proofs.Common.{◌≡◌, ℕ, suc, ◌+◌, ◌<◌, ◌≤◌, Bool, true, false, cond, List, [], ◌∷◌, Option, Some, None, length, refl, sym, ◌∙◌, ap, subst, arith}
use Rattle.std.proofs.lemmas.List.{length-append}
use Rattle.std.proofs.lemmas.List.Elements.{All-nil, All-cons, All-head, All-tail, All-append, All-filter}
use Rattle.std.proofs.lemmas.Option.{slice_get_within, get_or_from_slice_get}
use Rattle.std.specs.Prelude.{not}
use Rattle.std.specs.List.{All, filter, filter_map, cons_option}
use Rattle.std.specs.Option.{option_map}
use Rattle.group_set.specs.Groups.{holds}
use Rattle.mp_base.specs.declared.number.Guid.{Guid}
use Rattle.label_store.specs.declared.member.Member.{Member}
use Rattle.vdev_tree.specs.declared.vdev.LeafVdev.{LeafVdev}
use Rattle.pool_core.specs.declared.pool.Pool.{Pool}
use Rattle.pool_core.specs.Keeping.{IsLeaf, Stands, IsSeated}
use Rattle.pool_core.specs.Pairs.{PairState}
use Rattle.pool_core.specs.Reading.{tries}
use Rattle.pool_core.specs.Seating.{HasRoomFor}
use Rattle.pool_core.specs.State.{LeafState, PoolState, leaves, having, owing, seat_of, is_readable, created}

-- a leaf and a pair stand for these
abbrev pub leaf_at : LeafVdev → LeafState
leaf_at v = record {
  member = v.guid;
  name = v.name;
  dev = v.dev;
  state = v.state;
  temporary = v.temporary;
  marked = v.marked;
  owes = holds v.log;
}

abbrev pub state_at : PairState → PoolState
state_at pair = record (created [] pair.mirror 0 pair.sectors ([], 0) ([], 0)) {
  mirror = pair.mirror;
  first = leaf_at pair.first;
  second = leaf_at pair.second;
}

leaf_is : (v : LeafVdev) → IsLeaf v (leaf_at v)
leaf_is v = record { member = refl; name = refl; dev = refl; state = refl; temporary = refl; marked = refl; owes = λ g. refl }

pub stands_at : (pair : PairState) → Stands pair (state_at pair)
stands_at pair = record { mirror = refl; sectors = refl; first = leaf_is pair.first; second = leaf_is pair.second }

-- Room on the devices of the leaves that are tried.

-- the leaf's device, where it has one, has this sector
HasSector : (ℕ → ℕ) → ℕ → LeafState → Type 0
HasSector size sector leaf = (d : ℕ) → leaf.dev ≡ Some d → sector < size d

seat_room : (size : ℕ → ℕ) (sector : ℕ) (guid : Guid) (t : Bool) (dev : Option ℕ) (rest : List Member) → ((d : ℕ) → dev ≡ Some d → sector < size d)
    → All (λ m. sector < size m.dev) rest → All (λ m. sector < size m.dev) (cons_option (cond t (option_map (λ d. record { dev = d; guid = guid }) dev) None) rest)
seat_room size sector guid false dev rest room all = all
seat_room size sector guid true None rest room all = all
seat_room size sector guid true (Some d) rest room all = All-cons (λ m. sector < size m.dev) (record { dev = d; guid = guid }) rest (room d refl) all

seats_room : (size : ℕ → ℕ) (sector : ℕ) (some : List LeafState) → All (HasSector size sector) some → All (λ m. sector < size m.dev) (filter_map seat_of some)
unfolding HasSector
seats_room size sector [] all = All-nil (λ m. sector < size m.dev)
seats_room size sector (leaf ∷ some) all =
    seat_room size sector leaf.member (is_readable leaf) leaf.dev (filter_map seat_of some) (All-head (HasSector size sector) leaf some all)
    (seats_room size sector some (All-tail (HasSector size sector) leaf some all))

tries_room : (size : ℕ → ℕ) (sector birth : ℕ) (some : List LeafState) → All (HasSector size sector) some → All (λ m. sector < size m.dev) (tries birth some)
tries_room size sector birth some all =
    All-append (λ m. sector < size m.dev) (filter_map seat_of (having birth some)) (filter_map seat_of (owing birth some))
    (seats_room size sector (having birth some) (All-filter (λ leaf. not (leaf.owes birth)) (HasSector size sector) some all))
    (seats_room size sector (owing birth some) (All-filter (λ leaf. leaf.owes birth) (HasSector size sector) some all))

room_from : (size : ℕ → ℕ) (sector : ℕ) (members : List Member) → All (λ m. sector < size m.dev) members → HasRoomFor size members sector
room_from size sector members all i m is =
    subst (λ one. sector < size one.dev) (get_or_from_slice_get members i m m is) (all i m (slice_get_within members i m is))

-- each of a pair's leaves has the sector, where it has a device
both_room : (size : ℕ → ℕ) (pool : Pool) (sector : ℕ) → IsSeated size pool → sector < pool.pair.sectors + 256 → All (HasSector size sector) (leaves (state_at pool.pair))
unfolding HasSector
both_room size pool sector seated low =
    All-cons (HasSector size sector) (leaf_at pool.pair.first) (leaf_at pool.pair.second ∷ [])
    (λ d is. let room : pool.pair.sectors + 256 ≤ size d = seated.0 d is in omega arith)
    (All-cons (HasSector size sector) (leaf_at pool.pair.second) []
    (λ d is. let room : pool.pair.sectors + 256 ≤ size d = seated.1 d is in omega arith)
    (All-nil (HasSector size sector)))

-- the members that are tried for a block have its sector
pub tries_seated : (size : ℕ → ℕ) (pool : Pool) (members : List Member) (birth sector : ℕ) → IsSeated size pool
    → ((s : PoolState) → Stands pool.pair s → members ≡ tries birth (leaves s)) → sector < 256 → HasRoomFor size members sector
tries_seated size pool members birth sector seated are low =
    subst (λ ms. HasRoomFor size ms sector) (sym (are (state_at pool.pair) (stands_at pool.pair)))
    (room_from size sector (tries birth (leaves (state_at pool.pair)))
    (tries_room size sector birth (leaves (state_at pool.pair)) (both_room size pool sector seated (omega arith))))

filter_count : {X : Type 0} (test : X → Bool) (xs : List X) → length (filter test xs) ≤ length xs
filter_count {X} test [] = omega arith
filter_count {X} test (x ∷ xs) = go (test x) (filter_count test xs)
  where
    go : (t : Bool) → length (filter test xs) ≤ length xs → length (cond t (x ∷ filter test xs) (filter test xs)) ≤ suc (length xs)
    go true le = omega arith
    go false le = omega arith

filter_map_count : {X Y : Type 0} (h : X → Option Y) (xs : List X) → length (filter_map h xs) ≤ length xs
filter_map_count {X} {Y} h [] = omega arith
filter_map_count {X} {Y} h (x ∷ xs) = go (h x) (filter_map_count h xs)
  where
    go : (t : Option Y) → length (filter_map h xs) ≤ length xs → length (cons_option t (filter_map h xs)) ≤ suc (length xs)
    go None le = omega arith
    go (Some y) le = omega arith

-- at most four copies are tried
pub few_tries : (pair : PairState) (members : List Member) (birth : ℕ) → ((s : PoolState) → Stands pair s → members ≡ tries birth (leaves s)) → length members ≤ 32
few_tries pair members birth are =
    let some = leaves (state_at pair) in
    let is : length members ≡ length (filter_map seat_of (having birth some)) + length (filter_map seat_of (owing birth some)) =
    ap length (are (state_at pair) (stands_at pair)) ∙ length-append (filter_map seat_of (having birth some)) (filter_map seat_of (owing birth some)) in
    omega (
      arith,
      filter_map_count seat_of (having birth some),
      filter_count (λ leaf. not (leaf.owes birth)) some,
      filter_map_count seat_of (owing birth some),
      filter_count (λ leaf. leaf.owes birth) some,
    )
