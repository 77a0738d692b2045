-- A create whose stamps all answered makes a pool, and what stamps cost other pools.
use Rattle.std.proofs.Common.{◌≡◌, ◌⊎◌, inl, inr, ℕ, suc, ◌+◌, ◌-◌, ◌*◌, ◌≤◌, ◌<◌, ◌^◌, ◌==◌, Bool, true, false, cond, Option, Some, None, List, [], ◌∷◌, ◌++◌, map, length, refl, sym, ap, ◌∙◌, subst, arith}
use Rattle.std.specs.List.{AllByRecursion}
use Rattle.std.proofs.lemmas.Bool.Decides.{nat_tests}
use Rattle.mp_base.specs.declared.number.Guid.{Guid}
use Rattle.bank_core.specs.declared.bank.Fault.{Fault}
use Rattle.bank_core.specs.Asks.{IsPart}
use Rattle.bank_core.specs.Disk.{Noted, Sectors, run}
use Rattle.bank_core.specs.Standing.{Untouched}
use Rattle.bank_core.proofs.Composing.{run_more}
use Rattle.bank_core.proofs.Standing.{untouched_more}
use Rattle.label_store.specs.Plans.{stamp_plan}
use Rattle.label_store.specs.Records.{place_at}
use Rattle.txg_history.specs.Events.{Event, Loses, as_events}
use Rattle.txg_history.specs.Groups.{no_log}
use Rattle.txg_history.specs.Losses.{LoseJust, BeginsStamp, IsStamp}
use Rattle.txg_history.specs.Moves.{Mays}
use Rattle.txg_history.specs.Pages.{Codec}
use Rattle.txg_history.specs.Pools.{Pool, after, pool_after}
use Rattle.txg_history.specs.Stamps.{IsBlank}
use Rattle.txg_history.proofs.Folding.{with_calls, calls_after, mays_more, pool_more}
use Rattle.txg_history.proofs.Logging.{by_bool, same_device, true_not_false, at_here}
use Rattle.txg_history.proofs.Losing.{stamps_may}
use Rattle.txg_history.proofs.Stamping.{stamp_blanks, stamp_elsewhere, untouched_blank}
use Rattle.pool_moves.specs.Keeping.{IsElsewhere, AreSeatsApart, IsSeated, HasNumberBelow, Kept, Walks}
use Rattle.pool_moves.specs.Leaves.{LeafSeen, leaf_seen, told}
use Rattle.pool_moves.specs.Making.{HasSeat, IsHere, IsMade}
use Rattle.pool_moves.specs.Moves.{Move}
use Rattle.pool_moves.specs.Rosters.{IsListed}
use Rattle.pool_moves.specs.StampRow.{NewMember, NewLeaf, top_leaves, leaves_from, next_from, new_leaves, least_with, least_room, room_or_none, new_room, leaf_at, is_leaf_at, guid_of, top_of, AreDevicesApart, IsNew, Stamp, calls_of_stamps, AreStamps, stamp_events, stamped_devices, new_pool, new_own, new_leaf_seen, new_seat, new_state, CreateReply, CreateBy, RowCreate}
use Rattle.pool_moves.specs.States.{PoolState, Side}
use Rattle.pool_moves.proofs.CommitWalks.{found_walks}
use Rattle.pool_moves.proofs.Making.{made_kept}
use Rattle.pool_moves.proofs.Lists.{all_append, each}
use Rattle.pool_moves.proofs.Tests.{here, same_back, some_same}

-- Lists of leaves.
abbrev pub IsOneOf : NewLeaf → List NewLeaf → Type 0
IsOneOf leaf [] = ⊥
IsOneOf leaf (first ∷ leaves) = (leaf ≡ first) ⊎ IsOneOf leaf leaves

pub all_of : (P : NewLeaf → Type 0) (leaves : List NewLeaf) (leaf : NewLeaf) → AllByRecursion P leaves → IsOneOf leaf leaves → P leaf
all_of P [] leaf all is = absurd is
all_of P (first ∷ leaves) leaf all (inl same) = subst P (sym same) all.0
all_of P (first ∷ leaves) leaf all (inr more) = all_of P leaves leaf all.1 more

-- The leaf on a device.
pub leaf_found : (d : ℕ) (leaves : List NewLeaf) (leaf : NewLeaf) → leaf_at d leaves ≡ Some leaf → IsOneOf leaf leaves × (leaf.dev ≡ d)
leaf_found d [] leaf is = absurd (cc)
leaf_found d (first ∷ leaves) leaf is = by_bool (first.dev == d)
    (λ yes. let same = some_same leaf first (sym is ∙ ap (λ t. cond t (Some first) (leaf_at d leaves)) yes) in
    (inl same, ap (λ l. l.dev) same ∙ same_device first.dev d yes))
    (λ off. let more = leaf_found d leaves leaf (sym (ap (λ t. cond t (Some first) (leaf_at d leaves)) off) ∙ is) in (inr more.0, more.1))

leaf_is_at : (leaves : List NewLeaf) (leaf : NewLeaf) → AreDevicesApart leaves → IsOneOf leaf leaves → leaf_at leaf.dev leaves ≡ Some leaf
leaf_is_at [] leaf apart is = absurd is
leaf_is_at (first ∷ leaves) leaf apart (inl same) = subst (λ l. cond (first.dev == l.dev) (Some first) (leaf_at l.dev leaves) ≡ Some l) (sym same)
    (ap (λ t. cond t (Some first) (leaf_at first.dev leaves)) (here first.dev))
leaf_is_at (first ∷ leaves) leaf apart (inr more) =
    ap (λ t. cond t (Some first) (leaf_at leaf.dev leaves)) (all_of (λ other. (first.dev == other.dev) ≡ false) leaves leaf apart.0 more)
    ∙ leaf_is_at leaves leaf apart.1 more

-- a device that has a leaf
pub leaf_of : (d : ℕ) (leaves : List NewLeaf) → is_leaf_at (leaf_at d leaves) ≡ true → (leaf : NewLeaf) × (leaf_at d leaves ≡ Some leaf)
leaf_of d leaves is = by (leaf_at d leaves) refl is
  where
    by : (found : Option NewLeaf) → leaf_at d leaves ≡ found → is_leaf_at found ≡ true → (leaf : NewLeaf) × (leaf_at d leaves ≡ Some leaf)
    by None at is = absurd (cc)
    by (Some leaf) at is = (leaf, at)

-- Numbers rise along the leaves.
abbrev IsNumbered : (low high : ℕ) → NewLeaf → Type 0
IsNumbered low high leaf = (low ≤ leaf.guid.0) × (leaf.guid.0 < high)

abbrev pub AreRising : List NewLeaf → Type 0
AreRising [] = Unit {0}
AreRising (leaf ∷ leaves) = AllByRecursion (λ other. leaf.guid.0 < other.guid.0) leaves × AreRising leaves

rising_more : (mid low high : ℕ) (first second : List NewLeaf) → AreRising first → AllByRecursion (IsNumbered low mid) first → AreRising second
    → AllByRecursion (IsNumbered mid high) second → AreRising (first ++ second)
rising_more mid low high [] second a below b above = b
rising_more mid low high (leaf ∷ first) second a below b above = (
  all_append _ first second a.0 (each (λ other is. let x = below.0.1 in let y = is.0 in omega (arith, x, y))
      second above),
  rising_more mid low high first second a.1 below.1 b above,
)

top_numbered : (next top : ℕ) (ms : List NewMember) → AllByRecursion (IsNumbered next (next + length ms)) (top_leaves next top ms)
top_numbered next top [] = tt
top_numbered next top (m ∷ ms) = (
  (omega arith, omega arith),
  each (λ leaf is. let x = is.0 in let y = is.1 in (omega (arith, x), omega (arith, y)))
      (top_leaves (suc next) top ms) (top_numbered (suc next) top ms),
)

top_rising : (next top : ℕ) (ms : List NewMember) → AreRising (top_leaves next top ms)
top_rising next top [] = tt
top_rising next top (m ∷ ms) = (
  each (λ leaf is. let x = is.0 in omega (arith, x)) (top_leaves (suc next) top ms) (top_numbered (suc next) top ms),
  top_rising (suc next) top ms,
)

next_up : (next : ℕ) (tops : List (List NewMember)) → next ≤ next_from next tops
next_up next [] = omega arith
next_up next (members ∷ tops) = let up = next_up (suc next + length members) tops in omega (arith, up)

from_numbered : (next top : ℕ) (tops : List (List NewMember)) → AllByRecursion (IsNumbered (suc next) (next_from next tops)) (leaves_from next top tops)
from_numbered next top [] = tt
from_numbered next top (members ∷ tops) = all_append _
    (top_leaves (suc next) top members) (leaves_from (suc next + length members) (suc top) tops) (each
    (λ leaf is. let x = is.0 in let y = is.1 in let up = next_up (suc next + length members) tops in (x, omega (arith, y, up)))
    (top_leaves (suc next) top members) (top_numbered (suc next) top members)) (each
    (λ leaf is. let x = is.0 in (omega (arith, x), is.1)) (leaves_from (suc next + length members) (suc top) tops)
    (from_numbered (suc next + length members) (suc top) tops))

pub from_rising : (next top : ℕ) (tops : List (List NewMember)) → AreRising (leaves_from next top tops)
from_rising next top [] = tt
from_rising next top (members ∷ tops) = rising_more (suc next + length members) (suc next) (next_from (suc next + length members) tops)
    (top_leaves (suc next) top members)
    (leaves_from (suc next + length members) (suc top) tops) (top_rising (suc next) top members) (top_numbered (suc next) top members)
    (from_rising (suc next + length members) (suc top) tops) (each
    (λ leaf is. let x = is.0 in (omega (arith, x), is.1)) (leaves_from (suc next + length members) (suc top) tops)
    (from_numbered (suc next + length members) (suc top) tops))

next_below : (next : ℕ) (tops : List (List NewMember)) → AllByRecursion (λ members. (1 ≤ length members) × (length members ≤ 8)) tops
    → next_from next tops ≤ next + 9 * length tops
next_below next [] few = omega arith
next_below next (members ∷ tops) few = let low = few.0.1 in let more = next_below (suc next + length members) tops few.1 in omega (arith, low, more)

-- one number is one leaf's
one_number : (leaves : List NewLeaf) (a b : NewLeaf) → AreRising leaves → IsOneOf a leaves → IsOneOf b leaves → a.guid.0 ≡ b.guid.0 → a ≡ b
one_number [] a b rising x y same = absurd x
one_number (first ∷ leaves) a b rising (inl x) (inl y) same = x ∙ sym y
one_number (first ∷ leaves) a b rising (inl x) (inr y) same =
    absurd (let up = all_of (λ other. first.guid.0 < other.guid.0) leaves b rising.0 y in let e = ap (λ l. l.guid.0) x in omega (arith, up, same, e))
one_number (first ∷ leaves) a b rising (inr x) (inl y) same =
    absurd (let up = all_of (λ other. first.guid.0 < other.guid.0) leaves a rising.0 x in let e = ap (λ l. l.guid.0) y in omega (arith, up, same, e))
one_number (first ∷ leaves) a b rising (inr x) (inr y) same = one_number leaves a b rising.1 x y same

-- Tops count from 1.
top_is : (next top : ℕ) (ms : List NewMember) → AllByRecursion (λ leaf. leaf.top ≡ top) (top_leaves next top ms)
top_is next top [] = tt
top_is next top (m ∷ ms) = (refl, top_is (suc next) top ms)

from_tops : (next top : ℕ) (tops : List (List NewMember)) → AllByRecursion (λ leaf. top ≤ leaf.top) (leaves_from next top tops)
from_tops next top [] = tt
from_tops next top (members ∷ tops) = all_append _ (top_leaves (suc next) top members)
    (leaves_from (suc next + length members) (suc top) tops)
    (each (λ leaf is. omega (arith, is)) (top_leaves (suc next) top members) (top_is (suc next) top members))
    (each (λ leaf is. omega (arith, is))
    (leaves_from (suc next + length members) (suc top) tops) (from_tops (suc next + length members) (suc top) tops))

-- Rooms.
no_room : (size : ℕ → ℕ) (leaves : List NewLeaf) → AllByRecursion (λ leaf. 1 ≤ leaf.top) leaves → least_room size leaves 0 ≡ None
no_room size [] all = refl
no_room size (leaf ∷ leaves) all = ap (λ t. cond t (Some (least_with (size leaf.dev - 256) (least_room size leaves 0))) (least_room size leaves 0))
    (off leaf.top all.0) ∙ no_room size leaves all.1
  where
    off : (n : ℕ) → 1 ≤ n → (n == 0) ≡ false
    off n low = grind (arith, nat_tests)

least_low : (n : ℕ) (m : Option ℕ) → least_with n m ≤ n
least_low n None = omega arith
least_low n (Some m) = omega arith

least_more : (n m : ℕ) (rest : Option ℕ) → rest ≡ Some m → least_with n rest ≤ m
least_more n m None is = absurd (cc)
least_more n m (Some k) is = let same : k ≡ m = cc in omega (arith, same)

room_of : (size : ℕ → ℕ) (leaves : List NewLeaf) (leaf : NewLeaf) → IsOneOf leaf leaves
    → (n : ℕ) × (least_room size leaves leaf.top ≡ Some n) × (n ≤ size leaf.dev - 256)
room_of size [] leaf is = absurd is
room_of size (first ∷ leaves) leaf (inl same) =
    subst (λ l. (n : ℕ) × (cond (first.top == l.top) (Some (least_with (size first.dev - 256) (least_room size leaves l.top)))
    (least_room size leaves l.top) ≡ Some n) × (n ≤ size l.dev - 256)) (sym same) (
      least_with (size first.dev - 256) (least_room size leaves first.top),
      ap (λ t. cond t (Some (least_with (size first.dev - 256) (least_room size leaves first.top))) (least_room size leaves first.top)) (here first.top),
      least_low (size first.dev - 256) (least_room size leaves first.top),
    )
room_of size (first ∷ leaves) leaf (inr more) = let rest = room_of size leaves leaf more in by_bool (first.top == leaf.top)
    (λ same. (
      least_with (size first.dev - 256) (least_room size leaves leaf.top),
      ap (λ t. cond t (Some (least_with (size first.dev - 256) (least_room size leaves leaf.top))) (least_room size leaves leaf.top)) same,
      (let low = rest.2 in let most : least_with (size first.dev - 256) (least_room size leaves leaf.top) ≤ rest.0 =
          least_more (size first.dev - 256) rest.0 (least_room size leaves leaf.top) rest.1 in
          omega (arith, low, most)),
    ))
    (λ other. (
      rest.0,
      ap (λ t. cond t (Some (least_with (size first.dev - 256) (least_room size leaves leaf.top)))
          (least_room size leaves leaf.top)) other ∙ rest.1,
      rest.2,
    ))

new_roomy : (size : ℕ → ℕ) (leaves : List NewLeaf) (leaf : NewLeaf) → IsOneOf leaf leaves → 320 ≤ size leaf.dev
    → new_room size leaves leaf.top + 256 ≤ size leaf.dev
new_roomy size leaves leaf is big = let room = room_of size leaves leaf is in
    let same : new_room size leaves leaf.top ≡ room.0 = ap room_or_none room.1 in let low = room.2 in omega (arith, same, low, big)

-- Stamps leave the rings of each leaf's device blank, and other devices as they were.
stamps_off : (size : ℕ → ℕ) (pool : Guid) (leaves : List NewLeaf) (stamps : List Stamp) (d s : ℕ) → AreStamps size pool leaves stamps None
    → AllByRecursion (λ other. (d == other.dev) ≡ false) leaves → Untouched (calls_of_stamps stamps) d s
stamps_off size pool [] [] d s are off = tt
stamps_off size pool [] (stamp ∷ stamps) d s are off = absurd are
stamps_off size pool (leaf ∷ leaves) [] d s are off = absurd are
stamps_off size pool (leaf ∷ leaves) (stamp ∷ stamps) d s (dev, inl part) off = untouched_more stamp.made (calls_of_stamps stamps) d s
    (stamp_elsewhere leaf.dev (size leaf.dev) pool leaf.guid stamp.made None d s
    (λ same. true_not_false (d == leaf.dev) (subst (λ n. (n == leaf.dev) ≡ true) same (here leaf.dev)) off.0) part.0)
    (stamps_off size pool leaves stamps d s part.1 off.1)
stamps_off size pool (leaf ∷ leaves) (stamp ∷ stamps) d s (dev, inr part) off = absurd (let no : None ≡ Some leaf = part.3 in cc)

stamps_blank : (size : ℕ → ℕ) (pool : Guid) (leaves : List NewLeaf) (stamps : List Stamp) (sectors : Sectors) (leaf : NewLeaf)
    → AreStamps size pool leaves stamps None → AreDevicesApart leaves
    → AllByRecursion (λ leaf. 320 ≤ size leaf.dev) leaves → IsOneOf leaf leaves → (place : ℕ) → place < 128
    → IsBlank (run (calls_of_stamps stamps) sectors leaf.dev (place_at (size leaf.dev) place)) pool leaf.guid
stamps_blank size pool [] stamps sectors leaf are apart big is place low = absurd is
stamps_blank size pool (first ∷ leaves) [] sectors leaf are apart big is place low = absurd are
stamps_blank size pool (first ∷ leaves) (stamp ∷ stamps) sectors leaf (dev, inr part) apart big is place low =
    absurd (let no : None ≡ Some first = part.3 in cc)
stamps_blank size pool (first ∷ leaves) (stamp ∷ stamps) sectors leaf (dev, inl part) apart big (inl same) place low =
    subst (λ l. IsBlank (run (stamp.made ++ calls_of_stamps stamps) sectors l.dev (place_at (size l.dev) place)) pool l.guid) (sym same)
    (subst (λ f. IsBlank (f first.dev (place_at (size first.dev) place)) pool first.guid) (sym (run_more stamp.made (calls_of_stamps stamps) sectors))
    (untouched_blank (calls_of_stamps stamps) first.dev (place_at (size first.dev) place)
    (run stamp.made sectors first.dev (place_at (size first.dev) place)) pool first.guid
    (stamps_off size pool leaves stamps first.dev (place_at (size first.dev) place) part.1 apart.0)
    (stamp_blanks first.dev (size first.dev) pool first.guid stamp.made sectors big.0 part.0 place low)))
stamps_blank size pool (first ∷ leaves) (stamp ∷ stamps) sectors leaf (dev, inl part) apart big (inr more) place low =
    subst (λ f. IsBlank (f leaf.dev (place_at (size leaf.dev) place)) pool leaf.guid) (sym (run_more stamp.made (calls_of_stamps stamps) sectors))
    (stamps_blank size pool leaves stamps (run stamp.made sectors) leaf part.1 apart.1 big.1 more place low)

-- The new pool's seats and leaves.
ones : (leaves : List NewLeaf) (more : List NewLeaf) → ((leaf : NewLeaf) → IsOneOf leaf more → IsOneOf leaf leaves)
    → AllByRecursion (λ leaf. IsOneOf leaf leaves) more
ones leaves [] up = tt
ones leaves (leaf ∷ more) up = (up leaf (inl refl), ones leaves more (λ l is. up l (inr is)))

seats_off : (d : ℕ) (leaves : List NewLeaf) → AllByRecursion (λ other. (d == other.dev) ≡ false) leaves → AllByRecursion (IsElsewhere d) (map new_seat leaves)
seats_off d [] off = tt
seats_off d (leaf ∷ leaves) off = (off.0, seats_off d leaves off.1)

seats_apart : (leaves : List NewLeaf) → AreDevicesApart leaves → AreSeatsApart (map new_seat leaves)
seats_apart [] apart = tt
seats_apart (leaf ∷ leaves) apart = (seats_off leaf.dev leaves apart.0, seats_apart leaves apart.1)

seats_seated : (all leaves : List NewLeaf) → AreDevicesApart all → AllByRecursion (λ leaf. IsOneOf leaf all) leaves
    → AllByRecursion (IsSeated (λ d. is_leaf_at (leaf_at d all))) (map new_seat leaves)
seats_seated all [] apart are = tt
seats_seated all (leaf ∷ leaves) apart are = (ap is_leaf_at (leaf_is_at all leaf apart are.0), seats_seated all leaves apart are.1)

seats_here : (leaves : List NewLeaf) → AllByRecursion IsHere (map new_seat leaves)
seats_here [] = tt
seats_here (leaf ∷ leaves) = (refl, seats_here leaves)

seats_below : (all : List NewLeaf) (next : ℕ) (leaves : List NewLeaf) → AreDevicesApart all → AllByRecursion (λ leaf. IsOneOf leaf all) leaves
    → AllByRecursion (λ leaf. leaf.guid.0 < next) leaves → AllByRecursion (HasNumberBelow (λ d. guid_of (leaf_at d all)) next) (map new_seat leaves)
seats_below all next [] apart are low = tt
seats_below all next (leaf ∷ leaves) apart are low =
    (subst (λ at. (guid_of at).0 < next) (sym (leaf_is_at all leaf apart are.0)) low.0, seats_below all next leaves apart are.1 low.1)

seats_has : (leaves : List NewLeaf) (leaf : NewLeaf) → IsOneOf leaf leaves → HasSeat leaf.dev (map new_seat leaves)
seats_has [] leaf is = absurd is
seats_has (first ∷ leaves) leaf (inl same) = inl (subst (λ l. (l.dev == first.dev) ≡ true) (sym same) (here first.dev))
seats_has (first ∷ leaves) leaf (inr more) = inr (seats_has leaves leaf more)

leaves_seen : (size : ℕ → ℕ) (name : List ℕ) (pool : Guid) (all leaves : List NewLeaf) (sectors : Sectors) → AreDevicesApart all
    → AllByRecursion (λ leaf. IsOneOf leaf all) leaves
    → map new_leaf_seen leaves ≡ map (leaf_seen false (told (new_pool size name pool all sectors))) (map new_seat leaves)
leaves_seen size name pool all [] sectors apart are = refl
leaves_seen size name pool all (leaf ∷ leaves) sectors apart are =
    ap (λ x. x ∷ map new_leaf_seen leaves) (sym (ap shape (leaf_is_at all leaf apart are.0)))
    ∙ ap (λ xs. shape (leaf_at leaf.dev all) ∷ xs) (leaves_seen size name pool all leaves sectors apart are.1)
  where
    shape : Option NewLeaf → LeafSeen
    shape at = record {
      guid = guid_of at;
      dev = Some leaf.dev;
      own = new_own leaf;
      top = top_of at;
      owes = no_log 0;
      settled = no_log 0;
      on = false;
    }

-- A create whose stamps all answered makes a pool.
pub stamps_make : (size : ℕ → ℕ) (name : List ℕ) (pool : Guid) (blocks : ℕ) (tops : List (List NewMember)) (stamps : List Stamp) (sectors : Sectors)
    → IsNew size blocks tops → pool.0 < 2 ^ 64 → AreStamps size pool (new_leaves tops) stamps None
    → IsMade (new_state size name pool blocks tops)
    (record { pool = new_pool size name pool (new_leaves tops) (run (calls_of_stamps stamps) sectors); seats = map new_seat (new_leaves tops) })
stamps_make size name pool blocks tops stamps sectors new range are = record {
  name = name;
  pool = pool;
  member = λ d. is_leaf_at (leaf_at d leaves);
  guid = λ d. guid_of (leaf_at d leaves);
  size = size;
  room = new_room size leaves;
  home = λ d. top_of (leaf_at d leaves);
  sectors = run (calls_of_stamps stamps) sectors;
  stamps = record {
    in_range = range;
    guids = λ d is. let leaf = leaf_of d leaves is in let one = leaf_found d leaves leaf.0 leaf.1 in
        subst (λ at. (guid_of at).0 < 2 ^ 64) (sym leaf.1) (low leaf.0 one.0);
    sizes = λ d is. let leaf = leaf_of d leaves is in let one = leaf_found d leaves leaf.0 leaf.1 in subst (λ n. 320 ≤ size n) one.1
        (all_of (λ leaf. 320 ≤ size leaf.dev) leaves leaf.0 new.big one.0);
    rooms = λ d is. let leaf = leaf_of d leaves is in let one = leaf_found d leaves leaf.0 leaf.1 in
        subst (λ at. new_room size leaves (top_of at) + 256 ≤ size d) (sym leaf.1)
        (subst (λ n. new_room size leaves leaf.0.top + 256 ≤ size n) one.1
        (new_roomy size leaves leaf.0 one.0 (all_of (λ leaf. 320 ≤ size leaf.dev) leaves leaf.0 new.big one.0)));
    no_top = ap room_or_none (no_room size leaves (from_tops 1 1 tops));
    rings = λ d place is inside. let leaf = leaf_of d leaves is in let one = leaf_found d leaves leaf.0 leaf.1 in
        subst (λ at. IsBlank (run (calls_of_stamps stamps) sectors d (place_at (size d) place)) pool (guid_of at)) (sym leaf.1)
        (subst (λ n. IsBlank (run (calls_of_stamps stamps) sectors n (place_at (size n) place)) pool leaf.0.guid) one.1
        (stamps_blank size pool leaves stamps sectors leaf.0 are new.apart new.big one.0 place inside));
  };
  is = refl;
  numbers = λ d e mine others same. let a = leaf_of d leaves mine in let b = leaf_of e leaves others in
      let x = leaf_found d leaves a.0 a.1 in let y = leaf_found e leaves b.0 b.1 in
      let number : a.0.guid.0 ≡ b.0.guid.0 = same_device a.0.guid.0 b.0.guid.0
      (subst (λ at. ((guid_of at).0 == b.0.guid.0) ≡ true) a.1 (subst (λ at. ((guid_of (leaf_at d leaves)).0 == (guid_of at).0) ≡ true) b.1 same)) in
      let one = one_number leaves a.0 b.0 (from_rising 1 1 tops) x.0 y.0 number in
      subst (λ n. (e == n) ≡ true) (sym y.1 ∙ (ap (λ l. l.dev) (sym one) ∙ x.1)) (here e);
  apart = seats_apart leaves new.apart;
  seated = seats_seated leaves leaves new.apart (ones leaves leaves (λ leaf is. is));
  here = seats_here leaves;
  below = seats_below leaves (next_from 1 tops) leaves new.apart (ones leaves leaves (λ leaf is. is))
      (each (λ leaf is. is.1) leaves (from_numbered 1 1 tops));
  each = λ d is. let leaf = leaf_of d leaves is in let one = leaf_found d leaves leaf.0 leaf.1 in subst (λ n. HasSeat n (map new_seat leaves)) one.1 (seats_has leaves leaf.0 one.0);
  core = ap (λ l. record (new_state size name pool blocks tops).core { leaves = l }) (leaves_seen size name pool leaves leaves (run (calls_of_stamps stamps) sectors) new.apart (ones leaves leaves (λ leaf is. is)));
  unwritten = λ a. refl;
}
  where
    leaves : List NewLeaf
    leaves = new_leaves tops

    low : (leaf : NewLeaf) → IsOneOf leaf (new_leaves tops) → leaf.guid.0 < 2 ^ 64
    low leaf is = let under = (all_of (IsNumbered 2 (next_from 1 tops)) (new_leaves tops) leaf (from_numbered 1 1 tops) is).1 in
        let most = next_below 1 tops new.few_children in let few = new.few_tops in omega (arith, under, most, few)

-- and its first commit may be made
create_by : (c : Codec) (failed : Option NewLeaf) (size : ℕ → ℕ) (s : PoolState) (t : Side) (vs : List Move) (reply : CreateReply) → failed ≡ None
    → Kept c s t → t.pool.size ≡ size → CreateBy failed c size s vs reply → Walks c t vs
create_by c (Some leaf) size s t vs reply none kept same row = absurd (cc)
create_by c None size s t vs reply none kept same row = found_walks c size s t vs row.whole kept (λ d one. ap (λ f. f d) same) row.row

pub create_makes : (c : Codec) (size : ℕ → ℕ) (name : List ℕ) (pool : Guid) (blocks : ℕ) (tops : List (List NewMember)) (stamps : List Stamp)
    (vs : List Move) (reply : CreateReply) (sectors : Sectors)
    → (row : RowCreate c size name pool blocks tops stamps vs reply) → row.failed ≡ None
    → IsMade (new_state size name pool blocks tops)
    (record { pool = new_pool size name pool (new_leaves tops) (run (calls_of_stamps stamps) sectors); seats = map new_seat (new_leaves tops) })
    × Walks c (record { pool = new_pool size name pool (new_leaves tops) (run (calls_of_stamps stamps) sectors); seats = map new_seat (new_leaves tops) }) vs
create_makes c size name pool blocks tops stamps vs reply sectors row none =
    let side : Side = record {
      pool = new_pool size name pool (new_leaves tops) (run (calls_of_stamps stamps) sectors);
      seats = map new_seat (new_leaves tops);
    } in
    let made = stamps_make size name pool blocks tops stamps sectors row.is_new row.in_range
    (subst (AreStamps size pool (new_leaves tops) stamps) none row.are) in (
      made,
      create_by c row.failed size (new_state size name pool blocks tops) side vs reply none
          (made_kept c (new_state size name pool blocks tops) side made) refl row.ends,
    )

-- What stamps cost another pool: the devices on which they begin.
begins_more : (d : ℕ) (made : List Noted) (vs : List Event) → BeginsStamp d (as_events made) → BeginsStamp d (as_events made ++ vs)
begins_more d [] vs begins = absurd begins
begins_more d (noted ∷ made) vs begins = begins

lose_more : (made : List Noted) (vs : List Event) → LoseJust vs → LoseJust (as_events made ++ vs)
lose_more [] vs just = just
lose_more (noted ∷ made) vs just = lose_more made vs just

stamp_one : (c : Codec) (p : Pool) (size : ℕ → ℕ) (pool : Guid) (leaf : NewLeaf) (stamp : Stamp) (outcome : Option Fault) (vs : List Event)
    → stamp.dev ≡ leaf.dev
    → IsPart (stamp_plan leaf.dev (size leaf.dev) pool leaf.guid) stamp.made outcome → ((q : Pool) → Mays c q vs) → LoseJust vs
    → Mays c p ((Loses stamp.dev ∷ as_events stamp.made) ++ vs) × LoseJust ((Loses stamp.dev ∷ as_events stamp.made) ++ vs)
stamp_one c p size pool leaf stamp outcome vs same part more just =
    let one = subst (λ d. Mays c p (Loses d ∷ as_events stamp.made) × LoseJust (Loses d ∷ as_events stamp.made)) (sym same)
    (stamps_may c p leaf.dev (size leaf.dev) (stamp_plan leaf.dev (size leaf.dev) pool leaf.guid) stamp.made outcome (IsStamp pool leaf.guid) part) in (
      mays_more c (Loses stamp.dev ∷ as_events stamp.made) vs p one.0 (more (pool_after (Loses stamp.dev ∷ as_events stamp.made) p)),
      (begins_more stamp.dev stamp.made vs one.1.0, lose_more stamp.made vs just),
    )

pub stamps_allowed : (c : Codec) (p : Pool) (size : ℕ → ℕ) (pool : Guid) (leaves : List NewLeaf) (stamps : List Stamp) (failed : Option NewLeaf)
    → AreStamps size pool leaves stamps failed → Mays c p (stamp_events stamps) × LoseJust (stamp_events stamps)
stamps_allowed c p size pool [] [] failed are = (tt, tt)
stamps_allowed c p size pool [] (stamp ∷ stamps) failed are = absurd are
stamps_allowed c p size pool (leaf ∷ leaves) [] failed are = absurd are
stamps_allowed c p size pool (leaf ∷ leaves) (stamp ∷ stamps) failed (dev, inl part) = stamp_one c p size pool leaf stamp None (stamp_events stamps) dev part.0
    (λ q. (stamps_allowed c q size pool leaves stamps failed part.1).0) (stamps_allowed c p size pool leaves stamps failed part.1).1
stamps_allowed c p size pool (leaf ∷ leaves) (stamp ∷ stamps) failed (dev, inr part) =
    stamp_one c p size pool leaf stamp (Some part.0) (stamp_events stamps) dev part.1
    (λ q. subst (λ l. Mays c q (stamp_events l)) (sym part.2) tt) (subst (λ l. LoseJust (stamp_events l)) (sym part.2) tt)

-- the pool behind a stamp
stamp_pool : (stamp : Stamp) (vs : List Event) (p : Pool)
    → pool_after ((Loses stamp.dev ∷ as_events stamp.made) ++ vs) p ≡ pool_after vs (with_calls stamp.made (after (Loses stamp.dev) p))
stamp_pool stamp vs p = pool_more (Loses stamp.dev ∷ as_events stamp.made) vs p ∙ ap (pool_after vs) (calls_after stamp.made (after (Loses stamp.dev) p))

gone_stays : (stamps : List Stamp) (p : Pool) (d : ℕ) → p.member d ≡ false → (pool_after (stamp_events stamps) p).member d ≡ false
gone_stays [] p d gone = gone
gone_stays (stamp ∷ stamps) p d gone = ap (λ q. q.member d) (stamp_pool stamp (stamp_events stamps) p)
    ∙ gone_stays stamps (with_calls stamp.made (after (Loses stamp.dev) p)) d (either (stamp.dev == d) (p.member d) gone)
  where
    either : (t u : Bool) → u ≡ false → cond t false u ≡ false
    either true u e = refl
    either false u e = e

pub stamps_lose : (stamps : List Stamp) (p : Pool) (d : ℕ) → IsListed d (stamped_devices stamps) → (pool_after (stamp_events stamps) p).member d ≡ false
stamps_lose [] p d listed = absurd listed
stamps_lose (stamp ∷ stamps) p d (inl is) = ap (λ q. q.member d) (stamp_pool stamp (stamp_events stamps) p)
    ∙ gone_stays stamps (with_calls stamp.made (after (Loses stamp.dev) p)) d
    (at_here stamp.dev d false p.member (same_back d stamp.dev is))
stamps_lose (stamp ∷ stamps) p d (inr more) = ap (λ q. q.member d) (stamp_pool stamp (stamp_events stamps) p)
    ∙ stamps_lose stamps (with_calls stamp.made (after (Loses stamp.dev) p)) d more

pub stamps_spare : (stamps : List Stamp) (p : Pool) (d : ℕ) → (IsListed d (stamped_devices stamps) → ⊥)
    → (pool_after (stamp_events stamps) p).member d ≡ p.member d
stamps_spare [] p d off = refl
stamps_spare (stamp ∷ stamps) p d off = ap (λ q. q.member d) (stamp_pool stamp (stamp_events stamps) p)
    ∙ (stamps_spare stamps (with_calls stamp.made (after (Loses stamp.dev) p)) d (λ more. off (inr more))
    ∙ ap (λ t. cond t false (p.member d))
    (by_bool (stamp.dev == d) (λ is. absurd (off (inl (same_back stamp.dev d is)))) (λ away. away)))
