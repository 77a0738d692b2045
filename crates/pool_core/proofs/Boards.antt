-- The board of a state, by the pair that stands for its leaves.
use Rattle.std.proofs.Common.{◌≡◌, ℕ, zero, suc, ◌+◌, ◌<◌, ◌≤◌, ◌⊎◌, inl, inr, Bool, true, false, cond, List, [], ◌∷◌, Option, Some, None, length, refl, ap, sym, ◌∙◌, arith}
use Rattle.std.specs.Prelude.{slice_get}
use Rattle.std.specs.List.{filter_map}
use Rattle.std.specs.Option.{option_map}
use Rattle.std.proofs.lemmas.Option.{same_Some, none-some}
use Rattle.mp_base.specs.declared.number.Guid.{Guid}
use Rattle.label_store.specs.declared.member.Member.{Member}
use Rattle.label_store.specs.Seats.{AreSeated, AreApart}
use Rattle.group_set.specs.Groups.{holds}
use Rattle.vdev_tree.specs.Leaf.{is_up}
use Rattle.vdev_tree.specs.declared.vdev.LeafVdev.{LeafVdev}
use Rattle.pool_core.specs.Keeping.{IsLeaf, Stands, HasRoom}
use Rattle.pool_core.specs.Pairs.{PairState}
use Rattle.pool_core.specs.Pairs.{AreApart as ArePairApart}
use Rattle.pool_core.specs.Seating.{HasRoomFor}
use Rattle.pool_core.specs.State.{LeafState, PoolState, seat_of, board}

-- a state that the pair stands for
abbrev pub leaf_state : LeafVdev → LeafState
leaf_state v = record {
  member = v.guid;
  name = v.name;
  dev = v.dev;
  state = v.state;
  temporary = v.temporary;
  marked = v.marked;
  owes = λ g. holds v.log g;
}

abbrev pub state_of : PairState → ℕ → PoolState
state_of pair number = record {
  name = [];
  pool = record { 0 = 0 };
  blocks = 0;
  next_member = 0;
  sectors = pair.sectors;
  mirror = pair.mirror;
  first = leaf_state pair.first;
  second = leaf_state pair.second;
  committed = λ a. None;
  writes = λ a. None;
  number = number;
}

pub is_leaf : (v : LeafVdev) → IsLeaf v (leaf_state v)
is_leaf v = record { member = refl; name = refl; dev = refl; state = refl; temporary = refl; marked = refl; owes = λ g. refl }

pub stands_here : (pair : PairState) (number : ℕ) → Stands pair (state_of pair number)
stands_here pair number = record { mirror = refl; sectors = refl; first = is_leaf pair.first; second = is_leaf pair.second }

-- the member of a leaf on its device, where it is readable
abbrev pub leaf_seat : LeafVdev → Option Member
leaf_seat v = cond (is_up v.state) (option_map (λ dev. record { dev = dev; guid = v.guid }) v.dev) None

abbrev pub pair_board : PairState → List Member
pair_board pair = filter_map leaf_seat (pair.first ∷ pair.second ∷ [])

pub seat_is : (v : LeafVdev) (leaf : LeafState) → IsLeaf v leaf → seat_of leaf ≡ leaf_seat v
seat_is v leaf is = rw (is.state, is.dev, is.member) refl

abbrev pub both_seats : Option Member → Option Member → List Member
both_seats a b = filter_map (λ o. o) (a ∷ b ∷ [])

pub board_is : (pair : PairState) (s : PoolState) → Stands pair s → board s ≡ pair_board pair
board_is pair s stands =
    ap (λ a. both_seats a (seat_of s.second)) (seat_is pair.first s.first stands.first)
    ∙ ap (both_seats (leaf_seat pair.first)) (seat_is pair.second s.second stands.second)

seated_dev : (up : Bool) (dev : Option ℕ) (guid : Guid) (m : Member) → cond up (option_map (λ d. record { dev = d; guid = guid }) dev) None ≡ Some m → dev ≡ Some m.dev
seated_dev true None guid m e = absurd (none-some m e)
seated_dev true (Some d) guid m e = let P : Member → ℕ = λ x. x.dev in ap Some (ap P (same_Some (record { dev = d; guid = guid }) m e))
seated_dev false dev guid m e = absurd (none-some m e)

seat_dev : (v : LeafVdev) (m : Member) → leaf_seat v ≡ Some m → v.dev ≡ Some m.dev
seat_dev v m e = seated_dev (is_up v.state) v.dev v.guid m e

-- a member that stands in a list of two at most
pub one_of : (a b : Option Member) (i : ℕ) (m : Member) → slice_get (both_seats a b) i ≡ Some m → (a ≡ Some m) ⊎ (b ≡ Some m)
one_of None None i m e = absurd (none-some m e)
one_of None (Some y) zero m e = inr e
one_of None (Some y) (suc i) m e = absurd (none-some m e)
one_of (Some x) None zero m e = inl e
one_of (Some x) None (suc i) m e = absurd (none-some m e)
one_of (Some x) (Some y) zero m e = inl e
one_of (Some x) (Some y) (suc zero) m e = inr e
one_of (Some x) (Some y) (suc (suc i)) m e = absurd (none-some m e)

pub in_turn : (a b : Option Member) (i j : ℕ) (m n : Member) → slice_get (both_seats a b) i ≡ Some m → slice_get (both_seats a b) j ≡ Some n → i < j
    → (a ≡ Some m) × (b ≡ Some n)
in_turn None None i j m n e f less = absurd (none-some m e)
in_turn None (Some y) i zero m n e f less = absurd (omega arith)
in_turn None (Some y) i (suc j) m n e f less = absurd (none-some n f)
in_turn (Some x) None i zero m n e f less = absurd (omega arith)
in_turn (Some x) None i (suc j) m n e f less = absurd (none-some n f)
in_turn (Some x) (Some y) i zero m n e f less = absurd (omega arith)
in_turn (Some x) (Some y) zero (suc zero) m n e f less = (e, f)
in_turn (Some x) (Some y) (suc i) (suc zero) m n e f less = absurd (omega arith)
in_turn (Some x) (Some y) i (suc (suc j)) m n e f less = absurd (none-some n f)

-- the board's devices are those of the leaves
pub board_dev : (pair : PairState) (i : ℕ) (m : Member) → slice_get (pair_board pair) i ≡ Some m → (pair.first.dev ≡ Some m.dev) ⊎ (pair.second.dev ≡ Some m.dev)
board_dev pair i m e = elim (one_of (leaf_seat pair.first) (leaf_seat pair.second) i m e) [
  | inl a ↦ inl (seat_dev pair.first m a)
  | inr b ↦ inr (seat_dev pair.second m b)
]

pub board_apart : (pair : PairState) → ArePairApart pair → AreApart (pair_board pair)
board_apart pair apart i j m n e f less same =
    let both = in_turn (leaf_seat pair.first) (leaf_seat pair.second) i j m n e f less in
    let P : ℕ → Option ℕ = Some in
    apart m.dev (seat_dev pair.first m both.0) (seat_dev pair.second n both.1 ∙ ap P (sym same))

-- a sector that each device of a leaf has
pub board_room : (size : ℕ → ℕ) (sectors sector : ℕ) (pair : PairState) → HasRoom size sectors pair.first → HasRoom size sectors pair.second → sector < sectors + 256
    → HasRoomFor size (pair_board pair) sector
board_room size sectors sector pair first second small i m e = elim (board_dev pair i m e) [
  | inl a ↦ omega (arith, first m.dev a)
  | inr b ↦ omega (arith, second m.dev b)
]

pub board_seated : (size : ℕ → ℕ) (sectors : ℕ) (pair : PairState) → HasRoom size sectors pair.first → HasRoom size sectors pair.second → 64 ≤ sectors
    → AreSeated size (pair_board pair)
board_seated size sectors pair first second some i m e = elim (board_dev pair i m e) [
  | inl a ↦ omega (arith, first m.dev a)
  | inr b ↦ omega (arith, second m.dev b)
]

-- the board of a pool's leaves
pub members_are : (pair : PairState) (members : List Member) → ((s : PoolState) → Stands pair s → members ≡ board s) → members ≡ pair_board pair
members_are pair members is = let s = state_of pair 0 in is s (stands_here pair 0) ∙ board_is pair s (stands_here pair 0)

short : (a b : Option Member) → length (both_seats a b) ≤ 2
short None None = omega arith
short None (Some y) = omega arith
short (Some x) None = omega arith
short (Some x) (Some y) = omega arith

pub board_short : (pair : PairState) → length (pair_board pair) ≤ 2
board_short pair = short (leaf_seat pair.first) (leaf_seat pair.second)
