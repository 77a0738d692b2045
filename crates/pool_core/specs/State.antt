-- The abstract state of a pool.
use Rattle.std.specs.Prelude.{ℕ, ◌+◌, ◌*◌, ◌-◌, ◌^◌, Bool, true, false, cond, not, ◌==◌, nat_le, List, [], ◌∷◌, Option, Some, None}
use Rattle.std.specs.List.{filter, filter_map}
use Rattle.std.specs.Option.{option_map}
use Rattle.sha2.specs.Sha256.{sha256}
use Rattle.mp_base.specs.declared.number.Guid.{Guid}
use Rattle.label_store.specs.declared.member.Member.{Member}
use Rattle.vdev_tree.specs.Leaf.{is_up}
use Rattle.vdev_tree.specs.declared.vdev.State.{State}
use Rattle.vdev_tree.specs.declared.vdev.State.TheVariants as states

-- A leaf: its member number, the name of its device, the device's number in the bank where it has one, its
-- state, and its log: the groups that it owes.
pub record LeafState : Type 0 where
  pub member : Guid
  pub name : List ℕ
  pub dev : Option ℕ
  pub state : State
  pub temporary : Bool
  pub marked : Bool
  pub owes : ℕ → Bool

-- a leaf that is read and written
abbrev pub is_readable : LeafState → Bool
is_readable leaf = is_up leaf.state

-- the leaf's member on its device, where it is readable
abbrev pub seat_of : LeafState → Option Member
seat_of leaf = cond (is_readable leaf) (option_map (λ dev. record { dev = dev; guid = leaf.member }) leaf.dev) None

-- What is known of a committed block.
pub data Content : Type 0 where
  -- the block itself: this history committed it
  Known : (block : List ℕ) → Content
  -- its sum alone: the record was found on the devices, and this history doesn't know it
  Summed : (sum : List ℕ) → Content

abbrev pub sum_of : Content → List ℕ
sum_of (Known block) = sha256 block
sum_of (Summed sum) = sum

-- A committed block: the group that it was born in, and the data sector where it stands on each leaf.
pub record Version : Type 0 where
  pub birth : ℕ
  pub sector : ℕ
  pub content : Content

-- An open pool: its numbers, its mirror's two leaves in tree order, what is committed and what was
-- written since at each address, and the highest group number drawn.
pub record PoolState : Type 0 where
  pub name : List ℕ
  pub pool : Guid
  pub blocks : ℕ
  pub next_member : ℕ
  pub sectors : ℕ
  pub mirror : Guid
  pub first : LeafState
  pub second : LeafState
  pub committed : ℕ → Option Version
  pub writes : ℕ → Option (List ℕ)
  pub number : ℕ

abbrev pub leaves : PoolState → List LeafState
leaves s = s.first ∷ s.second ∷ []

-- the readable leaves, in tree order: a commit is made on these
abbrev pub board : PoolState → List Member
board s = filter_map seat_of (leaves s)

abbrev pub is_nobody : List Member → Bool
is_nobody [] = true
is_nobody (m ∷ ms) = false

-- no leaf is readable
abbrev pub has_nobody : PoolState → Bool
has_nobody s = is_nobody (board s)

-- the leaves whose log has the birth, and those whose log lacks it
abbrev pub owing : (birth : ℕ) → List LeafState → List LeafState
owing birth some = filter (λ leaf. leaf.owes birth) some

abbrev pub having : (birth : ℕ) → List LeafState → List LeafState
having birth some = filter (λ leaf. not (leaf.owes birth)) some

-- a data sector's place on the device: the labels stand before it
abbrev pub data_start : ℕ
data_start = 128

-- each address has two data sectors, and the one that the committed block isn't on is free
abbrev pub other_sector : ℕ → Option Version → ℕ
other_sector a None = 2 * a
other_sector a (Some version) = cond (version.sector == 2 * a) (2 * a + 1) (2 * a)

-- the state behind a write
abbrev pub written : PoolState → ℕ → List ℕ → PoolState
written s a block = record s { writes = λ x. cond (a == x) (Some block) (s.writes x) }

-- The last numbers are not drawn, so that each group still has room for further rounds.
abbrev pub last_number : ℕ
last_number = 2 ^ 62 - 64

abbrev pub is_spent : ℕ → Bool
is_spent number = nat_le last_number number

-- a leaf as it is made: online, on its device, with an empty log
abbrev pub new_leaf : (member : ℕ) → List ℕ × ℕ → LeafState
new_leaf member seat = record {
  member = record { 0 = member };
  name = seat.0;
  dev = Some seat.1;
  state = states.Online;
  temporary = false;
  marked = false;
  owes = λ g. false;
}

-- a pool as it is made, its mirror numbered 1 and the leaves from 2 on
abbrev pub created : List ℕ → Guid → (blocks sectors : ℕ) → (first second : List ℕ × ℕ) → PoolState
created name pool blocks sectors first second = record {
  name = name;
  pool = pool;
  blocks = blocks;
  next_member = 4;
  sectors = sectors;
  mirror = record { 0 = 1 };
  first = new_leaf 2 first;
  second = new_leaf 3 second;
  committed = λ a. None;
  writes = λ a. None;
  number = 1;
}
