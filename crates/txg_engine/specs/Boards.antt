-- The leaves that were on the board at a freeze, in tree order, and which of them are on it still.
use Rattle.std.specs.Prelude.{◌≡◌, ◌⊎◌, ℕ, zero, suc, ◌+◌, ◌-◌, ◌^◌, ◌≤◌, ◌==◌, ◌&&◌, ◌||◌, min, not, Bool, true, false, All}
use Rattle.std.specs.Prelude.{List, [], ◌∷◌, ◌++◌, map, filter, Option, Some, None, if◌then◌else◌}
use Rattle.std.specs.List.{list_any, filter_map}
use Rattle.std.specs.Option.{option_map}
use Rattle.mp_base.specs.declared.number.Guid.{Guid}
use Rattle.label_store.specs.declared.member.Member.{Member}
use Rattle.vdev_tree.specs.Leaf.{is_readable}
use Rattle.vdev_tree.specs.Tree.{leaves}
use Rattle.vdev_tree.specs.declared.top.Top.{Top}
use Rattle.vdev_tree.specs.declared.vdev.LeafVdev.{LeafVdev}
use Rattle.txg_engine.specs.declared.seat.Seat.{Seat}

-- A leaf that may be written, readable and with a device, has a seat.
abbrev pub seat_of : (top : ℕ) → LeafVdev → Option Seat
seat_of top leaf =
    if is_readable leaf
    then option_map (λ dev. record { member = record { dev = dev; guid = leaf.guid }; top = top; on = true; taken = false; faults = 0 })
    leaf.dev
    else None

-- the seats of the leaves of tops, which count from this number
abbrev pub seats_of : (first : ℕ) → List Top → List Seat
seats_of first [] = []
seats_of first (top ∷ tops) = filter_map (seat_of first) (leaves top.mirror) ++ seats_of (first + 1) tops

abbrev pub is_on : Seat → Bool
is_on seat = seat.on

abbrev pub is_on_under : (top : ℕ) → Seat → Bool
is_on_under top seat = seat.on && (seat.top == top)

abbrev pub is_on_as : Guid → Seat → Bool
is_on_as m seat = seat.on && (seat.member.guid.0 == m.0)

abbrev pub member_of : Seat → Member
member_of seat = seat.member

abbrev pub dev_of : Member → ℕ
dev_of m = m.dev

-- who is on the board, and who of them under a top
abbrev pub board_of : List Seat → List Member
board_of seats = map member_of (filter is_on seats)

abbrev pub board_under : (top : ℕ) → List Seat → List Member
board_under top seats = map member_of (filter (is_on_under top) seats)

-- somebody under this top is on the board, and the leaf of this number is
abbrev pub has_on : (top : ℕ) → List Seat → Bool
has_on top seats = list_any (is_on_under top) seats

abbrev pub on_board : List Seat → Guid → Bool
on_board seats m = list_any (is_on_as m) seats

-- how many are on the board
abbrev pub count_on : List Seat → ℕ
count_on [] = 0
count_on (seat ∷ seats) = (if seat.on then 1 else 0) + count_on seats

-- the first of so many tops, from this one on, that has nobody on the board
abbrev pub emptied_from : (top count : ℕ) → List Seat → Option ℕ
emptied_from top zero seats = None
emptied_from top (suc count) seats = if has_on top seats then emptied_from (top + 1) count seats else Some top

abbrev pub emptied : (tops : ℕ) → List Seat → Option ℕ
emptied tops seats = emptied_from 0 tops seats

-- how many calls failed since the freeze on the leaves of a top that were on the board then
abbrev pub faults_under : (top : ℕ) → List Seat → ℕ
faults_under top [] = 0
faults_under top (seat ∷ seats) = (if seat.top == top then seat.faults else 0) + faults_under top seats

-- a count stops at the greatest number that it holds
abbrev pub count_up : ℕ → ℕ
count_up n = min (n + 1) (2 ^ 64 - 1)

-- the leaf of this number is off the board; its pool takes it off; a call on it failed
abbrev pub without : Guid → Seat → Seat
without m seat = record seat { on = seat.on && not (seat.member.guid.0 == m.0) }

abbrev pub as_taken : Guid → Seat → Seat
as_taken m seat = if is_on_as m seat then record seat { taken = true } else seat

abbrev pub failed : Guid → Seat → Seat
failed m seat = if seat.member.guid.0 == m.0 then record seat { faults = count_up seat.faults } else seat

-- Why a leaf left the board: a call on it failed since the freeze, or its pool took it off.
abbrev pub HasCause : Seat → Type 0
HasCause seat = (1 ≤ seat.faults) ⊎ (seat.taken ≡ true)

abbrev pub LeftByCause : Seat → Type 0
LeftByCause seat = seat.on ≡ false → HasCause seat

-- some leaf of this top was on the board at the freeze
abbrev pub has_seat : (top : ℕ) → List Seat → Bool
has_seat top seats = list_any (λ seat. seat.top == top) seats

-- a leaf of this top that is on the board, or a call on which failed since the freeze
abbrev pub serves : (top : ℕ) → Seat → Bool
serves top seat = (seat.top == top) && (seat.on || not (seat.faults == 0))

-- Of each top that has a leaf here some leaf serves: nobody took off a top's last leaf before a call on the top's leaves failed.
abbrev pub AreServed : List Seat → Type 0
AreServed seats = All (λ seat. list_any (serves seat.top) seats ≡ true) seats

-- The board behind a turn: each of these members whose call failed is counted, and off it.
abbrev pub behind_turn : List Member → (done : List Bool) → List Seat → List Seat
behind_turn [] done seats = seats
behind_turn (m ∷ ms) [] seats = seats
behind_turn (m ∷ ms) (true ∷ done) seats = behind_turn ms done seats
behind_turn (m ∷ ms) (false ∷ done) seats = behind_turn ms done (map (without m.guid) (map (failed m.guid) seats))
