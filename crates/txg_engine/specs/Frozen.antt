-- A frozen group as its callers see it.
use Rattle.std.specs.Prelude.{◌≡◌, ◌≢◌, ℕ, ◌+◌, ◌^◌, ◌≤◌, ◌==◌, Bool, true, List, [], ◌∷◌, length, slice_index, All, AllPairs}
use Rattle.mp_base.specs.declared.number.Group.{Group}
use Rattle.block_map.specs.Keys.{IsBefore}
use Rattle.block_map.specs.Places.{IsPlace, AreTops}
use Rattle.txg_engine.specs.declared.item.Item.{Item}
use Rattle.txg_engine.specs.declared.seat.Numbers.{Numbers}
use Rattle.txg_engine.specs.declared.seat.Seat.{Seat}
use Rattle.txg_engine.specs.Boards.{count_on, LeftByCause, AreServed}

-- Its numbers, its keys in order, how many of them were written, whether its flush turn has ended, whether a round has begun
-- and whether one was acknowledged, its board, and how many writes the open group may have that it becomes.
pub record FrozenGroup : Type 0 where
  pub numbers : Numbers
  pub items : List Item
  pub written : ℕ
  pub flushed : Bool
  pub begun : Bool
  pub acked : Bool
  pub board : List Seat
  pub room : ℕ

abbrev pub is_written_out : FrozenGroup → Bool
is_written_out group = group.written == length group.items

abbrev pub one_number : Group → Numbers
one_number number = record { first = number; last = number }

-- keys rise: by level, and then by index
abbrev pub KeysRise : List Item → Type 0
KeysRise [] = Unit {0}
KeysRise (item ∷ []) = Unit {0}
KeysRise (item ∷ (next ∷ items)) = IsBefore item.key next.key × KeysRise (next ∷ items)

-- What holds of each frozen group. Each further number is drawn after a leaf left the board, so they never come to an end.
pub record IsGroup (group : FrozenGroup) : Type 0 where
  pub low : 1 ≤ group.numbers.first.0
  pub order : group.numbers.first.0 ≤ group.numbers.last.0
  pub high : group.numbers.last.0 + count_on group.board ≤ 2 ^ 62
  pub rise : KeysRise group.items
  pub levels : All (λ item. item.key.level ≤ 3) group.items
  pub blocks : All (λ item. length item.block ≡ 4096) group.items
  pub within : group.written ≤ length group.items
  pub flushed : group.flushed ≡ true → group.written ≡ length group.items
  pub left : All LeftByCause group.board
  pub served : AreServed group.board
  pub room : length group.items + 4096 ≤ group.room

-- A leaf's device has room for its labels and for each data sector of its top.
pub record IsSeated (size : ℕ → ℕ) (sectors : List ℕ) (seat : Seat) : Type 0 where
  pub labels : 320 ≤ size seat.member.dev
  pub data_sectors : slice_index sectors seat.top + 256 ≤ size seat.member.dev

-- The devices of those on the board have room for the group's keys, and no two of these leaves have one device. Of a leaf
-- that left it nothing is asked: its device may be gone.
pub record AreSeated (size : ℕ → ℕ) (sectors : List ℕ) (group : FrozenGroup) : Type 0 where
  pub tops : AreTops sectors
  pub seats : All (λ seat. seat.on ≡ true → IsSeated size sectors seat) group.board
  pub apart : AllPairs (λ one other. one.on ≡ true → other.on ≡ true → one.member.dev ≢ other.member.dev) group.board
  pub places : All (λ item. IsPlace sectors item.pointer.place) group.items
