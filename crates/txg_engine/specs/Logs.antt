-- What a group does to the leaves of its pool.
use Rattle.std.specs.Prelude.{◌≡◌, ℕ, ◌+◌, ◌≤◌, ◌==◌, ◌&&◌, ◌||◌, not, nat_lt, Bool, true, false}
use Rattle.std.specs.Prelude.{List, [], ◌∷◌, length, All, if◌then◌else◌}
use Rattle.std.specs.List.{AllZip}
use Rattle.group_set.specs.Groups.{Groups, holds, run_count, SameGroups, KeepsRoom}
use Rattle.group_set.specs.Runs.{between}
use Rattle.mp_base.specs.declared.number.Guid.{Guid}
use Rattle.label_store.specs.declared.member.Member.{Member}
use Rattle.vdev_tree.specs.Leaf.{SameSet}
use Rattle.vdev_tree.specs.declared.vdev.LeafVdev.{LeafVdev}
use Rattle.dtl_rules.specs.Widening.{Widenings, IsCounted, total_ranges}
use Rattle.txg_engine.specs.declared.seat.Numbers.{Numbers}
use Rattle.txg_engine.specs.declared.seat.Seat.{Seat}
use Rattle.txg_engine.specs.Boards.{on_board, count_up}

-- the leaf isn't on the board; it has this number
abbrev pub is_off : List Seat → LeafVdev → Bool
is_off seats leaf = not (on_board seats leaf.guid)

abbrev pub is_leaf : Guid → LeafVdev → Bool
is_leaf m leaf = leaf.guid.0 == m.0

-- there is room for a further run in the log
abbrev pub has_spare : LeafVdev → Type 0
has_spare leaf = 1 ≤ leaf.log.spare

-- The log of a leaf of this kind grows by the groups from `low` to `high`; another leaf is as it was.
pub record Grows (which : LeafVdev → Bool) (low high : ℕ) (old new : LeafVdev) : Type 0 where
  pub groups : (g : ℕ) → holds new.log g ≡ (holds old.log g || (which old && between low high g))
  pub room : KeepsRoom old.log new.log
  pub ranges : run_count new.log ≤ run_count old.log + 1
  -- where the log has a group next to them, they only lengthen a run
  pub lengthens : (g : ℕ) → low ≤ g + 1 → g ≤ high + 1 → holds old.log g ≡ true → run_count new.log ≤ run_count old.log
  pub kept : which old ≡ false → new ≡ old
  pub rest : (log : Groups) → record new { log = log } ≡ record old { log = log }

-- Each leaf changes so, and logs that have become too large are widened: while all have more than 4,096 ranges together, the
-- first one with the most of them. A pool has at most 32 leaves.
pub record ChangeAndFit (changes : LeafVdev → LeafVdev → Type 0) (old new : List LeafVdev) : Type 0 where
  pub grown : List LeafVdev
  pub grow : AllZip changes old grown
  pub counted : All IsCounted grown
  pub widened : Widenings grown new
  pub small : length new ≤ 128 → total_ranges new ≤ 4096

-- the logs of the leaves of this kind grow
abbrev pub AreGrown : (which : LeafVdev → Bool) (low high : ℕ) → (old new : List LeafVdev) → Type 0
AreGrown which low high old new = ChangeAndFit (Grows which low high) old new

-- a leaf is as it was, but for the room in its two sets
pub record KeepsSets (old new : LeafVdev) : Type 0 where
  pub log : SameSet new.log old.log
  pub settled : SameSet new.settled old.settled
  pub rest : (log settled : Groups) → record new { log = log; settled = settled } ≡ record old { log = log; settled = settled }

-- Each leaf gets room in its sets, and then those of this kind owe the group.
pub record AreOwing (which : LeafVdev → Bool) (number : ℕ) (old new : List LeafVdev) : Type 0 where
  pub roomy : List LeafVdev
  pub room : AllZip KeepsSets old roomy
  pub grown : AreGrown which number number roomy new

-- how many ranges what is settled may have without further memory
abbrev pub room_to_settle : LeafVdev → ℕ
room_to_settle leaf = leaf.settled.spare + run_count leaf.settled

-- there is room for two further runs in the log, and to settle the log with one more
pub record HasCommitRoom (leaf : LeafVdev) : Type 0 where
  pub log : 2 ≤ leaf.log.spare
  pub settled : run_count leaf.log + 1 ≤ room_to_settle leaf

-- A leaf has the room that the numbers of a group need until it ends, and to settle its log then. Where it isn't on the board
-- it owes the last number, so further ones lengthen a run.
pub record IsReady (seats : List Seat) (last : ℕ) (leaf : LeafVdev) : Type 0 where
  pub on : on_board seats leaf.guid ≡ true → HasCommitRoom leaf
  pub off : on_board seats leaf.guid ≡ false → holds leaf.log last ≡ true
  pub spare : 1 ≤ leaf.log.spare
  pub settled : run_count leaf.log ≤ room_to_settle leaf

-- a leaf of which a write or a flush failed
abbrev pub count_write : Guid → LeafVdev → LeafVdev
count_write m leaf =
    if leaf.guid.0 == m.0 then record leaf { counts = record (leaf.counts) { writes = count_up leaf.counts.writes } } else leaf

-- the leaves, with a failed write of this one counted
abbrev pub Counted : Guid → (old new : List LeafVdev) → Type 0
Counted m old new = AllZip (λ was is. is ≡ count_write m was) old new

-- A call on the leaf of this number failed: it is counted, and the leaf owes the numbers of the group.
pub record Fails (numbers : Numbers) (m : Guid) (old new : List LeafVdev) : Type 0 where
  pub counted : List LeafVdev
  pub count : Counted m old counted
  pub grown : AreGrown (is_leaf m) numbers.first.0 numbers.last.0 counted new

-- The leaves behind a turn: so for each of these members whose call failed.
abbrev pub AreBehind : Numbers → List Member → (done : List Bool) → (old new : List LeafVdev) → Type 0
AreBehind numbers [] done old new = new ≡ old
AreBehind numbers (m ∷ ms) [] old new = new ≡ old
AreBehind numbers (m ∷ ms) (true ∷ done) old new = AreBehind numbers ms done old new
AreBehind numbers (m ∷ ms) (false ∷ done) old new =
    (left : List LeafVdev) × Fails numbers m.guid old left × AreBehind numbers ms done left new

-- there is room to settle what the leaf owes
abbrev pub HasSettledRoom : LeafVdev → Type 0
HasSettledRoom leaf = run_count leaf.log ≤ room_to_settle leaf

-- what a leaf owes is settled
pub record IsSettled (old new : LeafVdev) : Type 0 where
  pub groups : SameGroups new.settled old.log
  pub room : KeepsRoom old.settled new.settled
  pub rest : (settled : Groups) → record new { settled = settled } ≡ record old { settled = settled }

-- the groups from this one on left the log and what is settled
pub record IsCut (first : ℕ) (old new : LeafVdev) : Type 0 where
  pub log : (g : ℕ) → holds new.log g ≡ (holds old.log g && nat_lt g first)
  pub settled : (g : ℕ) → holds new.settled g ≡ (holds old.settled g && nat_lt g first)
  pub log_room : KeepsRoom old.log new.log
  pub settled_room : KeepsRoom old.settled new.settled
  pub rest : (log settled : Groups) → record new { log = log; settled = settled } ≡ record old { log = log; settled = settled }
