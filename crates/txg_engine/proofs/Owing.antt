-- Leaves that owe the number of a freeze, whose sets were given room for it.
use Rattle.std.proofs.Common.{ℕ, not, List, sym, ap, ◌∙◌, subst, arith}
use Rattle.std.specs.Prelude.{All}
use Rattle.group_set.specs.Groups.{holds}
use Rattle.vdev_tree.specs.declared.vdev.LeafVdev.{LeafVdev}
use Rattle.txg_engine.specs.declared.seat.Seat.{Seat}
use Rattle.txg_engine.specs.Boards.{on_board}
use Rattle.txg_engine.specs.Logs.{Grows, AreGrown, is_off, IsReady, HasCommitRoom}
use Rattle.txg_engine.proofs.Ready.{same_guid, same_room, in_between, or_right, grown_all, widened_ready}

owed_leaf : (seats : List Seat) (n : ℕ) (old new : LeafVdev) → Grows (is_off seats) n n old new → HasCommitRoom old
    → IsReady seats n new
owed_leaf seats n old new g room =
    let guid = same_guid old new g.rest in
    let same = same_room old new g.rest in
    let two = room.log in
    let fits = room.settled in
    record {
      on = λ e. subst HasCommitRoom (sym (g.kept (ap not (ap (on_board seats) (sym guid) ∙ e)))) room;
      off = λ e. g.groups n ∙ or_right (holds old.log n) _
          (rw (ap not (ap (on_board seats) (sym guid) ∙ e)) (in_between n n n (omega arith) (omega arith)));
      spare = omega (arith, g.room, g.ranges);
      settled = omega (arith, g.ranges);
    }

pub owed_ready : (seats : List Seat) (n : ℕ) (old new : List LeafVdev) → AreGrown (is_off seats) n n old new
    → All HasCommitRoom old → All (IsReady seats n) new
owed_ready seats n old new g room =
    widened_ready seats n g.grown new g.widened
    (grown_all HasCommitRoom (IsReady seats n) (owed_leaf seats n) old g.grown g.grow room)
