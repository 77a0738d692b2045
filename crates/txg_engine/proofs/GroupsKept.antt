-- What holds of each frozen group stays so over its turns.
use Rattle.std.proofs.Common.{◌≡◌, ℕ, ◌+◌, ◌≤◌, ◌^◌, Bool, true, List, length, map, All, sym, ap, subst, arith}
use Rattle.std.specs.Vec.{vec_capacity}
use Rattle.mp_base.specs.declared.number.Guid.{Guid}
use Rattle.label_store.specs.declared.member.Member.{Member}
use Rattle.txg_engine.specs.declared.frozen.Frozen.TheInside.{Inside}
use Rattle.txg_engine.specs.declared.seat.Numbers.{Numbers}
use Rattle.txg_engine.specs.declared.seat.Seat.{Seat}
use Rattle.txg_engine.specs.Boards.{behind_turn, count_on, failed, without, as_taken, AreServed, LeftByCause}
use Rattle.txg_engine.specs.Frozen.{FrozenGroup, IsGroup}
use Rattle.txg_engine.specs.Turns.{with_next}
use Rattle.txg_engine.proofs.LeftByCauses.{behind_left, counted_left, taken_left}
use Rattle.txg_engine.proofs.Ready.{fewer_on, same_on, taken_on}
use Rattle.txg_engine.proofs.TopsServed.{behind_served, counted_served}
use Rattle.txg_engine.proofs.TurnEnds.{fewer_behind}

-- a group's fields as its callers see them
abbrev pub seen : Inside → FrozenGroup
seen group = record {
  numbers = group.numbers;
  items = group.items.items;
  written = group.written;
  flushed = group.flushed;
  begun = group.begun;
  acked = group.acked;
  board = group.board;
  room = vec_capacity group.back;
}

module _ (group : FrozenGroup) (is : IsGroup group) where
  module _ (written : ℕ) (flushed begun acked : Bool) (within : written ≤ length group.items)
      (all : flushed ≡ true → written ≡ length group.items) where
    -- another board, with no more leaves on it, each of which left by a cause
    board_kept : (board : List Seat) → count_on board ≤ count_on group.board → All LeftByCause board → AreServed board
        → IsGroup (record group { written = written; flushed = flushed; begun = begun; acked = acked; board = board })
    board_kept board fewer left served = record {
      low = is.low;
      order = is.order;
      high = let high = is.high in omega arith;
      rise = is.rise;
      levels = is.levels;
      blocks = is.blocks;
      within = within;
      flushed = all;
      left = left;
      served = served;
      room = is.room;
    }

    -- the board behind a turn
    pub turn_kept : (board : List Seat) (ms : List Member) (done : List Bool) → board ≡ behind_turn ms done group.board
        → IsGroup (record group { written = written; flushed = flushed; begun = begun; acked = acked; board = board })
    turn_kept board ms done behind =
        board_kept board (omega (arith, ap count_on behind, fewer_behind ms done group.board))
        (subst (All LeftByCause) (sym behind) (behind_left ms done group.board is.left))
        (subst AreServed (sym behind) (behind_served ms done group.board is.served))

  -- the board where a call failed, and where a leaf was taken off
  pub counted_kept : (m : Guid) (board : List Seat) → board ≡ map (failed m) group.board → IsGroup (record group { board = board })
  counted_kept m board counted =
      board_kept group.written group.flushed group.begun group.acked is.within is.flushed board
      (omega (arith, ap count_on counted, same_on m group.board))
      (subst (All LeftByCause) (sym counted) (counted_left m group.board is.left))
      (subst AreServed (sym counted) (counted_served m group.board is.served))

  pub taken_kept : (m : Guid) (board : List Seat) → board ≡ map (without m) (map (as_taken m) group.board) → AreServed board
      → IsGroup (record group { board = board })
  taken_kept m board taken served =
      board_kept group.written group.flushed group.begun group.acked is.within is.flushed board
      (omega (arith, ap count_on taken, fewer_on m (map (as_taken m) group.board), taken_on m group.board))
      (subst (All LeftByCause) (sym taken) (taken_left m group.board is.left)) served

  -- a further number, behind a round in which a leaf left the board
  pub drawn_kept : (numbers : Numbers) (board : List Seat) (ms : List Member) (done : List Bool)
      → numbers ≡ with_next group.numbers → board ≡ behind_turn ms done group.board → count_on board + 1 ≤ count_on group.board
      → IsGroup (record group { numbers = numbers; begun = true; board = board })
  drawn_kept numbers board ms done drawn behind fewer = record {
    low = subst (λ (n : Numbers). 1 ≤ n.first.0) (sym drawn) is.low;
    order = subst (λ (n : Numbers). n.first.0 ≤ n.last.0) (sym drawn) (let order = is.order in omega arith);
    high = subst (λ (n : Numbers). n.last.0 + count_on board ≤ 2 ^ 62) (sym drawn) (let high = is.high in omega arith);
    rise = is.rise;
    levels = is.levels;
    blocks = is.blocks;
    within = is.within;
    flushed = is.flushed;
    left = subst (All LeftByCause) (sym behind) (behind_left ms done group.board is.left);
    served = subst AreServed (sym behind) (behind_served ms done group.board is.served);
    room = is.room;
  }
