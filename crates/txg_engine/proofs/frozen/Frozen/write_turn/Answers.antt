use Rattle.std.proofs.Common.{◌≡◌, ◌<◌, ◌+◌, true, Some, List, refl, sym, ap, subst, ◌∙◌, arith}
use Rattle.std.specs.Prelude.{All, slice_get}
use Rattle.mp_base.specs.declared.place.Place.{Place}
use Rattle.block_map.specs.Places.{IsPlace}
use Rattle.label_store.specs.declared.member.Member.{Member}
use Rattle.dtl_rules.specs.Widening.{leaves_of, sectors_of}
use Rattle.txg_history.specs.Turns.{write_plan}
use Rattle.txg_engine.specs.declared.item.Item.{Item}
use Rattle.txg_engine.specs.declared.seat.Seat.{Seat}
use Rattle.txg_engine.specs.Boards.{board_under, behind_turn, is_on_under}
use Rattle.txg_engine.specs.Frozen.{FrozenGroup, IsSeated}
use Rattle.txg_engine.specs.Items.{cell_of}
use Rattle.txg_engine.specs.Logs.{AreBehind}
use Rattle.txg_engine.specs.Turns.{IsWriteTurn, MakesCalls, numbers_of, Answers, emptied_top}
use Rattle.label_store.proofs.Phasing.{got_there as any_default}
use Rattle.txg_engine.proofs.Seating.{got_there}
use Rattle.txg_engine.proofs.GroupsKept.{seen, turn_kept}
use Rattle.txg_engine.proofs.SeatsKept.{turn_seats}
use Rattle.txg_engine.proofs.TurnEnds.{turn_goes, as_many, members_if, has_sector, small_sector}
use Rattle.txg_engine.proofs.frozen.Frozen.write_turn.Goals as goal

pub write_item-requires-clause-sector : goal.write_item-requires-clause-sector
write_item-requires-clause-sector g c =
    let seated = rw (← c.self.view_is) at c.requires.seated in
    let inside : c.self.inside.written < _ = (rw (← c.self.view_is) at c.requires.left) in
    let place : IsPlace (sectors_of c.args.tops.now) c.index-2.result.now.pointer.place =
    subst (λ (item : Item). IsPlace (sectors_of c.args.tops.now) item.pointer.place) (sym c.index-2.ensures)
    (seated.places c.self.inside.written c.index-2.result.now inside) in
    small_sector (sectors_of c.args.tops.now) c.index-2.result.now.pointer.place seated.tops place

pub write_item-requires-clause-within : goal.write_item-requires-clause-within
write_item-requires-clause-within g c =
    let size = (g.B.Bank.view c.args.bank.now).size in
    let sectors = sectors_of c.args.tops.now in
    let seated = rw (← c.self.view_is) at c.requires.seated in
    let inside : c.self.inside.written < _ = (rw (← c.self.view_is) at c.requires.left) in
    let at : Place = c.index-2.result.now.pointer.place in
    let place : IsPlace sectors at =
    subst (λ (item : Item). IsPlace sectors item.pointer.place) (sym c.index-2.ensures) (seated.places c.self.inside.written c.index-2.result.now inside) in
    let same : c.index.result.now ≡ c.index-2.result.now =
    c.index.ensures ∙ any_default c.self.inside.items.items c.self.inside.written c.index.result.now c.index-2.result.now inside ∙ sym c.index-2.ensures in
    subst (All (λ (m : Member). 128 + at.sector < size m.dev))
    (sym (c.as_slice-2.ensures.members ∙ c.members_under-members.ensures.members
    ∙ ap (λ (item : Item). board_under item.pointer.place.top c.self.inside.board) same))
    (members_if (λ (m : Member). 128 + at.sector < size m.dev) (λ (seat : Seat). seat.on ≡ true → IsSeated size sectors seat) (is_on_under at.top)
    (has_sector size sectors at place) c.self.inside.board seated.seats)

pub invariant_of-self : goal.invariant_of-self
invariant_of-self g c =
    let group = seen c.self.inside in (
      turn_kept group c.self.invariant.0 (group.written + 1) group.flushed group.begun group.acked
          (let inside = (rw (← c.self.view_is) at c.requires.left) in omega arith)
          (λ all. let inside = (rw (← c.self.view_is) at c.requires.left) in absurd (omega (arith, c.self.invariant.0.flushed all)))
          c.drop_failed.new.board c.as_slice-3.result.now c.write_item.new.done c.drop_failed.ensures.board,
      c.self.invariant.1,
    )

pub returns-clause-turn : goal.returns-clause-turn
returns-clause-turn g c =
    let tops = numbers_of c.args.tops.now in
    let tops' = numbers_of c.drop_failed.new.tops in
    let old = leaves_of c.args.tops.now in
    let new = leaves_of c.drop_failed.new.tops in
    let bank = g.B.Bank.view c.args.bank.now in
    let bank' = g.B.Bank.view c.write_item.new.bank in
    let done = c.write_item.new.done in
    let group : FrozenGroup = seen c.self.inside in
    let noted : FrozenGroup = record group { written = c.self.inside.written + 1 } in
    let behind : FrozenGroup = record noted { board = c.drop_failed.new.board } in
    let is : group ≡ c.args.self.now = c.self.view_is in
    subst (λ (was : FrozenGroup). (item : Item) → slice_get was.items was.written ≡ Some item
    → IsWriteTurn tops' item (record { group = was; leaves = old; bank = bank }) (record { group = behind; leaves = new; bank = bank' }) c.check-2.result) is
    (λ item at.
    let first : c.index.result.now ≡ item = c.index.ensures ∙ got_there group.items group.written item c.index.result.now at in
    let second : c.index-2.result.now ≡ item = c.index-2.ensures ∙ got_there group.items group.written item c.index-2.result.now at in
    let under = c.members_under-members.ensures.members ∙ ap (λ (x : Item). board_under x.pointer.place.top group.board) first in
    let wrote : c.as_slice-2.result.now ≡ board_under item.pointer.place.top group.board = c.as_slice-2.ensures.members ∙ under in
    let dropped : c.as_slice-3.result.now ≡ board_under item.pointer.place.top group.board = c.as_slice-3.ensures.members ∙ under in
    turn_goes tops tops' (write_plan (cell_of item)) (board_under item.pointer.place.top group.board) noted
    (record { group = group; leaves = old; bank = bank })
    (record { group = behind; leaves = new; bank = bank' })
    c.check.result c.check-2.result (as_many c.args.tops.now c.drop_failed.new.tops c.drop_failed.ensures.built)
    (subst (λ (was : FrozenGroup). Answers tops was (emptied_top tops was) c.check.result) (sym is) c.check.ensures.told) c.in_ok-check.was
    (record {
      results = done;
      calls = subst (λ (x : Item). MakesCalls (write_plan (cell_of x)) (board_under item.pointer.place.top group.board) done bank bank') second
          (subst (λ (ms : List Member). MakesCalls (write_plan (cell_of c.index-2.result.now)) ms done bank bank') wrote c.write_item.ensures);
      group = ap (λ (seats : List Seat). record noted { board = seats })
          (c.drop_failed.ensures.board ∙ ap (λ (ms : List Member). behind_turn ms done group.board) dropped);
      leaves = subst (λ (ms : List Member). AreBehind group.numbers ms done old new) dropped c.drop_failed.ensures.leaves;
    }) c.check-2.ensures.told)

pub returns-clause-seated : goal.returns-clause-seated
returns-clause-seated g c =
    let size = (g.B.Bank.view c.args.bank.now).size in
    let size' = (g.B.Bank.view c.write_item.new.bank).size in
    let group : FrozenGroup = seen c.self.inside in
    let behind : FrozenGroup = record group { written = group.written + 1; board = c.drop_failed.new.board } in
    turn_seats size size' (sectors_of c.args.tops.now) (sectors_of c.drop_failed.new.tops) group behind
    c.as_slice-3.result.now c.write_item.new.done c.write_item.ensures.calls.frame.sizes c.drop_failed.ensures.sectors refl
    c.drop_failed.ensures.board
    (rw (← c.self.view_is) at c.requires.seated)
