use Rattle.std.proofs.Common.{◌≡◌, ◌<◌, true, List, refl, sym, ap, subst, ◌∙◌, arith}
use Rattle.std.specs.Prelude.{All}
use Rattle.label_store.specs.declared.member.Member.{Member}
use Rattle.dtl_rules.specs.Widening.{leaves_of, sectors_of}
use Rattle.txg_history.specs.Turns.{flush_plan}
use Rattle.txg_engine.specs.declared.seat.Seat.{Seat}
use Rattle.txg_engine.specs.Boards.{board_of, behind_turn, is_on}
use Rattle.txg_engine.specs.Frozen.{FrozenGroup, IsSeated}
use Rattle.txg_engine.specs.Logs.{AreBehind}
use Rattle.txg_engine.specs.Turns.{Scene, IsFlushTurn, MakesCalls, numbers_of, Answers, emptied_top}
use Rattle.txg_engine.proofs.GroupsKept.{seen, turn_kept}
use Rattle.txg_engine.proofs.SeatsKept.{turn_seats}
use Rattle.txg_engine.proofs.TurnEnds.{turn_goes, as_many, members_if}
use Rattle.txg_engine.proofs.frozen.Frozen.flush_turn.Goals as goal

pub flush_all-requires-clause-devices : goal.flush_all-requires-clause-devices
flush_all-requires-clause-devices g c =
    let size = (g.B.Bank.view c.args.bank.now).size in
    subst (All (λ (m : Member). 0 < size m.dev)) (sym (c.as_slice-2.ensures.members ∙ c.members-members.ensures.members))
    (members_if (λ (m : Member). 0 < size m.dev) (λ (seat : Seat). seat.on ≡ true → IsSeated size (sectors_of c.args.tops.now) seat) is_on
    (λ seat on seated. let labels = (seated on).labels in omega arith) c.self.inside.board (rw (← c.self.view_is) at c.requires.seated).seats)

pub invariant_of-self : goal.invariant_of-self
invariant_of-self g c =
    let group = seen c.self.inside in (
      turn_kept group c.self.invariant.0 group.written true group.begun group.acked c.self.invariant.0.within
          (λ all. rw (← c.self.view_is) at c.requires.written)
          c.drop_failed.new.board c.as_slice-3.result.now c.flush_all.new.done c.drop_failed.ensures.board,
      c.self.invariant.1,
    )

pub returns-clause-turn : goal.returns-clause-turn
returns-clause-turn g c =
    let tops = numbers_of c.args.tops.now in
    let tops' = numbers_of c.drop_failed.new.tops in
    let old = leaves_of c.args.tops.now in
    let new = leaves_of c.drop_failed.new.tops in
    let bank = g.B.Bank.view c.args.bank.now in
    let bank' = g.B.Bank.view c.flush_all.new.bank in
    let done = c.flush_all.new.done in
    let group : FrozenGroup = seen c.self.inside in
    let noted : FrozenGroup = record group { flushed = true } in
    let behind : FrozenGroup = record noted { board = c.drop_failed.new.board } in
    let is : group ≡ c.args.self.now = c.self.view_is in
    let flushed : c.as_slice-2.result.now ≡ board_of group.board = c.as_slice-2.ensures.members ∙ c.members-members.ensures.members in
    let dropped : c.as_slice-3.result.now ≡ board_of group.board = c.as_slice-3.ensures.members ∙ c.members-members.ensures.members in
    let scene' : Scene = record { group = behind; leaves = new; bank = bank' } in
    subst (λ (was : FrozenGroup). IsFlushTurn tops' (record { group = was; leaves = old; bank = bank }) scene' c.check-2.result) is
    (turn_goes tops tops' flush_plan (board_of group.board) noted (record { group = group; leaves = old; bank = bank }) scene'
    c.check.result c.check-2.result (as_many c.args.tops.now c.drop_failed.new.tops c.drop_failed.ensures.built)
    (subst (λ (was : FrozenGroup). Answers tops was (emptied_top tops was) c.check.result) (sym is) c.check.ensures.told) c.in_ok-check.was
    (record {
      results = done;
      calls = subst (λ (ms : List Member). MakesCalls flush_plan ms done bank bank') flushed c.flush_all.ensures;
      group = ap (λ (seats : List Seat). record noted { board = seats })
          (c.drop_failed.ensures.board ∙ ap (λ (ms : List Member). behind_turn ms done group.board) dropped);
      leaves = subst (λ (ms : List Member). AreBehind group.numbers ms done old new) dropped c.drop_failed.ensures.leaves;
    }) c.check-2.ensures.told)

pub returns-clause-seated : goal.returns-clause-seated
returns-clause-seated g c =
    let size = (g.B.Bank.view c.args.bank.now).size in
    let size' = (g.B.Bank.view c.flush_all.new.bank).size in
    let group : FrozenGroup = seen c.self.inside in
    let behind : FrozenGroup = record group { flushed = true; board = c.drop_failed.new.board } in
    turn_seats size size' (sectors_of c.args.tops.now) (sectors_of c.drop_failed.new.tops) group behind
    c.as_slice-3.result.now c.flush_all.new.done c.flush_all.ensures.calls.frame.sizes c.drop_failed.ensures.sectors refl
    c.drop_failed.ensures.board
    (rw (← c.self.view_is) at c.requires.seated)
