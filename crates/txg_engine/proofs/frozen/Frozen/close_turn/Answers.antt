use Rattle.std.proofs.Common.{◌≡◌, true, Ok, List, [], refl, sym, ap, subst, ◌∙◌, arith}
use Rattle.label_store.specs.declared.member.Member.{Member}
use Rattle.label_store.specs.Committing.{Commits}
use Rattle.label_store.specs.Rounds.{Commit}
use Rattle.dtl_rules.specs.Widening.{leaves_of, sectors_of}
use Rattle.txg_engine.specs.declared.close_turn.Closed.TheVariants as closed
use Rattle.txg_engine.specs.declared.seat.Numbers.{Numbers}
use Rattle.txg_engine.specs.Boards.{board_of}
use Rattle.txg_engine.specs.Frozen.{FrozenGroup}
use Rattle.txg_engine.specs.Turns.{Scene, IsCloseTurn, EndsRound, numbers_of, Answers, emptied_top}
use Rattle.txg_engine.proofs.Closing.{seated_members, apart_members, falls, settled_ready}
use Rattle.txg_engine.proofs.Closing.{close_goes, suspends, draws, round_failed}
use Rattle.txg_engine.proofs.GroupsKept.{seen, turn_kept, drawn_kept}
use Rattle.txg_engine.proofs.SeatsKept.{turn_seats}
use Rattle.txg_engine.proofs.TurnEnds.{as_many}
use Rattle.txg_engine.proofs.frozen.Frozen.close_turn.Goals as goal

pub commit_record-requires-clause-seated : goal.commit_record-requires-clause-seated
commit_record-requires-clause-seated g c =
    let sent = c.as_slice-2.ensures.members ∙ c.members-members.ensures.members in
    let size = (g.B.Bank.view c.args.bank.now).size in
    seated_members size (sectors_of c.args.tops.now) c.self.inside.board c.as_slice-2.result.now sent
    (rw (← c.self.view_is) at c.requires.seated).seats

pub commit_record-requires-clause-apart : goal.commit_record-requires-clause-apart
commit_record-requires-clause-apart g c =
    let sent = c.as_slice-2.ensures.members ∙ c.members-members.ensures.members in
    apart_members c.self.inside.board c.as_slice-2.result.now sent (rw (← c.self.view_is) at c.requires.seated).apart

pub returns-then-all_done-clause-turn : goal.returns-then-all_done-clause-turn
returns-then-all_done-clause-turn g c =
    let tops = numbers_of c.args.tops.now in
    let tops' = numbers_of c.settle_all.new.tops in
    let old = leaves_of c.args.tops.now in
    let bank = g.B.Bank.view c.args.bank.now in
    let bank' = g.B.Bank.view c.commit_record.new.bank in
    let done = c.commit_record.new.results in
    let head_of = g.R.BlobRule.head_of in
    let group : FrozenGroup = seen c.self.inside in
    let noted : FrozenGroup = record group { begun = true } in
    let is : group ≡ c.args.self.now = c.self.view_is in
    let sent : c.as_slice-2.result.now ≡ board_of group.board =
    c.as_slice-2.ensures.members ∙ c.members-members.ensures.members in
    let commit : Commit = record {
      pool = c.args.pool;
      number = group.numbers.last;
      blob = c.args.blob.now;
      length = c.args.config_bytes;
    } in
    let scene : Scene = record { group = group; leaves = old; bank = bank } in
    let told : Answers tops group (emptied_top tops group) c.check.result =
    subst (λ (was : FrozenGroup). Answers tops was (emptied_top tops was) c.check.result) (sym is) c.check.ensures.told in
    let acked : FrozenGroup = record noted { acked = true } in
    let new : Scene = record { group = acked; leaves = leaves_of c.settle_all.new.tops; bank = bank' } in
    subst (λ (was : FrozenGroup). IsCloseTurn head_of (record commit { number = was.numbers.last }) tops'
    (record scene { group = was }) new (Ok (closed.Committed group.numbers.last))) is
    (close_goes head_of commit tops tops' scene new c.check.result (Ok (closed.Committed group.numbers.last))
    (as_many c.args.tops.now c.settle_all.new.tops c.settle_all.ensures.built) told c.in_ok-check.was
    (record {
      results = done;
      commits = subst (λ (ms : List Member). Commits head_of bank.size commit ms done bank bank') sent
          c.commit_record.ensures;
      ends = subst (λ b. EndsRound b tops' done noted scene new (Ok (closed.Committed group.numbers.last)))
          (sym (sym c.all_done.ensures ∙ c.if-all_done.true)) (refl, c.settle_all.ensures.leaves, refl);
    }))

pub returns-then-all_done-clause-ready : goal.returns-then-all_done-clause-ready
returns-then-all_done-clause-ready g c =
    settled_ready c.self.inside.board c.self.inside.numbers.last.0 (leaves_of c.args.tops.now)
    (leaves_of c.settle_all.new.tops) c.settle_all.ensures.leaves (rw (← c.self.view_is) at c.requires.ready)

pub invariant_of-self-2 : goal.invariant_of-self-2
invariant_of-self-2 g c =
    let group = seen c.self.inside in (
      turn_kept group c.self.invariant.0 group.written group.flushed true group.acked c.self.invariant.0.within
          c.self.invariant.0.flushed
          c.drop_failed.new.board c.as_slice-3.result.now c.commit_record.new.results c.drop_failed.ensures.board,
      c.self.invariant.1,
    )

pub invariant_of-self-in_err-check-2 : goal.invariant_of-self-in_err-check-2
invariant_of-self-in_err-check-2 g c =
    let group = seen c.self.inside in (
      turn_kept group c.self.invariant.0 group.written group.flushed true group.acked c.self.invariant.0.within
          c.self.invariant.0.flushed
          c.drop_failed.new.board c.as_slice-3.result.now c.commit_record.new.results c.drop_failed.ensures.board,
      c.self.invariant.1,
    )

pub returns-in_err-check-2-clause-turn : goal.returns-in_err-check-2-clause-turn
returns-in_err-check-2-clause-turn g c =
    let tops = numbers_of c.args.tops.now in
    let tops' = numbers_of c.drop_failed.new.tops in
    let old = leaves_of c.args.tops.now in
    let bank = g.B.Bank.view c.args.bank.now in
    let bank' = g.B.Bank.view c.commit_record.new.bank in
    let done = c.commit_record.new.results in
    let head_of = g.R.BlobRule.head_of in
    let group : FrozenGroup = seen c.self.inside in
    let noted : FrozenGroup = record group { begun = true } in
    let left : FrozenGroup = record noted { board = c.drop_failed.new.board } in
    let dropped = c.as_slice-3.ensures.members ∙ c.members-members.ensures.members in
    let same = c.from_residual-in_err-check-2.ensures.1 in
    let is : group ≡ c.args.self.now = c.self.view_is in
    let sent : c.as_slice-2.result.now ≡ board_of group.board =
    c.as_slice-2.ensures.members ∙ c.members-members.ensures.members in
    let commit : Commit = record {
      pool = c.args.pool;
      number = group.numbers.last;
      blob = c.args.blob.now;
      length = c.args.config_bytes;
    } in
    let scene : Scene = record { group = group; leaves = old; bank = bank } in
    let told : Answers tops group (emptied_top tops group) c.check.result =
    subst (λ (was : FrozenGroup). Answers tops was (emptied_top tops was) c.check.result) (sym is) c.check.ensures.told in
    let new : Scene = record { group = left; leaves = leaves_of c.drop_failed.new.tops; bank = bank' } in
    subst (λ (was : FrozenGroup). IsCloseTurn head_of (record commit { number = was.numbers.last }) tops'
    (record scene { group = was }) new c.from_residual-in_err-check-2.result) is
    (close_goes head_of commit tops tops' scene new c.check.result c.from_residual-in_err-check-2.result
    (as_many c.args.tops.now c.drop_failed.new.tops c.drop_failed.ensures.built) told c.in_ok-check.was
    (record {
      results = done;
      commits = subst (λ (ms : List Member). Commits head_of bank.size commit ms done bank bank') sent
          c.commit_record.ensures;
      ends = round_failed tops' c.as_slice-3.result.now done noted c.drop_failed.new.board
          (leaves_of c.drop_failed.new.tops) scene new c.from_residual-in_err-check-2.result
          (sym c.all_done.ensures ∙ c.if-all_done.false)
          dropped c.drop_failed.ensures.board c.drop_failed.ensures.leaves
          (suspends tops' left new (emptied_top tops' left) c.check-2.result c.in_err-check-2.field-0.0
          c.from_residual-in_err-check-2.result refl c.check-2.ensures.told c.in_err-check-2.was same);
    }))

pub draw-requires-clause-high : goal.draw-requires-clause-high
draw-requires-clause-high g c =
    let sent = c.as_slice-2.ensures.members ∙ c.members-members.ensures.members in
    let dropped = c.as_slice-3.ensures.members ∙ c.members-members.ensures.members in
    let off = sym c.all_done.ensures ∙ c.if-all_done.false in
    let fewer = falls c.as_slice-2.result.now c.as_slice-3.result.now c.commit_record.new.results c.self.inside.board
    c.drop_failed.new.board sent dropped c.commit_record.ensures.round off c.drop_failed.ensures.board in
    omega (arith, c.self.invariant.0.high, fewer)

pub invariant_of-self-3 : goal.invariant_of-self-3
invariant_of-self-3 g c =
    let sent = c.as_slice-2.ensures.members ∙ c.members-members.ensures.members in
    let dropped = c.as_slice-3.ensures.members ∙ c.members-members.ensures.members in
    let off = sym c.all_done.ensures ∙ c.if-all_done.false in
    let fewer = falls c.as_slice-2.result.now c.as_slice-3.result.now c.commit_record.new.results c.self.inside.board
    c.drop_failed.new.board sent dropped c.commit_record.ensures.round off c.drop_failed.ensures.board in (
      drawn_kept (seen c.self.inside) c.self.invariant.0 c.draw.new.numbers c.drop_failed.new.board
          c.as_slice-3.result.now c.commit_record.new.results c.draw.ensures.numbers c.drop_failed.ensures.board fewer,
      c.self.invariant.1,
    )

pub returns-clause-turn : goal.returns-clause-turn
returns-clause-turn g c =
    let tops = numbers_of c.args.tops.now in
    let tops' = numbers_of c.draw.new.tops in
    let old = leaves_of c.args.tops.now in
    let bank = g.B.Bank.view c.args.bank.now in
    let bank' = g.B.Bank.view c.commit_record.new.bank in
    let done = c.commit_record.new.results in
    let head_of = g.R.BlobRule.head_of in
    let group : FrozenGroup = seen c.self.inside in
    let noted : FrozenGroup = record group { begun = true } in
    let left : FrozenGroup = record noted { board = c.drop_failed.new.board } in
    let dropped = c.as_slice-3.ensures.members ∙ c.members-members.ensures.members in
    let is : group ≡ c.args.self.now = c.self.view_is in
    let sent : c.as_slice-2.result.now ≡ board_of group.board =
    c.as_slice-2.ensures.members ∙ c.members-members.ensures.members in
    let commit : Commit = record {
      pool = c.args.pool;
      number = group.numbers.last;
      blob = c.args.blob.now;
      length = c.args.config_bytes;
    } in
    let scene : Scene = record { group = group; leaves = old; bank = bank } in
    let told : Answers tops group (emptied_top tops group) c.check.result =
    subst (λ (was : FrozenGroup). Answers tops was (emptied_top tops was) c.check.result) (sym is) c.check.ensures.told in
    let drawn : FrozenGroup = record left { numbers = c.draw.new.numbers } in
    let new : Scene = record { group = drawn; leaves = leaves_of c.draw.new.tops; bank = bank' } in
    subst (λ (was : FrozenGroup). IsCloseTurn head_of (record commit { number = was.numbers.last }) tops'
    (record scene { group = was }) new (Ok (closed.Round group.numbers.last))) is
    (close_goes head_of commit tops tops' scene new c.check.result (Ok (closed.Round group.numbers.last))
    (as_many c.args.tops.now c.draw.new.tops (c.draw.ensures.built ∙ c.drop_failed.ensures.built))
    told c.in_ok-check.was
    (record {
      results = done;
      commits = subst (λ (ms : List Member). Commits head_of bank.size commit ms done bank bank') sent
          c.commit_record.ensures;
      ends = round_failed tops' c.as_slice-3.result.now done noted c.drop_failed.new.board
          (leaves_of c.drop_failed.new.tops) scene new (Ok (closed.Round group.numbers.last))
          (sym c.all_done.ensures ∙ c.if-all_done.false)
          dropped c.drop_failed.ensures.board c.drop_failed.ensures.leaves
          (draws (numbers_of c.drop_failed.new.tops) tops' left (leaves_of c.drop_failed.new.tops) new c.check-2.result
          (as_many c.drop_failed.new.tops c.draw.new.tops c.draw.ensures.built) c.check-2.ensures.told c.in_ok-check-2.was
          (record {
            group = ap (λ (n : Numbers). record left { numbers = n }) c.draw.ensures.numbers;
            grown = c.draw.ensures.leaves;
          }));
    }))

pub returns-then-all_done-clause-seated : goal.returns-then-all_done-clause-seated
returns-then-all_done-clause-seated g c =
    let size = (g.B.Bank.view c.args.bank.now).size in
    let size' = (g.B.Bank.view c.commit_record.new.bank).size in
    let group : FrozenGroup = seen c.self.inside in
    turn_seats size size' (sectors_of c.args.tops.now) (sectors_of c.settle_all.new.tops) group
    (record group { begun = true; acked = true }) [] [] c.commit_record.ensures.calls.frame.sizes c.settle_all.ensures.sectors refl
    refl (rw (← c.self.view_is) at c.requires.seated)

pub returns-in_err-check-2-clause-seated : goal.returns-in_err-check-2-clause-seated
returns-in_err-check-2-clause-seated g c =
    let size = (g.B.Bank.view c.args.bank.now).size in
    let size' = (g.B.Bank.view c.commit_record.new.bank).size in
    let group : FrozenGroup = seen c.self.inside in
    turn_seats size size' (sectors_of c.args.tops.now) (sectors_of c.drop_failed.new.tops) group
    (record group { begun = true; board = c.drop_failed.new.board }) c.as_slice-3.result.now c.commit_record.new.results
    c.commit_record.ensures.calls.frame.sizes c.drop_failed.ensures.sectors refl c.drop_failed.ensures.board
    (rw (← c.self.view_is) at c.requires.seated)

pub returns-clause-seated : goal.returns-clause-seated
returns-clause-seated g c =
    let size = (g.B.Bank.view c.args.bank.now).size in
    let size' = (g.B.Bank.view c.commit_record.new.bank).size in
    let group : FrozenGroup = seen c.self.inside in
    turn_seats size size' (sectors_of c.args.tops.now) (sectors_of c.draw.new.tops) group
    (record group { numbers = c.draw.new.numbers; begun = true; board = c.drop_failed.new.board })
    c.as_slice-3.result.now c.commit_record.new.results c.commit_record.ensures.calls.frame.sizes
    (c.draw.ensures.sectors ∙ c.drop_failed.ensures.sectors) refl c.drop_failed.ensures.board
    (rw (← c.self.view_is) at c.requires.seated)
