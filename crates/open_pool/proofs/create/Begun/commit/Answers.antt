use Rattle.std.proofs.Common.{◌≤◌, List, ◌++◌, length, take, drop, Err, sym, ap, ◌∙◌, subst, arith}
use Rattle.std.specs.Prelude.{All}
use Rattle.txg_engine.specs.declared.seat.Seat.{Seat}
use Rattle.pool_moves.specs.StampRow.{NewMember}
use Rattle.open_pool.specs.Creating.{Creates, IsAsked, IsBegun, StampsSeats, first_off}
use Rattle.open_pool.proofs.BoardLeft.{items_back}
use Rattle.open_pool.proofs.NewCommit.{IsMade, fails_there, itemless, made_there, seated_there, stamp_fails, stampable, valid_there}
use Rattle.open_pool.proofs.TurnOfPool.{came_back}
use Rattle.open_pool.proofs.create.Begun.commit.Given.{Over}
use Rattle.open_pool.proofs.create.Begun.commit.Goals as goal

pub stamp_board-requires : goal.stamp_board-requires
stamp_board-requires g c =
    subst (All (λ (seat : Seat). 320 ≤ (g.B.Bank.view c.args.bank.now).size seat.member.dev)) (sym (c.seats.ensures ∙ c.board.ensures))
    (stampable (g.B.Bank.view c.args.bank.now) c.args.blocks c.requires.asked c.args.self c.requires.is c.requires.begins)

pub returns-in-Err-clause-row : goal.returns-in-Err-clause-row
returns-in-Err-clause-row g c = λ asked is b.
    stamp_fails (g.B.Bank.view c.args.bank.now) c.args.blocks asked c.args.self c.args.pool is b c.spells_a_name.ensures (omega arith)
    (g.B.Bank.view c.stamp_board.new.bank) c.in-Err.place
    (subst (λ r. StampsSeats c.args.pool c.args.self.frozen.board r (g.B.Bank.view c.args.bank.now) (g.B.Bank.view c.stamp_board.new.bank)) c.in-Err.is
    (subst (λ l. StampsSeats c.args.pool l c.stamp_board.result (g.B.Bank.view c.args.bank.now) (g.B.Bank.view c.stamp_board.new.bank))
    (c.seats.ensures ∙ c.board.ensures) c.stamp_board.ensures))

pub skip_flush-requires : goal.skip_flush-requires
skip_flush-requires g c =
    itemless (g.B.Bank.view c.args.bank.now) c.args.blocks c.requires.asked c.args.self c.args.pool c.requires.is c.requires.begins c.spells_a_name.ensures
    (omega arith)

pub close_next-turn-requires-clause-seated : goal.close_next-turn-requires-clause-seated
close_next-turn-requires-clause-seated g c =
    seated_there (g.B.Bank.view c.args.bank.now) (g.B.Bank.view c.stamp_board.new.bank) (g.B.Bank.view c.stamp_board.new.bank) c.args.blocks c.requires.asked
    c.args.self c.args.pool c.requires.is c.requires.begins c.spells_a_name.ensures (omega arith) c.skip_flush.new.self c.skip_flush.ensures
    c.keeps_its_form.ensures c.deref_mut.result.now c.deref_mut.ensures.value c.stamp_board.result c.in_default.field-0 c.in_default.is c.seats.result.now
    (c.seats.ensures ∙ c.board.ensures) c.stamp_board.ensures

pub close_next-turn-requires-clause-valid : goal.close_next-turn-requires-clause-valid
close_next-turn-requires-clause-valid g c =
    valid_there (g.B.Bank.view c.args.bank.now) (g.B.Bank.view c.stamp_board.new.bank) (g.B.Bank.view c.stamp_board.new.bank) c.args.blocks c.requires.asked
    c.args.self c.args.pool c.requires.is c.requires.begins c.spells_a_name.ensures (omega arith) c.skip_flush.new.self c.skip_flush.ensures
    c.keeps_its_form.ensures c.deref_mut.result.now c.deref_mut.ensures.value c.stamp_board.result c.in_default.field-0 c.in_default.is c.seats.result.now
    (c.seats.ensures ∙ c.board.ensures) c.stamp_board.ensures

pub returns-in_default-committed-clause-row : goal.returns-in_default-committed-clause-row
returns-in_default-committed-clause-row g c = λ asked is b.
    let t = c.close_next-turn.ensures in
    subst (λ n. Creates c.args.self.name c.args.pool c.args.blocks asked (Err n) (g.B.Bank.view c.args.bank.now) (g.B.Bank.view c.close_next-turn.new.bank))
    (sym (c.first_off.ensures ∙ ap first_off (c.seats-in_default-committed.ensures ∙ c.board-in_default-committed.ensures)))
    (fails_there (g.B.Bank.view c.args.bank.now) (g.B.Bank.view c.stamp_board.new.bank) (g.B.Bank.view c.close_next-turn.new.bank) c.args.blocks asked
    c.args.self c.args.pool is b c.spells_a_name.ensures (omega arith) c.skip_flush.new.self c.skip_flush.ensures
    c.keeps_its_form.ensures c.deref_mut.result.now c.deref_mut.ensures.value c.stamp_board.result c.in_default.field-0 c.in_default.is c.seats.result.now
    (c.seats.ensures ∙ c.board.ensures) c.stamp_board.ensures c.close_next-turn.new.frozen c.close_next-turn.new.tops c.close_next-turn.result t.built t.sectors t.turn
    c.in_default-committed.ensures.none)

made : (g : Over) (c : goal.After-new g) (asked : List (List NewMember)) (is : IsAsked (g.B.Bank.view c.args.bank.now).size c.args.blocks asked)
    (b : IsBegun (g.B.Bank.view c.args.bank.now).size c.args.self.name c.args.blocks asked c.args.self)
    → IsMade (g.B.Bank.view c.args.bank.now) (g.B.Bank.view c.close_next-turn.new.bank) c.args.blocks asked c.args.self c.args.pool c.adopt.new.map c.adopt.new.pins
    c.in-Some.number (take c.args.self.tops.len (c.close_next-turn.new.tops ++ drop (length c.close_next-turn.new.tops) c.args.self.tops.items)) c.new.result.items
made g c asked is b =
    let t = c.close_next-turn.ensures in
    made_there (g.B.Bank.view c.args.bank.now) (g.B.Bank.view c.stamp_board.new.bank) (g.B.Bank.view c.close_next-turn.new.bank) c.args.blocks asked
    c.args.self c.args.pool is b c.spells_a_name.ensures (omega arith) c.skip_flush.new.self c.skip_flush.ensures
    c.keeps_its_form.ensures c.deref_mut.result.now c.deref_mut.ensures.value c.stamp_board.result c.in_default.field-0 c.in_default.is c.seats.result.now
    (c.seats.ensures ∙ c.board.ensures) c.stamp_board.ensures c.close_next-turn.new.frozen c.close_next-turn.new.tops c.close_next-turn.result t.built t.sectors t.turn
    c.adopt.new.map c.adopt.new.pins c.adopt.ensures.map c.adopt.ensures.pins t.keys.items c.in-Some.number c.in-Some.ensures.some _
    (items_back c.args.self.tops.len c.deref_mut.result.now c.close_next-turn.new.tops c.args.self.tops.items c.deref_mut.ensures.len t.built)
    c.new.result.items c.new.ensures.items

pub invariant_of-result : goal.invariant_of-result
invariant_of-result g c = (
  (made g c c.requires.asked c.requires.is c.requires.begins).formed,
  came_back c.args.self.config.len 114688 c.deref_mut-2.result.now c.close_next-turn.new.config c.args.self.config.items c.deref_mut-2.ensures.value
      c.deref_mut-2.ensures.len c.close_next-turn.ensures.part c.requires.begins.part,
)

pub returns-clause-row : goal.returns-clause-row
returns-clause-row g c = λ asked is b. (made g c asked is b).row

pub returns-clause-here : goal.returns-clause-here
returns-clause-here g c = (made g c c.requires.asked c.requires.is c.requires.begins).here
