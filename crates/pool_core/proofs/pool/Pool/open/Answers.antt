use Rattle.std.proofs.Common.{◌∙◌, arith, refl}
use Rattle.std.proofs.lemmas.Result.{err_from_is_err_and}
use Rattle.config_codec.specs.Fields.{config_fields}
use Rattle.pool_core.specs.Logs.{drawn}
use Rattle.pool_core.specs.Opening.{found_state}
use Rattle.pool_core.proofs.Boards.{members_are}
use Rattle.pool_core.proofs.Drafted.{drafted_board, drafted_seated}
use Rattle.pool_core.proofs.Founding.{found_seated, versions_committed, versions_of}
use Rattle.pool_core.proofs.Reopening.{opens_err, opens_memory, opens_nobody, opens_ok, recommits}
use Rattle.pool_core.proofs.Seated.{first_room}
use Rattle.pool_core.proofs.pool.Pool.open.Goals as goal

pub returns-then-finds_nobody-clause-opens : goal.returns-then-finds_nobody-clause-opens
returns-then-finds_nobody-clause-opens g c = λ committed is.
    opens_nobody _ _ _ (found_state (config_fields c.args.config) committed c.args.found.0 c.args.found.1) c.finds_nobody.result
    c.if-finds_nobody.true (c.finds_nobody.ensures committed)

pub returns-in-Err-clause-opens : goal.returns-in-Err-clause-opens
returns-in-Err-clause-opens g c = λ committed is.
    opens_memory _ _ _ (found_state (config_fields c.args.config) committed c.args.found.0 c.args.found.1) c.finds_nobody.result
    c.if-finds_nobody.false (c.finds_nobody.ensures committed)

pub draft-requires : goal.draft-requires
draft-requires g c =
    let config = config_fields c.args.config in
    let rep = c.in-Ok.ensures (versions_of config) (versions_committed config c.requires.valid) in
    omega (arith, rep.number, c.requires.number)

pub returns-in-Err-draft-clause-opens : goal.returns-in-Err-draft-clause-opens
returns-in-Err-draft-clause-opens g c = λ committed is.
    opens_memory _ _ _ (found_state (config_fields c.args.config) committed c.args.found.0 c.args.found.1) c.finds_nobody.result
    c.if-finds_nobody.false (c.finds_nobody.ensures committed)

pub draw_number-requires-clause-number : goal.draw_number-requires-clause-number
draw_number-requires-clause-number g c =
    let config = config_fields c.args.config in
    let rep = c.in-Ok.ensures (versions_of config) (versions_committed config c.requires.valid) in
    omega (arith, rep.number, c.requires.number)

pub flush_all-flushed-requires : goal.flush_all-flushed-requires
flush_all-flushed-requires g c =
    let config = config_fields c.args.config in
    let rep = c.in-Ok.ensures (versions_of config) (versions_committed config c.requires.valid) in
    let seated = found_seated _ config (versions_of config) c.args.found.0 c.args.found.1 c.in-Ok.pool rep.pair c.requires.first_room c.requires.second_room in
    record { room = first_room _ c.in-Ok.pool c.board-board.result (members_are c.in-Ok.pool.pair c.board-board.result c.board-board.ensures) seated }

pub end_commit-requires-clause-seated : goal.end_commit-requires-clause-seated
end_commit-requires-clause-seated g c =
    let config = config_fields c.args.config in
    let rep = c.in-Ok.ensures (versions_of config) (versions_committed config c.requires.valid) in
    let seated = found_seated (g.B.Bank.view c.args.bank.now).size config (versions_of config) c.args.found.0 c.args.found.1 c.in-Ok.pool rep.pair c.requires.first_room c.requires.second_room in
    drafted_seated _ _ c.in-Ok.pool c.draw_number.new.self c.in-Ok-draft.draft.pair (record { stands = c.in-Ok-draft.ensures.stands }) c.draw_number.ensures.pair
    c.flush_all-flushed.ensures.size seated

pub end_commit-requires-clause-board : goal.end_commit-requires-clause-board
end_commit-requires-clause-board g c =
    drafted_board c.in-Ok.pool c.draw_number.new.self c.in-Ok-draft.draft.pair c.board-board.result (record { stands = c.in-Ok-draft.ensures.stands })
    c.draw_number.ensures.pair c.board-board.ensures

pub returns-in_err-end_commit-clause-numbers : goal.returns-in_err-end_commit-clause-numbers
returns-in_err-end_commit-clause-numbers g c = λ other. c.end_commit.ensures.numbers other ∙ c.flush_all-flushed.ensures.numbers other

pub returns-clause-numbers : goal.returns-clause-numbers
returns-clause-numbers g c = λ other. c.end_commit.ensures.numbers other ∙ c.flush_all-flushed.ensures.numbers other

pub returns-clause-seated : goal.returns-clause-seated
returns-clause-seated g c =
    let config = config_fields c.args.config in
    let rep = c.in-Ok.ensures (versions_of config) (versions_committed config c.requires.valid) in
    let size = (g.B.Bank.view c.args.bank.now).size in
    let seated = found_seated size config (versions_of config) c.args.found.0 c.args.found.1 c.in-Ok.pool rep.pair c.requires.first_room c.requires.second_room in
    drafted_seated size size c.in-Ok.pool c.draw_number.new.self c.in-Ok-draft.draft.pair (record { stands = c.in-Ok-draft.ensures.stands }) c.draw_number.ensures.pair
    (λ d. refl) seated

pub returns-clause-opens : goal.returns-clause-opens
returns-clause-opens g c = λ committed is.
    let s = found_state (config_fields c.args.config) committed c.args.found.0 c.args.found.1 in
    let rep = c.in-Ok.ensures committed is in
    let later = c.draw_number.ensures.drawn s rep in
    opens_ok _ c.draw_number.new.self s
    (recommits _ _ s c.board-board.result c.finds_nobody.result c.if-finds_nobody.false (c.finds_nobody.ensures committed) (c.board-board.ensures s rep.pair)
    c.flush_all-flushed.ensures.size c.flush_all-flushed.ensures.part (c.in_ok-end_commit.ensures.ends (drawn s) later)) later

pub returns-in_err-end_commit-clause-opens : goal.returns-in_err-end_commit-clause-opens
returns-in_err-end_commit-clause-opens g c = λ committed is.
    let s = found_state (config_fields c.args.config) committed c.args.found.0 c.args.found.1 in
    let rep = c.in-Ok.ensures committed is in
    let later = c.draw_number.ensures.drawn s rep in
    let p = err_from_is_err_and c.from_residual.result c.from_residual.ensures.1 in
    rw (p.1, p.2) (opens_err _ s
    (recommits _ _ s c.board-board.result c.finds_nobody.result c.if-finds_nobody.false (c.finds_nobody.ensures committed) (c.board-board.ensures s rep.pair)
    c.flush_all-flushed.ensures.size c.flush_all-flushed.ensures.part (c.in_err-end_commit.ensures.ends (drawn s) later)))
