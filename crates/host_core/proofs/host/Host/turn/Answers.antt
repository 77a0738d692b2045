use Rattle.std.proofs.Common.{◌<◌, None, refl, sym, subst}
use Rattle.open_pool.specs.Committing.{turn_says}
use Rattle.pool_codec.specs.Codecs.{pool_codec}
use Rattle.pool_moves.specs.LineRows.{RowTurn}
use Rattle.pool_runs.specs.Devices.{size_in}
use Rattle.pool_runs.specs.HostRows.{TurnLine}
use Rattle.pool_runs.specs.Lines.{Asks_turn, To_turn}
use Rattle.host_core.specs.Answering.{Says}
use Rattle.host_core.proofs.LinesAnswered.{here_at, turn_line}
use Rattle.host_core.proofs.LinesOfHosts.{none_named}
use Rattle.host_core.proofs.PoolsFound.{here, low, told}
use Rattle.host_core.proofs.host.Host.turn.Goals as goal

pub returns-in_default : goal.returns-in_default
returns-in_default g c = none_named (Asks_turn c.args.name.now) c.args.name.now (λ h. TurnLine pool_codec h) (λ h acts reply line. line) To_turn turn_says
    None (λ h s vs reply. RowTurn pool_codec (size_in h.table) s vs reply) (λ h s acts reply by. (reply, refl, by)) c.args.self.now (g.B.Bank.view c.args.bank.now) c.in_default.ensures.none

pub index_mut-requires : goal.index_mut-requires
index_mut-requires g c = subst (λ n. c.in-Some.place < n) (sym c.self.inside.pools.ok.0)
    (low c.args.self.now _ c.self.view_is c.in-Some.place c.args.name.now c.in-Some.ensures.some)

pub turn-requires : goal.turn-requires
turn-requires g c = here_at c.args.self.now (g.B.Bank.view c.args.bank.now) c.args.name.now c.in-Some.place c.requires.seated
    (here c.args.self.now _ c.self.view_is c.in-Some.place c.args.name.now c.in-Some.ensures.some c.index_mut.result.now c.index_mut.ensures.value)

pub returns : goal.returns
returns g c =
    let at = here c.args.self.now _ c.self.view_is c.in-Some.place c.args.name.now c.in-Some.ensures.some c.index_mut.result.now c.index_mut.ensures.value in
    told c.args.self.now _ c.self.view_is c.in-Some.place (Asks_turn c.args.name.now) (Says To_turn turn_says None) c.turn.new.self (g.B.Bank.view c.args.bank.now) (g.B.Bank.view c.turn.new.bank)
    c.turn.result c.of_pool.result c.of_pool.ensures
    (turn_line c.args.self.now c.args.name.now c.in-Some.place at c.turn.new.self (g.B.Bank.view c.args.bank.now) (g.B.Bank.view c.turn.new.bank) c.turn.result c.turn.ensures.row)
