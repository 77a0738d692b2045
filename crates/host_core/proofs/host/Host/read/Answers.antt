use Rattle.std.proofs.Common.{◌<◌, None, Err, inr, inl, refl, sym, subst}
use Rattle.open_pool.specs.Reading.{read_says}
use Rattle.pool_runs.specs.HostRows.{ReadLine}
use Rattle.pool_runs.specs.Lines.{Asks_read, To_read}
use Rattle.host_core.specs.declared.host.Refused.TheVariants as refused
use Rattle.host_core.specs.Answering.{Says}
use Rattle.host_core.specs.Telling.{with_bytes}
use Rattle.host_core.proofs.LinesAnswered.{here_at, read_line}
use Rattle.host_core.proofs.LinesOfHosts.{no_pool}
use Rattle.host_core.proofs.PoolsFound.{here, low, told}
use Rattle.host_core.proofs.host.Host.read.Goals as goal

pub returns-in_default : goal.returns-in_default
returns-in_default g c = no_pool (Asks_read c.args.name.now c.args.addr) c.args.name.now (λ h. ReadLine h c.args.addr) (λ h acts reply line. line)
    (Says To_read read_says None (with_bytes c.args.out.now (Err refused.NoPool))) c.args.self.now (g.B.Bank.view c.args.bank.now)
    (inr (inl (refl, refl))) c.in_default.ensures.none

pub index_mut-requires : goal.index_mut-requires
index_mut-requires g c = subst (λ n. c.in-Some.place < n) (sym c.self.inside.pools.ok.0)
    (low c.args.self.now _ c.self.view_is c.in-Some.place c.args.name.now c.in-Some.ensures.some)

pub read-requires-clause-here : goal.read-requires-clause-here
read-requires-clause-here g c = here_at c.args.self.now (g.B.Bank.view c.args.bank.now) c.args.name.now c.in-Some.place c.requires.seated
    (here c.args.self.now _ c.self.view_is c.in-Some.place c.args.name.now c.in-Some.ensures.some c.index_mut.result.now c.index_mut.ensures.value)

pub returns : goal.returns
returns g c =
    let at = here c.args.self.now _ c.self.view_is c.in-Some.place c.args.name.now c.in-Some.ensures.some c.index_mut.result.now c.index_mut.ensures.value in
    told c.args.self.now _ c.self.view_is c.in-Some.place (Asks_read c.args.name.now c.args.addr)
    (λ r. Says To_read read_says None (with_bytes c.read.new.out r)) c.read.new.self (g.B.Bank.view c.args.bank.now) (g.B.Bank.view c.read.new.bank)
    c.read.result c.of_pool.result c.of_pool.ensures
    (read_line c.args.self.now c.args.name.now c.in-Some.place at c.read.new.self c.args.addr c.read.new.out (g.B.Bank.view c.args.bank.now)
    (g.B.Bank.view c.read.new.bank) c.read.result c.read.ensures.row)
