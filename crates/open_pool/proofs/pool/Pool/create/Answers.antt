use Rattle.std.proofs.Common.{Err, sym, subst}
use Rattle.open_pool.specs.Creating.{Creates, IsBegun, members_of}
use Rattle.open_pool.proofs.NamesAsked.{faults_on, is_there}
use Rattle.open_pool.proofs.pool.Pool.create.Given.{Over}
use Rattle.open_pool.proofs.pool.Pool.create.Goals as goal

failed : (g : Over) (c : goal.In-Err g) → Creates c.args.name.now c.args.pool c.args.blocks (members_of c.args.tops.now) (Err c.in-Err.place)
    (g.B.Bank.view c.args.bank.now) (g.B.Bank.view c.commit.new.bank)
failed g c =
    let asked = members_of c.args.tops.now in
    let b = c.in-Ok.ensures in
    subst (λ r. Creates c.args.name.now c.args.pool c.args.blocks asked r (g.B.Bank.view c.args.bank.now) (g.B.Bank.view c.commit.new.bank)) c.in-Err.is
    (subst (λ n. Creates n c.args.pool c.args.blocks asked c.commit.result (g.B.Bank.view c.args.bank.now) (g.B.Bank.view c.commit.new.bank)) b.name_is
    (c.commit.ensures.row asked c.requires
    (subst (λ n. IsBegun (g.B.Bank.view c.args.bank.now).size n c.args.blocks asked c.in-Ok.begun) (sym b.name_is) b)))

pub name_at-requires : goal.name_at-requires
name_at-requires g c = is_there c.args.name.now c.args.pool c.args.blocks c.args.tops.now (g.B.Bank.view c.args.bank.now) (g.B.Bank.view c.commit.new.bank)
    c.in-Err.place (failed g c)

pub returns-in-Err-clause-row : goal.returns-in-Err-clause-row
returns-in-Err-clause-row g c = faults_on c.args.name.now c.args.pool c.args.blocks c.args.tops.now (g.B.Bank.view c.args.bank.now)
    (g.B.Bank.view c.commit.new.bank) c.in-Err.place (failed g c.before) c.name_at.result.now c.name_at.ensures
