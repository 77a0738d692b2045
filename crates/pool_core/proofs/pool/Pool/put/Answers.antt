use Rattle.std.proofs.Common.{rules, arith, refl}
use Rattle.pool_core.proofs.Putting.{puts}
use Rattle.pool_core.proofs.Validating.{pool_valid}
use Rattle.pool_core.proofs.pool.Pool.put.Goals as goal

pub index_mut-requires : goal.index_mut-requires
index_mut-requires c = omega (arith, c.args.self.now.paired, (pool_valid c.args.self.now).counted)

pub returns-clause-put : goal.returns-clause-put
returns-clause-put c = λ s r.
    puts c.args.self.now _ s c.args.address c.args.block.now r
    (record {
      same = record { name = refl; pool_is = refl; blocks = refl; number = refl; next_member = refl; pair = refl };
      pointers_are = refl;
      writes_are = search rules;
    }) (omega arith) (search rules)
