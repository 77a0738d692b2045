use Rattle.std.proofs.Common.{◌+◌, refl, arith}
use Rattle.pool_core.proofs.Redrawn.{draws_to, valid_drawn, still_apart, first_device, second_device, drawn_represents}
use Rattle.pool_core.proofs.pool.Pool.draw_number.Goals as goal

pub invariant_of-self : goal.invariant_of-self
invariant_of-self c =
    let pool = c.args.self.now in
    let is = draws_to pool c.args.pair c.requires.pair in
    record {
      valid = valid_drawn pool c.args.pair (record { 0 = pool.number.0 + 1 }) is (omega arith) (omega arith);
      paired = pool.paired;
      apart = still_apart (pool.number.0 + 1) pool.pair c.args.pair is pool.apart;
      first_log = is.first_log;
      second_log = is.second_log;
      first_dev = first_device (pool.number.0 + 1) pool.pair c.args.pair is pool.first_dev;
      second_dev = second_device (pool.number.0 + 1) pool.pair c.args.pair is pool.second_dev;
    }

pub returns-clause-drawn : goal.returns-clause-drawn
returns-clause-drawn c = λ s r.
    drawn_represents c.args.self.now _ s
    (record { name = refl; pool_is = refl; blocks = refl; number = refl; next_member = refl; pointers = refl; writes = refl }) c.requires.pair r
