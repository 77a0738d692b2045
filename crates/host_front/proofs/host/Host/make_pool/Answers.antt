use Rattle.std.proofs.Common.{refl}
use Rattle.host_front.proofs.Creating.{pool_made, pool_failed}
use Rattle.host_front.proofs.host.Host.make_pool.Goals as goal

pub returns-in-Ok-clause-makes : goal.returns-in-Ok-clause-makes
returns-in-Ok-clause-makes g c = λ h keeps.
    pool_made _ _ _ _ _ _ c.in-Ok.ensures.size h _ _ c.args.self.now _ c.in-Ok.pool keeps refl refl c.in-Ok.ensures.creates.0 c.in-Ok.ensures.creates.1

pub returns-in-Err-Device-clause-makes : goal.returns-in-Err-Device-clause-makes
returns-in-Err-Device-clause-makes g c = λ h keeps.
    pool_failed _ _ _ _ _ _ c.in-Err-Device.ensures.size h _ _ c.args.self.now c.in-Err-Device.name keeps
    (rw c.in-Err-Device.field-0-is at c.in-Err-Device.ensures.creates)
