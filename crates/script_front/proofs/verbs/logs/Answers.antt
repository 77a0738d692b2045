use Rattle.std.proofs.Common.{Vec, Global}
use Rattle.open_pool.specs.declared.logs.LeafLog.{LeafLog}
use Rattle.mp_base.specs.declared.fault.MemFault.{MemFault}
use Rattle.script_front.proofs.HostTold.{logs_ok, logs_none, no_memory_logs}
use Rattle.script_front.proofs.verbs.logs.Goals as goal

pub returns-in-Ok : goal.returns-in-Ok
returns-in-Ok c = λ bank h was.
    logs_ok h c.args.pool.now c.args.host.now bank was MemFault (λ logs. logs.items) c.in-Ok.logs c.logs_reply.result c.in-Ok.ensures.rise c.logs_reply.ensures
    (c.in-Ok.ensures.answers bank h was)

pub returns-in-Err-NoPool : goal.returns-in-Err-NoPool
returns-in-Err-NoPool c = λ bank h was.
    logs_none h c.args.pool.now c.args.host.now bank was MemFault (λ (logs : Vec LeafLog Global). logs.items) c.in-Err-NoPool.field-0 c.in-Err-NoPool.field-0-is (c.in-Err-NoPool.ensures.answers bank h was)

pub returns-in-Err-Pool : goal.returns-in-Err-Pool
returns-in-Err-Pool c = λ bank h was. no_memory_logs h c.args.pool.now c.args.host.now bank was
