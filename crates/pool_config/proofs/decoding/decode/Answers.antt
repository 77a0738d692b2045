use Rattle.std.proofs.Common.{ap, sym, Err}
use Rattle.pool_config.proofs.Deciding.{is_none}
use Rattle.pool_config.proofs.decoding.decode.Goals as goal

pub returns-in-Err-NoConfig-clause-found : goal.returns-in-Err-NoConfig-clause-found
returns-in-Err-NoConfig-clause-found c =
    sym (is_none c.args.bytes.now (c.in-Err-NoConfig.ensures.none (ap Err c.in-Err-NoConfig.field-0-is)))
