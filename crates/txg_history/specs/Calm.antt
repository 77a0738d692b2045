-- What an opening finds where each read of a member gives what stands there.
use Rattle.std.specs.Prelude.{cond, Some, None}
use Rattle.txg_history.specs.Events.{Known}
use Rattle.txg_history.specs.Pools.{Pool}

abbrev pub stable_of : Pool → Known
stable_of p d s = cond (p.member d) (Some (p.sectors d s).stable) None
