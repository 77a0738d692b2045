-- What a refused sync leaves.
use Rattle.std.specs.Prelude.{zero, suc, Option, None}
use Rattle.mp_base.specs.declared.refusal.Refusal.{Refusal}
use Rattle.mp_base.specs.declared.refusal.Refusal.TheVariants as refusals
use Rattle.pool_core.specs.declared.pool.Pool.{Pool}

-- no pool is open behind one that was suspended by failed calls
abbrev pub left_by : Refusal → Option Pool → Option Pool
left_by (refusals.Suspended group top zero) pool = pool
left_by (refusals.Suspended group top (suc n)) pool = None
left_by refusal pool = pool
