use Rattle.std.proofs.Common.{◌<◌, length, sym, ◌∙◌, ap, arith, Some}
use Rattle.std.proofs.lemmas.Option.{slice_get-get_or}
use Rattle.pool_core.proofs.Validating.{low_option, pool_fields, pool_valid}
use Rattle.pool_core.proofs.pool.Pool.pointer_at.Goals as goal

pub returns-clause-low : goal.returns-clause-low
returns-clause-low c =
    let pool = c.args.self.now in
    let inside : c.args.at < length pool.pointers.items = omega (arith, pool.paired, c.requires) in
    low_option (pool_fields pool) c.args.at c.index.result.now (pool_valid pool) inside
    (slice_get-get_or pool.pointers.items c.args.at c.index.result.now inside ∙ ap Some (sym c.index.ensures))
