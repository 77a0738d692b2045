use Rattle.std.proofs.Common.{[], ◌∷◌}
use Rattle.std.proofs.lemmas.Result.{err_from_is_err_and}
use Rattle.bank_core.specs.Asks.{Flushes}
use Rattle.bank_core.proofs.Framing.{part_flush, part_more, part_stop}
use Rattle.label_store.proofs.stamping.wipe.Goals as goal

pub returns-in_err-clear_rings : goal.returns-in_err-clear_rings
returns-in_err-clear_rings g c =
    let p = err_from_is_err_and c.from_residual.result c.from_residual.ensures.1 in
    rw (p.1, p.2) (part_stop (Flushes c.args.dev ∷ []) c.in_err-clear_rings.ensures)

pub returns : goal.returns
returns g c = part_more c.in_ok-clear_rings.ensures (part_flush c.flush.ensures)
