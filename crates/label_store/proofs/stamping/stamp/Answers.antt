use Rattle.std.proofs.lemmas.Result.{err_from_is_err_and}
use Rattle.bank_core.proofs.Framing.{part_more, part_stop}
use Rattle.label_store.specs.Plans.{ring_plan, blank_uberblock}
use Rattle.label_store.proofs.Writing.{blank_plan}
use Rattle.label_store.proofs.stamping.stamp.Goals as goal

pub returns-in_err-clear_rings : goal.returns-in_err-clear_rings
returns-in_err-clear_rings g c =
    let p = err_from_is_err_and c.from_residual.result c.from_residual.ensures.1 in
    rw (p.1, p.2) (part_stop (ring_plan c.args.dev ((g.B.Bank.view c.args.bank.now).size c.args.dev) (blank_uberblock c.args.pool c.args.member))
    c.in_err-clear_rings.ensures)

pub returns : goal.returns
returns g c =
    part_more c.in_ok-clear_rings.ensures
    (blank_plan c.args.dev _ _ c.args.pool c.args.member (c.in_ok-clear_rings.ensures.frame.sizes c.args.dev) c.write_rings.ensures)
