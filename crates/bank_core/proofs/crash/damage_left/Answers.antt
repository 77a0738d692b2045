use Rattle.std.proofs.Common.{arith}
use Rattle.bank_core.specs.Memory.{is_damaged, sector_then}
use Rattle.bank_core.proofs.Crashing.{damage_more, damage_all}
use Rattle.bank_core.proofs.crash.damage_left.Goals as goal

pub loop-sector-preserved : goal.loop-sector-preserved
loop-sector-preserved c =
    let moment = c.args.moment in
    damage_more (sector_then moment.device.now moment.calls.now moment.damage.now moment.dev)
    (is_damaged c.loop-sector.damage.items moment.dev) (is_damaged c.add_damage.new.damage.items moment.dev) c.loop-sector.sector c.view_at.result
    c.loop-sector.invariant c.view_at.ensures c.in_ok-add_damage.ensures

pub returns : goal.returns
returns c =
    let moment = c.args.moment in
    damage_all (sector_then moment.device.now moment.calls.now moment.damage.now moment.dev)
    (is_damaged c.loop-sector.damage.items moment.dev) c.loop-sector.sector moment.device.now.sectors (omega arith) c.loop-sector.invariant
