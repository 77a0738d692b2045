use Rattle.std.proofs.Common.{◌≡◌, ℕ, ◌&&◌}
use Rattle.std.specs.Prelude.{nat_lt}
use Rattle.bank_core.specs.Memory.{is_damaged, sector_then}
use Rattle.bank_core.proofs.crash.damage_left.Given as goal

-- the damaged ones among the sectors so far
abbrev pub invariant-loop-sector : goal.invariant-loop-sector
invariant-loop-sector l =
    let moment = l.moment in
    (s : ℕ) → is_damaged l.damage.items moment.dev s
    ≡ (nat_lt s l.sector && (sector_then moment.device.now moment.calls.now moment.damage.now moment.dev s).damaged)
