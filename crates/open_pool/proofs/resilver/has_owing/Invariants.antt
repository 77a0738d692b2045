use Rattle.std.proofs.Common.{take}
use Rattle.dtl_rules.specs.Widening.{leaves_of}
use Rattle.open_pool.specs.Scanning.{HasOwing}
use Rattle.open_pool.proofs.resilver.has_owing.Given as goal

abbrev pub invariant-loop-i : goal.invariant-loop-i
invariant-loop-i l = HasOwing (leaves_of (take l.i l.tops)) → ⊥
