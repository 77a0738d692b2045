use Rattle.std.proofs.Common.{◌≡◌, take}
use Rattle.dtl_rules.specs.Widening.{leaves_of}
use Rattle.open_pool.specs.Scanning.{scan_leaves}
use Rattle.open_pool.proofs.scan.Scan.start.Given as goal

abbrev pub invariant-loop-i : goal.invariant-loop-i
invariant-loop-i l = l.leaves ≡ scan_leaves (leaves_of (take l.i l.tops))
