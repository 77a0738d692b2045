use Rattle.std.proofs.Common.{◌≡◌, take}
use Rattle.std.specs.Prelude.{All}
use Rattle.std.specs.List.{flat_map}
use Rattle.open_pool.specs.Telling.{IsRising, logs_told}
use Rattle.open_pool.proofs.LogsTold.{top_logs}
use Rattle.open_pool.proofs.logs.logs_of.Given as goal

abbrev pub invariant-loop-i : goal.invariant-loop-i
invariant-loop-i l = record { logs : logs_told l.logs.items ≡ flat_map top_logs (take l.i l.tops); rise : All IsRising l.logs.items }
