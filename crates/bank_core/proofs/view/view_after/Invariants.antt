use Rattle.std.proofs.Common.{◌≡◌, map, drop}
use Rattle.bank_core.specs.Disk.{replay}
use Rattle.bank_core.specs.Memory.{noted_alone}
use Rattle.bank_core.specs.View.{view_of}
use Rattle.bank_core.proofs.view.view_after.Given as goal

-- what is left of the calls makes of the view what all of them make of the first one
abbrev pub invariant-loop-call : goal.invariant-loop-call
invariant-loop-call l =
    replay (map noted_alone (drop l.call-index l.calls)) l.dev l.sector (view_of l.view) ≡ replay (map noted_alone l.calls) l.dev l.sector (view_of l.fn.first)
