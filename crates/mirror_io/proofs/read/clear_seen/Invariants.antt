use Rattle.std.proofs.Common.{◌≡◌, map, take}
use Rattle.mirror_io.specs.Seen.{unread}
use Rattle.mirror_io.proofs.read.clear_seen.Given as goal

abbrev pub invariant-loop-i : goal.invariant-loop-i
invariant-loop-i l = take l.i l.seen ≡ map unread (take l.i l.copies)
