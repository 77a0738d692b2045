use Rattle.std.proofs.Common.{◌≡◌, map, take}
use Rattle.txg_engine.specs.Freezing.{addr_of}
use Rattle.txg_engine.proofs.need.addrs_of.Given as goal

abbrev pub invariant-loop-write : goal.invariant-loop-write
invariant-loop-write l = l.addrs.items ≡ map addr_of (take l.write-index l.writes)
