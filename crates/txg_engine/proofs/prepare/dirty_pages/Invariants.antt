use Rattle.std.proofs.Common.{◌≡◌, ◌-◌, ◌*◌, ◌≤◌, length, map, take}
use Rattle.std.specs.Vec.{vec_capacity}
use Rattle.txg_engine.specs.Freezing.{addr_of}
use Rattle.txg_engine.proofs.FewPages.{pages_to}
use Rattle.txg_engine.proofs.prepare.dirty_pages.Given as goal

abbrev pub invariant-loop-write : goal.invariant-loop-write
invariant-loop-write l = l.addrs.items ≡ map addr_of (take l.write-index l.group.writes)

abbrev pub invariant-loop-level : goal.invariant-loop-level
invariant-loop-level l = record {
  pages : l.pages.items ≡ pages_to (l.level - 1) l.addrs.items;
  room : 3 * length l.addrs.items ≤ vec_capacity l.pages;
}
