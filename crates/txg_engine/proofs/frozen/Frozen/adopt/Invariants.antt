use Rattle.std.proofs.Common.{take}
use Rattle.txg_engine.proofs.Adopted.{LaysAll}
use Rattle.txg_engine.proofs.frozen.Frozen.adopt.Given as goal

abbrev pub invariant-loop-item : goal.invariant-loop-item
invariant-loop-item l = LaysAll (take l.item-index l.fn.self.items) l.fn.map l.map
