-- Behind a freeze, and behind one that was refused, the devices of the leaves are here where they were.
use Rattle.std.proofs.Common.{ℕ}
use Rattle.mp_base.specs.declared.number.Group.{Group}
use Rattle.dtl_rules.specs.Widening.{leaves_of}
use Rattle.txg_engine.specs.Boards.{seats_of}
use Rattle.txg_engine.specs.Frozen.{FrozenGroup}
use Rattle.txg_engine.specs.Logs.{is_off}
use Rattle.open_pool.specs.declared.freeze.FreezeFault.{FreezeFault}
use Rattle.open_pool.specs.Freezing.{FreezeParts, FreezesParts, RefusesParts}
use Rattle.open_pool.specs.Here.{AreHere}
use Rattle.open_pool.specs.Parts.{all_parts}
use Rattle.open_pool.proofs.LeavesStay.{owing_same, roomy_same}
use Rattle.open_pool.proofs.TurnOfPool.{trees_here}

pub refused_here : {number : Group} {old new : FreezeParts} {why : FreezeFault} → RefusesParts number old new why
    → (size : ℕ → ℕ) → AreHere size (all_parts old.trees) → AreHere size (all_parts new.trees)
refused_here {old = old} {new = new} r =
    trees_here old.trees new.trees r.built r.sectors (roomy_same (leaves_of old.trees) (leaves_of new.trees) r.leaves)

pub begun_here : {number : Group} {old new : FreezeParts} {group : FrozenGroup} → FreezesParts number old new group
    → (size : ℕ → ℕ) → AreHere size (all_parts old.trees) → AreHere size (all_parts new.trees)
begun_here {number} {old} {new} f = trees_here old.trees new.trees f.built f.sectors
    (owing_same (is_off (seats_of 0 old.trees)) number.0 (leaves_of old.trees) (leaves_of new.trees) f.logs)
