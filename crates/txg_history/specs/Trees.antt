-- The trees of a pool's tops, by member numbers.
use Rattle.std.specs.Prelude.{Option}
use Rattle.mp_base.specs.declared.number.Guid.{Guid}

-- a leaf alone, or a replacing vdev of two leaves
pub data Branch : Type 0 where
  Single : (m : Guid) → Branch
  Replacing : (vdev old new : Guid) → Branch

-- a child of a top's mirror: one of these alone, or a spare vdev: its first child, and one or two spare leaves
pub data Child : Type 0 where
  Plain : (branch : Branch) → Child
  Spared : (vdev : Guid) (first : Branch) (spare : Guid) (second : Option Guid) → Child
