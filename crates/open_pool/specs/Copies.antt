-- The copies of a block on leaves.
use Rattle.std.specs.Prelude.{ℕ, List, map}
use Rattle.group_set.specs.Groups.{holds}
use Rattle.vdev_tree.specs.Leaf.{is_readable}
use Rattle.vdev_tree.specs.declared.vdev.LeafVdev.{LeafVdev}
use Rattle.mirror_io.specs.declared.copies.CopyOf.{CopyOf}
use Rattle.pool_moves.specs.ReadRow.{copy_at}

-- the copy that a leaf has of a block that was born in this group
abbrev pub copy_on : (birth : ℕ) → LeafVdev → CopyOf
copy_on birth leaf = copy_at (is_readable leaf) leaf.dev (holds leaf.log birth)

abbrev pub copies_on : (birth : ℕ) → List LeafVdev → List CopyOf
copies_on birth under = map (copy_on birth) under
