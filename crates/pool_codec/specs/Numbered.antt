-- The children of a mirror in memory, by the numbers of their leaves.
use Rattle.std.specs.Option.{option_map}
use Rattle.vdev_tree.specs.Children.{Member, Child, only, replacing, alone, spared}
use Rattle.vdev_tree.specs.Tree.{leaf_guid}
use Rattle.txg_history.specs.Trees.{Branch, Single, Replacing, Child as HistoryChild, Plain, Spared}

abbrev pub branch_by_numbers : Member → Branch
branch_by_numbers (only leaf) = Single leaf.guid
branch_by_numbers (replacing m old new) = Replacing m old.guid new.guid

abbrev pub by_numbers : Child → HistoryChild
by_numbers (alone member) = Plain (branch_by_numbers member)
by_numbers (spared m first spare second) = Spared m (branch_by_numbers first) spare.guid (option_map leaf_guid second)
